-- The names of a map, and its entries of body 7: where each stands, that it lies inside the cells, in their order, that a name's eight bytes tell it.
-- Assumes nothing.
use Prim.Native.Nat.{ℕ, zero, suc, ◌+◌, ◌*◌, ◌≤◌, ◌<◌}
use mathlib.Core.Path.{◌≡◌, refl, sym, ap, subst}
use mathlib.Core.Bool.{Bool, true, false, ◌||◌, cond, false≢true}
use mathlib.Core.Logic.{◌⊎◌, inl, inr}
use mathlib.Core.List.{List, [], ◌∷◌, ◌++◌}
use mathlib.Core.Option.{some}
use native.Mathlib.Omega.{arith}
use lib.ListN.{length, get_elem?, take, replicate}
use Rattle.rules_shared.specs.House.{House}
use Rattle.rules_object.specs.Object.{Named}
use Rattle.rules_object.specs.Check.{span}
use Rattle.rules_shared.specs.Lists.{Each, each_none, each_more}
use Rattle.rules_text.specs.Trees.{Name}
use Rattle.rules_deck.specs.Deck.{same_name, Dims, dims_in, Declared, width}
use Rattle.rules_deck.specs.Translation.{Held, name, array, hidden, array_size, cell_count, is_the_name, is_array, first_cell, holds, filled, names_from}
use Rattle.rules_deck.specs.Cells.{names_held, arrays_held}
use Rattle.rules_deck.specs.Accepted.{Among, here, there}
use Rattle.rules_deck.proofs.Names.{same_name_lem, name_same}
use Rattle.rules_deck.proofs.TestLaws.{or_one, or_either, among_append, only}

-- ---- the names of a map

pub names_append : (held more : List Held) → names_held (held ++ more) ≡ names_held held ++ names_held more
names_append [] more = refl
names_append (name v ∷ held) more = ap (λ (l : List Name). v ∷ l) (names_append held more)
names_append (array a ∷ held) more = ap (λ (l : List Name). a.name ∷ l) (names_append held more)
names_append (hidden q ∷ held) more = names_append held more

-- a name among them is a plain name or an array
pub among_kind : (held : List Held) {v : Name} → Among v (names_held held) → (holds (is_the_name v) held ≡ true) ⊎ (holds (is_array v) held ≡ true)
among_kind (name v ∷ held) here = inl (ap (λ (b : Bool). b || holds (is_the_name v) held) (name_same v))
among_kind (name w ∷ held) {v} (there a) = go (among_kind held a)
  where
    go : (holds (is_the_name v) held ≡ true) ⊎ (holds (is_array v) held ≡ true) → (holds (is_the_name v) (name w ∷ held) ≡ true) ⊎ (holds (is_array v) held ≡ true)
    go (inl e) = inl (or_either (same_name w v) (holds (is_the_name v) held) (inr e))
    go (inr e) = inr e
among_kind (array a ∷ held) here = inr (ap (λ (b : Bool). b || holds (is_array a.name) held) (name_same a.name))
among_kind (array a ∷ held) {v} (there b) = go (among_kind held b)
  where
    go : (holds (is_the_name v) held ≡ true) ⊎ (holds (is_array v) held ≡ true) → (holds (is_the_name v) held ≡ true) ⊎ (holds (is_array v) (array a ∷ held) ≡ true)
    go (inl e) = inl e
    go (inr e) = inr (or_either (same_name a.name v) (holds (is_array v) held) (inr e))
among_kind (hidden q ∷ held) a = among_kind held a
among_kind [] {v = v} a = elim a [ ]

pub name_among : (held : List Held) (v : Name) → holds (is_the_name v) held ≡ true → Among v (names_held held)
name_among [] v e = absurd (false≢true e)
name_among (name w ∷ held) v e = go (or_one (same_name w v) (holds (is_the_name v) held) e) (name_among held v)
  where
    go : (same_name w v ≡ true) ⊎ (holds (is_the_name v) held ≡ true) → (holds (is_the_name v) held ≡ true → Among v (names_held held)) → Among v (w ∷ names_held held)
    go (inl p) f = subst (λ (x : Name). Among v (x ∷ names_held held)) (sym (same_name_lem w v p)) here
    go (inr p) f = there (f p)
name_among (array a ∷ held) v e = there (name_among held v e)
name_among (hidden q ∷ held) v e = name_among held v e

pub array_among : (held : List Held) (v : Name) → holds (is_array v) held ≡ true → Among v (names_held held)
array_among [] v e = absurd (false≢true e)
array_among (array a ∷ held) v e = go (or_one (same_name a.name v) (holds (is_array v) held) e) (array_among held v)
  where
    go : (same_name a.name v ≡ true) ⊎ (holds (is_array v) held ≡ true) → (holds (is_array v) held ≡ true → Among v (names_held held)) → Among v (a.name ∷ names_held held)
    go (inl p) f = subst (λ (x : Name). Among v (x ∷ names_held held)) (sym (same_name_lem a.name v p)) here
    go (inr p) f = there (f p)
array_among (name w ∷ held) v e = there (array_among held v e)
array_among (hidden q ∷ held) v e = array_among held v e

-- ---- names of which each stands once

pub data Distinct : List Name → Type 0 where
  none_yet : Distinct []
  new : {v : Name} {vs : List Name} → (Among v vs → ⊥) → Distinct vs → Distinct (v ∷ vs)

pub at_among : {A : Type 0} (l : List A) (i : ℕ) (x : A) → get_elem? l i ≡ some x → Among x l
at_among [] i x e = absurd (let z : ◌≡◌ {A = ℕ} 0 1 = cc in omega arith)
at_among {A} (y ∷ l) zero x e = let p : x ≡ y = cc in subst (λ (z : A). Among x (z ∷ l)) p here
at_among (y ∷ l) (suc i) x e = there (at_among l i x e)

pub distinct_index : {vs : List Name} → Distinct vs → (i j : ℕ) (v : Name) → get_elem? vs i ≡ some v → get_elem? vs j ≡ some v → i ≡ j
distinct_index none_yet i j v e f = absurd (let z : ◌≡◌ {A = ℕ} 0 1 = cc in omega arith)
distinct_index (new n d) zero zero v e f = refl
distinct_index (new {v = w} {vs} n d) zero (suc j) v e f = absurd (n (let p : v ≡ w = cc in subst (λ (x : Name). Among x vs) p (at_among vs j v f)))
distinct_index (new {v = w} {vs} n d) (suc i) zero v e f = absurd (n (let p : v ≡ w = cc in subst (λ (x : Name). Among x vs) p (at_among vs i v e)))
distinct_index (new n d) (suc i) (suc j) v e f = ap suc (distinct_index d i j v e f)

pub distinct_last : {vs : List Name} (v : Name) → Distinct vs → (Among v vs → ⊥) → Distinct (vs ++ (v ∷ []))
distinct_last v none_yet n = new n none_yet
distinct_last v (new {v = w} {vs} m d) n = new (λ a. go (among_append vs (v ∷ []) a)) (distinct_last v d (λ a. n (there a)))
  where
    go : Among w vs ⊎ Among w (v ∷ []) → ⊥
    go (inl a) = m a
    go (inr a) = n (subst (λ (x : Name). Among x (w ∷ vs)) (only a) here)

-- ---- entries of body 7

abbrev pub no_dims : Dims
no_dims = record { rows = 0; columns = 0 }

pub record Listed (names : List Named) (e : Named) : Type 0 where
  pub index : ℕ
  pub is : get_elem? names index ≡ some e

abbrev pub entry_of : House → Name → ℕ → Dims → Named
entry_of house v at d = record { name = filled house.name_bytes v; first = at; rows = d.rows; columns = d.columns }

later : {names : List Named} {e : Named} (x : Named) → Listed names e → Listed (x ∷ names) e
later x l = record { index = suc l.index; is = l.is }

moved : (house : House) {names : List Named} (v : Name) (d : Dims) (a b : ℕ) → a ≡ b → Listed names (entry_of house v a d) → Listed names (entry_of house v b d)
moved house {names} v d a b e l = subst (λ (n : ℕ). Listed names (entry_of house v n d)) e l

-- a plain name's
pub plain_listed : (house : House) (held : List Held) (at : ℕ) (v : Name) → holds (is_the_name v) held ≡ true → Listed (names_from house at held) (entry_of house v (at + first_cell (is_the_name v) held) no_dims)
plain_listed house [] at v e = absurd (false≢true e)
plain_listed house (name w ∷ held) at v e = go (same_name w v) refl e (plain_listed house held (suc at) v)
  where
    go : (b : Bool) → same_name w v ≡ b → (b || holds (is_the_name v) held) ≡ true →
        (holds (is_the_name v) held ≡ true → Listed (names_from house (suc at) held) (entry_of house v (suc at + first_cell (is_the_name v) held) no_dims)) →
        Listed (names_from house at (name w ∷ held)) (entry_of house v (at + cond b 0 (1 + first_cell (is_the_name v) held)) no_dims)
    go true p q f =
        moved house v no_dims at (at + 0) (omega arith)
        (subst (λ (x : Name). Listed (names_from house at (name w ∷ held)) (entry_of house x at no_dims)) (same_name_lem w v p) (record { index = 0; is = refl }))
    go false p q f = later _ (moved house v no_dims (suc at + first_cell (is_the_name v) held) (at + (1 + first_cell (is_the_name v) held)) (omega arith) (f q))
plain_listed house (array a ∷ held) at v e =
    later _ (moved house v no_dims (at + array_size a.dims + first_cell (is_the_name v) held) (at + (array_size a.dims + first_cell (is_the_name v) held)) (omega arith)
    (plain_listed house held (at + array_size a.dims) v e))
plain_listed house (hidden q ∷ held) at v e =
    moved house v no_dims (at + 2 + first_cell (is_the_name v) held) (at + (2 + first_cell (is_the_name v) held)) (omega arith) (plain_listed house held (at + 2) v e)

-- an array's
pub array_listed : (house : House) (held : List Held) (at : ℕ) (v : Name) → holds (is_array v) held ≡ true
    → Listed (names_from house at held) (entry_of house v (at + first_cell (is_array v) held) (dims_in (arrays_held held) v))
array_listed house [] at v e = absurd (false≢true e)
array_listed house (array a ∷ held) at v e = go (same_name a.name v) refl e (array_listed house held (at + array_size a.dims) v)
  where
    n : ℕ
    n = array_size a.dims

    go : (b : Bool) → same_name a.name v ≡ b → (b || holds (is_array v) held) ≡ true →
        (holds (is_array v) held ≡ true → Listed (names_from house (at + n) held) (entry_of house v (at + n + first_cell (is_array v) held) (dims_in (arrays_held held) v))) →
        Listed (names_from house at (array a ∷ held)) (entry_of house v (at + cond b 0 (n + first_cell (is_array v) held)) (cond b a.dims (dims_in (arrays_held held) v)))
    go true p q f =
        moved house v a.dims at (at + 0) (omega arith)
        (subst (λ (x : Name). Listed (names_from house at (array a ∷ held)) (entry_of house x at a.dims)) (same_name_lem a.name v p) (record { index = 0; is = refl }))
    go false p q f =
        later _ (moved house v (dims_in (arrays_held held) v) (at + n + first_cell (is_array v) held) (at + (n + first_cell (is_array v) held)) (omega arith) (f q))
array_listed house (name w ∷ held) at v e =
    later _ (moved house v (dims_in (arrays_held held) v) (suc at + first_cell (is_array v) held) (at + (1 + first_cell (is_array v) held)) (omega arith)
    (array_listed house held (suc at) v e))
array_listed house (hidden q ∷ held) at v e =
    moved house v (dims_in (arrays_held held) v) (at + 2 + first_cell (is_array v) held) (at + (2 + first_cell (is_array v) held)) (omega arith)
    (array_listed house held (at + 2) v e)

some_inj : {A : Type 0} {x y : A} → some x ≡ some y → x ≡ y
some_inj e = cc

-- every entry is a name's of the map
pub record NameAt (house : House) (held : List Held) (i : ℕ) (e : Named) : Type 0 where
  pub of : Name
  pub is : get_elem? (names_held held) i ≡ some of
  pub named : e.name ≡ filled house.name_bytes of

pub name_at_lem : (house : House) (held : List Held) (at i : ℕ) (e : Named) → get_elem? (names_from house at held) i ≡ some e → NameAt house held i e
name_at_lem house [] at i e f = absurd (let z : ◌≡◌ {A = ℕ} 0 1 = cc in omega arith)
name_at_lem house (name v ∷ held) at zero e f = record { of = v; is = refl; named = ap (λ (x : Named). x.name) (sym (some_inj f)) }
name_at_lem house (name v ∷ held) at (suc i) e f = let r = name_at_lem house held (suc at) i e f in record { of = r.of; is = r.is; named = r.named }
name_at_lem house (array a ∷ held) at zero e f = record { of = a.name; is = refl; named = ap (λ (x : Named). x.name) (sym (some_inj f)) }
name_at_lem house (array a ∷ held) at (suc i) e f = let r = name_at_lem house held (at + array_size a.dims) i e f in record { of = r.of; is = r.is; named = r.named }
name_at_lem house (hidden q ∷ held) at i e f = let r = name_at_lem house held (at + 2) i e f in record { of = r.of; is = r.is; named = r.named }

-- every array has a row
pub record Full (held : List Held) : Type 0 where
  pub rows : (a : Declared) → Among (array a) held → 1 ≤ a.dims.rows

full_tail : {h : Held} {held : List Held} → Full (h ∷ held) → Full held
full_tail f = record { rows = λ a i. f.rows a (there i) }

span_size : (r c : ℕ) → 1 ≤ r → span r c ≡ r * width c
span_size zero c h = absurd (omega arith)
span_size (suc r) zero h = omega arith
span_size (suc r) (suc c) h = refl

-- an entry inside n cells; no rows and columns, or some rows
pub record Inside (n : ℕ) (e : Named) : Type 0 where
  pub within : e.first + span e.rows e.columns ≤ n
  pub either : ((e.rows ≡ 0) × (e.columns ≡ 0)) ⊎ (1 ≤ e.rows)

inside_more : {n m : ℕ} {e : Named} → n ≤ m → Inside n e → Inside m e
inside_more h i = record { within = omega (arith, i.within); either = i.either }

pub entry_inside : (house : House) (held : List Held) (at i : ℕ) (e : Named) → Full held → get_elem? (names_from house at held) i ≡ some e → Inside (at + cell_count held) e
entry_inside house [] at i e g f = absurd (let z : ◌≡◌ {A = ℕ} 0 1 = cc in omega arith)
entry_inside house (name v ∷ held) at zero e g f =
    subst (λ (x : Named). Inside (at + cell_count (name v ∷ held)) x) (some_inj f) (record { within = omega arith; either = inl (refl, refl) })
entry_inside house (name v ∷ held) at (suc i) e g f = inside_more (omega arith) (entry_inside house held (suc at) i e (full_tail g) f)
entry_inside house (array a ∷ held) at zero e g f =
    let r = g.rows a here in
    subst (λ (x : Named). Inside (at + cell_count (array a ∷ held)) x) (some_inj f)
    (record { within = omega (arith, span_size a.dims.rows a.dims.columns r); either = inr r })
entry_inside house (array a ∷ held) at (suc i) e g f = inside_more (omega arith) (entry_inside house held (at + array_size a.dims) i e (full_tail g) f)
entry_inside house (hidden q ∷ held) at i e g f = inside_more (omega arith) (entry_inside house held (at + 2) i e (full_tail g) f)

-- ---- entries stand in cell order

entry_from : (house : House) (held : List Held) (at i : ℕ) (e : Named) → get_elem? (names_from house at held) i ≡ some e → at ≤ e.first
entry_from house [] at i e f = absurd (let z : ◌≡◌ {A = ℕ} 0 1 = cc in omega arith)
entry_from house (name v ∷ held) at zero e f = subst (λ (x : Named). at ≤ x.first) (some_inj f) (omega arith)
entry_from house (name v ∷ held) at (suc i) e f = omega (arith, entry_from house held (suc at) i e f)
entry_from house (array a ∷ held) at zero e f = subst (λ (x : Named). at ≤ x.first) (some_inj f) (omega arith)
entry_from house (array a ∷ held) at (suc i) e f = omega (arith, entry_from house held (at + array_size a.dims) i e f)
entry_from house (hidden q ∷ held) at i e f = omega (arith, entry_from house held (at + 2) i e f)

-- the cells of an entry come before those of all entries after it
pub entries_ordered : (house : House) (held : List Held) (at i j : ℕ) (e l : Named) → Full held → i < j → get_elem? (names_from house at held) i ≡ some e → get_elem? (names_from house at held) j ≡ some l
    → e.first + span e.rows e.columns ≤ l.first
entries_ordered house [] at i j e l g h f k = absurd (let z : ◌≡◌ {A = ℕ} 0 1 = cc in omega arith)
entries_ordered house (name v ∷ held) at i zero e l g h f k = absurd (omega arith)
entries_ordered house (name v ∷ held) at zero (suc j) e l g h f k =
    subst (λ (x : Named). x.first + span x.rows x.columns ≤ l.first) (some_inj f) (omega (arith, entry_from house held (suc at) j l k))
entries_ordered house (name v ∷ held) at (suc i) (suc j) e l g h f k = entries_ordered house held (suc at) i j e l (full_tail g) (omega arith) f k
entries_ordered house (array a ∷ held) at i zero e l g h f k = absurd (omega arith)
entries_ordered house (array a ∷ held) at zero (suc j) e l g h f k =
    subst (λ (x : Named). x.first + span x.rows x.columns ≤ l.first) (some_inj f)
    (omega (arith, entry_from house held (at + array_size a.dims) j l k, span_size a.dims.rows a.dims.columns (g.rows a here)))
entries_ordered house (array a ∷ held) at (suc i) (suc j) e l g h f k = entries_ordered house held (at + array_size a.dims) i j e l (full_tail g) (omega arith) f k
entries_ordered house (hidden q ∷ held) at i j e l g h f k = entries_ordered house held (at + 2) i j e l (full_tail g) h f k

-- ---- as many bytes as it has characters, or more, tell a name

abbrev pub NoBlank : Name → Type 0
NoBlank v = Each (λ (c : ℕ). c ≡ 32 → ⊥) v

pad_inj : (k m : ℕ) (v w : Name) → length v ≤ k → length w ≤ k → NoBlank v → NoBlank w
    → take k (v ++ replicate (suc m) 32) ≡ take k (w ++ replicate (suc m) 32) → v ≡ w
pad_inj k m [] [] h i each_none each_none e = refl
pad_inj zero m [] (d ∷ w) h i each_none (each_more q b) e = absurd (omega arith)
pad_inj (suc k) m [] (d ∷ w) h i each_none (each_more q b) e = absurd (q (let z : d ≡ 32 = cc in z))
pad_inj zero m (c ∷ v) w h i a b e = absurd (omega arith)
pad_inj (suc k) m (c ∷ v) [] h i (each_more p a) each_none e = absurd (p (let z : c ≡ 32 = cc in z))
pad_inj (suc k) m (c ∷ v) (d ∷ w) h i (each_more p a) (each_more q b) e =
    let y : c ≡ d = cc in
    let x : take k (v ++ replicate (suc m) 32) ≡ take k (w ++ replicate (suc m) 32) = cc in
    let z = pad_inj k m v w (omega arith) (omega arith) a b x in
    cc

pub filled_inj : (bytes : ℕ) (v w : Name) → length v ≤ bytes → length w ≤ bytes → NoBlank v → NoBlank w → filled bytes v ≡ filled bytes w → v ≡ w
filled_inj zero [] [] h i a b e = refl
filled_inj zero [] (d ∷ w) h i a b e = absurd (omega arith)
filled_inj zero (c ∷ v) w h i a b e = absurd (omega arith)
filled_inj (suc m) v w h i a b e = pad_inj (suc m) m v w h i a b e
