-- A named value's cell as a caller finds it through body 7 is the cell that the translation gave it.
-- Assumes nothing.
use mathlib.Core.Path.{◌≡◌, refl, sym, ap, ap₂, ◌∙◌, subst}
use Prim.Native.Nat.{ℕ, zero, suc, ◌+◌, ◌*◌, ◌≤◌}
use native.Mathlib.Omega.{arith}
use mathlib.Core.Bool.{Bool, true, false, ◌&&◌, ◌||◌, cond}
use mathlib.Core.List.{List, [], ◌∷◌, ◌++◌}
use mathlib.Core.Option.{Option, none, some}
use lib.Dec.{leb, ltb}
use lib.ListN.{length, take, replicate}
use borrow.Author.Tests.{ne_eqb, ltb-true, le-leb, lt-ltb}
use Rattle.rules_shared.specs.House.{House}
use Rattle.rules_object.specs.Check.{span}
use Rattle.rules_shared.specs.Lists.{each_none, each_more}
use Rattle.rules_text.specs.Trees.{Name, Statement}
use Rattle.rules_text.specs.Cards.{unless_blank, without_blanks}
use Rattle.rules_deck.specs.Deck.{same_name, Declared, width}
use Rattle.rules_deck.specs.Meaning.{Key, plain, element_at}
use Rattle.rules_deck.specs.Translation.{Held, name, array, hidden, array_size, is_the_name, is_array, first_cell, holds, cell_of, base_of, held_of, filled, names_from}
use Rattle.rules_deck.specs.Accepted.{Among, here, there, Accepted}
use Rattle.rules_deck.specs.Cells.{key, slot_cell, size_of, Has, names_held}
use Rattle.rules_deck.specs.Seen.{or_next, cell_in}
use Rattle.rules_deck.proofs.TestLaws.{same_name_lem, clash}
use Rattle.rules_deck.proofs.MapNames.{Distinct, new, Full, NoBlank}
use Rattle.rules_deck.proofs.MapOnce.{once_held}
use Rattle.rules_deck.proofs.Houses.{name_fits}
use Rattle.rules_deck.proofs.BodySeven.{held_name, name_length, solid}

-- ---- blank-filled and back

unless_no : (c : ℕ) (s : List ℕ) → (c ≡ 32 → ⊥) → unless_blank c s ≡ c ∷ s
unless_no c s n = ap (λ b. cond b s (c ∷ s)) (ne_eqb c 32 n)

blanks_gone : (k m : ℕ) → without_blanks (take k (replicate m 32)) ≡ []
blanks_gone zero m = refl
blanks_gone (suc k) zero = refl
blanks_gone (suc k) (suc m) = blanks_gone k m

padded_back : (k m : ℕ) (v : Name) → length v ≤ k → NoBlank v → without_blanks (take k (v ++ replicate m 32)) ≡ v
padded_back k m [] h each_none = blanks_gone k m
padded_back zero m (c ∷ v) h (each_more p a) = absurd (omega arith)
padded_back (suc k) m (c ∷ v) h (each_more p a) = unless_no c _ p ∙ ap (λ s. c ∷ s) (padded_back k m v (omega arith) a)

pub filled_back : (bytes : ℕ) (v : Name) → length v ≤ bytes → NoBlank v → without_blanks (filled bytes v) ≡ v
filled_back bytes v h a = padded_back bytes bytes v h a

-- ---- the map's names are such names, each once, and its arrays have rows

pub record Told (house : House) (held : List Held) : Type 0 where
  pub back : (v : Name) → Among v (names_held held) → without_blanks (filled house.name_bytes v) ≡ v
  pub full : Full held
  pub once : Distinct (names_held held)

told_rest : {house : House} {held : List Held} (h : Held) → ((w : Name) → Among w (names_held held) → Among w (names_held (h ∷ held))) → Distinct (names_held held) → Told house (h ∷ held) → Told house held
told_rest h f d t = record { back = λ w a. t.back w (f w a); full = record { rows = λ a i. t.full.rows a (there i) }; once = d }

distinct_rest : {v : Name} {vs : List Name} → Distinct (v ∷ vs) → Distinct vs
distinct_rest (new n d) = d

distinct_first : {v : Name} {vs : List Name} → Distinct (v ∷ vs) → Among v vs → ⊥
distinct_first (new n d) = n

after_name : {house : House} (w : Name) {held : List Held} → Told house (name w ∷ held) → Told house held
after_name w t = told_rest (name w) (λ v a. there a) (distinct_rest t.once) t

after_array : {house : House} (a : Declared) {held : List Held} → Told house (array a ∷ held) → Told house held
after_array a t = told_rest (array a) (λ v i. there i) (distinct_rest t.once) t

after_hidden : {house : House} (q : ℕ) {held : List Held} → Told house (hidden q ∷ held) → Told house held
after_hidden q t = told_rest (hidden q) (λ v i. i) t.once t

-- ---- plain names

and_none : (b : Bool) → (b && false) ≡ false
and_none true = refl
and_none false = refl

-- the test of a name by its bytes
by_bytes : (house : House) (w v : Name) (c : Bool) (x : Option ℕ) → without_blanks (filled house.name_bytes w) ≡ w → cond (same_name (without_blanks (filled house.name_bytes w)) v && c) x none ≡ cond (same_name w v && c) x none
by_bytes house w v c x e = ap (λ z. cond (same_name z v && c) x none) e

pub plain_cell : (house : House) (held : List Held) (at : ℕ) (v : Name) → Told house held → cell_in (names_from house at held) (plain v) ≡ cond (holds (is_the_name v) held) (some (at + first_cell (is_the_name v) held)) none
plain_cell house [] at v t = refl
plain_cell house (name w ∷ held) at v t =
    ap (λ z. or_next z (cell_in (names_from house (suc at) held) (plain v))) (by_bytes house w v true (some at) (t.back w here)) ∙ go (same_name w v) (plain_cell house held (suc at) v (after_name w t))
  where
    go : (b : Bool) → cell_in (names_from house (suc at) held) (plain v) ≡ cond (holds (is_the_name v) held) (some (suc at + first_cell (is_the_name v) held)) none
        → or_next (cond (b && true) (some at) none) (cell_in (names_from house (suc at) held) (plain v)) ≡ cond (b || holds (is_the_name v) held) (some (at + cond b 0 (1 + first_cell (is_the_name v) held))) none
    go true e = ap some (omega arith)
    go false e = e ∙ ap (λ n. cond (holds (is_the_name v) held) (some n) none) (omega arith)
plain_cell house (array a ∷ held) at v t =
    let r = t.full.rows a here in
    ap (λ z. or_next (cond z (some at) none) (cell_in (names_from house (at + array_size a.dims) held) (plain v)))
    (ap (λ z. same_name (without_blanks (filled house.name_bytes a.name)) v && z) (ne_eqb a.dims.rows 0 (λ z. omega arith)) ∙ and_none (same_name (without_blanks (filled house.name_bytes a.name)) v))
    ∙ plain_cell house held (at + array_size a.dims) v (after_array a t) ∙ ap (λ n. cond (holds (is_the_name v) held) (some n) none) (omega arith)
plain_cell house (hidden q ∷ held) at v t = plain_cell house held (at + 2) v (after_hidden q t) ∙ ap (λ n. cond (holds (is_the_name v) held) (some n) none) (omega arith)

-- ---- elements

-- an array that is not in the map has no cells
no_size : (held : List Held) (v : Name) → (Among v (names_held held) → ⊥) → size_of held v ≡ 0
no_size [] v n = refl
no_size (name w ∷ held) v n = no_size held v (λ a. n (there a))
no_size (array a ∷ held) v n = go (same_name a.name v) refl (no_size held v (λ i. n (there i)))
  where
    go : (b : Bool) → same_name a.name v ≡ b → size_of held v ≡ 0 → cond b (array_size a.dims) (size_of held v) ≡ 0
    go true e r = absurd (n (subst (λ w. Among w (names_held (array a ∷ held))) (same_name_lem a.name v e) here))
    go false e r = r
no_size (hidden q ∷ held) v n = no_size held v n

span_size : (r c : ℕ) → 1 ≤ r → span r c ≡ r * width c
span_size zero c h = absurd (omega arith)
span_size (suc r) zero h = omega arith
span_size (suc r) (suc c) h = refl

not_below : (p n : ℕ) → n ≡ 0 → ltb p n ≡ false
not_below p n e = go (ltb p n) refl
  where
    go : (b : Bool) → ltb p n ≡ b → b ≡ false
    go true q = absurd (let z = ltb-true p n q in omega arith)
    go false q = refl

-- the element p of the first array of the name
abbrev element_cell_in : List Held → ℕ → Name → ℕ → Option ℕ
element_cell_in held at v p = cond (ltb p (size_of held v)) (some (at + first_cell (is_array v) held + p)) none

elements_move : (held : List Held) (at n : ℕ) (v : Name) (p : ℕ) → element_cell_in held (at + n) v p ≡ cond (ltb p (size_of held v)) (some (at + (n + first_cell (is_array v) held) + p)) none
elements_move held at n v p = ap (λ x. cond (ltb p (size_of held v)) (some x) none) (omega arith)

pub element_cell_lem : (house : House) (held : List Held) (at : ℕ) (v : Name) (p : ℕ) → Told house held → cell_in (names_from house at held) (element_at v p) ≡ element_cell_in held at v p
element_cell_lem house [] at v p t = sym (ap (λ b. cond b (some (at + 0 + p)) none) (not_below p 0 refl))
element_cell_lem house (name w ∷ held) at v p t =
    ap (λ z. or_next (cond z (some (at + p)) none) (cell_in (names_from house (suc at) held) (element_at v p))) (and_none (same_name (without_blanks (filled house.name_bytes w)) v))
    ∙ element_cell_lem house held (suc at) v p (after_name w t) ∙ ap (λ x. cond (ltb p (size_of held v)) (some x) none) (omega arith)
element_cell_lem house (array a ∷ held) at v p t =
    ap (λ z. or_next z (cell_in (names_from house (at + array_size a.dims) held) (element_at v p)))
    (ap (λ w. cond (same_name w v && (leb 1 a.dims.rows && ltb p (span a.dims.rows a.dims.columns))) (some (at + p)) none) (t.back a.name here)
    ∙ ap₂ (λ b n. cond (same_name a.name v && (b && ltb p n)) (some (at + p)) none) some_rows (span_size a.dims.rows a.dims.columns rows))
    ∙ go (same_name a.name v) refl (ltb p (array_size a.dims)) refl (element_cell_lem house held (at + array_size a.dims) v p (after_array a t))
  where
    rows : 1 ≤ a.dims.rows
    rows = t.full.rows a here

    some_rows : leb 1 a.dims.rows ≡ true
    some_rows = le-leb 1 a.dims.rows rows

    go : (b : Bool) → same_name a.name v ≡ b → (c : Bool) → ltb p (array_size a.dims) ≡ c
        → cell_in (names_from house (at + array_size a.dims) held) (element_at v p) ≡ element_cell_in held (at + array_size a.dims) v p
        → or_next (cond (b && (true && c)) (some (at + p)) none) (cell_in (names_from house (at + array_size a.dims) held) (element_at v p))
        ≡ cond (ltb p (cond b (array_size a.dims) (size_of held v))) (some (at + cond b 0 (array_size a.dims + first_cell (is_array v) held) + p)) none
    go true e true f r = ap some (omega arith) ∙ sym (ap (λ z. cond z (some (at + 0 + p)) none) f)
    go true e false f r =
        r ∙ ap (λ z. cond z (some (at + array_size a.dims + first_cell (is_array v) held + p)) none)
        (not_below p (size_of held v) (no_size held v (λ i. distinct_first t.once (subst (λ w. Among w (names_held held)) (sym (same_name_lem a.name v e)) i))))
        ∙ sym (ap (λ z. cond z (some (at + 0 + p)) none) f)
    go false e c f r = r ∙ elements_move held at (array_size a.dims) v p
element_cell_lem house (hidden q ∷ held) at v p t = element_cell_lem house held (at + 2) v p (after_hidden q t) ∙ elements_move held at 2 v p

-- ---- both

pub has_cell : (house : House) (held : List Held) → Told house held → (x : Key) → Has held (key x) → cell_in (names_from house 0 held) x ≡ some (slot_cell held (key x))
unfolding cell_of base_of
has_cell house held t (plain v) h = plain_cell house held 0 v t ∙ ap (λ b. cond b (some (0 + first_cell (is_the_name v) held)) none) h ∙ ap some (omega arith)
has_cell house held t (element_at v p) h =
    element_cell_lem house held 0 v p t ∙ ap (λ b. cond b (some (0 + first_cell (is_array v) held + p)) none) (lt-ltb p (size_of held v) h) ∙ ap some (omega arith)

cond_some : {A : Type 0} (b : Bool) (x c : A) → cond b (some x) none ≡ some c → (b ≡ true) × (x ≡ c)
cond_some true x c e = (refl, cc)
cond_some false x c e = absurd (clash (sym e))

pub cell_has : (house : House) (held : List Held) → Told house held → (x : Key) (c : ℕ) → cell_in (names_from house 0 held) x ≡ some c → Has held (key x) × (slot_cell held (key x) ≡ c)
unfolding cell_of base_of
cell_has house held t (plain v) c e =
    let r = cond_some (holds (is_the_name v) held) (0 + first_cell (is_the_name v) held) c (sym (plain_cell house held 0 v t) ∙ e) in
    let q : 0 + first_cell (is_the_name v) held ≡ c = r.1 in
    (r.0, omega arith)
cell_has house held t (element_at v p) c e =
    let r = cond_some (ltb p (size_of held v)) (0 + first_cell (is_array v) held + p) c (sym (element_cell_lem house held 0 v p t) ∙ e) in
    let q : 0 + first_cell (is_array v) held + p ≡ c = r.1 in
    (ltb-true p (size_of held v) r.0, omega arith)

-- of an accepted deck's map
pub told : (house : House) (deck : List Statement) → Accepted house deck → Told house (held_of deck)
told house deck c =
    let o = once_held house deck c in
    record { back = λ v a. let i = held_name deck v a in filled_back house.name_bytes v (omega (arith, name_fits c.lawful, name_length house deck c v i)) (solid house deck c v i); full = o.full; once = o.distinct }
