-- Body 7 of an accepted deck: each name of the deck has one entry, with its first cell and its dimensions, inside the cells and in their order.
-- Assumes nothing.
use Prim.Native.Nat.{ℕ, zero, suc, ◌+◌, ◌≤◌, ◌<◌}
use mathlib.Core.Path.{◌≡◌, refl, sym, ap, ◌∙◌, subst}
use mathlib.Core.Bool.{Bool, true, false, ◌&&◌, ◌||◌, cond}
use mathlib.Core.Logic.{◌⊎◌, inl, inr}
use mathlib.Core.List.{List, [], ◌∷◌, ◌++◌, map}
use mathlib.Core.Option.{some}
use native.Mathlib.Omega.{arith}
use native.Mathlib.Nat.{zero-add}
use lib.Dec.{leb}
use lib.ListN.{length, get_elem?, take}
use borrow.Author.Tests.{leb-true}
use Rattle.rules_shared.specs.House.{House}
use Rattle.rules_shared.specs.Lists.{all, Each, each_more, each_none}
use Rattle.rules_object.specs.Object.{Named}
use Rattle.rules_object.specs.Check.{span, is_letter, is_digit}
use Rattle.rules_shared.proofs.EachLaws.{each_map}
use Rattle.rules_text.specs.Trees.{Name, Array, array, array_names, Form, Statement, form_names, Range, parts_of}
use Rattle.rules_text.specs.Tokens.{is_letter_or_digit}
use Rattle.rules_deck.specs.Deck.{same_name, Dims, Declared, declare, arrays_in, dims_in, dims_of}
use Rattle.rules_deck.specs.Meaning.{plain}
use Rattle.rules_deck.specs.Translation.{Held, name, hidden, cell_count, is_the_name, is_array, holds, cell_of, base_of, appear, form_plain, hidden_in, brings, held_from, held_of, filled, names_from}
use Rattle.rules_deck.specs.Judge.{starts_integer, right11, Reference, right_reference, right_count, form_references, right16}
use Rattle.rules_deck.specs.Accepted.{Among, here, there, Accepted}
use Rattle.rules_deck.specs.Cells.{key, Has, names_held}
use Rattle.rules_text.specs.Spelling.{IsName, is_name}
use Rattle.rules_deck.proofs.Houses.{name_fits}
use Rattle.rules_text.proofs.CardsLaws.{cases}
use Rattle.rules_text.proofs.Readers.{both_true, digit_bounds, letter_bounds}
use Rattle.rules_text.proofs.ReadForms.{read_names}
use Rattle.rules_deck.proofs.CellLaws.{holds_right}
use Rattle.rules_deck.proofs.Names.{name_same}
use Rattle.rules_deck.proofs.TestLaws.{all_among, among_left, among_append}
use Rattle.rules_deck.proofs.ArrayLaws.{arrays_held_lem, holds_left}
use Rattle.rules_deck.proofs.DeckCells.{Grown, grown_same, grown_held, plain_has}
use Rattle.rules_deck.proofs.MapNames.{no_dims, names_append, name_among, array_among, at_among, distinct_index, Listed, entry_of, plain_listed, array_listed, name_at_lem, Inside, entry_inside, entries_ordered, NoBlank, filled_inj}
use Rattle.rules_deck.proofs.Covered.{Covered, plainly, of_element, form_covered, plain_names, array_names_lem, declared_names}
use Rattle.rules_deck.proofs.MapOnce.{once_held, before_held}

-- ---- an array that a statement declares or refers to is in the map

grown_holds : {held later : List Held} → Grown held later → (test : Held → Bool) → holds test held ≡ true → holds test later ≡ true
grown_holds {held} g test e = subst (λ (l : List Held). holds test l ≡ true) (sym g.is) (holds_left test held g.more e)

declares : (arrays : List Array) {v : Name} → Among v (array_names arrays) → holds (is_array v) (map (λ a. Held.array (declare a)) arrays) ≡ true
declares (array v r c ∷ arrays) here = ap (λ (b : Bool). b || holds (is_array v) (map (λ a. Held.array (declare a)) arrays)) (name_same v)
declares (array w r c ∷ arrays) {v} (there a) = holds_right (is_array v) (Held.array (declare (array w r c)) ∷ []) (map (λ a. Held.array (declare a)) arrays) (declares arrays a)
declares [] {v = v} x' = elim x' [ ]

grown_take : (q : ℕ) (deck : List Statement) (held : List Held) (j : ℕ) → Grown (held_from q (take j deck) held) (held_from q deck held)
grown_take q deck held zero = grown_held q deck held
grown_take q [] held (suc j) = grown_same held
grown_take q (s ∷ deck) held (suc j) = grown_take (suc q) deck (brings q s.form held) j

declared_from : (q : ℕ) (deck : List Statement) (held : List Held) (j : ℕ) (s : Statement) (v : Name) → get_elem? deck j ≡ some s → Among v (array_names (arrays_in s.form))
    → holds (is_array v) (held_from q deck held) ≡ true
declared_from q [] held j s v e a = absurd (let z : ◌≡◌ {A = ℕ} 0 1 = cc in omega arith)
declared_from q (t ∷ deck) held zero s v e a =
    let p : t ≡ s = cc in
    let b = subst (λ (x : Statement). Among v (array_names (arrays_in x.form))) (sym p) a in
    grown_holds (grown_held (suc q) deck (brings q t.form held)) (is_array v)
    (holds_right (is_array v) (appear held (form_plain t.form)) _ (holds_right (is_array v) (hidden_in q t.form) _ (declares (arrays_in t.form) b)))
declared_from q (t ∷ deck) held (suc j) s v e a = declared_from (suc q) deck (brings q t.form held) j s v e a

pub declared_has : (deck : List Statement) (j : ℕ) (s : Statement) (v : Name) → get_elem? deck j ≡ some s → Among v (array_names (arrays_in s.form))
    → holds (is_array v) (held_of deck) ≡ true
unfolding held_of
declared_has deck j s v e a = declared_from 0 deck [] j s v e a

reference_array : (held : List Held) (r : Reference) → right_reference held r ≡ true → holds (is_array r.name) held ≡ true
reference_array [] r e = e
reference_array (name v ∷ held) r e = reference_array held r e
reference_array (Held.array a ∷ held) r e = go (same_name a.name r.name) e (reference_array held r)
  where
    go : (b : Bool) → cond b (right_count a.dims r.subscripts) (right_reference held r) ≡ true → (right_reference held r ≡ true → holds (is_array r.name) held ≡ true)
        → (b || holds (is_array r.name) held) ≡ true
    go true i f = refl
    go false i f = f i
reference_array (hidden q ∷ held) r e = reference_array held r e

pub reference_has : (house : House) (deck : List Statement) → Accepted house deck → (j : ℕ) (s : Statement) (r : Reference) → get_elem? deck j ≡ some s
    → Among r (form_references s.form) → holds (is_array r.name) (held_of deck) ≡ true
unfolding held_of right16
reference_has house deck c j s r e a =
    let p = subst (λ (l : List Held). right16 l s.form ≡ true) (before_held deck j) (c.judged j s e).passes16 in
    let held = held_from 0 (take j deck) [] in
    grown_holds (grown_take 0 deck [] j) (is_array r.name)
    (reference_array held r (all_among (right_reference held) (both_true (all (right_reference held) (form_references s.form)) _ p).0 a))

-- ---- every name of the map is a statement's

pub record InDeck (deck : List Statement) (v : Name) : Type 0 where
  pub position : ℕ
  pub statement : Statement
  pub at : get_elem? deck position ≡ some statement
  pub among : Among v (form_names statement.form)

appear_names : (vs : List Name) (held : List Held) (v : Name) → Among v (names_held (appear held vs)) → Among v (names_held held) ⊎ Among v vs
appear_names [] held v a = inl a
appear_names (w ∷ vs) held v a =
    go (appear_names vs (cond (holds (is_the_name w) held) held (held ++ (name w ∷ []))) v a)
  where
    one : Among v (names_held held) ⊎ Among v (w ∷ []) → Among v (names_held held) ⊎ Among v (w ∷ vs)
    one (inl b) = inl b
    one (inr b) = inr (among_left vs b)

    go : Among v (names_held (cond (holds (is_the_name w) held) held (held ++ (name w ∷ [])))) ⊎ Among v vs → Among v (names_held held) ⊎ Among v (w ∷ vs)
    go (inl b) =
        cases (λ l. Among v (names_held l) → Among v (names_held held) ⊎ Among v (w ∷ vs)) (holds (is_the_name w) held) held (held ++ (name w ∷ [])) (λ e i. inl i)
        (λ e i. one (among_append (names_held held) (w ∷ []) (subst (λ (l : List Name). Among v l) (names_append held (name w ∷ [])) i))) b
    go (inr b) = inr (there b)

hidden_names : (q : ℕ) (f : Form) → names_held (hidden_in q f) ≡ []
hidden_names q f = go (parts_of f).opens
  where
    go : (ds : List Range) → names_held (map (λ (d : Range). hidden q) ds) ≡ []
    go [] = refl
    go (d ∷ ds) = go ds

brings_names : (q : ℕ) (f : Form) (held : List Held) (v : Name) → Among v (names_held (brings q f held)) → Among v (names_held held) ⊎ Among v (form_names f)
brings_names q f held v a =
    go (among_append (names_held (appear held (form_plain f))) (names_held (hidden_in q f ++ arrays)) (subst (λ (l : List Name). Among v l) (names_append (appear held (form_plain f)) (hidden_in q f ++ arrays)) a))
  where
    arrays : List Held
    arrays = map (λ a. Held.array (declare a)) (arrays_in f)

    plains : Among v (names_held held) ⊎ Among v (form_plain f) → Among v (names_held held) ⊎ Among v (form_names f)
    plains (inl b) = inl b
    plains (inr b) = inr (plain_names f b)

    go : Among v (names_held (appear held (form_plain f))) ⊎ Among v (names_held (hidden_in q f ++ arrays)) → Among v (names_held held) ⊎ Among v (form_names f)
    go (inl b) = plains (appear_names (form_plain f) held v b)
    go (inr b) =
        inr (array_names_lem f (subst (λ (l : List Name). Among v l)
        (names_append (hidden_in q f) arrays ∙ ap (λ (l : List Name). l ++ names_held arrays) (hidden_names q f) ∙ declared_names (arrays_in f)) b))

later : {deck : List Statement} {v : Name} (s : Statement) → InDeck deck v → InDeck (s ∷ deck) v
later s i = record { position = suc i.position; statement = i.statement; at = i.at; among = i.among }

names_from_lem : (q : ℕ) (deck : List Statement) (held : List Held) (v : Name) → Among v (names_held (held_from q deck held)) → Among v (names_held held) ⊎ InDeck deck v
names_from_lem q [] held v a = inl a
names_from_lem q (s ∷ deck) held v a = go (names_from_lem (suc q) deck (brings q s.form held) v a)
  where
    own : Among v (names_held held) ⊎ Among v (form_names s.form) → Among v (names_held held) ⊎ InDeck (s ∷ deck) v
    own (inl b) = inl b
    own (inr b) = inr (record { position = 0; statement = s; at = refl; among = b })

    go : Among v (names_held (brings q s.form held)) ⊎ InDeck deck v → Among v (names_held held) ⊎ InDeck (s ∷ deck) v
    go (inl b) = own (brings_names q s.form held v b)
    go (inr i) = inr (later s i)

pub held_name : (deck : List Statement) (v : Name) → Among v (names_held (held_of deck)) → InDeck deck v
unfolding held_of
held_name deck v a = go (names_from_lem 0 deck [] v a)
  where
    go : Among v [] ⊎ InDeck deck v → InDeck deck v
    go (inr i) = i
    go (inl x') = elim x' [ ]

-- ---- one entry

-- e stands in body 7, and no other entry has the name's bytes
pub record OneEntry (house : House) (deck : List Statement) (v : Name) (e : Named) : Type 0 where
  pub index : ℕ
  pub is : get_elem? (names_from house 0 (held_of deck)) index ≡ some e
  pub only : (j : ℕ) (x : Named) → get_elem? (names_from house 0 (held_of deck)) j ≡ some x → x.name ≡ filled house.name_bytes v → j ≡ index

pub name_length : (house : House) (deck : List Statement) → Accepted house deck → (v : Name) → InDeck deck v → length v ≤ house.name_length
unfolding right11
name_length house deck c v i =
    let p = (c.judged i.position i.statement i.at).passes11 in
    let q = all_among (λ v. leb (length v) house.name_length && starts_integer v) p i.among in
    leb-true (length v) house.name_length (both_true (leb (length v) house.name_length) (starts_integer v) q).0

-- a name of a statement is a plain name or an array of the map
pub name_kind : (house : House) (deck : List Statement) → Accepted house deck → (v : Name) → InDeck deck v
    → Has (held_of deck) (key (plain v)) ⊎ (holds (is_array v) (held_of deck) ≡ true)
name_kind house deck c v i = go (form_covered i.statement.form i.among)
  where
    covered : Covered (form_plain i.statement.form) (form_references i.statement.form) v → Has (held_of deck) (key (plain v)) ⊎ (holds (is_array v) (held_of deck) ≡ true)
    covered (plainly a) = inl (plain_has deck i.position i.statement v i.at a)
    covered (of_element r e a) =
        inr (subst (λ (x : Name). holds (is_array x) (held_of deck) ≡ true) e (reference_has house deck c i.position i.statement r i.at a))

    go : Covered (form_plain i.statement.form) (form_references i.statement.form) v ⊎ Among v (array_names (arrays_in i.statement.form))
        → Has (held_of deck) (key (plain v)) ⊎ (holds (is_array v) (held_of deck) ≡ true)
    go (inl a) = covered a
    go (inr a) = inr (declared_has deck i.position i.statement v i.at a)

pub each_here : {A : Type 0} {P : A → Type 0} {l : List A} {x : A} → Each P l → Among x l → P x
each_here (each_more p ps) here = p
each_here (each_more p ps) (there a) = each_here ps a
each_here {A = A} {P = P} each_none x6 = elim x6 [ ]

letter_or_digit : (c : ℕ) → is_letter_or_digit c ≡ true → c ≡ 32 → ⊥
unfolding is_letter_or_digit
letter_or_digit c e z = go (is_letter c) refl e
  where
    go : (b : Bool) → is_letter c ≡ b → (b || is_digit c) ≡ true → ⊥
    go true p q = omega (arith, letter_bounds c p)
    go false p q = omega (arith, digit_bounds c q)

name_solid : {v : Name} → IsName v → NoBlank v
name_solid (is_name {c} p ps) = each_more (λ (z : c ≡ 32). omega (arith, letter_bounds c p)) (each_map letter_or_digit ps)

pub solid : (house : House) (deck : List Statement) → Accepted house deck → (v : Name) → InDeck deck v → NoBlank v
solid house deck c v i =
    let j = c.judged i.position i.statement i.at in
    name_solid (each_here (read_names j.text i.statement.form j.form) i.among)

module _ (house : House) (deck : List Statement) (c : Accepted house deck) where
  one_entry : (v : Name) (at : ℕ) (d : Dims) → Among v (names_held (held_of deck)) → Listed (names_from house 0 (held_of deck)) (entry_of house v at d) → OneEntry house deck v (entry_of house v at d)
  one_entry v at d a l = record { index = l.index; is = l.is; only = only }
    where
      -- the name at an index whose entry has the bytes of v is v
      told : (j : ℕ) (x : Named) → get_elem? (names_from house 0 (held_of deck)) j ≡ some x → x.name ≡ filled house.name_bytes v → get_elem? (names_held (held_of deck)) j ≡ some v
      told j x e f =
          let n = name_at_lem house (held_of deck) 0 j x e in
          let i = held_name deck n.of (at_among (names_held (held_of deck)) j n.of n.is) in
          let m = held_name deck v a in
          let fits = name_fits c.lawful in
          n.is ∙ ap some (filled_inj house.name_bytes n.of v (omega (arith, fits, name_length house deck c n.of i)) (omega (arith, fits, name_length house deck c v m)) (solid house deck c n.of i) (solid house deck c v m) (sym n.named ∙ f))

      only : (j : ℕ) (x : Named) → get_elem? (names_from house 0 (held_of deck)) j ≡ some x → x.name ≡ filled house.name_bytes v → j ≡ l.index
      only j x e f = distinct_index (once_held house deck c).distinct j l.index v (told j x e f) (told l.index (entry_of house v at d) l.is refl)

  -- a plain name's
  pub plain_entry : (v : Name) → Has (held_of deck) (key (plain v)) → OneEntry house deck v (entry_of house v (cell_of (held_of deck) v) no_dims)
  unfolding cell_of
  plain_entry v h = one_entry v (cell_of (held_of deck) v) no_dims (name_among (held_of deck) v h)
      (subst (λ (n : ℕ). Listed (names_from house 0 (held_of deck)) (entry_of house v n no_dims)) (zero-add (cell_of (held_of deck) v)) (plain_listed house (held_of deck) 0 v h))

  -- an array's
  pub array_entry : (v : Name) → holds (is_array v) (held_of deck) ≡ true → OneEntry house deck v (entry_of house v (base_of (held_of deck) v) (dims_of deck v))
  unfolding base_of dims_of
  array_entry v h =
      one_entry v (base_of (held_of deck) v) (dims_of deck v) (array_among (held_of deck) v h)
      (subst (λ (n : ℕ). Listed (names_from house 0 (held_of deck)) (entry_of house v n (dims_of deck v))) (zero-add (base_of (held_of deck) v))
      (subst (λ (d : Dims). Listed (names_from house 0 (held_of deck)) (entry_of house v (0 + base_of (held_of deck) v) d)) (ap (λ (l : List Declared). dims_in l v) (arrays_held_lem deck)) (array_listed house (held_of deck) 0 v h)))

  -- every name's
  pub name_entry : (v : Name) → InDeck deck v → (Has (held_of deck) (key (plain v)) × OneEntry house deck v (entry_of house v (cell_of (held_of deck) v) no_dims))
      ⊎ ((holds (is_array v) (held_of deck) ≡ true) × OneEntry house deck v (entry_of house v (base_of (held_of deck) v) (dims_of deck v)))
  name_entry v i = go (name_kind house deck c v i)
    where
      go : Has (held_of deck) (key (plain v)) ⊎ (holds (is_array v) (held_of deck) ≡ true) → (Has (held_of deck) (key (plain v)) × OneEntry house deck v (entry_of house v (cell_of (held_of deck) v) no_dims))
          ⊎ ((holds (is_array v) (held_of deck) ≡ true) × OneEntry house deck v (entry_of house v (base_of (held_of deck) v) (dims_of deck v)))
      go (inl h) = inl (h, plain_entry v h)
      go (inr h) = inr (h, array_entry v h)

-- every entry is of a name of the deck
pub entry_name : (house : House) (deck : List Statement) (i : ℕ) (e : Named) → get_elem? (names_from house 0 (held_of deck)) i ≡ some e → (v : Name) × InDeck deck v × (e.name ≡ filled house.name_bytes v)
entry_name house deck i e f =
    let n = name_at_lem house (held_of deck) 0 i e f in
    (n.of, held_name deck n.of (at_among (names_held (held_of deck)) i n.of n.is), n.named)

-- every entry lies inside the cells
pub names_inside : (house : House) (deck : List Statement) → Accepted house deck → (i : ℕ) (e : Named) → get_elem? (names_from house 0 (held_of deck)) i ≡ some e → Inside (cell_count (held_of deck)) e
names_inside house deck c i e f = subst (λ (n : ℕ). Inside n e) (zero-add (cell_count (held_of deck))) (entry_inside house (held_of deck) 0 i e (once_held house deck c).full f)

-- and before those after it
pub names_ordered : (house : House) (deck : List Statement) → Accepted house deck → (i j : ℕ) (e l : Named) → i < j → get_elem? (names_from house 0 (held_of deck)) i ≡ some e
    → get_elem? (names_from house 0 (held_of deck)) j ≡ some l → e.first + span e.rows e.columns ≤ l.first
names_ordered house deck c i j e l h f g = entries_ordered house (held_of deck) 0 i j e l (once_held house deck c).full h f g
