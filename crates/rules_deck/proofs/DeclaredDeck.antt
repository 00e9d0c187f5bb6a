-- An accepted deck's arrays: each element is of a declared array with as many dimensions, each array has cells within the limit, and no
-- plain name is an array's.
-- Assumes nothing.
use mathlib.Core.Path.{◌≡◌, refl, sym, ap, ◌∙◌, subst}
use Prim.Native.Nat.{ℕ, suc, ◌≤◌}
use native.Mathlib.Omega.{arith}
use mathlib.Core.Logic.{◌⊎◌, inl, inr}
use mathlib.Core.Bool.{Bool, true, false, ◌||◌, not, false≢true}
use mathlib.Core.List.{List, [], ◌∷◌, ◌++◌, map, append-nil, append_assoc}
use mathlib.Core.Option.{none, some}
use lib.Dec.{leb}
use lib.ListN.{length, get_elem?}
use borrow.Author.Tests.{leb-true, eqb-true, not-true}
use Rattle.rules_shared.specs.House.{House}
use Rattle.rules_shared.specs.Lists.{all}
use Rattle.rules_text.specs.Trees.{Name, value_of, Subscripts, one, two, Array, array, Form, assign, computed, ifs, loop, Statement, go_to, continue, stop, end, dimension}
use Rattle.rules_deck.specs.Deck.{same_name, Dims, Declared, declare, arrays_in, arrays_of, dims_of}
use Rattle.rules_deck.specs.Translation.{Held, is_the_name, is_array, holds, form_plain, brings}
use Rattle.rules_deck.specs.Judge.{ends_in_f, seen, some_cells, right_arrays, right15, Reference, form_references, right_count, right_reference, right16, Taken, takes}
use Rattle.rules_deck.specs.Accepted.{Among, here, there, taken_before, Accepted}
use Rattle.rules_text.proofs.CardsLaws.{and_both}
use Rattle.rules_deck.proofs.TestLaws.{or_neither, among_none, same_name_lem, all_among, among_append, among_map, at_before}
use Rattle.rules_deck.proofs.TakenLaws.{before_next, kept, held_all}
use Rattle.rules_deck.specs.Cells.{arrays_held}
use Rattle.rules_deck.proofs.ArrayLaws.{arrays_brings, arrays_held_lem, Means, means_in, holds_left, brings_keeps, brings_names, no_array}

-- ---- 15, for one array of a DIMENSION

some_rows : (a : Array) → some_cells a ≡ true → 1 ≤ (declare a).dims.rows
some_rows (array v r none) e = leb-true 1 (value_of r) e
some_rows (array v r (some c)) e = leb-true 1 (value_of r) (and_both (leb 1 (value_of r)) (leb 1 (value_of c)) e).0

rows_in : (inF : Bool) (held : List Held) (arrays : List Array) → right_arrays inF held arrays ≡ true → {a : Array} → Among a arrays → 1 ≤ (declare a).dims.rows
rows_in inF held (x ∷ arrays) e here = some_rows x (and_both (some_cells x) _ e).0
rows_in inF held (x ∷ arrays) e (there h) =
    let f = (and_both (some_cells x) _ e).1 in
    let g = (and_both (not (seen held (declare x).name)) _ f).1 in
    rows_in inF (held ++ (Held.array (declare x) ∷ [])) arrays (and_both (inF || not (ends_in_f (declare x).name)) _ g).1 h
rows_in inF held [] e {a = a} x'' = elim x'' [ ]

not_held : (held : List Held) (w v : Name) → holds (is_the_name w) held ≡ false → holds (is_the_name v) held ≡ true → (t : Bool) → same_name w v ≡ t → t ≡ false
not_held held w v e h true s =
    let same = same_name_lem w v s in
    absurd (false≢true (sym e ∙ ap (λ (u : Name). holds (is_the_name u) held) same ∙ h))
not_held held w v e h false s = refl

-- no array takes a name that is held
new_in : (inF : Bool) (held : List Held) (arrays : List Array) → right_arrays inF held arrays ≡ true → {a : Array} → Among a arrays → (v : Name) → holds (is_the_name v) held ≡ true →
    same_name (declare a).name v ≡ false
new_in inF held (x ∷ arrays) e here v h =
    let f = (and_both (some_cells x) _ e).1 in
    let g = not-true (seen held (declare x).name) (and_both (not (seen held (declare x).name)) _ f).0 in
    not_held held (declare x).name v (or_neither (holds (is_the_name (declare x).name) held) _ g).0 h (same_name (declare x).name v) refl
new_in inF held (x ∷ arrays) e (there b) v h =
    let f = (and_both (some_cells x) _ e).1 in
    let g = (and_both (not (seen held (declare x).name)) _ f).1 in
    new_in inF (held ++ (Held.array (declare x) ∷ [])) arrays (and_both (inF || not (ends_in_f (declare x).name)) _ g).1 b v (holds_left (is_the_name v) held _ h)
new_in inF held [] e {a = a} x3 v h = elim x3 [ ]

-- ---- 16, for one reference

-- one subscript for one dimension, whose columns are 0; two for two
abbrev pub Counted : Dims → Subscripts → Type 0
Counted d (one s) = d.columns ≡ 0
Counted d (two s t) = 1 ≤ d.columns

counted : (d : Dims) (s : Subscripts) → right_count d s ≡ true → Counted d s
counted d (one s) e = eqb-true d.columns 0 e
counted d (two s t) e = leb-true 1 d.columns e

-- a form with plain names declares nothing
plain_declares : (f : Form) (v : Name) → Among v (form_plain f) → arrays_in f ≡ []
unfolding form_plain
plain_declares (assign t e) v a = refl
plain_declares (computed ns w) v a = refl
plain_declares (ifs e x y z) v a = refl
plain_declares (loop n w p₁ p₂ p₃) v a = refl
plain_declares (go_to _) v a = elim a [ ]
plain_declares continue v a = elim a [ ]
plain_declares stop v a = elim a [ ]
plain_declares end v a = elim a [ ]
plain_declares (dimension _) v a = elim a [ ]

module _ {house : House} {deck : List Statement} (accepted : Accepted house deck) where
  -- the arrays before a position are the first of the deck's
  first_arrays : (j : ℕ) → j ≤ length deck → (more : List Declared) × (arrays_of deck ≡ arrays_held (taken_before deck j).held ++ more)
  unfolding takes
  first_arrays j n = (h.0, sym (ap arrays_held (held_all deck) ∙ arrays_held_lem deck) ∙ h.1)
    where
      start : List Declared
      start = arrays_held (taken_before deck j).held

      More : Taken → Type 0
      More t = (more : List Declared) × (arrays_held t.held ≡ start ++ more)

      keeps : (i : ℕ) (s : Statement) → get_elem? deck i ≡ some s → More (taken_before deck i) → More (takes i s.form (taken_before deck i))
      keeps i s e m =
          let new = map declare (arrays_in s.form) in
          (m.0 ++ new, arrays_brings i s.form (taken_before deck i).held ∙ ap (λ (l : List Declared). l ++ new) m.1 ∙ append_assoc start m.0 new)

      h : More (taken_before deck (length deck))
      h = kept deck More keeps j (length deck) n ([], sym (append-nil start))

  -- ---- 16: elements

  pub element_means : (j : ℕ) (s : Statement) → get_elem? deck j ≡ some s → (e : Reference) → Among e (form_references s.form) → Means (arrays_of deck) e
  unfolding right16
  element_means j s at e a =
      let held = (taken_before deck j).held in
      let b = at_before deck j at in
      let r = all_among (right_reference held) (and_both (all (right_reference held) (form_references s.form)) _ (accepted.judged j s at).passes16).0 a in
      let f = first_arrays j (omega arith) in
      subst (λ (l : List Declared). Means l e) (sym f.1) (means_in held f.0 e r)

  -- ---- 15: arrays have cells, within the limit

  held_rows : (a : Declared) → Among a (arrays_held (taken_before deck (length deck)).held) → 1 ≤ a.dims.rows
  unfolding takes taken_before right15
  held_rows = kept deck Rows keeps 0 (length deck) (omega arith) (λ a h. absurd (among_none h))
    where
      Rows : Taken → Type 0
      Rows t = (a : Declared) → Among a (arrays_held t.held) → 1 ≤ a.dims.rows

      keeps : (i : ℕ) (s : Statement) → get_elem? deck i ≡ some s → Rows (taken_before deck i) → Rows (takes i s.form (taken_before deck i))
      keeps i s e m a h = go (among_append (arrays_held held) (map declare (arrays_in s.form)) (subst (Among a) (arrays_brings i s.form held) h))
        where
          held : List Held
          held = (taken_before deck i).held

          go : Among a (arrays_held held) ⊎ Among a (map declare (arrays_in s.form)) → 1 ≤ a.dims.rows
          go (inl b) = m a b
          go (inr b) =
              let c = among_map declare (arrays_in s.form) b in
              subst (λ (d : Declared). 1 ≤ d.dims.rows) (sym c.2) (rows_in house.array_may_end_in_f held (arrays_in s.form) (accepted.judged i s e).passes15 c.1)

  pub array_rows : (a : Declared) → Among a (arrays_of deck) → 1 ≤ a.dims.rows
  array_rows a h = held_rows a (subst (Among a) (sym (ap arrays_held (held_all deck) ∙ arrays_held_lem deck)) h)

  -- ---- an element's array, by its name

  means_dims : (j : ℕ) (s : Statement) → get_elem? deck j ≡ some s → (e : Reference) → Among e (form_references s.form) →
      (a : Declared) × Among a (arrays_of deck) × (dims_of deck e.name ≡ a.dims) × (right_count a.dims e.subscripts ≡ true)
  unfolding dims_of
  means_dims j s at e h = let m = element_means j s at e h in (m.array, m.among, m.dims, m.count)

  pub element_rows : (j : ℕ) (s : Statement) → get_elem? deck j ≡ some s → (e : Reference) → Among e (form_references s.form) → 1 ≤ (dims_of deck e.name).rows
  element_rows j s at e h = let m = means_dims j s at e h in subst (λ (d : Dims). 1 ≤ d.rows) (sym m.2) (array_rows m.0 m.1)

  pub element_count : (j : ℕ) (s : Statement) → get_elem? deck j ≡ some s → (e : Reference) → Among e (form_references s.form) →
      Counted (dims_of deck e.name) e.subscripts
  element_count j s at e h =
      let m = means_dims j s at e h in
      counted (dims_of deck e.name) e.subscripts (subst (λ (d : Dims). right_count d e.subscripts ≡ true) (sym m.2) m.3)

  -- ---- a plain name is no array's

  plain_first : (j : ℕ) (s : Statement) → get_elem? deck j ≡ some s → (v : Name) → Among v (form_plain s.form) →
      (a : Declared) → Among a (arrays_held (brings j s.form (taken_before deck j).held)) → same_name a.name v ≡ false
  unfolding right16
  plain_first j s at v p a h =
      let held = (taken_before deck j).held in
      let n = all_among (λ v. not (holds (is_array v) held)) (and_both (all (right_reference held) (form_references s.form)) _ (accepted.judged j s at).passes16).1 p in
      let same : arrays_held (brings j s.form held) ≡ arrays_held held =
      arrays_brings j s.form held ∙ ap (λ (l : List Array). arrays_held held ++ map declare l) (plain_declares s.form v p) ∙ append-nil (arrays_held held) in
      no_array v held (not-true (holds (is_array v) held) n) a (subst (Among a) same h)

  pub plain_named : (j : ℕ) (s : Statement) → get_elem? deck j ≡ some s → (v : Name) → Among v (form_plain s.form) →
      (a : Declared) → Among a (arrays_of deck) → same_name a.name v ≡ false
  unfolding takes right15
  plain_named j s at v p a h = last.1 a (subst (Among a) (sym (ap arrays_held (held_all deck) ∙ arrays_held_lem deck)) h)
    where
      Plain : Taken → Type 0
      Plain t = (holds (is_the_name v) t.held ≡ true) × ((a : Declared) → Among a (arrays_held t.held) → same_name a.name v ≡ false)

      keeps : (i : ℕ) (x : Statement) → get_elem? deck i ≡ some x → Plain (taken_before deck i) → Plain (takes i x.form (taken_before deck i))
      keeps i x e m = (brings_keeps (is_the_name v) i x.form held m.0, λ b g. go b (among_append (arrays_held held) (map declare (arrays_in x.form)) (subst (Among b) (arrays_brings i x.form held) g)))
        where
          held : List Held
          held = (taken_before deck i).held

          go : (b : Declared) → Among b (arrays_held held) ⊎ Among b (map declare (arrays_in x.form)) → same_name b.name v ≡ false
          go b (inl g) = m.1 b g
          go b (inr g) =
              let c = among_map declare (arrays_in x.form) g in
              subst (λ (d : Declared). same_name d.name v ≡ false) (sym c.2) (new_in house.array_may_end_in_f held (arrays_in x.form) (accepted.judged i x e).passes15 c.1 v m.0)

      first : Plain (taken_before deck (suc j))
      first =
          subst Plain (sym (before_next deck j s at)) (brings_names j s.form (taken_before deck j).held v p, plain_first j s at v p)

      last : Plain (taken_before deck (length deck))
      last = kept deck Plain keeps (suc j) (length deck) (at_before deck j at) first
