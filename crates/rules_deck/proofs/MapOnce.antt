-- The map of an accepted deck: each name stands in it once, as a plain name or an array, each array has a row, and each name is a statement's.
-- Assumes nothing.
use Prim.Native.Nat.{ℕ, suc, ◌≤◌}
use mathlib.Core.Path.{◌≡◌, refl, sym, ap, ◌∙◌, subst}
use mathlib.Core.Bool.{Bool, true, false, ◌||◌, not, cond, false≢true}
use mathlib.Core.Logic.{◌⊎◌, inl, inr}
use mathlib.Core.List.{List, [], ◌∷◌, ◌++◌, map, append-nil, append_assoc}
use mathlib.Core.Option.{none, some}
use lib.Dec.{leb}
use lib.ListN.{get_elem?, take}
use borrow.Author.Tests.{leb-true, not-true}
use Rattle.rules_shared.specs.House.{House}
use Rattle.rules_shared.specs.Lists.{all}
use Rattle.rules_text.specs.Trees.{Name, value_of, Array, Form, assign, go_to, computed, ifs, loop, continue, stop, end, dimension, Statement}
use Rattle.rules_deck.specs.Deck.{same_name, Declared, declare, arrays_in}
use Rattle.rules_deck.specs.Translation.{Held, name, array, hidden, is_the_name, is_array, holds, appear, form_plain, brings, held_from, held_of}
use Rattle.rules_deck.specs.Judge.{ends_in_f, seen, some_cells, right_arrays, right15, right_reference, form_references, right16, Taken, nothing_taken, takes}
use Rattle.rules_deck.specs.Accepted.{Among, here, there, taken_from, taken_before, Accepted}
use Rattle.rules_text.proofs.CardsLaws.{cases}
use Rattle.rules_text.proofs.Readers.{both_true}
use Rattle.rules_deck.proofs.Names.{same_name_lem}
use Rattle.rules_deck.proofs.TestLaws.{or_neither, all_among, among_none, among_append}
use Rattle.rules_deck.specs.Cells.{names_held}
use Rattle.rules_deck.proofs.MapNames.{names_append, among_kind, name_among, array_among, Distinct, none_yet, new, distinct_last, Full}

-- ---- once

pub record Once (held : List Held) : Type 0 where
  pub distinct : Distinct (names_held held)
  pub full : Full held

array_named : {a : Declared} (held : List Held) → Among (array a) held → Among a.name (names_held held)
array_named (array a ∷ held) here = here
array_named (name v ∷ held) (there i) = there (array_named held i)
array_named (array b ∷ held) (there i) = there (array_named held i)
array_named (hidden q ∷ held) (there i) = array_named held i
array_named {a = a} [] x' = elim x' [ ]

-- what has no name
once_quiet : (held more : List Held) → names_held more ≡ [] → Once held → Once (held ++ more)
once_quiet held more e o =
    record {
      distinct = subst Distinct (sym (names_append held more ∙ ap (λ (l : List Name). names_held held ++ l) e ∙ append-nil (names_held held))) o.distinct;
      full = record { rows = λ a i. go a (among_append held more i) };
    }
  where
    go : (a : Declared) → Among (array a) held ⊎ Among (array a) more → 1 ≤ a.dims.rows
    go a (inl i) = o.full.rows a i
    go a (inr i) = absurd (among_none (subst (λ (l : List Name). Among a.name l) e (array_named more i)))

unseen : (held : List Held) (v : Name) → holds (is_the_name v) held ≡ false → holds (is_array v) held ≡ false → Among v (names_held held) → ⊥
unseen held v e f a = go (among_kind held a)
  where
    go : (holds (is_the_name v) held ≡ true) ⊎ (holds (is_array v) held ≡ true) → ⊥
    go (inl p) = false≢true (sym e ∙ p)
    go (inr p) = false≢true (sym f ∙ p)

once_name : (held : List Held) (v : Name) → holds (is_the_name v) held ≡ false → holds (is_array v) held ≡ false → Once held → Once (held ++ (name v ∷ []))
once_name held v e f o =
    record {
      distinct = subst Distinct (sym (names_append held (name v ∷ []))) (distinct_last v o.distinct (unseen held v e f));
      full = record { rows = λ a i. go a (among_append held (name v ∷ []) i) };
    }
  where
    go : (a : Declared) → Among (array a) held ⊎ Among (array a) (name v ∷ []) → 1 ≤ a.dims.rows
    go a (inl i) = o.full.rows a i
    go a (inr (there i)) = absurd (among_none i)

once_array : (held : List Held) (b : Declared) → seen held b.name ≡ false → 1 ≤ b.dims.rows → Once held → Once (held ++ (array b ∷ []))
once_array held b e r o =
    let s = or_neither (holds (is_the_name b.name) held) (holds (is_array b.name) held) e in
    record {
      distinct = subst Distinct (sym (names_append held (array b ∷ []))) (distinct_last b.name o.distinct (unseen held b.name s.0 s.1));
      full = record { rows = λ a i. go a (among_append held (array b ∷ []) i) };
    }
  where
    go : (a : Declared) → Among (array a) held ⊎ Among (array a) (array b ∷ []) → 1 ≤ a.dims.rows
    go a (inl i) = o.full.rows a i
    go a (inr here) = r
    go a (inr (there x4)) = elim x4 [ ]

-- ---- one statement keeps it

holds_quiet : (test : Held → Bool) (held : List Held) (h : Held) → test h ≡ false → holds test (held ++ (h ∷ [])) ≡ holds test held
holds_quiet test [] h e = ap (λ (b : Bool). b || false) e
holds_quiet test (x ∷ held) h e = ap (λ (b : Bool). test x || b) (holds_quiet test held h e)

once_appear : (vs : List Name) (held : List Held) → ((v : Name) → Among v vs → holds (is_array v) held ≡ false) → Once held → Once (appear held vs)
once_appear [] held f o = o
once_appear (v ∷ vs) held f o =
    once_appear vs (cond (holds (is_the_name v) held) held (held ++ (name v ∷ [])))
    (λ w a. cases (λ l. holds (is_array w) l ≡ false) (holds (is_the_name v) held) held (held ++ (name v ∷ [])) (λ e. f w (there a))
    (λ e. holds_quiet (is_array w) held (name v) refl ∙ f w (there a)))
    (cases Once (holds (is_the_name v) held) held (held ++ (name v ∷ [])) (λ e. o) (λ e. once_name held v e (f v here) o))

some_rows : (a : Array) → some_cells a ≡ true → 1 ≤ (declare a).dims.rows
some_rows (Array.array v r none) e = leb-true 1 (value_of r) e
some_rows (Array.array v r (some c)) e = leb-true 1 (value_of r) (both_true (leb 1 (value_of r)) (leb 1 (value_of c)) e).0

once_arrays : (inF : Bool) (arrays : List Array) (held : List Held) → right_arrays inF held arrays ≡ true → Once held → Once (held ++ map (λ a. array (declare a)) arrays)
once_arrays inF [] held e o = once_quiet held [] refl o
once_arrays inF (a ∷ arrays) held e o =
    let x = both_true (some_cells a) _ e in
    let y = both_true (not (seen held (declare a).name)) _ x.1 in
    let z = both_true (inF || not (ends_in_f (declare a).name)) _ y.1 in
    subst Once (append_assoc held (array (declare a) ∷ []) (map (λ a. array (declare a)) arrays))
    (once_arrays inF arrays (held ++ (array (declare a) ∷ [])) z.1 (once_array held (declare a) (not-true _ y.0) (some_rows a x.0) o))

once_brings : (house : House) (q : ℕ) (f : Form) (held : List Held) → right15 house held f ≡ true → right16 held f ≡ true → Once held → Once (brings q f held)
unfolding right15 right16 form_plain
once_brings house q f held e g o = go f (once_appear (form_plain f) held (λ v a. not-true _ (all_among (λ v. not (holds (is_array v) held)) (both_true (all (right_reference held) (form_references f)) _ g).1 a)) o) e
  where
    go : (f : Form) → Once (appear held (form_plain f)) → right_arrays house.array_may_end_in_f held (arrays_in f) ≡ true → Once (brings q f held)
    go (assign t x) p r = once_quiet _ [] refl p
    go (go_to n) p r = once_quiet _ [] refl p
    go (computed ns v) p r = once_quiet _ [] refl p
    go (ifs x a b c) p r = once_quiet _ [] refl p
    go (loop n v p₁ p₂ p₃) p r = once_quiet _ (hidden q ∷ []) refl p
    go continue p r = once_quiet _ [] refl p
    go stop p r = once_quiet _ [] refl p
    go end p r = once_quiet _ [] refl p
    go (dimension arrays) p r = once_arrays house.array_may_end_in_f arrays held r p

-- ---- a deck's

taken_held : (q : ℕ) (deck : List Statement) (t : Taken) → (taken_from q deck t).held ≡ held_from q deck t.held
unfolding takes
taken_held q [] t = refl
taken_held q (s ∷ deck) t = taken_held (suc q) deck (takes q s.form t)

-- the map before position q
pub before_held : (deck : List Statement) (q : ℕ) → (taken_before deck q).held ≡ held_from 0 (take q deck) []
unfolding taken_before
before_held deck q = taken_held 0 (take q deck) nothing_taken

-- each statement from position q on passes 15 and 16
record Passing (house : House) (q : ℕ) (deck : List Statement) (held : List Held) : Type 0 where
  at : (j : ℕ) (s : Statement) → get_elem? deck j ≡ some s → (right15 house (held_from q (take j deck) held) s.form ≡ true) × (right16 (held_from q (take j deck) held) s.form ≡ true)

once_from : (house : House) (q : ℕ) (deck : List Statement) (held : List Held) → Passing house q deck held → Once held → Once (held_from q deck held)
once_from house q [] held p o = o
once_from house q (s ∷ deck) held p o =
    let e = p.at 0 s refl in
    once_from house (suc q) deck (brings q s.form held) (record { at = λ j t f. p.at (suc j) t f }) (once_brings house q s.form held e.0 e.1 o)

pub once_held : (house : House) (deck : List Statement) → Accepted house deck → Once (held_of deck)
unfolding held_of
once_held house deck c = once_from house 0 deck [] (record { at = at }) (record { distinct = none_yet; full = record { rows = λ a i. absurd (among_none i) } })
  where
    at : (j : ℕ) (s : Statement) → get_elem? deck j ≡ some s → (right15 house (held_from 0 (take j deck) []) s.form ≡ true) × (right16 (held_from 0 (take j deck) []) s.form ≡ true)
    at j s e =
        let i = c.judged j s e in
        subst (λ (l : List Held). (right15 house l s.form ≡ true) × (right16 l s.form ≡ true)) (before_held deck j) (i.passes15, i.passes16)

-- no name is both
both_kinds : (held : List Held) (v : Name) → Distinct (names_held held) → holds (is_the_name v) held ≡ true → holds (is_array v) held ≡ true → ⊥
both_kinds [] v d e f = false≢true e
both_kinds (name w ∷ held) v (new n d) e f = go (same_name w v) refl e (λ q. both_kinds held v d q f)
  where
    go : (b : Bool) → same_name w v ≡ b → (b || holds (is_the_name v) held) ≡ true → (holds (is_the_name v) held ≡ true → ⊥) → ⊥
    go true p q r = n (subst (λ (x : Name). Among x (names_held held)) (sym (same_name_lem w v p)) (array_among held v f))
    go false p q r = r q
both_kinds (array a ∷ held) v (new n d) e f = go (same_name a.name v) refl f (λ q. both_kinds held v d e q)
  where
    go : (b : Bool) → same_name a.name v ≡ b → (b || holds (is_array v) held) ≡ true → (holds (is_array v) held ≡ true → ⊥) → ⊥
    go true p q r = n (subst (λ (x : Name). Among x (names_held held)) (sym (same_name_lem a.name v p)) (name_among held v e))
    go false p q r = r q
both_kinds (hidden q ∷ held) v d e f = both_kinds held v d e f

pub never_both : (house : House) (deck : List Statement) → Accepted house deck → (v : Name) → holds (is_the_name v) (held_of deck) ≡ true → holds (is_array v) (held_of deck) ≡ true → ⊥
never_both house deck c v e f = both_kinds (held_of deck) v (once_held house deck c).distinct e f
