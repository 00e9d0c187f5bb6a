-- The operands of a form that passed 11, 12 and 16 have their cells in the table, once its plain names are taken.
-- Assumes nothing.
use mathlib.Core.Path.{◌≡◌, sym, ◌∙◌, subst}
use Prim.Native.Nat.{ℕ}
use native.Mathlib.Omega.{arith}
use mathlib.Core.Logic.{◌⊎◌, inl, inr}
use mathlib.Core.Bool.{Bool, true, false, cond, false≢true}
use mathlib.Core.List.{List, [], ◌∷◌, ◌++◌, map}
use mathlib.Core.Option.{some}
use Rattle.rules_shared.specs.House.{House}
use Rattle.rules_shared.specs.Lists.{all, Each}
use Rattle.rules_shared.proofs.EachLaws.{each_map}
use Rattle.rules_text.specs.Trees.{Name, Digits, value_of, Form, form_names, form_constants}
use Rattle.rules_text.specs.Cards.{right_digits}
use Rattle.rules_text.specs.Grammar.{form_of}
use Rattle.rules_deck.specs.Deck.{same_name, declare, arrays_in}
use Rattle.rules_deck.specs.Translation.{Held, name, array, hidden, is_the_name, holds, appear, form_plain, hidden_in, brings}
use Rattle.rules_deck.specs.Judge.{right11, right12, Reference, right_count, right_reference, right16}
use Rattle.rules_deck.specs.Lawful.{Lawful}
use Rattle.rules_deck.specs.Accepted.{Among}
use Rattle.rules_text.proofs.Readers.{both_true}
use Rattle.rules_deck.proofs.TestLaws.{all_among, among_left, among_right}
use Rattle.rules_deck.proofs.ArrayLaws.{holds_left}
use Rattle.rules_deck.proofs.DeckCells.{grown_appear, appear_has}
use Rattle.rules_deck.proofs.BodySeven.{each_here}
use Rattle.rules_deck.proofs.RightDeck.{each_among}
use Rattle.take_draft.specs.Parts.{Item, items_plain, items_references, right_items, form_first, form_items}
use Rattle.take_draft.specs.Names.{Told, Exact, Known}
use Rattle.take_draft.proofs.FormLaws.{form_plain_both, form_right16, first_names, items_names_lem, first_constants, items_constants_lem}
use Rattle.take_draft.proofs.ReadForm.{read_told, read_exact}

-- ---- a table that grows at its end

pub reference_grows : (held more : List Held) (r : Reference) → right_reference held r ≡ true → right_reference (held ++ more) r ≡ true
reference_grows [] more r e = absurd (false≢true e)
reference_grows (name v ∷ held) more r e = reference_grows held more r e
reference_grows (array a ∷ held) more r e = go (same_name a.name r.name) e (reference_grows held more r)
  where
    go : (b : Bool) → cond b (right_count a.dims r.subscripts) (right_reference held r) ≡ true → (right_reference held r ≡ true → right_reference (held ++ more) r ≡ true)
        → cond b (right_count a.dims r.subscripts) (right_reference (held ++ more) r) ≡ true
    go true i f = i
    go false i f = f i
reference_grows (hidden q ∷ held) more r e = reference_grows held more r e

pub known_grows : {held : List Held} {is : List Item} (more : List Held) → Known held is → Known (held ++ more) is
known_grows {held} {is} more w =
    record {
      told = w.told;
      exact = w.exact;
      plains = each_map (λ v e. holds_left (is_the_name v) held more e) w.plains;
      arrays = each_map (λ r e. reference_grows held more r e) w.arrays;
    }

-- ---- what passed

exact_one : Exact (49 ∷ [])
unfolding value_of
exact_one = omega arith

module _ {house : House} (lawful : Lawful house) (text : List ℕ) (f : Form) (held : List Held) (r : form_of text ≡ some f) (d : right_digits house ≡ true) (right : right11 house f ≡ true) (right' : right12 house f ≡ true)
    (right'' : right16 held f ≡ true) where
  told : Each Told (form_names f)
  told = read_told lawful text f r right

  exact : Each Exact (form_constants f)
  exact = read_exact lawful text f r d right'

  both16 : (right_items held (form_first f) ≡ true) × (right_items held (form_items f) ≡ true)
  both16 = both_true (right_items held (form_first f)) (right_items held (form_items f)) (sym (form_right16 held f) ∙ right'')

  taken : (v : Name) → Among v (items_plain (form_first f) ++ items_plain (form_items f)) → holds (is_the_name v) (appear held (form_plain f)) ≡ true
  taken v a = appear_has (form_plain f) held (subst (Among v) (sym (form_plain_both f)) a)

  refers : (is : List Item) → right_items held is ≡ true → (e : Reference) → Among e (items_references is) → right_reference (appear held (form_plain f)) e ≡ true
  refers is t e a =
      let g = grown_appear (form_plain f) held in
      let p = all_among (right_reference held) (both_true (all (right_reference held) (items_references is)) _ t).0 a in
      subst (λ (l : List Held). right_reference l e ≡ true) (sym g.is) (reference_grows held g.more e p)

  pub known_first : Known (appear held (form_plain f)) (form_first f)
  known_first =
      record {
        told = each_among _ (λ v a. each_here told (first_names f a));
        exact = each_among _ (λ c a. each_here exact (first_constants f a));
        plains = each_among _ (λ v a. taken v (among_left (items_plain (form_items f)) a));
        arrays = each_among _ (refers (form_first f) both16.0);
      }

  exact_item : (c : Digits) → Among c (form_constants f) ⊎ (c ≡ 49 ∷ []) → Exact c
  exact_item c (inl a) = each_here exact a
  exact_item c (inr e) = subst Exact (sym e) exact_one

  pub known_items : Known (appear held (form_plain f)) (form_items f)
  known_items =
      record {
        told = each_among _ (λ v a. each_here told (items_names_lem f a));
        exact = each_among _ (λ c a. exact_item c (items_constants_lem f a));
        plains = each_among _ (λ v a. taken v (among_right (items_plain (form_first f)) a));
        arrays = each_among _ (refers (form_items f) both16.1);
      }

  -- with what else the statement at position q brings
  pub brings_first : (q : ℕ) → Known (brings q f held) (form_first f)
  brings_first q = known_grows (hidden_in q f ++ map (λ a. array (declare a)) (arrays_in f)) known_first

  pub brings_items : (q : ℕ) → Known (brings q f held) (form_items f)
  brings_items q = known_grows (hidden_in q f ++ map (λ a. array (declare a)) (arrays_in f)) known_items
