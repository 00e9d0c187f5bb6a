-- 20 to 22 on the rows are the book's.
-- Assumes nothing.
use mathlib.Core.Path.{◌≡◌, refl, sym, ap, ◌∙◌}
use Prim.Native.Nat.{ℕ, suc, ◌+◌, ◌*◌, ◌<◌}
use native.Mathlib.Numerals.{add-one}
use native.Mathlib.Omega.{arith}
use mathlib.Core.Bool.{Bool, true, false, ◌&&◌, ◌||◌, not, cond}
use mathlib.Core.List.{List, [], ◌∷◌, ◌++◌}
use mathlib.Core.Option.{Option, none, some}
use lib.Dec.{eqb, ltb, eqb-suc-suc}
use lib.ListN.{length, get_or, take}
use borrow.Author.Tests.{ltb-false, ne_eqb}
use Rattle.rules_shared.specs.Refusals.{or_else}
use Rattle.rules_text.specs.Trees.{value_of, Form, assign, go_to, computed, ifs, loop, continue, stop, end, dimension, Statement, form_exits, form_last}
use Rattle.rules_deck.specs.Deck.{position_of}
use Rattle.rules_deck.specs.Whole.{first_wrong, is_end, ends_well, refused20, is_dimension, right21, right22}
use Rattle.take_draft.specs.Draft.{kind_of}
use Rattle.take_draft.specs.Sketch.{deck_rows, deck_jumps}
use Rattle.read_cards.specs.declared.Number.{Number}
use Rattle.whole_tables.specs.Rows.{start_of}
use Rattle.whole_tables.specs.Tables.{number_in, NumbersOf}
use Rattle.whole_numbers.specs.Numbers.{all_from, first_from, others, place_of, end_right, last_ends, misplaced_end, own_right, number_right, found, known, jumps_known}
use Rattle.whole_deck.proofs.ByIndex.{placed, all_by, first_zero, place_zero, all_map}
use Rattle.whole_deck.proofs.Rows.{statement_at, jumps_of, number_is, kind_is, many_is, jump_is, jump_inside}

end_kind : (f : Form) → is_end f ≡ eqb (kind_of f) 7
end_kind (assign t e) = refl
end_kind (go_to n) = refl
end_kind (computed ns v) = refl
end_kind (ifs e a b c) = refl
end_kind (loop n v p q r) = refl
end_kind continue = refl
end_kind stop = refl
end_kind end = refl
end_kind (dimension arrays) = refl

dimension_kind : (f : Form) → is_dimension f ≡ eqb (kind_of f) 8
dimension_kind (assign t e) = refl
dimension_kind (go_to n) = refl
dimension_kind (computed ns v) = refl
dimension_kind (ifs e a b c) = refl
dimension_kind (loop n v p q r) = refl
dimension_kind continue = refl
dimension_kind stop = refl
dimension_kind end = refl
dimension_kind (dimension arrays) = refl

last_form : (s : Statement) (deck : List Statement) → ends_well (s ∷ deck) ≡ is_end (statement_at (s ∷ deck) (length deck)).form
last_form s [] = refl
last_form s (t ∷ deck) = last_form t deck

ends_is : (deck : List Statement) (rows : List ℕ) (count : ℕ) → count ≡ length deck → take (5 * count) rows ≡ deck_rows deck → ends_well deck ≡ last_ends rows count
ends_is [] rows count many are = rw many
ends_is (s ∷ deck) rows count many are =
    let k = kind_is (s ∷ deck) rows count many are (length deck) (omega arith) in
    rw many (last_form s deck ∙ end_kind (statement_at (s ∷ deck) (length deck)).form ∙ ap (λ (n : ℕ). eqb n 7) (sym k))

-- the first with its number, by place and by position
own_is : (position count q kind : ℕ) → q < count → own_right (placed position count) (suc q) kind ≡ (eqb position q && (not (eqb kind 8) && not (eqb kind 7)))
own_is position count q kind h = by (ltb position count) refl
  where
    by : (b : Bool) → ltb position count ≡ b → own_right (cond b (some (suc position)) none) (suc q) kind ≡ (eqb position q && (not (eqb kind 8) && not (eqb kind 7)))
    by true e = rw (eqb-suc-suc position q)
    by false e =
        let l = ltb-false position count e in
        rw (ne_eqb position q (λ z. omega arith))

found_is : (position count : ℕ) → found (placed position count) ≡ ltb position count
found_is position count = by (ltb position count)
  where
    by : (b : Bool) → found (cond b (some (suc position)) none) ≡ b
    by true = refl
    by false = refl

module _ (deck : List Statement) (rows : List ℕ) (count : ℕ) (many : count ≡ length deck) (are : take (5 * count) rows ≡ deck_rows deck) where
  inside : (q : ℕ) → q < length deck → q < count
  inside q h = omega arith

  -- 20
  end_is : (q : ℕ) → q < length deck → end_right rows count q ≡ (not (is_end (statement_at deck q).form) || eqb (suc q) (length deck))
  unfolding end_right
  end_is q h = rw (kind_is deck rows count many are q (inside q h), end_kind (statement_at deck q).form, add-one q, many)

  pub refused20_is : misplaced_end rows count ≡ refused20 deck
  unfolding misplaced_end refused20
  refused20_is =
      let f = first_zero (λ q s. not (is_end s.form) || eqb (suc q) (length deck)) deck (end_right rows count) end_is in
      let e = ends_is deck rows count many are in
      sym (ap (λ (o : Option ℕ). or_else o (cond (ends_well deck) none (some (length deck)))) f ∙ (rw (e, ← many)))

  -- with the numbers in a table of their own
  module _ (numbers : List Number) (table : NumbersOf rows count numbers) where
    number_in_lem : (q : ℕ) → q < length deck → number_in numbers q ≡ (statement_at deck q).number
    number_in_lem q h = table.are q (inside q h) ∙ number_is deck rows count many are q (inside q h)

    pub place_is : (n : ℕ) → place_of numbers count n ≡ placed (position_of deck n) (length deck)
    unfolding place_of others
    place_is n = rw many (place_zero deck n (λ q. not (eqb (number_in numbers q) n)) (λ q h. ap (λ (m : ℕ). not (eqb m n)) (number_in_lem q h)))

    -- 21
    right21_is : (q : ℕ) → q < length deck → number_right rows numbers count q ≡ right21 deck q (statement_at deck q)
    unfolding number_right right21
    right21_is q h =
        rw (
          place_is (number_in numbers q),
          kind_is deck rows count many are q (inside q h),
          number_in_lem q h,
          end_kind (statement_at deck q).form,
          dimension_kind (statement_at deck q).form,
          own_is (position_of deck (statement_at deck q).number) (length deck) q (kind_of (statement_at deck q).form) h,
        )

    pub first21_is : first_from (number_right rows numbers count) suc count 0 ≡ first_wrong (right21 deck) 0 deck
    first21_is = sym (first_zero (right21 deck) deck (number_right rows numbers count) right21_is ∙ ap (λ (n : ℕ). first_from (number_right rows numbers count) suc n 0) (sym many))

    -- 22
    module _ (jumps : List Number) (here : (k : ℕ) → k < length (deck_jumps deck) → number_in jumps k ≡ get_or (deck_jumps deck) k 0) where
      right22_is : (q : ℕ) → q < length deck → jumps_known rows numbers count jumps q ≡ right22 deck q (statement_at deck q)
      unfolding jumps_known known right22
      right22_is q h =
          let test : ℕ → Bool = λ n. ltb (position_of deck n) (length deck) in
          let l = form_exits (statement_at deck q).form ++ form_last (statement_at deck q).form in
          let a = all_by test (jumps_of deck q) 0 (known numbers count jumps) (start_of rows q) (λ k g. told k g) in
          sym (sym (all_map test value_of l) ∙ a ∙ ap (λ (n : ℕ). all_from (known numbers count jumps) n (start_of rows q)) (sym (many_is deck rows count many are q (inside q h))))
        where
          told : (k : ℕ) → k < length (jumps_of deck q) → known numbers count jumps (start_of rows q + k) ≡ ltb (position_of deck (get_or (jumps_of deck q) k 0)) (length deck)
          told k g =
              rw (
                here (start_of rows q + k) (jump_inside deck rows count many are q k (inside q h) g),
                jump_is deck rows count many are q k (inside q h) g,
                place_is (get_or (jumps_of deck q) k 0),
              ) (found_is (position_of deck (get_or (jumps_of deck q) k 0)) (length deck))

      pub first22_is : first_from (jumps_known rows numbers count jumps) suc count 0 ≡ first_wrong (right22 deck) 0 deck
      first22_is = sym (first_zero (right22 deck) deck (jumps_known rows numbers count jumps) right22_is ∙ ap (λ (n : ℕ). first_from (jumps_known rows numbers count jumps) suc n 0) (sym many))
