-- The laws of judging a whole deck: 1, 2, card by card, 7.
-- Assumes nothing.
use Prim.Native.Nat.{ℕ, ◌%◌, ◌≤◌, ◌<◌}
use mathlib.Core.Path.{◌≡◌, refl, sym, ap, ◌∙◌, subst}
use mathlib.Core.Bool.{Bool, true, false, ◌&&◌}
use mathlib.Core.List.{List}
use native.Mathlib.Omega.{arith}
use lib.ListN.{length}
use borrow.Author.Tests.{le-leb, lt-leb, ne_eqb}
use Rattle.rules_shared.specs.House.{house1401}
use Rattle.rules_text.specs.Cards.{cards_of, nothing_read, Carded, cards_refused, card_by_card, right_digits, right_length, counted, carded}
use Rattle.std.specs.Prelude.{Result, Ok, Err}
use Rattle.std.specs.Result.{IsErrAnd}
use Rattle.refusals.specs.declared.Reason.{Reason}
use Rattle.refusals.specs.declared.Refusal.{Refusal}
use Rattle.refusals.specs.Numbers.{number_of}
use Rattle.read_cards.specs.declared.Sequence.{Sequence}
use Rattle.read_deck_cards.specs.Judging.{Judges}

and_no : (a : Bool) → (a && false) ≡ false
and_no true = refl
and_no false = refl

-- by a reason that has no place
pub whole_deck : {c : Carded} {r : Refusal} (reason : Reason) → r ≡ record { reason = reason; place = 0; kind = 0 } → c ≡ cards_refused (number_of reason) 0 → Judges c (Err r)
whole_deck {c} reason e h = subst (λ (x : Refusal). Judges c (Err x)) (sym e) (h, refl)

-- by what the cards are refused by
pub passed_on : {c : Carded} (r : Refusal) (o : Result Sequence Refusal) → IsErrAnd o (λ e. e ≡ r) → Judges c (Err r) → Judges c o
passed_on r (Ok last) e h = absurd e
passed_on {c} r (Err s) e h = subst (λ (x : Refusal). Judges c (Err x)) (sym e) h

module _ (k : ℕ) (deck : List ℕ) where
  refused_1 : right_digits (house1401 k) ≡ false → carded (house1401 k) deck ≡ cards_refused 1 0
  unfolding carded
  refused_1 e = simp e

  pub digits_below : k < 1 → carded (house1401 k) deck ≡ cards_refused 1 0
  unfolding right_digits
  digits_below h = refused_1 (simp (lt-leb 1 k h))

  pub digits_above : 9 < k → carded (house1401 k) deck ≡ cards_refused 1 0
  unfolding right_digits
  digits_above h = refused_1 (simp (lt-leb k 9 h, and_no))

  module _ (low : 1 ≤ k) (high : k ≤ 9) where
    digits_right : right_digits (house1401 k) ≡ true
    unfolding right_digits
    digits_right = simp (le-leb 1 k low, le-leb k 9 high)

    refused_2 : right_length deck ≡ false → carded (house1401 k) deck ≡ cards_refused 2 0
    unfolding carded
    refused_2 e = simp (digits_right, e)

    pub length_none : length deck < 1 → carded (house1401 k) deck ≡ cards_refused 2 0
    unfolding right_length
    length_none h = refused_2 (simp (lt-leb 1 (length deck) h))

    pub length_broken : (length deck % 80 ≡ 0 → ⊥) → carded (house1401 k) deck ≡ cards_refused 2 0
    unfolding right_length
    length_broken h = refused_2 (simp (ne_eqb (length deck % 80) 0 h, and_no))

    pub length_above : 40960 < length deck → carded (house1401 k) deck ≡ cards_refused 2 0
    unfolding right_length
    length_above h = refused_2 (simp (lt-leb (length deck) 40960 h, and_no))

    module _ (some : 1 ≤ length deck) (whole : length deck % 80 ≡ 0) (most : length deck ≤ 40960) where
      abbrev all : Carded
      all = card_by_card (house1401 k) 1 nothing_read (cards_of deck)

      right : carded (house1401 k) deck ≡ counted all
      unfolding carded right_length
      right = simp (digits_right, le-leb 1 (length deck) some, whole, le-leb (length deck) 40960 most)

      pub deck_refused : (r : Refusal) → Judges all (Err r) → Judges (carded (house1401 k) deck) (Err r)
      deck_refused r e = (right ∙ ap counted e.0, e.1)

      pub deck_over : (s : Sequence) → Judges all (Ok s) → 400 < s.0 → carded (house1401 k) deck ≡ cards_refused 7 0
      deck_over s e h =
          let m : 400 < length e.0 = omega (arith, e.2) in
          right ∙ ap counted e.1 ∙ simp (lt-leb (length e.0) 400 m)

      pub deck_within : (s : Sequence) → Judges all (Ok s) → s.0 ≤ 400 → Judges (carded (house1401 k) deck) (Ok s)
      deck_within s e h =
          let m : length e.0 ≤ 400 = omega (arith, e.2) in
          (e.0, right ∙ ap counted e.1 ∙ simp (le-leb (length e.0) 400 m), e.2)
