-- Where FORMATs begin, their fields, and whether an I is among them, a word at a time.
-- Assumes nothing.
use mathlib.Core.Path.{◌≡◌, refl, sym, ap, ◌∙◌}
use Prim.Native.Nat.{ℕ, zero, suc, ◌+◌, ◌-◌, ◌≤◌, ◌<◌}
use native.Mathlib.Numerals.{add-one}
use native.Mathlib.Omega.{arith}
use mathlib.Core.Bool.{Bool, true, false, ◌&&◌, ◌||◌, cond}
use mathlib.Core.List.{List}
use lib.Dec.{ltb, leb, eqb}
use lib.ListN.{length, drop, drop_of_length-le}
use lib.Seq.{drop-cons}
use borrow.Author.Tests.{eq-eqb, ne_eqb}
use Rattle.rules_formats.specs.Words.{word_kind, word_operand, is_end}
use Rattle.rules_object.specs.Object.{Object}
use Rattle.rules_object.specs.Check.{right_field, format_word, format_start, right_format, has_number}
use Rattle.rules_object.specs.Operations.{format_right}

-- ---- where FORMATs begin

module _ (o : Object) where
  pub begins_next : (i : ℕ) → is_end (format_word o i) ≡ true → i + 1 ≡ format_start o (i + 1)
  begins_next i e = rw (add-one i, e)

  pub goes_on : (i : ℕ) → is_end (format_word o i) ≡ false → format_start o i ≡ format_start o (i + 1)
  goes_on i e = rw (add-one i, e)

  pub start_low : (i : ℕ) → format_start o i ≤ i
  start_low zero = omega arith
  start_low (suc i) = go (is_end (format_word o i)) (start_low i)
    where
      go : (t : Bool) → format_start o i ≤ i → cond t (suc i) (format_start o i) ≤ suc i
      go true h = omega arith
      go false h = omega arith

  -- but for the first word of all, a FORMAT begins exactly after an end
  pub begins_after : (i : ℕ) → (i ≡ 0 → ⊥) → is_end (format_word o (i - 1)) ≡ eqb (format_start o i) i
  begins_after zero h = absurd (h refl)
  begins_after (suc i) h =
      let p : suc i - 1 ≡ i = omega arith in
      ap (λ j. is_end (format_word o j)) p ∙ go (is_end (format_word o i))
    where
      go : (t : Bool) → t ≡ eqb (cond t (suc i) (format_start o i)) (suc i)
      go true = sym (eq-eqb (suc i) (suc i) refl)
      go false = sym (ne_eqb (format_start o i) (suc i) (λ q. absurd (omega (arith, start_low i))))

  -- ---- one word

  pub end_says : (i start back : ℕ) → is_end (format_word o i) ≡ true → start ≡ format_start o i → back ≡ word_operand (format_word o i) → (leb start back && ltb back i) ≡ right_format o i
  unfolding right_format
  end_says i start back e s b = rw (e, s, b)

  pub field_says : (i n : ℕ) (t : Bool) → is_end (format_word o i) ≡ false → t ≡ right_field (word_kind (format_word o i)) (word_operand (format_word o i)) → length o.formats ≡ n
      → (t && ltb (i + 1) n) ≡ right_format o i
  unfolding right_format
  field_says i n t e q l = rw (e, q, l, add-one i)

-- ---- all words of a FORMAT

module _ (o : Object) (i : ℕ) (h : i < length o.formats) where
  whole_step : format_right o i (drop i o.formats) ≡ (right_format o i && (is_end (format_word o i) || format_right o (suc i) (drop (suc i) o.formats)))
  whole_step = ap (format_right o i) (drop-cons o.formats i 0 h)

  pub whole_bad : right_format o i ≡ false → format_right o i (drop i o.formats) ≡ false
  whole_bad q = whole_step ∙ rw q

  pub whole_end : right_format o i ≡ true → is_end (format_word o i) ≡ true → format_right o i (drop i o.formats) ≡ true
  whole_end q e = whole_step ∙ rw (q, e)

  pub whole_more : right_format o i ≡ true → is_end (format_word o i) ≡ false → format_right o i (drop i o.formats) ≡ format_right o (i + 1) (drop (i + 1) o.formats)
  whole_more q e = whole_step ∙ rw (q, e, add-one i)

pub whole_none : (o : Object) (i : ℕ) → length o.formats ≤ i → format_right o i (drop i o.formats) ≡ true
whole_none o i h = ap (format_right o i) (drop_of_length-le o.formats {i = i} h)

-- ---- an I among the fields

pub number_none : (words : List ℕ) (i : ℕ) → length words ≤ i → has_number (drop i words) ≡ false
number_none words i h = ap has_number (drop_of_length-le words {i = i} h)
