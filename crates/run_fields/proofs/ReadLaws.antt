-- Reading column by column: each step of the code's loops keeps what the columns left are to give.
-- Assumes nothing.
use mathlib.Core.Path.{◌≡◌, refl, sym, ap, ◌∙◌}
use mathlib.Core.Bool.{Bool, true, false, cond}
use mathlib.Core.List.{List, [], ◌∷◌}
use Rattle.std.specs.Prelude.{Option, Some, None}
use mathlib.Core.Option as book
use Prim.Native.Nat.{ℕ, zero, suc, ◌+◌, ◌-◌, ◌*◌, ◌^◌, ◌≤◌, ◌<◌}
use native.Mathlib.Omega.{arith}
use Rattle.std.proofs.lemmas.Int.{ints}
use mir.Syntax.{w64}
use mir.Val.{to_z, of_z}
use Rattle.std.specs.Prelude.{◌-ℤ◌, ◌≤ℤ◌, ◌<ℤ◌}
use native.Mathlib.Numerals.{add-one}
use borrow.Author.Tests.{lt-ltb, le-ltb, ltb-true, eq-eqb, ne_eqb}
use lib.Dec.{ltb, eqb}
use mathlib.Core.Logic.{◌⊎◌, inl, inr}
use lib.ListN.{length, take, drop, get_or, length-drop, drop_of_length-le}
use lib.Seq.{drop-cons, take_all}
use lib.IntN.{ℤ, pos, neg_ℤ, nat_abs}
use Rattle.rules_formats.specs.Fields.{is_blank, is_digit, is_minus, is_plus, zeros, digits, magnitude, plus, minus, number, within, field_read}
use Rattle.run_fields.specs.Read.{below, whole, read_of}

-- ---- the column at i, and those after it

split : (s : List ℕ) (i : ℕ) → i < length s → drop i s ≡ get_or s i 0 ∷ drop (i + 1) s
split s i h = drop-cons s i 0 h ∙ ap (λ (k : ℕ). get_or s i 0 ∷ drop k s) (sym (add-one i))

over : (s : List ℕ) (i : ℕ) → length s ≤ i → drop i s ≡ []
over s i h = drop_of_length-le s h

-- the columns from i on, as code lends them
lent : (s : List ℕ) (i : ℕ) → take (length s - i) (drop i s) ≡ drop i s
lent s i = take_all (length s - i) (drop i s) (omega (arith, length-drop i s))

-- ---- the ceiling

-- what the code makes of a magnitude after a minus
abbrev pub negated : Option ℤ → Option ℤ
negated None = None
negated (Some v) = Some (neg_ℤ v)

module _ (ceiling : ℕ) where
  -- once the ceiling is reached it stays so
  zeros_big : (n : ℕ) (cs : List ℕ) → ceiling ≤ n → below ceiling (zeros n cs) ≡ None
  zeros_big n [] h = ap (λ (b : Bool). cond b (Some n) None) (le-ltb n ceiling h)
  zeros_big n (c ∷ cs) h = go (is_blank c) (zeros_big (n * 10) cs (omega arith))
    where
      go : (b : Bool) → below ceiling (zeros (n * 10) cs) ≡ None → below ceiling (cond b (zeros (n * 10) cs) book.none) ≡ None
      go true e = e
      go false e = refl

  digits_big : (n : ℕ) (cs : List ℕ) → ceiling ≤ n → below ceiling (digits n cs) ≡ None
  digits_big n [] h = ap (λ (b : Bool). cond b (Some n) None) (le-ltb n ceiling h)
  digits_big n (c ∷ cs) h = go (is_digit c) (digits_big (n * 10 + (c - 48)) cs (omega arith))
    where
      go : (b : Bool) → below ceiling (digits (n * 10 + (c - 48)) cs) ≡ None → below ceiling (cond b (digits (n * 10 + (c - 48)) cs) (zeros n (c ∷ cs))) ≡ None
      go true e = e
      go false e = zeros_big n (c ∷ cs) h

  module _ (s : List ℕ) (i : ℕ) (v : ℕ) (h : i < length s) where
    pub zeros_over : get_or s i 0 ≡ 32 → ceiling ≤ v * 10 → below ceiling (zeros v (drop i s)) ≡ None
    zeros_over e b = ap (λ (l : List ℕ). below ceiling (zeros v l)) (split s i h) ∙ ap (λ (b : Bool). below ceiling (cond b (zeros (v * 10) (drop (i + 1) s)) book.none)) (eq-eqb _ 32 e) ∙ zeros_big (v * 10) (drop (i + 1) s) b

    pub digits_over : is_digit (get_or s i 0) ≡ true → ceiling ≤ v * 10 + (get_or s i 0 - 48) → below ceiling (digits v (drop i s)) ≡ None
    digits_over e b =
        ap (λ (l : List ℕ). below ceiling (digits v l)) (split s i h)
        ∙ ap (λ (b : Bool). below ceiling (cond b (digits (v * 10 + (get_or s i 0 - 48)) (drop (i + 1) s)) (zeros v (get_or s i 0 ∷ drop (i + 1) s)))) e
        ∙ digits_big (v * 10 + (get_or s i 0 - 48)) (drop (i + 1) s) b

  -- ---- signs

  of_plus : (o : book.Option ℕ) → whole (below ceiling o) ≡ read_of (within ceiling (plus o))
  unfolding read_of
  of_plus book.none = refl
  of_plus (book.some n) = go (ltb n ceiling)
    where
      go : (b : Bool) → whole (cond b (Some n) None) ≡ read_of (cond b (book.some (pos n)) book.none)
      go true = refl
      go false = refl

  of_minus : (o : book.Option ℕ) → negated (whole (below ceiling o)) ≡ read_of (within ceiling (minus o))
  unfolding read_of
  of_minus book.none = refl
  of_minus (book.some n) = go (ltb n ceiling) ∙ ap (λ (m : ℕ). read_of (cond (ltb m ceiling) (book.some (neg_ℤ (pos n))) book.none)) (sym (abs_neg_pos n))
    where
      abs_neg_pos : (m : ℕ) → nat_abs (neg_ℤ (pos m)) ≡ m
      abs_neg_pos zero = refl
      abs_neg_pos (suc m) = refl

      go : (b : Bool) → negated (whole (cond b (Some n) None)) ≡ read_of (cond b (book.some (neg_ℤ (pos n))) book.none)
      go true = refl
      go false = refl

  value_range : (o : book.Option ℕ) {v : ℤ} → whole (below ceiling o) ≡ Some v → (pos 0 ≤ℤ v) × (v <ℤ pos ceiling)
  value_range book.none e = cc
  value_range (book.some n) {v} e = go (ltb n ceiling) refl e
    where
      go : (b : Bool) → ltb n ceiling ≡ b → whole (cond b (Some n) None) ≡ Some v → (pos 0 ≤ℤ v) × (v <ℤ pos ceiling)
      go true t x = let is : pos n ≡ v = cc in omega (arith, ints, ltb-true n ceiling t)
      go false t x = cc

  -- its value
  pub minus_value : (o : book.Option ℕ) {v : ℤ} → ceiling ≤ 2 ^ 32 → whole (below ceiling o) ≡ Some v → Some (to_z w64 (of_z w64 (pos 0 -ℤ to_z w64 (of_z w64 v)))) ≡ negated (Some v)
  minus_value o {v} k e = ap Some (omega (arith, ints, value_range o e))

  -- ---- the whole field: what follows the blanks

  module _ (s : List ℕ) (i : ℕ) (same : number s ≡ number (drop i s)) where
    pub field_blank : 10 ≤ ceiling → length s ≤ i → Some (pos 0) ≡ read_of (field_read ceiling s)
    unfolding field_read read_of
    field_blank k h = sym (ap (λ (n : book.Option ℤ). read_of (within ceiling n)) (same ∙ ap number (over s i h)) ∙ ap (λ (b : Bool). read_of (cond b (book.some (pos 0)) book.none)) (lt-ltb 0 ceiling (omega arith)))

    module _ (h : i < length s) where
      -- by the column at i
      by_column : ℕ → book.Option ℤ
      by_column c = cond (is_blank c) (number (drop (i + 1) s)) (cond (is_minus c) (minus (magnitude (drop (i + 1) s))) (cond (is_plus c) (plus (magnitude (drop (i + 1) s))) (plus (magnitude (c ∷ drop (i + 1) s)))))

      here : {n : book.Option ℤ} → by_column (get_or s i 0) ≡ n → read_of (within ceiling n) ≡ read_of (field_read ceiling s)
      unfolding field_read by_column
      here e = ap (λ (n : book.Option ℤ). read_of (within ceiling n)) (sym (same ∙ ap number (split s i h) ∙ e))

      pub field_minus : (get_or s i 0 ≡ 45) ⊎ (get_or s i 0 ≡ 64) → negated (whole (below ceiling (magnitude (take (length s - (i + 1)) (drop (i + 1) s))))) ≡ read_of (field_read ceiling s)
      unfolding by_column
      field_minus e = ap (λ (l : List ℕ). negated (whole (below ceiling (magnitude l)))) (lent s (i + 1)) ∙ of_minus (magnitude (drop (i + 1) s)) ∙ here (at e)
        where
          at : (get_or s i 0 ≡ 45) ⊎ (get_or s i 0 ≡ 64) → by_column (get_or s i 0) ≡ minus (magnitude (drop (i + 1) s))
          at (inl x) = ap by_column x
          at (inr x) = ap by_column x

      pub field_plus : get_or s i 0 ≡ 43 → whole (below ceiling (magnitude (take (length s - (i + 1)) (drop (i + 1) s)))) ≡ read_of (field_read ceiling s)
      unfolding by_column
      field_plus e = ap (λ (l : List ℕ). whole (below ceiling (magnitude l))) (lent s (i + 1)) ∙ of_plus (magnitude (drop (i + 1) s)) ∙ here (ap by_column e)

      pub field_digits : (get_or s i 0 ≡ 32 → ⊥) → ((get_or s i 0 ≡ 45) ⊎ (get_or s i 0 ≡ 64) → ⊥) → (get_or s i 0 ≡ 43 → ⊥) → whole (below ceiling (magnitude (take (length s - i) (drop i s)))) ≡ read_of (field_read ceiling s)
      unfolding by_column
      field_digits a b e = ap (λ (l : List ℕ). whole (below ceiling (magnitude l))) (lent s i) ∙ of_plus (magnitude (drop i s)) ∙ here (at (ne_eqb _ 32 a) (ne_eqb _ 45 (λ x. b (inl x))) (ne_eqb _ 64 (λ x. b (inr x))) (ne_eqb _ 43 e))
        where
          at : eqb (get_or s i 0) 32 ≡ false → eqb (get_or s i 0) 45 ≡ false → eqb (get_or s i 0) 64 ≡ false → eqb (get_or s i 0) 43 ≡ false → by_column (get_or s i 0) ≡ plus (magnitude (drop i s))
          at a b d e = rw (split s i h, a, b, d, e) refl
