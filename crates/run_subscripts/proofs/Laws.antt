-- Subscripts, signed words and places, on plain numbers and lists.
-- Assumes nothing.
use mathlib.Core.Path.{◌≡◌, refl, sym, ap, ap₂, ◌∙◌, subst}
use mathlib.Core.Bool.{true, false, cond}
use mathlib.Core.List.{List}
use mathlib.Core.Option.{Option, some}
use Prim.Native.Nat.{ℕ, zero, suc, ◌+◌, ◌-◌, ◌*◌, ◌^◌, ◌≤◌, ◌<◌}
use native.Mathlib.Omega.{arith}
use lib.Dec.{ltb}
use lib.ListN.{length}
use lib.IntN.{ℤ, pos, negsuc, nat_abs, ◌+ℤ◌, ◌*ℤ◌}
use lib.Signed.{lt_z}
use borrow.Author.Tests.{lt-ltb}
use mir.Syntax.{w32, w64}
use Rattle.std.specs.Prelude.{FitsSigned}
use Rattle.std.specs.Int.{cast_signed}
use mir.Val.{to_z, of_z}
use Rattle.number.proofs.Whole.{back, abs_add, abs_mul_le, sfits_abs}
use Rattle.rules_object.specs.Bytes.{signed_of}
use Rattle.rules_shared.specs.Choose.{SubscriptParts, in_dimension, right, by_columns, place, positive}
use Rattle.rules_shared.proofs.Places as places
use Rattle.rules_object.specs.Machine.{cell, subscript_of, place_of}
use Rattle.object_words.specs.Word.{word_at}
use Rattle.object_contents.specs.Layout.{element_at}
use Rattle.run_subscripts.specs.Elements.{subscript_at, SubscriptIn, ElementIn}

pub apart : true ≡ false → ⊥
apart e = let z : ◌≡◌ {A = ℕ} 0 1 = cc in omega arith

pub above : (z : ℤ) → lt_z (pos 0) z ≡ positive z
above (pos zero) = refl
above (pos (suc n)) = lt-ltb 0 (suc n) (omega arith)
above (negsuc n) = refl

-- ---- a subscript's place

pub place_below : (rows columns : ℕ) (s t : SubscriptParts) (p : ℕ) → some p ≡ place rows columns s t → p < rows * columns
place_below rows columns s t p e = places.place_below rows columns s t p (sym e)

-- ---- a signed word

pub signed_cast : (w : ℕ) → cast_signed w32 w ≡ signed_of w
unfolding signed_of
signed_cast w = let e : 4294967296 - suc w ≡ 4294967295 - w = omega arith in ap (λ n. cond (ltb w (2 ^ 31)) (pos w) (negsuc n)) e

-- ---- a subscript's value: multiplier, cell's number and addend below 2 ^ 31, as they are read back

abbrev read : ℤ → ℤ
read z = to_z w64 (of_z w64 z)

abbrev product : ℤ → ℤ → ℤ
product t v = read (read t *ℤ read v)

module _ (t v u : ℤ) (lt : nat_abs t < 2 ^ 31) (lv : nat_abs v < 2 ^ 31) (lu : nat_abs u < 2 ^ 31) where
  product_small : nat_abs (t *ℤ v) ≤ 2 ^ 31 * 2 ^ 31
  product_small = abs_mul_le t v {P = 2 ^ 31} (omega arith) (omega arith)

  sum_small : nat_abs (t *ℤ v +ℤ u) < 2 ^ 63
  sum_small = omega (arith, abs_add (t *ℤ v) u, product_small)

  sum_is : product t v +ℤ read u ≡ t *ℤ v +ℤ u
  sum_is = ap₂ ◌+ℤ◌ (ap read (ap₂ ◌*ℤ◌ (back t (omega arith)) (back v (omega arith))) ∙ back (t *ℤ v) (omega (arith, product_small))) (back u (omega arith))

  sum_fits : FitsSigned w64 (product t v +ℤ read u)
  sum_fits = subst (FitsSigned w64) (sym sum_is) (sfits_abs w64 (t *ℤ v +ℤ u) sum_small)

  sum_back : read (product t v +ℤ read u) ≡ t *ℤ v +ℤ u
  sum_back = ap read sum_is ∙ back (t *ℤ v +ℤ u) sum_small

-- ---- a subscript's entry: its parts as the code has them

module _ (s : List ℕ) (b : ℕ) (so : List ℤ) (h : SubscriptIn s b so) (t : ℤ) (a : ℕ) (u : ℤ) (et : t ≡ pos (word_at s b)) (ea : a ≡ word_at s (b + 4)) (eu : u ≡ signed_of (word_at s (b + 8))) where
  abbrev v : ℤ
  v = cell so (word_at s (b + 4))

  pub value_fits : FitsSigned w64 (product t (cell so a) +ℤ read u)
  value_fits = subst (FitsSigned w64) (λ i. product (sym et i) (cell so (sym ea i)) +ℤ read (sym eu i)) (sum_fits (pos (word_at s b)) v (signed_of (word_at s (b + 8))) h.times h.at.small h.plus)

  pub value_is : (d : ℕ) → in_dimension d (read (product t (cell so a) +ℤ read u)) ≡ right d (subscript_of so (subscript_at s b))
  value_is d =
      ap (in_dimension d) ((λ i. read (product (et i) (cell so (ea i)) +ℤ read (eu i))) ∙ sum_back (pos (word_at s b)) v (signed_of (word_at s (b + 8))) h.times h.at.small h.plus)

-- ---- an element's entry

module _ (s : List ℕ) (b : ℕ) (so : List ℤ) where
  pub element_alike : place (word_at s (b + 4)) (word_at s (b + 8)) (subscript_of so (subscript_at s (b + 12))) (subscript_of so (subscript_at s (b + 24))) ≡ place_of so (element_at s b)
  unfolding element_at
  element_alike =
      let a : b + 12 + 4 ≡ b + 16 = omega arith in
      let a' : b + 12 + 8 ≡ b + 20 = omega arith in
      let c : b + 24 + 4 ≡ b + 28 = omega arith in
      let c' : b + 24 + 8 ≡ b + 32 = omega arith in
      ap₂ (place (word_at s (b + 4)) (word_at s (b + 8)))
      (ap₂ (λ (m n : ℕ). record { times = word_at s (b + 12); variable = cell so (word_at s m); plus = signed_of (word_at s n) }) a a')
      (ap₂ (λ (m n : ℕ). record { times = word_at s (b + 24); variable = cell so (word_at s m); plus = signed_of (word_at s n) }) c c')

  pub element_below : ElementIn s b so → (n : ℕ) → some n ≡ place_of so (element_at s b) → word_at s b + n < length so
  unfolding element_at
  element_below h n e =
      let l = place_below (word_at s (b + 4)) (word_at s (b + 8)) _ _ n e in
      omega (arith, h.span)

  -- the subscripts' places as the code has them
  pub element_is : (m n : ℕ) → m ≡ word_at s (b + 4) → n ≡ word_at s (b + 8)
      → (i j : Option ℕ) → i ≡ right m (subscript_of so (subscript_at s (b + 12))) → j ≡ right n (subscript_of so (subscript_at s (b + 24)))
      → by_columns m i j ≡ place_of so (element_at s b)
  unfolding place
  element_is m n em en i j ei ej =
      ap₂ (by_columns m) ei ej
      ∙ (λ k. place (em k) (en k) (subscript_of so (subscript_at s (b + 12))) (subscript_of so (subscript_at s (b + 24))))
      ∙ element_alike

  pub element_small : ElementIn s b so → (n : ℕ) → some n ≡ place_of so (element_at s b) → n < 4096
  unfolding element_at
  element_small h n e =
      let l = place_below (word_at s (b + 4)) (word_at s (b + 8)) _ _ n e in
      omega (arith, h.few)
