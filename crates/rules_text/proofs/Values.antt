-- What digits are worth: less than ten to the power of their count. A constant of at most k digits is within k digits.
-- Assumes nothing.
use mathlib.Core.Path.{◌≡◌, sym, ap, ◌∙◌}
use Prim.Native.Nat.{ℕ, zero, suc, ◌+◌, ◌-◌, ◌*◌, ◌^◌, ◌≤◌, ◌<◌}
use native.Mathlib.Nat.{mul_assoc, mul-le-mul_right}
use native.Mathlib.Omega.{arith}
use mathlib.Core.List.{List, [], ◌∷◌}
use lib.ListN.{length}
use Rattle.rules_object.specs.Check.{is_digit}
use Rattle.rules_shared.specs.Lists.{Each, each_none, each_more}
use Rattle.rules_text.specs.Trees.{Digits, value_from, value_of}
use Rattle.rules_text.specs.Spelling.{Passes, IsDigits, is_digits}
use Rattle.rules_text.proofs.Readers.{digit_bounds}

value_below : (v : ℕ) (s : List ℕ) → Each (Passes is_digit) s → value_from v s + 1 ≤ (v + 1) * 10 ^ length s
value_below v [] each_none = omega arith
value_below v (c ∷ s) (each_more p ps) =
    let d = digit_bounds c p in
    let l : v * 10 + (c - 48) + 1 ≤ (v + 1) * 10 = omega arith in
    let m = mul-le-mul_right (10 ^ length s) l in
    let t : 10 ^ suc (length s) ≡ 10 * 10 ^ length s = omega arith in
    let e : (v + 1) * 10 * 10 ^ length s ≡ (v + 1) * 10 ^ suc (length s) = mul_assoc (v + 1) 10 (10 ^ length s) ∙ ap (λ x. (v + 1) * x) (sym t) in
    omega (arith, value_below (v * 10 + (c - 48)) s ps)

ten_grows : (i j : ℕ) → i ≤ j → 10 ^ i ≤ 10 ^ j
ten_grows zero zero h = omega arith
ten_grows zero (suc j) h = omega (arith, ten_grows zero j (omega arith))
ten_grows (suc i) zero h = absurd (omega arith)
ten_grows (suc i) (suc j) h = omega (arith, ten_grows i j (omega arith))

pub ten_some : (k : ℕ) → 1 ≤ k → 10 ≤ 10 ^ k
ten_some k h = omega (arith, ten_grows 1 k h)

pub ten_most : (k : ℕ) → k ≤ 9 → 10 ^ k ≤ 1000000000
ten_most k h = omega (arith, ten_grows k 9 h)

pub value_within : (k : ℕ) (c : Digits) → IsDigits c → length c ≤ k → value_of c < 10 ^ k
unfolding value_of
value_within k (c ∷ s) (is_digits p ps) l = omega (arith, value_below 0 (c ∷ s) (each_more p ps), ten_grows (length (c ∷ s)) k l)
value_within k [] x'' l = elim x'' [ ]
