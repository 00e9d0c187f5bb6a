-- A number with its sign and subscripts, in the parts in which they are written.
-- Assumes nothing.
use Prim.Native.Nat.{ℕ, zero, suc, ◌+◌, ◌/◌, ◌%◌}
use mathlib.Core.Path.{◌≡◌, refl, sym, ap, ap₂, ◌∙◌}
use mathlib.Core.Bool.{true, false}
use mathlib.Core.List.{[], ◌++◌}
use native.Mathlib.Omega.{arith}
use native.Mathlib.Numerals.{add-one}
use lib.IntN.{ℤ, pos, nat_abs}
use lib.Signed.{lt_z}
use Rattle.number.proofs.Whole.{below_zero, not_below_zero}
use Rattle.rules_text.specs.Punch.{bytes}
use Rattle.rules_program.specs.Text.{numeral, signed, stated, subscripts}

-- ---- a number with its sign

pub signed_below : (v : ℤ) → lt_z v (pos 0) ≡ true → signed v ≡ bytes "-" ++ numeral (nat_abs v)
unfolding signed
signed_below v e =
    ap signed (below_zero v e) ∙ sym (ap (λ (z : ℤ). bytes "-" ++ numeral (nat_abs z)) (below_zero v e))

pub signed_above : (v : ℤ) → lt_z v (pos 0) ≡ false → signed v ≡ numeral (nat_abs v)
unfolding signed
signed_above v e = ap signed (not_below_zero v e) ∙ sym (ap (λ (z : ℤ). numeral (nat_abs z)) (not_below_zero v e))

-- ---- subscripts

pub no_subscripts : (rows columns i : ℕ) → rows ≡ 0 → subscripts rows columns i ≡ []
unfolding subscripts
no_subscripts zero columns i e = refl
no_subscripts (suc r) columns i e = absurd (omega arith)

pub one_subscript : (rows columns i : ℕ) → (rows ≡ 0 → ⊥) → columns ≡ 0 → subscripts rows columns i ≡ stated (bytes "(") (i + 1) ++ bytes ")"
unfolding subscripts
one_subscript zero columns i n e = absurd (n refl)
one_subscript (suc r) zero i n e = ap (λ (k : ℕ). stated (bytes "(") k ++ bytes ")") (sym (add-one i))
one_subscript (suc r) (suc c) i n e = absurd (omega arith)

pub two_subscripts : (rows columns i : ℕ) → (rows ≡ 0 → ⊥) → (columns ≡ 0 → ⊥) → subscripts rows columns i ≡ stated (bytes "(") (i % rows + 1) ++ (stated (bytes ",") (i / rows + 1) ++ bytes ")")
unfolding subscripts
two_subscripts zero columns i n m = absurd (n refl)
two_subscripts (suc r) zero i n m = absurd (m refl)
two_subscripts (suc r) (suc c) i n m =
    ap₂ (λ (a b : ℕ). stated (bytes "(") a ++ (stated (bytes ",") b ++ bytes ")")) (sym (add-one (i % suc r))) (sym (add-one (i / suc r)))
