-- What was once right is right again: the table of heights that were seen.
-- Assumes nothing.
use mathlib.Core.Path.{◌≡◌, refl, sym, ◌∙◌}
use Prim.Native.Nat.{ℕ, zero, suc}
use native.Mathlib.Omega.{arith}
use lib.ListN.{get_or, replicate}
use Rattle.rules_object.specs.Object.{Object}
use Rattle.run_guards.specs.Guarding.{Sees}

zeros : (n i : ℕ) → get_or (replicate {A = ℕ} n 0) i 0 ≡ 0
zeros zero i = refl
zeros (suc n) zero = refl
zeros (suc n) (suc i) = zeros n i

pub sees_none : (o : Object) (n : ℕ) → Sees o (replicate n 0)
sees_none o n = record { right = λ i h e. absurd (not_zero (sym e ∙ zeros n i)) }
  where
    not_zero : {h : ℕ} → suc h ≡ 0 → ⊥
    not_zero e = omega arith
