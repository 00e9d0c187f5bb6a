-- A column of the table of operations, and what no operation pushes more than.
-- Assumes nothing.
use mathlib.Core.Path.{◌≡◌, refl}
use mathlib.Core.Bool.{true}
use mathlib.Core.List.{List, [], ◌∷◌, map}
use Prim.Native.Nat.{ℕ, zero, suc, ◌≤◌}
use native.Mathlib.Omega.{arith}
use lib.Dec.{leb}
use lib.ListN.{get_or}
use borrow.Author.Tests.{leb-true}
use Rattle.rules_shared.specs.Lists.{all}
use Rattle.rules_object.specs.Operations.{Operation, operations, unknown, operation_at}
use Rattle.rules_object.proofs.Passed.{both}

pub column : (f : Operation → ℕ) (ps : List Operation) (n : ℕ) → get_or (map f ps) n (f unknown) ≡ f (get_or ps n unknown)
column f [] n = refl
column f (p ∷ ps) zero = refl
column f (p ∷ ps) (suc n) = column f ps n

few_at : (ps : List Operation) → all (λ p. leb p.pushes 1) ps ≡ true → (n : ℕ) → (get_or ps n unknown).pushes ≤ 1
few_at [] e n = omega arith
few_at (p ∷ ps) e zero = leb-true _ _ (both (leb p.pushes 1) _ e).0
few_at (p ∷ ps) e (suc n) = few_at ps (both (leb p.pushes 1) _ e).1 n

pub pushes_few : (n : ℕ) → (operation_at n).pushes ≤ 1
pushes_few = few_at operations refl
