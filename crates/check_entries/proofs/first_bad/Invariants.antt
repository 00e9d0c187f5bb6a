-- `check_entries::first_bad` meets its contract. Assumes nothing.
use mathlib.Core.Path.{◌≡◌}
use Prim.Native.Nat.{ℕ, ◌-◌, ◌<◌}
use mathlib.Core.Bool.{Bool}
use Rattle.rules_shared.specs.Lists.{first_from}
use Rattle.check_entries.proofs.first_bad.Given as goal

abbrev pub invariant-loop-index : goal.invariant-loop-index
invariant-loop-index g l = (test : ℕ → Bool) → ((i : ℕ) (b : Bool) → i < l.n → goal.F-post g l.right i b → b ≡ test i) → first_from test l.n 0 ≡ first_from test (l.n - l.index) l.index
