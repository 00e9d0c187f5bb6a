-- `read_tokens::run` meets its contract. Assumes nothing.
use mathlib.Core.Path.{◌≡◌}
use mathlib.Core.Bool.{Bool}
use Prim.Native.Nat.{ℕ, ◌+◌}
use lib.ListN.{drop}
use Rattle.rules_text.specs.Tokens.{run}
use Rattle.read_tokens.proofs.run.Given as goal

abbrev pub invariant-loop-i : goal.invariant-loop-i
invariant-loop-i g l = (t : ℕ → Bool) → ((c : ℕ) (b : Bool) → goal.F-post g l.test c b → b ≡ t c) → run t l.s ≡ l.i + run t (drop l.i l.s)
