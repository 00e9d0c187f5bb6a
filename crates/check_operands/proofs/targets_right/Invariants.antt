-- `check_operands::targets_right` meets its contract. Assumes nothing.
use mathlib.Core.Path.{◌≡◌}
use Prim.Native.Nat.{◌+◌}
use Rattle.check_operands.proofs.Exits.{led}
use Rattle.check_operands.proofs.targets_right.Given as goal

abbrev pub invariant-loop-i : goal.invariant-loop-i
invariant-loop-i l = led l.e l.o l.at (l.at + l.n) ≡ led l.e l.o l.i (l.at + l.n)
