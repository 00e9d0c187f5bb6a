-- `check_transfers::items_right` meets its contract. Assumes nothing.
use mathlib.Core.Path.{◌≡◌}
use Prim.Native.Nat.{◌+◌}
use Rattle.check_transfers.proofs.Items.{used}
use Rattle.check_transfers.proofs.items_right.Given as goal

abbrev pub invariant-loop-i : goal.invariant-loop-i
invariant-loop-i l = used l.o.layout l.o.bytes.now l.at (l.at + l.n) ≡ used l.o.layout l.o.bytes.now l.i (l.at + l.n)
