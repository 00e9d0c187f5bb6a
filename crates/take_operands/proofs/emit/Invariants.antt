-- `take_operands::emit` meets its contract. Assumes nothing.
use Prim.Native.Nat.{◌-◌}
use lib.ListN.{length}
use Rattle.take_operands.proofs.Emitting.{Emitting}
use Rattle.take_operands.proofs.emit.Given as goal

abbrev pub invariant-loop-at : goal.invariant-loop-at
invariant-loop-at l = Emitting l.items l.names l.initial.constants l.initial.elements l.initial.code l.fn.n l.constants l.elements l.code l.at l.m

abbrev pub decreases-loop-at : goal.decreases-loop-at
decreases-loop-at l = length l.items - l.at
