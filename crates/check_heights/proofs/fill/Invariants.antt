-- `check_heights::fill` meets its contract. Assumes nothing.
use Prim.Native.Nat.{◌+◌}
use Rattle.rules_object.specs.Operations.{flow_of}
use Rattle.rules_object.specs.Filling.{nevers}
use Rattle.object_contents.specs.Book.{book_of}
use Rattle.check_heights.proofs.Loops.{Round}
use Rattle.check_heights.proofs.fill.Given as goal

abbrev pub invariant-loop-top : goal.invariant-loop-top
invariant-loop-top l = Round (flow_of (book_of l.o)) l.table l.work l.top

abbrev pub decreases-loop-top : goal.decreases-loop-top
decreases-loop-top l = nevers l.table + l.top
