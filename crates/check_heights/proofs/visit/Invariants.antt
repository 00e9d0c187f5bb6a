-- `check_heights::visit` meets its contract. Assumes nothing.
use Prim.Native.Nat.{◌+◌}
use Rattle.rules_object.specs.Operations.{flow_of}
use Rattle.rules_object.specs.Filling.{nevers, Went}
use Rattle.object_contents.specs.Book.{book_of}
use Rattle.check_heights.proofs.visit.Given as goal

abbrev pub invariant-loop-k : goal.invariant-loop-k
invariant-loop-k l = Went (flow_of (book_of l.o)) l.table l.work (nevers l.initial.table + l.start) l.h l.a l.k l.top
