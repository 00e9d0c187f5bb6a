-- `run_prints::put_line` meets its contract. Assumes nothing.
use Prim.Native.Nat.{◌-◌}
use Rattle.object_contents.specs.Book.{book_of}
use Rattle.run_prints.proofs.LineLaws.{Going}
use Rattle.run_prints.proofs.put_line.Given as goal

abbrev pub invariant-loop-again : goal.invariant-loop-again
invariant-loop-again l = Going (book_of l.o) l.store l.fn.start.word l.fn.start.list l.line l.at.word l.at.list l.column

abbrev pub decreases-loop-again : goal.decreases-loop-again
decreases-loop-again l = l.o.layout.format_count - l.at.word
