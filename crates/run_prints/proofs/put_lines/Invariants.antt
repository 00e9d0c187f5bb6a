-- `run_prints::put_lines` meets its contract. Assumes nothing.
use Prim.Native.Nat.{◌-◌}
use Rattle.rules_formats.specs.Walk.{room_of}
use Rattle.object_contents.specs.Book.{book_of}
use Rattle.run_prints.proofs.WritingLaws.{Writing}
use Rattle.run_prints.proofs.put_lines.Given as goal

abbrev pub invariant-loop-next : goal.invariant-loop-next
invariant-loop-next l = Writing (book_of l.o) l.store l.initial.lines l.written l.fn.start.word l.fn.start.list l.lines l.n l.at.word l.at.list

abbrev pub decreases-loop-next : goal.decreases-loop-next
decreases-loop-next l = room_of l.initial.lines - l.n
