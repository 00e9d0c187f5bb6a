-- `run_prints::try_lines` meets its contract. Assumes nothing.
use mathlib.Core.Path.{◌≡◌}
use Prim.Native.Nat.{◌-◌}
use lib.ListN.{length}
use Rattle.object_contents.specs.Book.{book_of}
use Rattle.run_prints.proofs.LinesLaws.{Trying}
use Rattle.run_prints.proofs.try_lines.Given as goal

abbrev pub invariant-loop : goal.invariant-loop
invariant-loop l = Trying (book_of l.o) l.store l.room l.fn.start.word l.fn.start.list l.at.word l.at.list (l.room - l.counter) × (length l.line ≡ 132)
