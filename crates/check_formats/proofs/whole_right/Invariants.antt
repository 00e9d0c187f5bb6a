-- `check_formats::whole_right` meets its contract. Assumes nothing.
use mathlib.Core.Path.{◌≡◌}
use lib.ListN.{drop}
use Rattle.rules_object.specs.Check.{format_start}
use Rattle.rules_object.specs.Operations.{format_right}
use Rattle.object_contents.specs.Book.{book_of}
use Rattle.check_formats.proofs.whole_right.Given as goal

abbrev pub invariant-loop-i : goal.invariant-loop-i
invariant-loop-i l = (l.first ≡ format_start (book_of l.o) l.i) × (format_right (book_of l.o) l.first (drop l.first (book_of l.o).formats) ≡ format_right (book_of l.o) l.i (drop l.i (book_of l.o).formats))
