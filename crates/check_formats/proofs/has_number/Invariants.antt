-- `check_formats::has_number` meets its contract. Assumes nothing.
use mathlib.Core.Path.{◌≡◌}
use lib.ListN.{drop}
use Rattle.rules_object.specs.Check.{has_number}
use Rattle.object_contents.specs.Layout.{object_at}
use Rattle.check_formats.proofs.has_number.Given as goal

abbrev pub invariant-loop-i : goal.invariant-loop-i
invariant-loop-i l = (has_number (drop l.from (object_at l.e l.o).formats) ≡ has_number (drop l.i (object_at l.e l.o).formats))
