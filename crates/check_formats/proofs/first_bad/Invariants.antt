-- `check_formats::first_bad` meets its contract. Assumes nothing.
use mathlib.Core.Path.{◌≡◌}
use Prim.Native.Nat.{◌-◌}
use Rattle.rules_shared.specs.Lists.{first_from}
use Rattle.rules_object.specs.Check.{format_start, right_format}
use Rattle.object_contents.specs.Layout.{object_at}
use Rattle.check_formats.proofs.first_bad.Given as goal

abbrev pub invariant-loop-i : goal.invariant-loop-i
invariant-loop-i l = (l.start ≡ format_start (object_at l.e l.o) l.i) × (first_from (right_format (object_at l.e l.o)) l.e.format_count 0 ≡ first_from (right_format (object_at l.e l.o)) (l.e.format_count - l.i) l.i)
