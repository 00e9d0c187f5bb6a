-- `read_formats::past` meets its contract. Assumes nothing.
use mathlib.Core.Path.{◌≡◌}
use lib.ListN.{drop}
use Rattle.rules_formats.specs.Punched.{after}
use Rattle.read_formats.proofs.past.Given as goal

abbrev pub invariant-loop-i : goal.invariant-loop-i
invariant-loop-i l = after l.character (drop l.at l.columns) ≡ after l.character (drop l.i l.columns)
