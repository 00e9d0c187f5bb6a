-- `read_formats::blank_from` meets its contract. Assumes nothing.
use mathlib.Core.Path.{◌≡◌}
use lib.ListN.{drop}
use Rattle.rules_formats.specs.Punched.{without_blanks}
use Rattle.read_formats.proofs.blank_from.Given as goal

abbrev pub invariant-loop-i : goal.invariant-loop-i
invariant-loop-i l = without_blanks (drop l.at l.columns) ≡ without_blanks (drop l.i l.columns)
