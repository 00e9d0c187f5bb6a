-- `run_fields::read_field` meets its contract. Assumes nothing.
use mathlib.Core.Path.{◌≡◌}
use lib.ListN.{drop}
use Rattle.rules_formats.specs.Fields.{number}
use Rattle.run_fields.proofs.read_field.Given as goal

abbrev pub invariant-loop-i : goal.invariant-loop-i
invariant-loop-i l = number l.columns ≡ number (drop l.i l.columns)
