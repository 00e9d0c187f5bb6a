-- `run_fields::digits` meets its contract. Assumes nothing.
use mathlib.Core.Path.{◌≡◌}
use Prim.Native.Nat.{◌<◌}
use lib.ListN.{drop}
use Rattle.rules_formats.specs.Fields.{digits}
use Rattle.run_fields.specs.Read.{below}
use Rattle.run_fields.proofs.digits.Given as goal

abbrev pub invariant-loop-i : goal.invariant-loop-i
invariant-loop-i l = (l.v < l.ceiling) × (below l.ceiling (digits l.n l.columns) ≡ below l.ceiling (digits l.v (drop l.i l.columns)))
