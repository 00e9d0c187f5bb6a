-- `run_fields::zeros` meets its contract. Assumes nothing.
use mathlib.Core.Path.{◌≡◌}
use Prim.Native.Nat.{◌<◌}
use lib.ListN.{drop}
use Rattle.rules_formats.specs.Fields.{zeros}
use Rattle.run_fields.specs.Read.{below}
use Rattle.run_fields.proofs.zeros.Given as goal

abbrev pub invariant-loop-c : goal.invariant-loop-c
invariant-loop-c l = (l.v < l.ceiling) × (below l.ceiling (zeros l.n l.columns) ≡ below l.ceiling (zeros l.v (drop l.c-index l.columns)))
