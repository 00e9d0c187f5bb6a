-- `check_entries::limits_right` meets its contract. Assumes nothing.
use mathlib.Core.Path.{refl}
use lib.ListN.{length}
use Rattle.rules_object.specs.Kinds.{kinds_of}
use native.Mathlib.Omega.{arith}
use Rattle.std.proofs.lemmas.Bool.Decides.{nat_tests}
use Rattle.check_entries.proofs.Tables.{limits_are}
use Rattle.check_entries.proofs.limits_right.Goals as goal

pub returns-then-e-le-CELLS : goal.returns-then-e-le-CELLS
returns-then-e-le-CELLS c =
    λ s. rw (limits_are c.args.e s _ c.kinds_of.ensures.0) (grind (arith, nat_tests))

pub returns-else-e-le-CELLS : goal.returns-else-e-le-CELLS
returns-else-e-le-CELLS c =
    λ s. rw (limits_are c.args.e s (length (kinds_of c.args.e.edition)) refl) (grind (arith, nat_tests))
