-- `check_entries::element_right` meets its contract. Assumes nothing.
use mathlib.Core.Path.{refl}
use native.Mathlib.Omega.{arith}
use Rattle.std.proofs.lemmas.Bool.Decides.{nat_tests}
use Rattle.check_entries.proofs.Says.{element_says}
use Rattle.check_entries.proofs.element_right.Goals as goal

pub returns-then-subscript_right : goal.returns-then-subscript_right
returns-then-subscript_right c =
    rw (element_says c.args.o.now.layout c.args.o.now.bytes.now c.args.i _ c.args.o.now.ruled c.requires _ refl) (grind (arith, nat_tests))

pub returns-else-subscript_right : goal.returns-else-subscript_right
returns-else-subscript_right c =
    rw (element_says c.args.o.now.layout c.args.o.now.bytes.now c.args.i _ c.args.o.now.ruled c.requires _ refl) (grind (arith, nat_tests))
