-- `check_entries::loop_right` meets its contract. Assumes nothing.
use mathlib.Core.Path.{refl}
use native.Mathlib.Omega.{arith}
use Rattle.std.proofs.lemmas.Bool.Decides.{nat_tests}
use Rattle.check_entries.proofs.Says.{loop_says}
use Rattle.check_entries.proofs.loop_right.Goals as goal

pub returns-then-in_cells-3 : goal.returns-then-in_cells-3
returns-then-in_cells-3 c =
    rw (loop_says c.args.e.now c.args.o.now c.args.i c.requires.1 _ refl) (grind (arith, nat_tests))

pub returns-else-in_cells-3 : goal.returns-else-in_cells-3
returns-else-in_cells-3 c =
    rw (loop_says c.args.e.now c.args.o.now c.args.i c.requires.1 _ refl) (grind (arith, nat_tests))
