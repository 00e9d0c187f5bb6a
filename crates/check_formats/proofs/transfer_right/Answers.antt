-- `check_formats::transfer_right` meets its contract. Assumes nothing.
use native.Mathlib.Omega.{arith}
use Rattle.std.proofs.lemmas.Bool.Decides.{nat_tests}
use Rattle.check_formats.proofs.Says.{transfer_says}
use Rattle.check_formats.proofs.transfer_right.Goals as goal

pub returns-then-count-eq0 : goal.returns-then-count-eq0
returns-then-count-eq0 c =
    rw (transfer_says c.args.e.now c.args.o.now c.args.i c.requires.1 _ _ _ c.load-format.ensures c.load-first.ensures c.load-count.ensures) (grind (arith, nat_tests))

pub returns-else-count-eq0 : goal.returns-else-count-eq0
returns-else-count-eq0 c =
    rw (transfer_says c.args.e.now c.args.o.now c.args.i c.requires.1 _ _ _ c.load-format.ensures c.load-first.ensures c.load-count.ensures) (grind (arith, nat_tests))

pub returns-else-first-count : goal.returns-else-first-count
returns-else-first-count c =
    rw (transfer_says c.args.e.now c.args.o.now c.args.i c.requires.1 _ _ _ c.load-format.ensures c.load-first.ensures c.load-count.ensures) (grind (arith, nat_tests))
