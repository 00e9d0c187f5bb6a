-- `check_operands::brc_right` meets its contract. Assumes nothing.
use native.Mathlib.Omega.{arith}
use Rattle.std.proofs.lemmas.Bool.Decides.{nat_tests}
use Rattle.check_operands.proofs.Exits.{brc_says, brc_out}
use Rattle.check_operands.proofs.brc_right.Goals as goal

pub returns-then-e-x : goal.returns-then-e-x
returns-then-e-x c = brc_out c.args.e.now c.args.o.now c.args.x c.if-e-x.true

pub returns-then-x-n : goal.returns-then-x-n
returns-then-x-n c = rw (brc_says c.args.e.now c.args.o.now c.args.x c.load-n.result c.if-e-x.false c.load-n.ensures) (grind (arith, nat_tests))

pub returns-else-x-n : goal.returns-else-x-n
returns-else-x-n c = rw (brc_says c.args.e.now c.args.o.now c.args.x c.load-n.result c.if-e-x.false c.load-n.ensures) (grind (arith, nat_tests))
