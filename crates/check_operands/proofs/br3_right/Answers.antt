-- `check_operands::br3_right` meets its contract. Assumes nothing.
use native.Mathlib.Omega.{arith}
use Rattle.std.proofs.lemmas.Bool.Decides.{nat_tests}
use Rattle.check_operands.proofs.Exits.{br3_says}
use Rattle.check_operands.proofs.br3_right.Goals as goal

pub returns-then-x-e : goal.returns-then-x-e
returns-then-x-e c = rw (br3_says c.args.e.now c.args.o.now c.args.x) (grind (arith, nat_tests))

pub returns-else-x-e : goal.returns-else-x-e
returns-else-x-e c = rw (br3_says c.args.e.now c.args.o.now c.args.x) (grind (arith, nat_tests))
