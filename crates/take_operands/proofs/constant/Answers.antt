-- `take_operands::constant` meets its contract. Assumes nothing.
use native.Mathlib.Omega.{arith}
use Rattle.take_operands.proofs.Operands.{pooled_fit, pooled_one, pooled_none}
use Rattle.take_operands.proofs.constant.Goals as goal

pub returns-in_err-pooled : goal.returns-in_err-pooled
returns-in_err-pooled c = pooled_none c.args.n c.args.constants.now c.low-word.ensures c.in_err-pooled.ensures c.from_residual.ensures

pub overflow_cast-pooled : goal.overflow_cast-pooled
overflow_cast-pooled c = omega (arith, c.in_ok-pooled.ensures.index_low)

pub append-requires : goal.append-requires
append-requires c = (pooled_fit c.args.n c.args.constants.now c.requires c.in_ok-pooled.ensures, omega arith)

pub returns : goal.returns
returns c = pooled_one c.args.n c.args.constants.now c.low-word.ensures c.requires c.in_ok-pooled.ensures c.append.ensures
