-- `check_operands::pops_of` meets its contract. Assumes nothing.
use Rattle.rules_object.specs.Operations.{operations}
use Rattle.check_operands.proofs.Tables.{column}
use Rattle.check_operands.proofs.pops_of.Goals as goal

pub returns : goal.returns
returns c = column (λ p. p.pops) operations c.args.operation
