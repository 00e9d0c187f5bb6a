-- `take_operands::subscript_at` meets its contract. Assumes nothing.
use Rattle.take_operands.proofs.Items.{subscript_is}
use Rattle.take_operands.proofs.subscript_at.Goals as goal

pub returns : goal.returns
returns c =
    subscript_is c.args.items.now c.args.at c.name_at.ensures
