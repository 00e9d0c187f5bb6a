-- `take_operands::element_at` meets its contract. Assumes nothing.
use Rattle.take_operands.proofs.Items.{element_is}
use Rattle.take_operands.proofs.element_at.Goals as goal

pub returns : goal.returns
returns c =
    element_is c.name_at.ensures c.subscript_at.ensures c.subscript_at-2.ensures
