-- `take_operands::load` meets its contract. Assumes nothing.
use Rattle.take_operands.proofs.Operands.{loaded}
use Rattle.take_operands.proofs.load.Goals as goal

pub returns : goal.returns
returns c =
    loaded c.requires c.cell_of.ensures c.append.ensures
