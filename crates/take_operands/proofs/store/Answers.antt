-- `take_operands::store` meets its contract. Assumes nothing.
use Rattle.take_operands.proofs.Operands.{stored_cell, stored_element}
use Rattle.take_operands.proofs.store.Goals as goal

pub returns-in-Cell : goal.returns-in-Cell
returns-in-Cell c =
    stored_cell c.requires c.in-Cell.is c.cell_of.ensures c.append.ensures

pub returns-in-Element : goal.returns-in-Element
returns-in-Element c =
    stored_element c.in-Element.is c.refer.ensures
