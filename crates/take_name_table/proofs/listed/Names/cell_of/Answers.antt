-- `take_name_table::listed::Names::cell_of` meets its contract. Assumes nothing.
use Rattle.take_name_table.proofs.Looks.{cell_none, cell_found}
use Rattle.take_name_table.proofs.listed.Names.cell_of.Goals as goal

pub returns-in_default : goal.returns-in_default
returns-in_default c = cell_none _ _ _ c.in_default.ensures

pub returns : goal.returns
returns c = cell_found _ _ _ c.in-Some.i _ c.in-Some.ensures.1 c.min.ensures
