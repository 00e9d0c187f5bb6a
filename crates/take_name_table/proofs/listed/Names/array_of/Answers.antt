-- `take_name_table::listed::Names::array_of` meets its contract. Assumes nothing.
use Rattle.take_name_table.proofs.Looks.{array_none, array_found}
use Rattle.take_name_table.proofs.listed.Names.array_of.Goals as goal

pub returns-in_default : goal.returns-in_default
returns-in_default c = array_none _ _ _ c.default.ensures c.in_default.ensures

pub returns : goal.returns
returns c =
    array_found _ _ _ c.in-Some.i _ _ _ c.in-Some.ensures.1 c.min-first.ensures c.min-rows.ensures c.min-columns.ensures
