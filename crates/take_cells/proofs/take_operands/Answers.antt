-- `take_cells::take_operands` meets its contract. Assumes nothing.
use Rattle.take_cells.proofs.Both.{first_full, both_take}
use Rattle.take_cells.proofs.take_operands.Goals as goal

pub returns-in_err-m : goal.returns-in_err-m
returns-in_err-m c =
    let a = c.args in
    first_full a.first.now a.items.now a.table.now _ a.n _ c.in_err-m.ensures c.from_residual.ensures

pub returns : goal.returns
returns c =
    let a = c.args in
    both_take a.first.now a.items.now a.table.now _ a.n c.in_ok-m.m _ _ c.in_ok-m.ensures c.appear-2.ensures
