-- `take_plan_names::take_cells` meets its contract. Assumes nothing.
use mathlib.Core.Path.{sym}
use Prim.Native.Nat.{◌*◌}
use native.Mathlib.Omega.{arith}
use Rattle.take_plan_names.proofs.Operands.{first_worded, items_worded, arrays_room, part_long}
use Rattle.take_plan_names.proofs.Takes.{plains_full, then_hidden, then_arrays, then_no_more}
use Rattle.take_plan_names.proofs.take_cells.Goals as goal

pub take_operands-requires : goal.take_operands-requires
take_operands-requires c = (first_worded c.requires, items_worded c.requires)

pub returns-in_err-m : goal.returns-in_err-m
returns-in_err-m c =
    let a = c.args in
    plains_full a.p a.first.now a.items.now a.table.now _ a.n _ c.in_err-m.ensures c.from_residual.ensures

pub overflow_mul-p : goal.overflow_mul-p
overflow_mul-p c =
    let room = arrays_room c.requires c.in-Dimension.is in
    omega (arith, room, c.well_formed)

pub slice_bounds-declare-end : goal.slice_bounds-declare-end
slice_bounds-declare-end c = sym (part_long _ _ (arrays_room c.requires c.in-Dimension.is))

pub declare-requires : goal.declare-requires
declare-requires c =
    let long = part_long c.args.items.now (7 * c.args.p.listed) (arrays_room c.requires c.in-Dimension.is) in
    omega (arith, long)

pub returns-in-Do : goal.returns-in-Do
returns-in-Do c =
    let a = c.args in
    then_hidden a.p a.first.now a.items.now a.table.now _ a.n c.in_ok-m.m c.in_ok-m.ensures _ c.in-Do.is c.hide.ensures

pub returns-in-Dimension : goal.returns-in-Dimension
returns-in-Dimension c =
    let a = c.args in
    then_arrays a.p a.first.now a.items.now a.table.now _ a.n c.in_ok-m.m c.in_ok-m.ensures _ _ c.in-Dimension.is c.declare.ensures

pub returns-in_default : goal.returns-in_default
returns-in_default c =
    let a = c.args in
    then_no_more a.p a.first.now a.items.now a.table.now _ a.n c.in_ok-m.m c.in_ok-m.ensures c.in_default.not-Do c.in_default.not-Dimension
