-- `take_operands::emit` meets its contract. Assumes nothing.
use native.Mathlib.Omega.{arith}
use Rattle.take_name_table.proofs.Fronts.{ahead, rest_worded}
use Rattle.take_operands.proofs.Emitting.{emit_start, emit_full, emit_on, emit_end}
use Rattle.take_operands.proofs.emit.Goals as goal

pub loop-at-init : goal.loop-at-init
loop-at-init c =
    let a = c.args in
    emit_start a.items.now a.names.now a.constants.now a.elements.now a.code.now a.n c.requires.0 c.requires.1

pub item-requires : goal.item-requires
item-requires c =
    let lp = c.loop-at in
    (rest_worded c.args.items.now lp.at lp.invariant.worded c.loop-at-test.true, lp.invariant.fit)

pub returns-in_err-m : goal.returns-in_err-m
returns-in_err-m c =
    let a = c.args in
    emit_full a.items.now a.names.now a.constants.now a.elements.now a.code.now a.n c.loop-at.invariant c.loop-at-test.true c.in_err-m.ensures.1 c.from_residual.ensures

pub overflow_add-at : goal.overflow_add-at
overflow_add-at c =
    let ah = ahead c.args.items.now c.loop-at.at c.loop-at.invariant.worded c.loop-at-test.true in
    omega (arith, ah.within, c.item_length-at.ensures, c.well_formed)

pub loop-at-smaller : goal.loop-at-smaller
loop-at-smaller c =
    let ah = ahead c.args.items.now c.loop-at.at c.loop-at.invariant.worded c.loop-at-test.true in
    omega (arith, ah.within, ah.some, c.item_length-at.ensures, c.loop-at-test.true)

pub loop-at-preserved : goal.loop-at-preserved
loop-at-preserved c =
    let a = c.args in
    let lp = c.loop-at in
    let ah = ahead a.items.now lp.at lp.invariant.worded c.loop-at-test.true in
    emit_on a.items.now a.names.now a.constants.now a.elements.now a.code.now a.n lp.invariant c.loop-at-test.true c.in_ok-m.ensures c.item_length-at.ensures ah

pub returns : goal.returns
returns c =
    let a = c.args in
    emit_end a.items.now a.names.now a.constants.now a.elements.now a.code.now a.n c.loop-at.invariant c.loop-at-test.false
