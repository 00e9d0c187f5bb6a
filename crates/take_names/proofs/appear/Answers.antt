-- `take_names::appear` meets its contract. Assumes nothing.
use native.Mathlib.Omega.{arith}
use Rattle.take_name_table.proofs.Fronts.{ahead, rest_worded}
use Rattle.take_names.proofs.Growing.{taking_start, taking_full, taking_on, taking_end}
use Rattle.take_names.proofs.appear.Goals as goal

pub loop-at-init : goal.loop-at-init
loop-at-init c = taking_start c.args.items.now c.args.table.now c.args.n c.requires

pub take_item-requires : goal.take_item-requires
take_item-requires c = rest_worded c.args.items.now c.loop-at.at c.loop-at.invariant.worded c.loop-at-test.true

pub returns-in_err-m : goal.returns-in_err-m
returns-in_err-m c =
    taking_full c.args.items.now c.args.table.now c.args.n c.loop-at.invariant c.loop-at-test.true _ _ c.in_err-m.ensures c.from_residual.ensures

pub overflow_add-at : goal.overflow_add-at
overflow_add-at c =
    let ah = ahead c.args.items.now c.loop-at.at c.loop-at.invariant.worded c.loop-at-test.true in
    omega (arith, ah.within, c.item_length-at.ensures, c.well_formed)

pub loop-at-smaller : goal.loop-at-smaller
loop-at-smaller c =
    let ah = ahead c.args.items.now c.loop-at.at c.loop-at.invariant.worded c.loop-at-test.true in
    omega (arith, ah.within, ah.some, c.item_length-at.ensures, c.loop-at-test.true)

pub loop-at-preserved : goal.loop-at-preserved
loop-at-preserved c =
    let lp = c.loop-at in
    let ah = ahead c.args.items.now lp.at lp.invariant.worded c.loop-at-test.true in
    taking_on c.args.items.now c.args.table.now c.args.n lp.invariant c.loop-at-test.true _ _ c.in_ok-m.ensures c.item_length-at.ensures ah

pub returns : goal.returns
returns c = taking_end c.args.items.now c.args.table.now c.args.n c.loop-at.invariant c.loop-at-test.false
