-- `take_references::references_right` meets its contract. Assumes nothing.
use mathlib.Core.Path.{sym, subst}
use mathlib.Core.List.{List}
use Prim.Native.Nat.{ℕ, ◌+◌}
use native.Mathlib.Omega.{arith}
use Rattle.take_references.specs.Rights.{RightItem}
use Rattle.take_name_table.proofs.Fronts.{ahead, lent, rest_worded}
use Rattle.take_references.proofs.Rights.{Passing, passing_start, passing_no, passing_on, passing_end}
use Rattle.take_references.proofs.references_right.Goals as goal

pub loop-at-init : goal.loop-at-init
loop-at-init c =
    let items = c.args.items.now in
    let t = c.args.names.now.words.now in
    let n = c.args.names.now.count in
    passing_start items t n c.requires

pub right_item-requires : goal.right_item-requires
right_item-requires c =
    let items = c.args.items.now in
    let lp = c.loop-at in
    rest_worded items lp.at lp.invariant.worded c.loop-at-test.true

pub returns-then-not-right_item : goal.returns-then-not-right_item
returns-then-not-right_item c =
    let items = c.args.items.now in
    let t = c.args.names.now.words.now in
    let n = c.args.names.now.count in
    let lp = c.loop-at in
    passing_no items t n lp.at c.right_item.result lp.invariant c.loop-at-test.true (subst (λ (x : List ℕ). RightItem x t n c.right_item.result) (lent items lp.at) c.right_item.ensures) (c.if-not-right_item.true)

pub overflow_add-at : goal.overflow_add-at
overflow_add-at c =
    let items = c.args.items.now in
    let lp = c.loop-at in
    let ah = ahead items lp.at lp.invariant.worded c.loop-at-test.true in
    omega (arith, ah.within, c.item_length-at.ensures, c.well_formed)

pub loop-at-smaller : goal.loop-at-smaller
loop-at-smaller c =
    let items = c.args.items.now in
    let lp = c.loop-at in
    let ah = ahead items lp.at lp.invariant.worded c.loop-at-test.true in
    omega (arith, ah.within, ah.some, c.item_length-at.ensures, c.loop-at-test.true)

pub loop-at-preserved : goal.loop-at-preserved
loop-at-preserved c =
    let items = c.args.items.now in
    let t = c.args.names.now.words.now in
    let n = c.args.names.now.count in
    let lp = c.loop-at in
    let ah = ahead items lp.at lp.invariant.worded c.loop-at-test.true in
    subst (λ (k : ℕ). Passing items t n (lp.at + k)) (sym c.item_length-at.ensures)
    (passing_on items t n lp.at c.right_item.result lp.invariant c.loop-at-test.true (subst (λ (x : List ℕ). RightItem x t n c.right_item.result) (lent items lp.at) c.right_item.ensures) (c.if-not-right_item.false) ah.within ah.worded)

pub returns : goal.returns
returns c =
    let items = c.args.items.now in
    let t = c.args.names.now.words.now in
    let n = c.args.names.now.count in
    let lp = c.loop-at in
    passing_end items t n lp.at lp.invariant c.loop-at-test.false
