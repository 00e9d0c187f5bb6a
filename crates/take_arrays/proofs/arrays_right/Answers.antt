-- `take_arrays::arrays_right` meets its contract. Assumes nothing.
use native.Mathlib.Omega.{arith}
use Rattle.take_arrays.proofs.Judging.{checking_start, checking_no, checking_on, checking_end}
use Rattle.take_arrays.proofs.arrays_right.Goals as goal

pub loop-i-init : goal.loop-i-init
loop-i-init c = checking_start c.args.arrays.now c.args.names.now.words.now c.args.names.now.count

pub returns-then-not-right_array : goal.returns-then-not-right_array
returns-then-not-right_array c =
    let a = c.args in
    checking_no a.arrays.now a.names.now.words.now a.names.now.count _ (omega arith) c.loop-i.i c.right_array.result c.loop-i.invariant c.loop-i-test.true c.right_array.ensures
    c.if-not-right_array.true

pub loop-i-preserved : goal.loop-i-preserved
loop-i-preserved c =
    let a = c.args in
    checking_on a.arrays.now a.names.now.words.now a.names.now.count _ (omega arith) c.loop-i.i c.right_array.result c.loop-i.invariant c.loop-i-test.true c.right_array.ensures
    c.if-not-right_array.false

pub returns : goal.returns
returns c =
    let a = c.args in
    checking_end a.arrays.now a.names.now.words.now a.names.now.count _ (omega arith) c.loop-i.i c.loop-i.invariant c.loop-i-test.false
