-- `take_arrays::declare` meets its contract. Assumes nothing.
use native.Mathlib.Omega.{arith}
use Rattle.take_arrays.proofs.Declaring.{declaring_start, declaring_full, declaring_on, declaring_end}
use Rattle.take_arrays.proofs.declare.Goals as goal

pub loop-i-init : goal.loop-i-init
loop-i-init c = declaring_start c.args.arrays.now c.args.table.now c.args.n

pub returns-in_err-m : goal.returns-in_err-m
returns-in_err-m c =
    let a = c.args in
    declaring_full a.arrays.now a.table.now a.n _ (omega arith) c.loop-i.i c.loop-i.m c.loop-i.invariant c.loop-i-test.true c.name_at-name.ensures _ _ c.in_err-m.ensures c.from_residual.ensures

pub loop-i-preserved : goal.loop-i-preserved
loop-i-preserved c =
    let a = c.args in
    declaring_on a.arrays.now a.table.now a.n _ (omega arith) c.loop-i.i c.loop-i.m c.loop-i.invariant c.loop-i-test.true c.name_at-name.ensures _ c.in_ok-m.m c.in_ok-m.ensures

pub returns : goal.returns
returns c =
    let a = c.args in
    declaring_end a.arrays.now a.table.now a.n _ (omega arith) _ c.loop-i.i c.loop-i.m c.loop-i.invariant c.loop-i-test.false
