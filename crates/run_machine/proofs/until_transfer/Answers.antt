-- `run_machine::until_transfer` meets its contract. Assumes nothing.
use mathlib.Core.Path.{refl, sym}
use Prim.Native.Nat.{◌<◌}
use native.Mathlib.Omega.{arith}
use Rattle.run_arithmetic.specs.Performed.{after}
use Rattle.run_operations.proofs.Known.{held_bounds}
use Rattle.run_machine.proofs.Pausing.{begins, guard_is, used, guard_halts, goes, halts, transfers}
use Rattle.run_machine.proofs.until_transfer.Goals as goal

pub loop-done-init : goal.loop-done-init
loop-done-init c =
    let a = c.args in
    (begins a.guarded a.o.now a.allowance a.start a.stack.now a.store.now c.requires.held c.requires.no_fault, c.requires.sees)

pub test-requires : goal.test-requires
test-requires c =
    let a = c.args in
    let l = c.loop-done in
    let g = l.invariant.0 in
    record {
      code_bound = (held_bounds a.o.now l.regs l.stack l.store g.held).code;
      height_bound = g.held.low;
      sees = l.invariant.1;
      height_value = guard_is a.guarded a.o.now a.allowance a.start a.stack.now a.store.now l.regs l.stack l.store l.done g;
    }

pub returns-in-Err : goal.returns-in-Err
returns-in-Err c =
    let a = c.args in
    let l = c.loop-done in
    let below : l.done < a.allowance = omega arith in
    (guard_halts a.guarded a.o.now a.allowance a.start a.stack.now a.store.now l.regs l.stack l.store l.done l.invariant.0 below _ (omega arith) c.in-Err.halt c.in-Err.ensures.0, c.test.ensures.1)

pub returns-in-Halt : goal.returns-in-Halt
returns-in-Halt c =
    let a = c.args in
    let l = c.loop-done in
    let below : l.done < a.allowance = omega arith in
    let d = c.step in
    (halts a.guarded a.o.now a.allowance a.start a.stack.now a.store.now l.regs l.stack l.store l.done l.invariant.0 below _ (omega arith) (sym c.in_default.ensures.0) (after d.result d.new.stack d.new.store) d.ensures c.in-Halt.halt c.in-Halt.is, c.test.ensures.1)

pub returns-in-Transfer : goal.returns-in-Transfer
returns-in-Transfer c =
    let a = c.args in
    let l = c.loop-done in
    let below : l.done < a.allowance = omega arith in
    let d = c.step in
    (transfers a.guarded a.o.now a.allowance a.start a.stack.now a.store.now l.regs l.stack l.store l.done l.invariant.0 below _ (omega arith) (sym c.in_default.ensures.0) (after d.result d.new.stack d.new.store) d.ensures c.in-Transfer.is, c.test.ensures.1)

pub loop-done-preserved : goal.loop-done-preserved
loop-done-preserved c =
    let a = c.args in
    let l = c.loop-done in
    let below : l.done < a.allowance = omega arith in
    let d = c.step in
    (goes a.guarded a.o.now a.allowance a.start a.stack.now a.store.now l.regs l.stack l.store l.done l.invariant.0 below _ refl (sym c.in_default.ensures.0) (after d.result d.new.stack d.new.store) d.ensures c.in-Next.next c.in-Next.is, c.test.ensures.1)

pub returns : goal.returns
returns c =
    let a = c.args in
    let l = c.loop-done in
    (used a.guarded a.o.now a.allowance a.start a.stack.now a.store.now l.regs l.stack l.store l.done l.invariant.0 _ (omega arith) (omega arith), l.invariant.1)
