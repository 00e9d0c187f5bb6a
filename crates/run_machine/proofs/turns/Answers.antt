-- `run_machine::turns` meets its contract. Assumes nothing.
use mathlib.Core.Path.{refl, sym, ◌∙◌, subst}
use Prim.Native.Nat.{◌+◌}
use native.Mathlib.Omega.{arith}
use Rattle.object_contents.proofs.Entries.{code_length}
use Rattle.run_registers.specs.Devices.{trays_of, devices_in}
use Rattle.run_operations.proofs.Known.{held_bounds}
use Rattle.run_machine.proofs.Going.{Going, begins}
use Rattle.run_machine.proofs.Rounds.{round_used, round_halted, round_ready, round_goes, round_stops, index_below, steps_some}
use Rattle.run_machine.proofs.turns.Goals as goal

pub loop-halt-init : goal.loop-halt-init
loop-halt-init c =
    let a = c.args in
    (begins a.guarded a.o.now a.allowance a.start a.stack.now a.store.now (trays_of a.cards.now a.lines.now) c.requires.held c.requires.faultless, (refl, c.requires.sees))

pub until_transfer-p-requires-clause-no_fault : goal.until_transfer-p-requires-clause-no_fault
until_transfer-p-requires-clause-no_fault c =
    let l = c.loop-halt in
    λ q. record { devices = devices_in c.args.cards.now l.trays.taken l.lines l.trays.written; rights = l.invariant.0.rights q }

pub returns-in-Used : goal.returns-in-Used
returns-in-Used c =
    let a = c.args in
    let T = trays_of a.cards.now a.lines.now in
    let l = c.loop-halt in
    let p = c.until_transfer-p in
    round_used a.guarded a.o.now a.allowance a.start a.stack.now a.store.now T l.regs l.stack l.store l.trays.taken l.lines l.trays.written l.steps l.invariant.0 p.result p.new.stack p.new.store p.ensures.0 p.auto.store c.in-Used.is

pub returns-in-Halted : goal.returns-in-Halted
returns-in-Halted c =
    let a = c.args in
    let T = trays_of a.cards.now a.lines.now in
    let l = c.loop-halt in
    let p = c.until_transfer-p in
    round_halted a.guarded a.o.now a.allowance a.start a.stack.now a.store.now T l.regs l.stack l.store l.trays.taken l.lines l.trays.written l.steps l.invariant.0 p.result p.new.stack p.new.store p.ensures.0 p.auto.store c.in-Halted.halt c.in-Halted.is

pub transfer-requires-clause-ready : goal.transfer-requires-clause-ready
transfer-requires-clause-ready c =
    let a = c.args in
    let T = trays_of a.cards.now a.lines.now in
    let l = c.loop-halt in
    let p = c.until_transfer-p in
    round_ready a.guarded a.o.now a.allowance a.start a.stack.now a.store.now T l.regs l.stack l.store l.trays.taken l.lines l.trays.written l.steps l.invariant.0 p.result p.new.stack p.new.store p.ensures.0 p.auto.store c.in-Transfer.is l.kept
    (λ m. omega (arith, c.requires.cells_in_bounds m, l.invariant.1.0))

pub returns-in-Err : goal.returns-in-Err
returns-in-Err c =
    let a = c.args in
    let T = trays_of a.cards.now a.lines.now in
    let l = c.loop-halt in
    let p = c.until_transfer-p in
    round_stops a.guarded a.o.now a.allowance a.start a.stack.now a.store.now T l.regs l.stack l.store l.trays.taken l.lines l.trays.written l.steps l.invariant.0 p.result p.new.stack p.new.store p.ensures.0 p.auto.store c.in-Transfer.is c.transfer.new.store c.transfer.new.lines c.in-Err.halt c.in-Err.ensures

pub onward-regs-requires : goal.onward-regs-requires
onward-regs-requires c =
    let a = c.args in
    let o = a.o.now in
    let T = trays_of a.cards.now a.lines.now in
    let l = c.loop-halt in
    let p = c.until_transfer-p in
    omega (arith, index_below a.guarded o a.allowance a.start a.stack.now a.store.now T l.regs l.stack l.store l.trays.taken l.lines l.trays.written l.steps l.invariant.0 p.result p.new.stack p.new.store p.ensures.0 p.auto.store c.in-Transfer.is, code_length o.layout o.bytes.now, (held_bounds o l.regs l.stack l.store l.invariant.0.held).code)

pub loop-halt-smaller : goal.loop-halt-smaller
loop-halt-smaller c =
    let a = c.args in
    let T = trays_of a.cards.now a.lines.now in
    let l = c.loop-halt in
    let p = c.until_transfer-p in
    omega (arith, l.invariant.0.most, p.ensures.0.most, steps_some a.guarded a.o.now a.allowance a.start a.stack.now a.store.now T l.regs l.stack l.store l.trays.taken l.lines l.trays.written l.steps l.invariant.0 p.result p.new.stack p.new.store p.ensures.0 p.auto.store c.in-Transfer.is)

pub loop-halt-preserved : goal.loop-halt-preserved
loop-halt-preserved c =
    let a = c.args in
    let T = trays_of a.cards.now a.lines.now in
    let l = c.loop-halt in
    let p = c.until_transfer-p in
    let m = c.transfer in
    let now = c.in-Ok.after in (
      subst (λ q. Going a.guarded a.o.now a.allowance a.start a.stack.now a.store.now T q p.new.stack m.new.store now.taken m.new.lines now.written (l.steps + p.result.steps)) (sym c.onward-regs.ensures)
          (round_goes a.guarded a.o.now a.allowance a.start a.stack.now a.store.now T l.regs l.stack l.store l.trays.taken l.lines l.trays.written l.steps l.invariant.0 p.result p.new.stack p.new.store p.ensures.0 p.auto.store c.in-Transfer.is m.new.store m.new.lines now c.in-Ok.ensures),
      (m.auto.kept ∙ l.invariant.1.0, p.ensures.1),
    )
