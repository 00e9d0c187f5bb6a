-- `run_machine::sequence` meets its contract. Assumes nothing.
use mathlib.Core.Path.{refl, sym, ap, ◌∙◌}
use Prim.Native.Nat.{◌+◌, ◌-◌}
use native.Mathlib.Omega.{arith}
use Rattle.rules_object.specs.Calls.{last_at}
use Rattle.run_machine.proofs.Sequences.{rest, sequence_none, sequence_is, line_taken, line_passed, lines_over}
use Rattle.run_machine.proofs.sequence.Goals as goal
use Rattle.run_machine.proofs.sequence.Goals.{then-load-address, else-load-address}

pub returns-then-mark-eq0 : goal.returns-then-mark-eq0
returns-then-mark-eq0 c = sequence_none c.args.o.now c.args.e.now c.args.mark c.if-mark-eq0.true

pub loop-i-preserved : goal.loop-i-preserved
loop-i-preserved c =
    let s = c.args.o.now in
    let e = c.args.e.now in
    let l = c.loop-i in
    let k = c.args.mark - 1 in
    elim c.if-load-address.branch [
      | then-load-address w ↦ l.invariant ∙ line_taken s e l.i k l.found c.load.result w.load-found.result c.loop-i-test.true c.load.ensures w.if-load-address.true w.load-found.ensures ∙ ap (last_at (rest s e (l.i + 1)) k) (sym w.found-is)
      | else-load-address w ↦ l.invariant ∙ line_passed s e l.i k l.found c.load.result c.loop-i-test.true c.load.ensures w.if-load-address.false ∙ ap (last_at (rest s e (l.i + 1)) k) (sym w.found-is)
    ]

pub returns : goal.returns
returns c =
    let s = c.args.o.now in
    let e = c.args.e.now in
    let l = c.loop-i in
    let k = c.args.mark - 1 in
    sym (lines_over s e l.i k l.found (omega arith)) ∙ sym l.invariant ∙ sequence_is s e c.args.mark k c.if-mark-eq0.false refl
