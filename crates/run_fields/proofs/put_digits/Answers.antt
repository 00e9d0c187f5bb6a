-- `run_fields::put_digits` meets its contract. Assumes nothing.
use native.Mathlib.Omega.{arith}
use Rattle.run_fields.proofs.PrintLaws.{put_start, put_no_room, put_last, put_next}
use Rattle.run_fields.proofs.put_digits.Goals as goal

pub loop-at-init : goal.loop-at-init
loop-at-init c = put_start c.args.n c.args.line.now

pub returns-then-left-eq0 : goal.returns-then-left-eq0
returns-then-left-eq0 c =
    let lp = c.loop-at in
    put_last c.args.n lp.left lp.at c.args.line.now lp.line lp.invariant c.loop-at-test.true c.if-left-eq0.true

pub loop-at-preserved : goal.loop-at-preserved
loop-at-preserved c =
    let lp = c.loop-at in
    put_next c.args.n lp.left lp.at c.args.line.now lp.line lp.invariant c.loop-at-test.true c.if-left-eq0.false

pub returns : goal.returns
returns c =
    let lp = c.loop-at in
    put_no_room c.args.n lp.left lp.at c.args.line.now lp.line lp.invariant (omega (arith, c.loop-at-test.false))
