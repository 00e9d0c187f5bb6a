-- `read_formats::number` meets its contract. Assumes nothing.
use mathlib.Core.Path.{sym, ◌∙◌}
use mathlib.Core.Path.{◌≡◌}
use lib.ListN.{length}
use native.Mathlib.Omega.{arith}
use Rattle.read_formats.proofs.NumberLaws.{counting_start, counting_more, counted_stop, counted_end}
use Rattle.read_formats.proofs.number.Goals as goal

pub loop-i-init : goal.loop-i-init
loop-i-init c =
    counting_start c.args.columns.now c.args.at c.args.n c.requires.0 c.requires.1

pub returns-then-not-in_run : goal.returns-then-not-in_run
returns-then-not-in_run c =
    rw c.tested.ensures (counted_stop c.args.columns.now c.args.at c.args.n c.loop-i.v c.loop-i.i c.loop-i.invariant c.loop-i-test.true (sym c.in_run.ensures ∙ c.if-not-in_run.true))

pub loop-i-preserved : goal.loop-i-preserved
loop-i-preserved c =
    counting_more c.args.columns.now c.args.at c.args.n c.loop-i.v c.loop-i.i c.loop-i.invariant c.loop-i-test.true (sym c.in_run.ensures ∙ c.if-not-in_run.false) c.grown-v.result c.grown-v.ensures

pub returns : goal.returns
returns c =
    let e : c.loop-i.i ≡ length c.args.columns.now = omega (arith, c.loop-i-test.false, c.loop-i.auto.i-end c.requires.1) in
    rw (c.tested-2.ensures, ← e) (counted_end c.args.columns.now c.args.at c.args.n c.loop-i.v c.loop-i.i c.loop-i.invariant c.loop-i-test.false)
