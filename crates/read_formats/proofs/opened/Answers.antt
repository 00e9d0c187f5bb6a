-- `read_formats::opened` meets its contract. Assumes nothing.
use native.Mathlib.Omega.{arith}
use Rattle.read_formats.proofs.FormatLaws.{opening_start, opening_no, opening_more, opening_end}
use Rattle.read_formats.proofs.opened.Goals as goal

pub loop-k-init : goal.loop-k-init
loop-k-init c =
    opening_start c.args.columns.now

pub returns-in_err-at : goal.returns-in_err-at
returns-in_err-at c =
    rw c.from_residual.ensures (opening_no c.args.columns.now c.loop-k.at c.loop-k.k c.loop-k.invariant c.loop-k-test.true c.in_err-at.ensures)

pub loop-k-preserved : goal.loop-k-preserved
loop-k-preserved c =
    opening_more c.args.columns.now c.loop-k.at c.loop-k.k c.loop-k.invariant c.loop-k-test.true c.in_ok-at.at c.in_ok-at.ensures

pub returns : goal.returns
returns c =
    opening_end c.args.columns.now c.loop-k.at _ c.loop-k.invariant (omega arith)
