-- `read_formats::blank_from` meets its contract. Assumes nothing.
use mathlib.Core.Path.{refl}
use native.Mathlib.Omega.{arith}
use Rattle.read_formats.proofs.FormatLaws.{blanks_more, blanks_no, blanks_all}
use Rattle.read_formats.proofs.blank_from.Goals as goal

pub loop-i-init : goal.loop-i-init
loop-i-init c =
    refl

pub returns-then-columns-i-ne32 : goal.returns-then-columns-i-ne32
returns-then-columns-i-ne32 c =
    blanks_no c.args.columns.now c.args.at c.loop-i.i c.loop-i.invariant c.loop-i-test.true c.if-columns-i-ne32.true

pub loop-i-preserved : goal.loop-i-preserved
loop-i-preserved c =
    blanks_more c.args.columns.now c.args.at c.loop-i.i c.loop-i.invariant c.loop-i-test.true c.if-columns-i-ne32.false

pub returns : goal.returns
returns c =
    blanks_all c.args.columns.now c.args.at _ c.loop-i.invariant (omega arith)
