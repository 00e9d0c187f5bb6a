-- `read_formats::past` meets its contract. Assumes nothing.
use mathlib.Core.Path.{refl}
use native.Mathlib.Omega.{arith}
use Rattle.read_formats.proofs.FormatLaws.{past_there, past_other, past_blank, past_end}
use Rattle.read_formats.proofs.past.Goals as goal

pub loop-i-init : goal.loop-i-init
loop-i-init c =
    refl

pub returns-then-c-character : goal.returns-then-c-character
returns-then-c-character c =
    past_there c.args.columns.now c.args.at c.args.character c.loop-i.i c.loop-i.invariant c.loop-i-test.true c.if-c-ne32.true c.if-c-character.true

pub returns-then-c-ne32 : goal.returns-then-c-ne32
returns-then-c-ne32 c =
    past_other c.args.columns.now c.args.at c.args.character c.loop-i.i c.loop-i.invariant c.loop-i-test.true c.if-c-ne32.true c.if-c-character.false

pub loop-i-preserved : goal.loop-i-preserved
loop-i-preserved c =
    past_blank c.args.columns.now c.args.at c.args.character c.loop-i.i c.loop-i.invariant c.loop-i-test.true c.if-c-ne32.false

pub returns : goal.returns
returns c =
    past_end c.args.columns.now c.args.at c.args.character _ c.loop-i.invariant (omega arith)
