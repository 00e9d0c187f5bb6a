-- `read_formats::put_text` meets its contract. Assumes nothing.
use native.Mathlib.Omega.{arith}
use Rattle.read_formats.proofs.PutLaws.{puts_none, text_next, text_all}
use Rattle.read_formats.proofs.put_text.Goals as goal

pub loop-j-init : goal.loop-j-init
loop-j-init c =
    (puts_none c.args.words.now c.args.top c.requires.table.0 c.requires.table.1, omega arith)

pub loop-j-preserved : goal.loop-j-preserved
loop-j-preserved c =
    (text_next c.args.columns.now c.args.at c.args.n c.loop-j.j c.requires.text c.loop-j-test.true c.args.words.now c.loop-j.words c.put_character-t.new.words c.args.top c.loop-j.t c.put_character-t.result c.loop-j.invariant.0 c.put_character-t.ensures, omega (arith, c.loop-j-test.true))

pub returns : goal.returns
returns c =
    text_all c.args.columns.now c.args.at c.args.n c.loop-j.j c.args.words.now c.loop-j.words c.args.top c.loop-j.t c.loop-j.invariant.1 c.loop-j-test.false c.loop-j.invariant.0
