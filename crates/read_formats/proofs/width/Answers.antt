-- `read_formats::width` meets its contract. Assumes nothing.
use Rattle.read_formats.proofs.StepLaws.{width_bad, width_goes}
use Rattle.read_formats.proofs.NumberLaws.{counted_some}
use Rattle.read_formats.proofs.width.Goals as goal

pub returns-in_err-w : goal.returns-in_err-w
returns-in_err-w c =
    rw c.from_residual.ensures (width_bad c.args.columns.now c.args.words.now c.args.s c.args.at c.args.n c.in_err-w.ensures)

pub returns : goal.returns
returns c =
    width_goes c.args.columns.now c.args.words.now c.args.s c.args.at c.args.n c.requires.ready c.in_ok-w.w (counted_some _ _ _ _ c.in_ok-w.ensures) c.put-once.new.words c.repeat-top.new.words c.put-once.result c.repeat-top.result c.put-once.ensures c.repeat-top.ensures
