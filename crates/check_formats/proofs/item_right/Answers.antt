-- `check_formats::item_right` meets its contract. Assumes nothing.
use Rattle.check_formats.proofs.Says.{element_item, cells_item}
use Rattle.check_formats.proofs.item_right.Goals as goal

pub returns-then-count-eq0 : goal.returns-then-count-eq0
returns-then-count-eq0 c =
    element_item c.args.e.now c.args.o.now c.args.i c.requires.1 c.load-first.result c.load-count.result c.load-first.ensures c.load-count.ensures c.if-count-eq0.true

pub returns-else-count-eq0 : goal.returns-else-count-eq0
returns-else-count-eq0 c =
    simp (c.from.ensures, c.from-else-count-eq0.ensures, c.from-else-count-eq0-2.ensures) (cells_item c.args.e.now c.args.o.now c.args.i c.requires.1 c.load-first.result c.load-count.result c.load-first.ensures c.load-count.ensures c.if-count-eq0.false)
