-- `read_formats::after_count` meets its contract. Assumes nothing.
use Rattle.read_formats.proofs.StepLaws.{steps_bad, counted_bad, count_number, count_group, count_skip, count_short, count_text}
use Rattle.read_formats.proofs.after_count.Goals as goal

pub returns-then-c-eq73 : goal.returns-then-c-eq73
returns-then-c-eq73 c =
    count_number c.args.columns.now c.args.words.now c.args.s c.args.at c.args.n c.requires.ready c.if-c-eq73.true c.width.new.words c.width.result c.width.ensures

pub returns-then-c-eq40 : goal.returns-then-c-eq40
returns-then-c-eq40 c =
    count_group c.args.columns.now c.args.words.now c.args.s c.args.at c.args.n c.requires.ready c.if-c-eq40.true

pub returns-then-c-eq88 : goal.returns-then-c-eq88
returns-then-c-eq88 c =
    count_skip c.args.columns.now c.args.words.now c.args.s c.args.at c.args.n c.requires.ready c.if-c-eq88.true c.put-top.new.words c.put-top.result c.put-top.ensures

pub returns-then-c-ne72 : goal.returns-then-c-ne72
returns-then-c-ne72 c =
    steps_bad c.args.columns.now c.args.words.now c.args.words.now c.args.s _ (counted_bad c.args.n _ _ c.if-c-eq73.false c.if-c-eq40.false c.if-c-eq88.false c.if-c-ne72.true)

pub returns-then-n-columns : goal.returns-then-n-columns
returns-then-n-columns c =
    count_short c.args.columns.now c.args.words.now c.args.s c.args.at c.args.n c.requires.ready c.if-c-ne72.false c.if-n-columns.true

pub returns : goal.returns
returns c =
    count_text c.args.columns.now c.args.words.now c.args.s c.args.at c.args.n c.requires.ready c.if-c-ne72.false c.if-n-columns.false c.put_text-top.new.words c.put_text-top.result c.put_text-top.ensures
