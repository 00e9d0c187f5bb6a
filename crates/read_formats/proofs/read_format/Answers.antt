-- `read_formats::read_format` meets its contract. Assumes nothing.
use Rattle.read_formats.proofs.FormatLaws.{format_unopened, format_no_list, format_followed, format_full, format_stored}
use Rattle.read_formats.proofs.read_format.Goals as goal

pub returns-in_default : goal.returns-in_default
returns-in_default c =
    format_unopened c.args.columns.now c.args.words.now c.args.top c.in_default.ensures

pub returns-in_default-read_list : goal.returns-in_default-read_list
returns-in_default-read_list c =
    format_no_list c.args.columns.now c.args.words.now c.args.top c.in-Some.at c.in-Some.ensures c.read_list.new.words c.in_default-read_list.ensures

pub returns-then-not-blank_from : goal.returns-then-not-blank_from
returns-then-not-blank_from c =
    format_followed c.args.columns.now c.args.words.now c.args.top c.in-Some.at c.in-Some.ensures c.read_list.new.words c.in-Some-read_list.s c.in-Some-read_list.ensures c.blank_from.result c.blank_from.ensures (c.if-not-blank_from.true)

pub returns-then-end-gt-MOST : goal.returns-then-end-gt-MOST
returns-then-end-gt-MOST c =
    format_full c.args.columns.now c.args.words.now c.args.top c.in-Some.at c.in-Some.ensures c.read_list.new.words c.in-Some-read_list.s c.in-Some-read_list.ensures c.blank_from.result c.blank_from.ensures (c.if-not-blank_from.false) c.put-end.new.words c.put-end.result c.put-end.ensures c.if-end-gt-MOST.true

pub returns : goal.returns
returns c =
    format_stored c.args.columns.now c.args.words.now c.args.top c.in-Some.at c.in-Some.ensures c.read_list.new.words c.in-Some-read_list.s c.in-Some-read_list.ensures c.blank_from.result c.blank_from.ensures (c.if-not-blank_from.false) c.put-end.new.words c.put-end.result c.put-end.ensures c.if-end-gt-MOST.false
