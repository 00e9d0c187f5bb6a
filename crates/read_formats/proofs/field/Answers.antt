-- `read_formats::field` meets its contract. Assumes nothing.
use mathlib.Core.Path.{refl}
use native.Mathlib.Omega.{arith}
use Rattle.read_formats.proofs.StepLaws.{field_once, field_low, field_high, field_wrong, field_ends, field_counted}
use Rattle.read_formats.proofs.NumberLaws.{counted_some}
use Rattle.read_formats.proofs.field.Goals as goal

pub returns-then-c-eq73 : goal.returns-then-c-eq73
returns-then-c-eq73 c =
    field_once c.args.columns.now c.args.words.now c.args.s c.requires.inside 73 c.if-c-eq73.true refl c.after_count.new.words c.after_count.result c.after_count.ensures

pub returns-then-c-eq40 : goal.returns-then-c-eq40
returns-then-c-eq40 c =
    field_once c.args.columns.now c.args.words.now c.args.s c.requires.inside 40 c.if-c-eq40.true refl c.after_count-then-c-eq40.new.words c.after_count-then-c-eq40.result c.after_count-then-c-eq40.ensures

pub returns-then-c-lt48 : goal.returns-then-c-lt48
returns-then-c-lt48 c =
    field_low c.args.columns.now c.args.words.now c.args.s c.requires.inside c.if-c-eq73.false c.if-c-eq40.false c.if-c-lt48.true

pub returns-then-c-gt57 : goal.returns-then-c-gt57
returns-then-c-gt57 c =
    field_high c.args.columns.now c.args.words.now c.args.s c.requires.inside c.if-c-eq73.false c.if-c-eq40.false c.if-c-lt48.false c.if-c-gt57.true

pub returns-in_err-n : goal.returns-in_err-n
returns-in_err-n c =
    rw c.from_residual.ensures (field_wrong c.args.columns.now c.args.words.now c.args.s c.requires.inside _ c.if-c-lt48.false c.if-c-gt57.false (omega arith) c.in_err-n.ensures)

pub returns-then-n-columns : goal.returns-then-n-columns
returns-then-n-columns c =
    field_ends c.args.columns.now c.args.words.now c.args.s c.requires.inside _ c.if-c-lt48.false c.if-c-gt57.false (omega arith) c.in_ok-n.n (counted_some _ _ _ _ c.in_ok-n.ensures) c.if-n-columns.true

pub returns : goal.returns
returns c =
    field_counted c.args.columns.now c.args.words.now c.args.s c.requires.inside _ c.if-c-lt48.false c.if-c-gt57.false (omega arith) c.in_ok-n.n (counted_some _ _ _ _ c.in_ok-n.ensures) c.if-n-columns.false c.after_count-2.new.words c.after_count-2.result c.after_count-2.ensures
