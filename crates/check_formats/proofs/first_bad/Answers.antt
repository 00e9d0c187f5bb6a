-- `check_formats::first_bad` meets its contract. Assumes nothing.
use mathlib.Core.Path.{sym, ap, ◌∙◌}
use Rattle.rules_formats.specs.Words.{is_end}
use Rattle.rules_object.specs.Check.{right_format}
use Rattle.object_contents.specs.Layout.{object_at}
use Rattle.check_formats.proofs.Firsts.{first_more}
use Rattle.check_formats.proofs.Words.{begins_next, goes_on}
use Rattle.check_formats.proofs.first_bad.Goals as goal
use Rattle.check_formats.proofs.first_bad.Goals.{then-is_end, else-is_end}

pub loop-i-preserved : goal.loop-i-preserved
loop-i-preserved c =
    let o = object_at c.args.e.now c.args.o.now in
    let i = c.loop-i.i in
    let end = sym (c.is_end.ensures ∙ ap is_end c.format_word.ensures) in
    let later = c.loop-i.invariant.1 ∙ first_more (right_format o) c.args.e.now.format_count i c.loop-i-test.true (sym c.format_right.ensures ∙ c.if-not-format_right.false) in
    elim c.if-is_end.branch [ then-is_end w ↦ (w.start-is ∙ begins_next o i (end ∙ w.if-is_end.true), later) | else-is_end w ↦ (w.start-is ∙ c.loop-i.invariant.0 ∙ goes_on o i (end ∙ w.if-is_end.false), later) ]
