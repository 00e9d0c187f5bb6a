-- `check_formats::format_right` meets its contract. Assumes nothing.
use mathlib.Core.Path.{sym, ap, ◌∙◌}
use native.Mathlib.Omega.{arith}
use Rattle.std.proofs.lemmas.Bool.Decides.{nat_tests}
use Rattle.rules_formats.specs.Words.{word_kind, word_operand, is_end}
use Rattle.rules_object.specs.Check.{right_field}
use Rattle.object_contents.specs.Layout.{object_at}
use Rattle.object_contents.proofs.Entries.{format_length}
use Rattle.check_formats.proofs.Words.{end_says, field_says}
use Rattle.check_formats.proofs.format_right.Goals as goal

pub returns-then-start-back : goal.returns-then-start-back
returns-then-start-back c =
    let word = c.format_word-w.ensures in
    rw (← end_says (object_at c.args.e.now c.args.o.now) c.args.i c.args.start c.operand-back.result (sym (c.is_end.ensures ∙ ap is_end word) ∙ c.if-is_end.true) c.requires.2 (c.operand-back.ensures.0 ∙ ap word_operand word)) (grind (arith, nat_tests))

pub returns-else-start-back : goal.returns-else-start-back
returns-else-start-back c =
    let word = c.format_word-w.ensures in
    rw (← end_says (object_at c.args.e.now c.args.o.now) c.args.i c.args.start c.operand-back.result (sym (c.is_end.ensures ∙ ap is_end word) ∙ c.if-is_end.true) c.requires.2 (c.operand-back.ensures.0 ∙ ap word_operand word)) (grind (arith, nat_tests))

pub returns-then-field_right : goal.returns-then-field_right
returns-then-field_right c =
    let word = c.format_word-w.ensures in
    rw (← field_says (object_at c.args.e.now c.args.o.now) c.args.i c.args.e.now.format_count c.field_right.result (sym (c.is_end.ensures ∙ ap is_end word) ∙ c.if-is_end.false) (c.field_right.ensures ∙ ap (λ w. right_field (word_kind w) (word_operand w)) word) (format_length c.args.e.now c.args.o.now)) (grind (arith, nat_tests))

pub returns-else-field_right : goal.returns-else-field_right
returns-else-field_right c =
    let word = c.format_word-w.ensures in
    rw (← field_says (object_at c.args.e.now c.args.o.now) c.args.i c.args.e.now.format_count c.field_right.result (sym (c.is_end.ensures ∙ ap is_end word) ∙ c.if-is_end.false) (c.field_right.ensures ∙ ap (λ w. right_field (word_kind w) (word_operand w)) word) (format_length c.args.e.now c.args.o.now)) (grind (arith, nat_tests))
