-- `check_formats::begins_format` meets its contract. Assumes nothing.
use mathlib.Core.Path.{ap, ◌∙◌}
use Rattle.rules_formats.specs.Words.{is_end}
use Rattle.object_contents.specs.Layout.{object_at}
use Rattle.check_formats.proofs.Words.{begins_after}
use Rattle.check_formats.proofs.begins_format.Goals as goal

pub returns-else-i-eq0 : goal.returns-else-i-eq0
returns-else-i-eq0 c =
    c.is_end.ensures ∙ ap is_end c.format_word.ensures ∙ begins_after (object_at c.args.e.now c.args.o.now) c.args.i c.if-i-eq0.false
