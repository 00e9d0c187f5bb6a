-- `check_formats::format_word` meets its contract. Assumes nothing.
use mathlib.Core.Path.{sym, ◌∙◌}
use Rattle.object_contents.proofs.Entries.{format_at_lem}
use Rattle.check_formats.proofs.format_word.Goals as goal

pub returns : goal.returns
returns c =
    c.load.ensures ∙ sym (format_at_lem c.args.e.now c.args.o.now c.args.i c.requires.1)
