-- `check_entries::line_right` meets its contract. Assumes nothing.
use mathlib.Core.Path.{◌∙◌}
use Rattle.check_entries.proofs.Says.{line_says}
use Rattle.check_entries.proofs.line_right.Goals as goal

pub returns : goal.returns
returns c =
    c.in_code.ensures ∙ line_says _ _ c.args.i c.requires.1
