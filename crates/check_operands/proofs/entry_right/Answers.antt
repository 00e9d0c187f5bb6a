-- `check_operands::entry_right` meets its contract. Assumes nothing.
use mathlib.Core.Path.{◌∙◌}
use Rattle.check_operands.proofs.Tests.{word_is, entry_is}
use Rattle.check_operands.proofs.entry_right.Goals as goal

pub used_right-requires : goal.used_right-requires
used_right-requires c =
    word_is _ c.args.w _ _ c.operation.ensures.0 c.operand.ensures.0 ∙ c.requires

pub returns : goal.returns
returns c =
    c.used_right.ensures ∙ entry_is _ c.args.w _ _ c.operation.ensures.0 c.operand.ensures.0
