-- `check_operands::word_right` meets its contract. Assumes nothing.
use mathlib.Core.Path.{◌∙◌}
use Rattle.check_operands.proofs.Tests.{word_is}
use Rattle.check_operands.proofs.word_right.Goals as goal

pub returns : goal.returns
returns c =
    c.operand_right.ensures ∙ word_is _ c.args.w _ _ c.operation.ensures.0 c.operand.ensures.0
