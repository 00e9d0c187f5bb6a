-- `take_plan_names::right_operands` meets its contract. Assumes nothing.
use Rattle.take_plan_names.proofs.Operands.{first_worded, items_worded, both_16}
use Rattle.take_plan_names.proofs.right_operands.Goals as goal

pub right_operands-requires : goal.right_operands-requires
right_operands-requires c = (first_worded c.requires, items_worded c.requires)

pub returns : goal.returns
returns c = both_16 c.right_operands.ensures
