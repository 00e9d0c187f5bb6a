-- 43, and 42 of the entry that an instruction uses, by operation and operand.
-- Assumes nothing.
use Rattle.std.specs.Prelude.{ℕ, Bool}
use Rattle.rules_object.specs.Object.{Object}
use Rattle.rules_object.specs.Operations.{operation_at}

unfoldable pub operand_right : Object → ℕ → ℕ → Bool
operand_right o operation x = (operation_at operation).operand_right o x

unfoldable pub entry_right_at : Object → ℕ → ℕ → Bool
entry_right_at o operation x = (operation_at operation).entry_right o x
