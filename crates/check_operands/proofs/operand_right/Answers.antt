-- `check_operands::operand_right` meets its contract. Assumes nothing.
use mathlib.Core.Path.{sym, ap, ◌∙◌}
use native.Mathlib.Omega.{arith}
use Rattle.object_contents.specs.Layout.{object_at}
use Rattle.check_operands.specs.Operands.{operand_right}
use Rattle.check_operands.proofs.Exits.{right_at}
use Rattle.check_operands.proofs.Tests.{constant_in, cell_in_lem, element_in_lem, zero_in, code_in, do_in, transfer_in, no_operation}
use Rattle.check_operands.proofs.operand_right.Goals as goal

pub returns-in-0 : goal.returns-in-0
unfolding operand_right
returns-in-0 c = ap (λ k. operand_right (object_at c.args.e.now c.args.o.now) k c.args.x) (sym c.in-0.is)

pub returns-in-1 : goal.returns-in-1
returns-in-1 c = constant_in c.args.e.now c.args.o.now c.args.x ∙ ap (right_at c.args.e.now c.args.o.now c.args.x) (sym c.in-1.is)

pub returns-in-11 : goal.returns-in-11
returns-in-11 c = code_in c.args.e.now c.args.o.now c.args.x ∙ ap (right_at c.args.e.now c.args.o.now c.args.x) (sym c.in-11.is)

pub returns-in-12 : goal.returns-in-12
returns-in-12 c = c.br3_right.ensures ∙ ap (right_at c.args.e.now c.args.o.now c.args.x) (sym c.in-12.is)

pub returns-in-13 : goal.returns-in-13
returns-in-13 c = c.brc_right.ensures ∙ ap (right_at c.args.e.now c.args.o.now c.args.x) (sym c.in-13.is)

pub returns-in-2 : goal.returns-in-2
returns-in-2 c = cell_in_lem c.args.e.now c.args.o.now c.args.x c.args.operation (omega arith) (omega arith)

pub returns-in-4 : goal.returns-in-4
returns-in-4 c = element_in_lem c.args.e.now c.args.o.now c.args.x c.args.operation (omega arith) (omega arith)

pub returns-in-6 : goal.returns-in-6
returns-in-6 c = zero_in c.args.e.now c.args.o.now c.args.x c.args.operation (omega arith) (omega arith)

pub returns-in-14 : goal.returns-in-14
returns-in-14 c = do_in c.args.e.now c.args.o.now c.args.x c.args.operation (omega arith) (omega arith)

pub returns-in-16 : goal.returns-in-16
returns-in-16 c = transfer_in c.args.e.now c.args.o.now c.args.x c.args.operation (omega arith) (omega arith)

pub returns-in_default : goal.returns-in_default
returns-in_default c = no_operation _ _ _ (omega arith)
