-- `take_entries::linear_of` meets its contract. Assumes nothing.
use mathlib.Core.Path.{sym, ◌∙◌}
use borrow.Author.Tests.{eqb-true, eqb-false, not-true, not-false}
use Rattle.take_entries.proofs.Entered.{of_constant, of_name}
use Rattle.take_entries.proofs.linear_of.Goals as goal

pub returns-then-not-is_name : goal.returns-then-not-is_name
returns-then-not-is_name c =
    of_constant c.args.names.now.words.now c.args.names.now.count c.low-times.ensures c.signed-plus.ensures (eqb-true _ 0 (not-false _ (sym c.is_name.ensures ∙ c.if-not-is_name.true)))

pub returns : goal.returns
returns c =
    of_name c.args.names.now.words.now c.args.names.now.count c.low-times.ensures c.signed-plus.ensures (eqb-false _ 0 (not-true _ (sym c.is_name.ensures ∙ c.if-not-is_name.false))) c.cell_of-cell.ensures
