-- `take_names::take_any` meets its contract. Assumes nothing.
use mathlib.Core.Path.{sym, ◌∙◌}
use borrow.Author.Tests.{eqb-true, eqb-false, not-true, not-false}
use Rattle.take_names.proofs.Takes.{none_word, some_name}
use Rattle.take_names.proofs.take_any.Goals as goal

pub returns-then-not-is_name : goal.returns-then-not-is_name
returns-then-not-is_name c =
    none_word c.args.table.now c.args.n c.args.name (eqb-true _ 0 (not-false _ (sym c.is_name.ensures ∙ c.if-not-is_name.true)))

pub returns : goal.returns
returns c =
    some_name c.args.table.now _ c.args.n c.args.name c.take_name.result (eqb-false _ 0 (not-true _ (sym c.is_name.ensures ∙ c.if-not-is_name.false))) c.take_name.ensures
