-- `take_name_table::listed::Names::find` meets its contract. Assumes nothing.
use mathlib.Core.Path.{sym, ◌∙◌}
use native.Mathlib.Omega.{arith}
use Rattle.take_name_table.proofs.Leaves.{seek_start, seek_found, seek_next, seek_end}
use Rattle.take_name_table.proofs.listed.Names.find.Goals as goal

pub loop-i-init : goal.loop-i-init
loop-i-init c = seek_start _ _ _ _

pub returns-then-is_entry : goal.returns-then-is_entry
returns-then-is_entry c =
    let lp = c.loop-i in
    (omega arith, seek_found _ _ _ _ lp.i lp.invariant c.loop-i-test.true (sym c.is_entry.ensures ∙ c.if-is_entry.true))

pub loop-i-preserved : goal.loop-i-preserved
loop-i-preserved c =
    let lp = c.loop-i in
    seek_next _ _ _ _ lp.i lp.invariant c.loop-i-test.true (sym c.is_entry.ensures ∙ c.if-is_entry.false)

pub returns : goal.returns
returns c = seek_end _ _ _ _ c.loop-i.i c.loop-i.invariant (omega arith)
