-- `take_name_table::listed::Names::holds` meets its contract. Assumes nothing.
use mathlib.Core.Path.{sym, subst}
use mathlib.Core.Bool.{Bool}
use Rattle.take_name_table.specs.Lookups.{Holds}
use Rattle.take_name_table.proofs.Looks.{holds_found}
use Rattle.take_name_table.proofs.listed.Names.holds.Goals as goal

pub returns : goal.returns
returns c =
    let a = c.args in
    subst (λ (b : Bool). Holds a.self.now.words.now a.self.now.count a.name a.arrays b) (sym c.is_some.ensures) (holds_found _ _ _ _ c.find.result c.find.ensures)
