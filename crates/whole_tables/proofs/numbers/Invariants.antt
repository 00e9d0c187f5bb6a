-- `whole_tables::numbers` meets its contract. Assumes nothing.
use mathlib.Core.Path.{◌≡◌}
use lib.ListN.{length}
use Rattle.read_cards.specs.declared.Number.{Number}
use Rattle.whole_tables.specs.Rows.{number_at}
use Rattle.whole_tables.proofs.Filling.{Filled}
use Rattle.whole_tables.proofs.numbers.Given as goal

abbrev pub invariant-loop-q : goal.invariant-loop-q
invariant-loop-q l = record { long : length l.table ≡ 400; filled : Filled (λ (n : Number). n.0) (record { 0 = 0 }) (number_at l.rows) l.table l.q }
