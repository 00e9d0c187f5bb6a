-- `whole_tables::wanted` meets its contract. Assumes nothing.
use mathlib.Core.Path.{◌≡◌}
use lib.ListN.{length, get_or}
use Rattle.read_cards.specs.declared.Number.{Number}
use Rattle.whole_tables.proofs.Filling.{Filled}
use Rattle.whole_tables.proofs.wanted.Given as goal

abbrev pub invariant-loop-k : goal.invariant-loop-k
invariant-loop-k l = record { long : length l.table ≡ 1424; filled : Filled (λ (n : Number). n.0) (record { 0 = 0 }) (λ k. get_or l.words k 0) l.table l.k }
