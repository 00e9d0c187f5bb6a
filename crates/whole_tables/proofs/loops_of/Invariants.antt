-- `whole_tables::loops_of` meets its contract. Assumes nothing.
use mathlib.Core.Path.{◌≡◌}
use lib.ListN.{length}
use Prim.Native.Nat.{suc}
use Rattle.whole_tables.specs.declared.DoRange.{DoRange}
use Rattle.whole_tables.specs.Rows.{do_index, last_index}
use Rattle.whole_tables.specs.Tables.{place_in}
use Rattle.whole_tables.proofs.Filling.{Filled}
use Rattle.whole_tables.proofs.loops_of.Given as goal

abbrev pub invariant-loop-i : goal.invariant-loop-i
invariant-loop-i l = record { long : length l.table ≡ 64; firsts : Filled (λ (r : DoRange). r.first.0) (record { first = record { 0 = 0 }; last = record { 0 = 0 } }) (λ d. suc (do_index l.words d)) l.table l.i; lasts : Filled (λ (r : DoRange). r.last.0) (record { first = record { 0 = 0 }; last = record { 0 = 0 } }) (λ d. place_in l.places (last_index l.words d)) l.table l.i }
