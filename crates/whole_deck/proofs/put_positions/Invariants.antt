-- `whole_deck::put_positions` meets its contract. Assumes nothing.
use mathlib.Core.Path.{◌≡◌}
use Prim.Native.Nat.{suc}
use lib.ListN.{length}
use Rattle.whole_tables.specs.Tables.{place_in}
use Rattle.whole_tables.proofs.Filling.{Filled}
use Rattle.whole_deck.proofs.put_positions.Given as goal

abbrev pub invariant-loop-k : goal.invariant-loop-k
invariant-loop-k l = record { long : length l.words ≡ 1424; filled : Filled suc 0 (place_in l.places) l.words l.k }
