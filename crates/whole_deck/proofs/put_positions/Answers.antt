-- `whole_deck::put_positions` meets its contract. Assumes nothing.
use mathlib.Core.Path.{◌∙◌}
use Prim.Native.Nat.{suc}
use native.Mathlib.Omega.{arith}
use lib.ListN.{length-set}
use Rattle.whole_tables.specs.Tables.{place_in}
use Rattle.whole_tables.proofs.Filling.{none_filled, one_filled}
use Rattle.whole_deck.proofs.put_positions.Goals as goal

pub loop-k-init : goal.loop-k-init
loop-k-init c =
    record { long = c.told-words; filled = none_filled suc 0 (place_in c.args.places.now) _ }

pub loop-k-preserved : goal.loop-k-preserved
loop-k-preserved c =
    let i = c.loop-k.invariant in
    record {
      long = length-set c.loop-k.words c.loop-k.k _ ∙ i.long;
      filled = one_filled suc 0 (place_in c.args.places.now) c.loop-k.words c.loop-k.k _ (omega (arith, c.loop-k-test.true, c.requires.few, i.long)) c.position_of.ensures i.filled;
    }
