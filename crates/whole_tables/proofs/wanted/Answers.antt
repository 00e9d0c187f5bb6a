-- `whole_tables::wanted` meets its contract. Assumes nothing.
use mathlib.Core.Path.{refl, ◌∙◌}
use native.Mathlib.Omega.{arith}
use lib.ListN.{length-replicate, length-set, get_or}
use Rattle.read_cards.specs.declared.Number.{Number}
use Rattle.whole_tables.proofs.Filling.{none_filled, one_filled}
use Rattle.whole_tables.proofs.wanted.Goals as goal

pub loop-k-init : goal.loop-k-init
loop-k-init c =
    record { long = length-replicate {A = Number} 1424 (record { 0 = 0 }); filled = none_filled (λ (n : Number). n.0) (record { 0 = 0 }) (λ k. get_or c.args.words.now k 0) _ }

pub loop-k-preserved : goal.loop-k-preserved
loop-k-preserved c =
    let i = c.loop-k.invariant in
    record {
      long = length-set c.loop-k.table c.loop-k.k _ ∙ i.long;
      filled = one_filled (λ (n : Number). n.0) (record { 0 = 0 }) (λ k. get_or c.args.words.now k 0) c.loop-k.table c.loop-k.k _ (omega (arith, c.loop-k-test.true, c.requires.0, i.long)) refl i.filled;
    }
