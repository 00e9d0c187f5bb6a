-- `whole_tables::numbers` meets its contract. Assumes nothing.
use mathlib.Core.Path.{◌∙◌}
use native.Mathlib.Omega.{arith}
use lib.ListN.{length-replicate, length-set}
use Rattle.read_cards.specs.declared.Number.{Number}
use Rattle.whole_tables.specs.Rows.{number_at}
use Rattle.whole_tables.proofs.Filling.{none_filled, one_filled}
use Rattle.whole_tables.proofs.numbers.Goals as goal

pub loop-q-init : goal.loop-q-init
loop-q-init c =
    record { long = length-replicate {A = Number} 400 (record { 0 = 0 }); filled = none_filled (λ (n : Number). n.0) (record { 0 = 0 }) (number_at c.args.rows.now) _ }

pub number_of-requires : goal.number_of-requires
number_of-requires c =
    let h = c.loop-q-test.true in
    (omega (arith, h, c.requires.long), c.requires.low c.loop-q.q h)

pub loop-q-preserved : goal.loop-q-preserved
loop-q-preserved c =
    let i = c.loop-q.invariant in
    record {
      long = length-set c.loop-q.table c.loop-q.q _ ∙ i.long;
      filled = one_filled (λ (n : Number). n.0) (record { 0 = 0 }) (number_at c.args.rows.now) c.loop-q.table c.loop-q.q _ (omega (arith, c.loop-q-test.true, c.requires.few, i.long)) c.number_of.ensures i.filled;
    }
