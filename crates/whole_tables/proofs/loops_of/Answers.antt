-- `whole_tables::loops_of` meets its contract. Assumes nothing.
use mathlib.Core.Path.{refl, ◌∙◌}
use Prim.Native.Nat.{suc}
use native.Mathlib.Omega.{arith}
use lib.ListN.{length-replicate, length-set}
use Rattle.whole_tables.specs.declared.DoRange.{DoRange}
use Rattle.whole_tables.specs.Rows.{do_index, last_index}
use Rattle.whole_tables.specs.Tables.{place_in}
use Rattle.whole_tables.proofs.Filling.{none_filled, one_filled}
use Rattle.whole_tables.proofs.loops_of.Goals as goal

pub loop-i-init : goal.loop-i-init
loop-i-init c =
    let W = c.args.words.now in
    record { long = length-replicate {A = DoRange} 64 (record { first = record { 0 = 0 }; last = record { 0 = 0 } }); firsts = none_filled (λ (r : DoRange). r.first.0) (record { first = record { 0 = 0 }; last = record { 0 = 0 } }) (λ d. suc (do_index W d)) _; lasts = none_filled (λ (r : DoRange). r.last.0) (record { first = record { 0 = 0 }; last = record { 0 = 0 } }) (λ d. place_in c.args.places.now (last_index W d)) _ }

pub sequence_of-requires : goal.sequence_of-requires
sequence_of-requires c =
    c.requires.starts c.loop-i.i c.loop-i-test.true

pub loop-i-preserved : goal.loop-i-preserved
loop-i-preserved c =
    let W = c.args.words.now in
    let i = c.loop-i.invariant in
    record {
      long = length-set c.loop-i.table c.loop-i.i _ ∙ i.long;
      firsts = one_filled (λ (r : DoRange). r.first.0) (record { first = record { 0 = 0 }; last = record { 0 = 0 } }) (λ d. suc (do_index W d)) c.loop-i.table c.loop-i.i _ (omega (arith, c.loop-i-test.true, c.requires.few, i.long)) c.sequence_of.ensures i.firsts;
      lasts = one_filled (λ (r : DoRange). r.last.0) (record { first = record { 0 = 0 }; last = record { 0 = 0 } }) (λ d. place_in c.args.places.now (last_index W d)) c.loop-i.table c.loop-i.i _ (omega (arith, c.loop-i-test.true, c.requires.few, i.long)) refl i.lasts;
    }
