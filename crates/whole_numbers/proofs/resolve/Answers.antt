-- `whole_numbers::resolve` meets its contract. Assumes nothing.
use native.Mathlib.Omega.{arith}
use lib.ListN.{length, length-replicate}
use Rattle.read_cards.specs.declared.Sequence.{Sequence}
use Rattle.whole_numbers.proofs.Resolving.{resolves_more, resolves_stops, resolves_ends}
use Rattle.whole_numbers.proofs.resolve.Goals as goal

pub loop-k-init : goal.loop-k-init
loop-k-init c =
    record { long = length-replicate {A = Sequence} 1424 (record { 0 = 0 }); done = λ i h. absurd (omega arith) }

pub returns-in_default : goal.returns-in_default
returns-in_default c =
    resolves_stops c.args.numbers.now (length c.args.numbers.now) c.args.jumps.now (length c.args.jumps.now) c.loop-k.places c.loop-k.k c.loop-k.invariant _ c.place_of.ensures c.in_default.is (omega (arith, c.loop-k-test.true))

pub loop-k-preserved : goal.loop-k-preserved
loop-k-preserved c =
    resolves_more c.args.numbers.now (length c.args.numbers.now) c.args.jumps.now (length c.args.jumps.now) c.loop-k.places c.loop-k.k c.loop-k.invariant _ c.place_of.ensures _ c.in-Some.is (omega (arith, c.loop-k-test.true, c.requires.1))

pub returns : goal.returns
returns c =
    resolves_ends c.args.numbers.now (length c.args.numbers.now) c.args.jumps.now (length c.args.jumps.now) c.loop-k.places c.loop-k.k c.loop-k.invariant (omega (arith, c.loop-k-test.false))
