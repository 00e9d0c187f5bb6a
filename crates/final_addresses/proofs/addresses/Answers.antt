-- `final_addresses::addresses` meets its contract: the addresses so far are the deck's. Assumes nothing.
use mathlib.Core.Path.{refl}
use native.Mathlib.Omega.{arith}
use lib.ListN.{length, length-set}
use Rattle.final_addresses.specs.Ends.{ends_at}
use Rattle.final_addresses.proofs.Told.{rows_long}
use Rattle.final_addresses.proofs.Passing.{passed_none, passed_more, following_small}
use Rattle.final_addresses.proofs.addresses.Goals as goal

pub loop-i-init : goal.loop-i-init
loop-i-init c = λ house deck told. passed_none deck c.args.starts.now (omega arith)

pub bounds-rows-i : goal.bounds-rows-i
bounds-rows-i c = omega (arith, rows_long c.requires.0.are.in_rows)

pub overflow_add-at : goal.overflow_add-at
overflow_add-at c =
    let g = c.requires.0 in
    let p = c.loop-i.invariant g.house g.deck g.are in
    omega (arith, following_small g.are c.loop-i.i c.loop-i.at (length (ends_at c.args.dos.now.loops.now c.args.dos.now.jumps.now c.loop-i.i c.args.dos.now.count)) c.loop-i-test.true refl p.here)

pub overflow_add-at-in-loop-i : goal.overflow_add-at-in-loop-i
overflow_add-at-in-loop-i c =
    let g = c.requires.0 in
    let p = c.loop-i.invariant g.house g.deck g.are in
    omega (arith, following_small g.are c.loop-i.i c.loop-i.at c.ending.result c.loop-i-test.true c.ending.ensures p.here)

pub overflow_cast-starts : goal.overflow_cast-starts
overflow_cast-starts c =
    let g = c.requires.0 in
    let p = c.loop-i.invariant g.house g.deck g.are in
    omega (arith, following_small g.are c.loop-i.i c.loop-i.at c.ending.result c.loop-i-test.true c.ending.ensures p.here)

pub loop-i-preserved : goal.loop-i-preserved
loop-i-preserved c =
    λ house deck told. passed_more told c.loop-i.starts c.loop-i.i c.loop-i.at c.ending.result c.loop-i-test.true (omega (arith, length-set c.args.starts.now 0 0)) c.ending.ensures (c.loop-i.invariant house deck told)
