-- `whole_ranges::wrong_jump` meets its contract. Assumes nothing.
use mathlib.Core.Path.{refl, sym, ap, ◌∙◌}
use Prim.Native.Nat.{suc}
use native.Mathlib.Omega.{arith}
use mathlib.Core.Option.{some}
use Rattle.whole_numbers.proofs.Tests.{first_starts, first_more, first_stops, first_ends, all_more, all_stops, all_ends}
use Rattle.whole_numbers.proofs.Starts.{jumps_inside, start_on}
use Rattle.whole_ranges.specs.Ranges.{jump_stays, jumps_right}
use Rattle.whole_ranges.proofs.Jumps.{exits_few, jumps_told}
use Rattle.whole_ranges.proofs.wrong_jump.Goals as goal

pub loop-q-init : goal.loop-q-init
loop-q-init c =
    let n = c.args.count in
    let R = c.args.rows.now in
    let D = c.args.loops.now in
    let P = c.args.places.now in
    let test = jumps_right R D P in
    (refl, first_starts test suc n)

pub overflow_add-end : goal.overflow_add-end
overflow_add-end c =
    let n = c.args.count in
    let R = c.args.rows.now in
    let q = c.loop-q.q in
    let inv = c.loop-q.invariant in
    let p = c.requires in
    let inside = jumps_inside R q n c.loop-q-test.true in
    let few = exits_few R q in
    omega (arith, inside, few, inv.0, p.few_jumps, c.exits_of.ensures)

pub loop-k-init : goal.loop-k-init
loop-k-init c =
    refl

pub offset_bounds-places-k : goal.offset_bounds-places-k
offset_bounds-places-k c =
    let n = c.args.count in
    let R = c.args.rows.now in
    let q = c.loop-q.q in
    let inv = c.loop-q.invariant in
    let p = c.requires in
    let inside = jumps_inside R q n c.loop-q-test.true in
    let few = exits_few R q in
    omega (arith, inside, few, inv.0, p.few_jumps, c.exits_of.ensures, c.loop-k-test.true)

pub bounds-places-k : goal.bounds-places-k
bounds-places-k c =
    let n = c.args.count in
    let R = c.args.rows.now in
    let q = c.loop-q.q in
    let inv = c.loop-q.invariant in
    let p = c.requires in
    let inside = jumps_inside R q n c.loop-q-test.true in
    let few = exits_few R q in
    omega (arith, inside, few, inv.0, p.few_jumps, c.exits_of.ensures, c.loop-k-test.true)

pub returns-then-not-stays_out_of_all : goal.returns-then-not-stays_out_of_all
unfolding jump_stays
returns-then-not-stays_out_of_all c =
    let n = c.args.count in
    let R = c.args.rows.now in
    let D = c.args.loops.now in
    let P = c.args.places.now in
    let test = jumps_right R D P in
    let q = c.loop-q.q in
    let at = c.loop-q.at in
    let inv = c.loop-q.invariant in
    let stays = jump_stays D P c.sequence_of-here.result.0 in
    let told = jumps_told R D P q at c.exits_of.result c.sequence_of-here.result.0 inv.0 c.exits_of.ensures c.sequence_of-here.ensures in
    let k = c.loop-k.k in
    let turn = c.loop-k.invariant in
    let wrong = sym told ∙ turn ∙ all_stops stays _ k c.loop-k-test.true (sym c.stays_out_of_all.ensures ∙ c.if-not-stays_out_of_all.true) in
    ap some c.sequence_of-here.ensures ∙ sym (inv.1 ∙ first_stops test suc n q c.loop-q-test.true wrong)

pub loop-k-preserved : goal.loop-k-preserved
unfolding jump_stays
loop-k-preserved c =
    let D = c.args.loops.now in
    let P = c.args.places.now in
    let inv = c.loop-q.invariant in
    let stays = jump_stays D P c.sequence_of-here.result.0 in
    let k = c.loop-k.k in
    let turn = c.loop-k.invariant in
    (turn ∙ all_more stays _ k c.loop-k-test.true (sym c.stays_out_of_all.ensures ∙ c.if-not-stays_out_of_all.false))

pub overflow_add-at : goal.overflow_add-at
overflow_add-at c =
    let n = c.args.count in
    let R = c.args.rows.now in
    let q = c.loop-q.q in
    let inv = c.loop-q.invariant in
    let p = c.requires in
    let inside = jumps_inside R q n c.loop-q-test.true in
    omega (arith, inside, inv.0, p.few_jumps, c.jumps_of-at.ensures)

pub loop-q-preserved : goal.loop-q-preserved
loop-q-preserved c =
    let n = c.args.count in
    let R = c.args.rows.now in
    let D = c.args.loops.now in
    let P = c.args.places.now in
    let test = jumps_right R D P in
    let q = c.loop-q.q in
    let at = c.loop-q.at in
    let inv = c.loop-q.invariant in
    let stays = jump_stays D P c.sequence_of-here.result.0 in
    let told = jumps_told R D P q at c.exits_of.result c.sequence_of-here.result.0 inv.0 c.exits_of.ensures c.sequence_of-here.ensures in
    let k = c.loop-k.k in
    let turn = c.loop-k.invariant in
    let right = sym told ∙ turn ∙ all_ends stays _ k c.loop-k-test.false in
    (start_on R q at c.jumps_of-at.result inv.0 c.jumps_of-at.ensures, inv.1 ∙ first_more test suc n q c.loop-q-test.true right)

pub returns : goal.returns
returns c =
    let n = c.args.count in
    let R = c.args.rows.now in
    let D = c.args.loops.now in
    let P = c.args.places.now in
    let test = jumps_right R D P in
    let q = c.loop-q.q in
    let inv = c.loop-q.invariant in
    sym (inv.1 ∙ first_ends test suc n q c.loop-q-test.false)
