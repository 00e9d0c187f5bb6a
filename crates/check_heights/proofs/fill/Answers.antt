-- `check_heights::fill` meets its contract. Assumes nothing.
use native.Mathlib.Omega.{arith}
use Rattle.rules_object.specs.Operations.{flow_of}
use Rattle.object_contents.specs.Layout.{object_at}
use Rattle.check_heights.proofs.Places.{flow_length, code_within}
use Rattle.check_heights.proofs.Loops.{first_round, last_one, visited, stuck, filled, not_filled}
use Rattle.check_heights.proofs.fill.Goals as goal

pub loop-top-init : goal.loop-top-init
loop-top-init c =
    let s = c.args.o.now.bytes.now in
    let e = c.args.o.now.layout in
    let H = c.args.table.now in
    let W = c.args.work.now in
    let F = flow_of (object_at e s) in
    let jud = c.requires.judged in
    let made = c.requires.fresh in
    first_round F H W made.0 (omega (arith, flow_length e s, c.args.o.now.placed.some_code)) (omega (arith, flow_length e s, code_within c.args.o.now jud)) made.1.0 made.1.1

pub visit-requires : goal.visit-requires
visit-requires c =
    let s = c.args.o.now.bytes.now in
    let e = c.args.o.now.layout in
    let F = flow_of (object_at e s) in
    let jud = c.requires.judged in
    let lp = c.loop-top in
    record { judged = (jud, omega (arith, lp.invariant.few, c.loop-top-test.true)); filling = last_one F lp.table lp.work lp.top (omega (arith, c.loop-top-test.true)) lp.invariant.filling }

pub loop-top-smaller : goal.loop-top-smaller
loop-top-smaller c =
    let s = c.args.o.now.bytes.now in
    let e = c.args.o.now.layout in
    let F = flow_of (object_at e s) in
    let v = visited F _ _ _ _ c.in-Some.ensures in
    omega (arith, v.1, c.loop-top-test.true)

pub loop-top-preserved : goal.loop-top-preserved
loop-top-preserved c =
    let s = c.args.o.now.bytes.now in
    let e = c.args.o.now.layout in
    let F = flow_of (object_at e s) in
    let lp = c.loop-top in
    let v = visited F _ _ _ _ c.in-Some.ensures in
    record { filling = v.0; few = omega (arith, v.1, lp.invariant.few, c.loop-top-test.true) }

pub returns-in_default : goal.returns-in_default
returns-in_default c =
    let s = c.args.o.now.bytes.now in
    let e = c.args.o.now.layout in
    let F = flow_of (object_at e s) in
    not_filled F _ _ (stuck F _ _ _ c.in_default.ensures)

pub returns : goal.returns
returns c =
    let s = c.args.o.now.bytes.now in
    let e = c.args.o.now.layout in
    let F = flow_of (object_at e s) in
    let lp = c.loop-top in
    filled F _ lp.table lp.work lp.top (flow_length e s) (omega (arith, c.loop-top-test.false)) lp.invariant.filling
