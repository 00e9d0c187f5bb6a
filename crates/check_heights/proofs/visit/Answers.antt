-- `check_heights::visit` meets its contract. Assumes nothing.
use mathlib.Core.Path.{refl, sym, ◌∙◌}
use native.Mathlib.Omega.{arith}
use Rattle.rules_object.specs.Operations.{flow_of}
use Rattle.rules_object.proofs.Fills.{there, short, begin, finish}
use Rattle.object_contents.specs.Layout.{object_at}
use Rattle.object_contents.proofs.Entries.{code_inside}
use Rattle.check_heights.specs.Walk.{Visited}
use Rattle.check_heights.proofs.Places.{flow_length, code_within, waits_inside, decoded, op_known, takes_is, gives_is, width_is, next_is}
use Rattle.check_meeting.specs.Meeting.{Goes}
use Rattle.check_heights.proofs.Loops.{went}
use Rattle.check_heights.proofs.visit.Goals as goal

pub load-w-requires : goal.load-w-requires
load-w-requires c =
    let s = c.args.o.now.bytes.now in
    let e = c.args.o.now.layout in
    let a = c.from-a.result in
    let H = c.args.table.now in
    let W = c.args.work.now in
    let b = c.args.start in
    let jud = c.requires.judged.0 in
    let pl = c.args.o.now.placed in
    let isa = sym c.from-a.ensures in
    let fil = c.requires.filling in
    let inn = waits_inside e s H W b isa fil in
    code_inside e s pl a inn

pub bounds-table-a : goal.bounds-table-a
bounds-table-a c =
    let s = c.args.o.now.bytes.now in
    let e = c.args.o.now.layout in
    let H = c.args.table.now in
    let W = c.args.work.now in
    let b = c.args.start in
    let jud = c.requires.judged.0 in
    let isa = sym c.from-a.ensures in
    let fil = c.requires.filling in
    let inn = waits_inside e s H W b isa fil in
    omega (arith, inn, code_within c.args.o.now jud)

pub pops_of-p-requires : goal.pops_of-p-requires
pops_of-p-requires c =
    let s = c.args.o.now.bytes.now in
    let e = c.args.o.now.layout in
    let a = c.from-a.result in
    let H = c.args.table.now in
    let W = c.args.work.now in
    let b = c.args.start in
    let jud = c.requires.judged.0 in
    let isa = sym c.from-a.ensures in
    let fil = c.requires.filling in
    let inn = waits_inside e s H W b isa fil in
    let d = decoded c.args.o.now a c.load-w.result c.operation-op.result c.operand-x.result jud inn c.load-w.ensures c.operation-op.ensures.0 c.operand-x.ensures.0 in
    op_known d

pub returns-then-g-p : goal.returns-then-g-p
unfolding Visited
returns-then-g-p c =
    let s = c.args.o.now.bytes.now in
    let e = c.args.o.now.layout in
    let a = c.from-a.result in
    let H = c.args.table.now in
    let W = c.args.work.now in
    let b = c.args.start in
    let F = flow_of (object_at e s) in
    let jud = c.requires.judged.0 in
    let isa = sym c.from-a.ensures in
    let fil = c.requires.filling in
    let inn = waits_inside e s H W b isa fil in
    let d = decoded c.args.o.now a c.load-w.result c.operation-op.result c.operand-x.result jud inn c.load-w.ensures c.operation-op.ensures.0 c.operand-x.ensures.0 in
    short F H W b a isa fil (omega (arith, c.if-g-p.true, takes_is d c.pops_of-p.result c.pops_of-p.ensures))

pub pushes_of-requires : goal.pushes_of-requires
pushes_of-requires c =
    let s = c.args.o.now.bytes.now in
    let e = c.args.o.now.layout in
    let a = c.from-a.result in
    let H = c.args.table.now in
    let W = c.args.work.now in
    let b = c.args.start in
    let jud = c.requires.judged.0 in
    let isa = sym c.from-a.ensures in
    let fil = c.requires.filling in
    let inn = waits_inside e s H W b isa fil in
    let d = decoded c.args.o.now a c.load-w.result c.operation-op.result c.operand-x.result jud inn c.load-w.ensures c.operation-op.ensures.0 c.operand-x.ensures.0 in
    op_known d

pub overflow_add-h : goal.overflow_add-h
overflow_add-h c =
    let s = c.args.o.now.bytes.now in
    let e = c.args.o.now.layout in
    let a = c.from-a.result in
    let H = c.args.table.now in
    let W = c.args.work.now in
    let b = c.args.start in
    let F = flow_of (object_at e s) in
    let isa = sym c.from-a.ensures in
    let fil = c.requires.filling in
    omega (arith, (there F H W b a isa fil).1, c.pushes_of.ensures.1)

pub width_of-n-requires : goal.width_of-n-requires
width_of-n-requires c =
    let s = c.args.o.now.bytes.now in
    let e = c.args.o.now.layout in
    let a = c.from-a.result in
    let H = c.args.table.now in
    let W = c.args.work.now in
    let b = c.args.start in
    let jud = c.requires.judged.0 in
    let pl = c.args.o.now.placed in
    let isa = sym c.from-a.ensures in
    let fil = c.requires.filling in
    let inn = waits_inside e s H W b isa fil in
    let d = decoded c.args.o.now a c.load-w.result c.operation-op.result c.operand-x.result jud inn c.load-w.ensures c.operation-op.ensures.0 c.operand-x.ensures.0 in
    (pl, d.right)

pub loop-k-init : goal.loop-k-init
loop-k-init c =
    let s = c.args.o.now.bytes.now in
    let e = c.args.o.now.layout in
    let a = c.from-a.result in
    let H = c.args.table.now in
    let W = c.args.work.now in
    let b = c.args.start in
    let F = flow_of (object_at e s) in
    let jud = c.requires.judged.0 in
    let isa = sym c.from-a.ensures in
    let fil = c.requires.filling in
    let inn = waits_inside e s H W b isa fil in
    let d = decoded c.args.o.now a c.load-w.result c.operation-op.result c.operand-x.result jud inn c.load-w.ensures c.operation-op.ensures.0 c.operand-x.ensures.0 in
    let ep = takes_is d c.pops_of-p.result c.pops_of-p.ensures in
    let eg = gives_is d c.pushes_of.result c.pushes_of.ensures.0 in
    record { visiting = begin F H W b a isa fil (omega (arith, ep, c.if-g-p.false)); stays = omega (arith, ep, eg); count = refl }

pub next_of-t-requires : goal.next_of-t-requires
next_of-t-requires c =
    let s = c.args.o.now.bytes.now in
    let e = c.args.o.now.layout in
    let a = c.from-a.result in
    let H = c.args.table.now in
    let W = c.args.work.now in
    let b = c.args.start in
    let jud = c.requires.judged.0 in
    let pl = c.args.o.now.placed in
    let isa = sym c.from-a.ensures in
    let fil = c.requires.filling in
    let inn = waits_inside e s H W b isa fil in
    let d = decoded c.args.o.now a c.load-w.result c.operation-op.result c.operand-x.result jud inn c.load-w.ensures c.operation-op.ensures.0 c.operand-x.ensures.0 in
    record { placed = (pl, d.right); bound = (omega (arith, inn, code_within c.args.o.now jud), omega (arith, c.width_of-n.ensures a, c.loop-k-test.true)) }

pub meet-requires : goal.meet-requires
meet-requires c =
    let s = c.args.o.now.bytes.now in
    let e = c.args.o.now.layout in
    let jud = c.requires.judged.0 in
    let lp = c.loop-k in
    (code_within c.args.o.now jud, (omega (arith, flow_length e s, lp.invariant.visiting.held.sized), omega (arith, lp.invariant.count, c.requires.judged.1)))

pub returns-in_err-top : goal.returns-in_err-top
unfolding Visited Goes
returns-in_err-top c =
    let s = c.args.o.now.bytes.now in
    let e = c.args.o.now.layout in
    let a = c.from-a.result in
    let H = c.args.table.now in
    let W = c.args.work.now in
    let b = c.args.start in
    let F = flow_of (object_at e s) in
    let jud = c.requires.judged.0 in
    let isa = sym c.from-a.ensures in
    let fil = c.requires.filling in
    let inn = waits_inside e s H W b isa fil in
    let d = decoded c.args.o.now a c.load-w.result c.operation-op.result c.operand-x.result jud inn c.load-w.ensures c.operation-op.ensures.0 c.operand-x.ensures.0 in
    let lp = c.loop-k in
    let em = width_is d c.width_of-n.result (c.width_of-n.ensures a) in
    rw c.from_residual.ensures (c.in_err-top.ensures.goes F a lp.k (flow_length e s) (next_is d lp.k c.next_of-t.result c.next_of-t.ensures) lp.invariant.stays (omega (arith, em, c.loop-k-test.true)) lp.invariant.visiting)

pub loop-k-preserved : goal.loop-k-preserved
loop-k-preserved c =
    let s = c.args.o.now.bytes.now in
    let e = c.args.o.now.layout in
    let a = c.from-a.result in
    let H = c.args.table.now in
    let W = c.args.work.now in
    let b = c.args.start in
    let F = flow_of (object_at e s) in
    let jud = c.requires.judged.0 in
    let isa = sym c.from-a.ensures in
    let fil = c.requires.filling in
    let inn = waits_inside e s H W b isa fil in
    let d = decoded c.args.o.now a c.load-w.result c.operation-op.result c.operand-x.result jud inn c.load-w.ensures c.operation-op.ensures.0 c.operand-x.ensures.0 in
    let lp = c.loop-k in
    let em = width_is d c.width_of-n.result (c.width_of-n.ensures a) in
    let g = went F _ _ _ _ a _ _ (c.in_ok-top.ensures.goes F a lp.k (flow_length e s) (next_is d lp.k c.next_of-t.result c.next_of-t.ensures) lp.invariant.stays (omega (arith, em, c.loop-k-test.true)) lp.invariant.visiting) in
    record { visiting = g.visiting; stays = g.stays; count = g.count ∙ lp.invariant.count }

pub returns : goal.returns
unfolding Visited
returns c =
    let s = c.args.o.now.bytes.now in
    let e = c.args.o.now.layout in
    let a = c.from-a.result in
    let H = c.args.table.now in
    let W = c.args.work.now in
    let b = c.args.start in
    let jud = c.requires.judged.0 in
    let isa = sym c.from-a.ensures in
    let fil = c.requires.filling in
    let inn = waits_inside e s H W b isa fil in
    let d = decoded c.args.o.now a c.load-w.result c.operation-op.result c.operand-x.result jud inn c.load-w.ensures c.operation-op.ensures.0 c.operand-x.ensures.0 in
    let lp = c.loop-k in
    let em = width_is d c.width_of-n.result (c.width_of-n.ensures a) in
    (finish lp.invariant.visiting (omega (arith, em, c.loop-k-test.false)), lp.invariant.count)
