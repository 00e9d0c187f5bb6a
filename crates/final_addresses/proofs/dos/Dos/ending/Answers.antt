-- `final_addresses::Dos::ending` meets its contract: the count is of the DOs passed. Assumes nothing.
use mathlib.Core.Path.{sym, ap, ◌∙◌}
use native.Mathlib.Omega.{arith}
use lib.ListN.{length}
use Rattle.final_addresses.proofs.Ends.{ends_most, ends_one, ends_same}
use Rattle.final_addresses.proofs.dos.Dos.ending.Goals as goal
use Rattle.final_addresses.proofs.dos.Dos.ending.Goals.{then-last-i, else-last-i}

pub overflow_add-many : goal.overflow_add-many
overflow_add-many c =
    omega (arith, ends_most c.args.self.now.loops.now c.args.self.now.jumps.now c.args.i c.loop-d.d, c.loop-d.invariant)

pub loop-d-preserved : goal.loop-d-preserved
loop-d-preserved c =
    let l = c.args.self.now.loops.now in
    let j = c.args.self.now.jumps.now in
    let i = c.args.i in
    let d = c.loop-d.d in
    let same = c.last.ensures in
    elim c.if-last-i.branch [ then-last-i w ↦ let e = ends_one l j i d (sym same ∙ w.if-last-i.true) in omega (arith, ap length e, w.many-is, c.loop-d.invariant) | else-last-i w ↦ let e = ends_same l j i d (λ h. w.if-last-i.false (same ∙ h)) in omega (arith, ap length e, w.many-is, c.loop-d.invariant) ]
