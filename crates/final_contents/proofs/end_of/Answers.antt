use mathlib.Core.List.{[]}
use native.Mathlib.Omega.{arith}
use Rattle.final_contents.proofs.Loops.{next_start, next_within}
use Rattle.final_contents.proofs.end_of.Goals as goal

pub overflow_add-end : goal.overflow_add-end
overflow_add-end c = omega (arith, next_within c.args.bodies.now c.loop-body.body-index (record { ref_ptr = (0, 0); now = [] }) (omega arith) 100 c.loop-body.end c.loop-body.invariant)

pub loop-body-preserved : goal.loop-body-preserved
loop-body-preserved c = next_start c.args.bodies.now c.loop-body.body-index (record { ref_ptr = (0, 0); now = [] }) (omega arith) 100 c.loop-body.end c.loop-body.invariant
