-- `final_body::put_bodies` meets its contract: each body after those that are written. Assumes nothing.
use native.Mathlib.Omega.{arith}
use mathlib.Core.List.{[]}
use Rattle.final_body.proofs.Words.{put_none, put_long, put_next, put_as, bodies_more, bodies_room}
use Rattle.final_body.proofs.put_bodies.Goals as goal

pub loop-body-init : goal.loop-body-init
loop-body-init c = put_none c.args.out.now 100 (omega arith)

pub put_body-at-requires : goal.put_body-at-requires
put_body-at-requires c =
    omega (arith, put_long c.loop-body.invariant, c.loop-body.invariant.ends, bodies_room c.args.bodies.now c.loop-body.body-index (record { ref_ptr = (0, 0); now = [] }) (omega arith))

pub loop-body-preserved : goal.loop-body-preserved
loop-body-preserved c =
    put_as (bodies_more c.args.bodies.now c.loop-body.body-index _ (omega arith)) (put_next c.loop-body.invariant c.put_body-at.ensures)
