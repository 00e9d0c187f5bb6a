-- `final_body::put_bodies` meets its contract: each body after those that are written. Assumes nothing.
use lib.ListN.{take}
use Rattle.rules_object.specs.Bytes.{concat}
use Rattle.object_bodies.specs.Edition.{head}
use Rattle.final_body.specs.Bodies.{PutBody, tables}
use Rattle.final_body.proofs.put_bodies.Given as goal

abbrev pub invariant-loop-body : goal.invariant-loop-body
invariant-loop-body l = PutBody l.initial.out head (concat (tables (take l.body-index l.bodies))) l.out l.at
