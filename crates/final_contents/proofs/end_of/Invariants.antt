use mathlib.Core.Path.{◌≡◌}
use Prim.Native.Nat.{◌+◌, ◌*◌}
use lib.ListN.{length, take}
use Rattle.rules_object.specs.Bytes.{concat}
use Rattle.object_bodies.specs.Edition.{head}
use Rattle.final_body.specs.Bodies.{tables}
use Rattle.final_contents.proofs.end_of.Given as goal

abbrev pub invariant-loop-body : goal.invariant-loop-body
invariant-loop-body l = l.end ≡ head + 4 * length (concat (tables (take l.body-index l.bodies)))
