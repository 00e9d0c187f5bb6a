use mathlib.Core.Path.{◌≡◌}
use Prim.Native.Nat.{◌+◌, ◌*◌}
use mathlib.Core.List.{◌∷◌}
use lib.ListN.{length, take}
use Rattle.rules_object.specs.Kinds.{edition}
use Rattle.rules_object.specs.Bytes.{concat, body_table}
use Rattle.object_bodies.specs.Edition.{count, head}
use Rattle.final_body.specs.Bodies.{PutBody, tables}
use Rattle.final_contents.proofs.put_contents.Given as goal

-- the entries of the kinds before this one are there
abbrev pub invariant-loop-kind : goal.invariant-loop-kind
invariant-loop-kind l =
    PutBody l.fn.out 0 (edition ∷ l.k ∷ l.cells ∷ count ∷ body_table 1 head (tables (take l.kind l.bodies))) l.out l.at
    × (l.first ≡ head + 4 * length (concat (tables (take l.kind l.bodies))))
