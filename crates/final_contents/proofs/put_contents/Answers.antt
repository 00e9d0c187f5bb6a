use mathlib.Core.List.{List, [], ◌∷◌}
use mathlib.Core.Path.{ap}
use Prim.Native.Nat.{ℕ}
use native.Mathlib.Omega.{arith}
use Rattle.rules_object.specs.Kinds.{edition}
use Rattle.object_bodies.specs.Edition.{count}
use Rattle.final_body.proofs.Words.{put_next, put_as}
use Rattle.final_contents.proofs.Loops.{next_start, next_within, next_entry}
use Rattle.final_contents.proofs.put_contents.Goals as goal

pub overflow_mul-length : goal.overflow_mul-length
overflow_mul-length c = omega (arith, next_within c.args.bodies.now c.loop-kind.kind (record { ref_ptr = (0, 0); now = [] }) (omega arith) 100 c.loop-kind.first c.loop-kind.invariant.1)

pub overflow_cast-first : goal.overflow_cast-first
overflow_cast-first c = omega (arith, next_within c.args.bodies.now c.loop-kind.kind (record { ref_ptr = (0, 0); now = [] }) (omega arith) 100 c.loop-kind.first c.loop-kind.invariant.1)

pub overflow_cast-length : goal.overflow_cast-length
overflow_cast-length c = omega (arith, next_within c.args.bodies.now c.loop-kind.kind (record { ref_ptr = (0, 0); now = [] }) (omega arith) 100 c.loop-kind.first c.loop-kind.invariant.1)

pub overflow_add-first : goal.overflow_add-first
overflow_add-first c = omega (arith, next_within c.args.bodies.now c.loop-kind.kind (record { ref_ptr = (0, 0); now = [] }) (omega arith) 100 c.loop-kind.first c.loop-kind.invariant.1)

pub loop-kind-preserved : goal.loop-kind-preserved
loop-kind-preserved c =
    let next = next_entry c.args.bodies.now c.loop-kind.kind (record { ref_ptr = (0, 0); now = [] }) (omega arith) 1 100 c.loop-kind.first c.loop-kind.invariant.1 in
    (put_as (ap (λ (l : List ℕ). edition ∷ c.args.k ∷ c.args.cells ∷ count ∷ l) next) (put_next c.loop-kind.invariant.0 c.put_body-at-in-loop-kind.ensures), next_start c.args.bodies.now c.loop-kind.kind (record { ref_ptr = (0, 0); now = [] }) (omega arith) 100 c.loop-kind.first c.loop-kind.invariant.1)
