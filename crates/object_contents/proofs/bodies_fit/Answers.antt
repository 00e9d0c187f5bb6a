-- `object_contents::bodies_fit` meets its contract: the loop reads the bodies before `kind` as the book does, and the book goes on from there. Assumes nothing.
use mathlib.Core.Path.{◌≡◌, refl, sym, ◌∙◌, subst}
use Prim.Native.Nat.{ℕ, ◌%◌, ◌≤◌}
use mathlib.Core.Bool.{Bool, true, false}
use mathlib.Core.List.{List}
use lib.Dec.{eqb}
use native.Mathlib.Omega.{arith}
use borrow.Author.Tests.{eqb-true, eqb-false}
use lib.ListN.{length}
use Rattle.rules_object.specs.Kinds.{contents_length}
use Rattle.object_bodies.specs.Edition.{most_kinds}
use Rattle.object_contents.specs.Bodies.{AllFit}
use Rattle.object_contents.proofs.Bodies.{Words, Going, fit, begins, goes, stops, past, ends}
use Rattle.object_contents.proofs.bodies_fit.Goals as goal

-- all kinds are passed: nothing is left over, or something is
all_fit : (s : List ℕ) (n at k : ℕ) → Words s n → Going s n k at → n ≤ k → AllFit s n (eqb at (length s))
all_fit s n at k w g h = go (eqb at (length s)) refl
  where
    last : k ≡ n
    last = omega (arith, g.few)

    whole : Going s n n at
    whole = subst (λ m. Going s n m at) last g

    go : (t : Bool) → eqb at (length s) ≡ t → AllFit s n t
    go true e = ends s n at w whole (eqb-true at (length s) e)
    go false e = past s n at w whole (eqb-false at (length s) e)

words_there : (s : List ℕ) (n : ℕ) → (contents_length n ≤ length s) × (n ≤ most_kinds) × (length s % 4 ≡ 0) → Words s n
words_there s n h = record { long = h.0; four = h.2; few = h.1 }

pub loop-kind-init : goal.loop-kind-init
loop-kind-init c =
    rw c.contents_length-at.ensures (begins c.args.o.now c.args.kinds (words_there _ _ c.requires))

pub body_fits-requires : goal.body_fits-requires
body_fits-requires c =
    (c.requires.0, c.requires.1, c.loop-kind-test.true, c.loop-kind.invariant.inside)

pub returns-then-not-body_fits : goal.returns-then-not-body_fits
returns-then-not-body_fits c =
    stops _ _ _ _ (words_there _ _ c.requires) c.loop-kind-test.true c.loop-kind.invariant (sym c.body_fits.ensures ∙ c.if-not-body_fits.true)

pub overflow_add-at : goal.overflow_add-at
overflow_add-at c =
    let e = fit _ _ _ _ (sym c.body_fits.ensures ∙ c.if-not-body_fits.false) in
    omega (arith, e.inside)

pub loop-kind-preserved : goal.loop-kind-preserved
loop-kind-preserved c =
    rw c.length_of-at.ensures (goes _ _ _ _ (words_there _ _ c.requires) c.loop-kind-test.true c.loop-kind.invariant (sym c.body_fits.ensures ∙ c.if-not-body_fits.false))

pub returns : goal.returns
returns c =
    all_fit _ _ _ _ (words_there _ _ c.requires) c.loop-kind.invariant c.loop-kind-test.false
