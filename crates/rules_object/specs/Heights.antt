-- Rule 44 as a function: a worklist fills in the least table, or finds that there is none. 01 "44".
-- Assumes nothing.
use Rattle.std.specs.Prelude.{cond, List, ℕ, zero, suc, ◌+◌, eqb, ltb, leb, get_or, set, replicate}
use Rattle.std.proofs.Math.Option.{Option, none, some}
use Rattle.rules_shared.specs.Limits.{limits}
use Rattle.rules_object.specs.Flow.{Flow, never, height_at, after}

-- a table, a stack of instructions and how many of them wait to be visited; or that paths do not agree
pub data Way : Type 0 where
  way : List ℕ → List ℕ → ℕ → Way
  stop : Way

-- the instruction at a place of the stack
abbrev pub waiting : List ℕ → ℕ → ℕ
waiting W j = get_or W j 0

abbrev pub and_on : Way → (List ℕ → List ℕ → ℕ → Way) → Way
and_on stop f = stop
and_on (way H W top) f = f H W top

-- the height v comes to t: t must exist, and take v as its height or have it
abbrev pub meets : Flow → ℕ → ℕ → List ℕ → List ℕ → ℕ → Way
meets F t v H W top =
    cond (leb F.n t) stop
    (cond (eqb (height_at H t) never) (cond (ltb limits.stack v) stop (way (set H t v) (set W top t) (top + 1)))
    (cond (eqb (height_at H t) v) (way H W top) stop))

-- v comes to j successors of a, from the kth
abbrev pub spread : Flow → ℕ → ℕ → ℕ → ℕ → List ℕ → List ℕ → ℕ → Way
spread F a v zero k H W top = way H W top
spread F a v (suc j) k H W top = and_on (meets F (F.next a k) v H W top) (λ H W top. spread F a v j (k + 1) H W top)

-- a must be able to pop; then the resulting height comes to all its successors
abbrev pub visits : Flow → ℕ → List ℕ → List ℕ → ℕ → Way
visits F a H W top = cond (ltb (height_at H a) (F.takes a)) stop (spread F a (after F H a) (F.width a) 0 H W top)

-- at most f visits
abbrev pub fills : Flow → ℕ → List ℕ → List ℕ → ℕ → Way
fills F zero H W zero = way H W zero
fills F zero H W (suc top) = stop
fills F (suc f) H W zero = way H W zero
fills F (suc f) H W (suc top) = and_on (visits F (waiting W top) H W top) (λ H W top. fills F f H W top)

abbrev pub found : Way → Option (List ℕ)
found stop = none
found (way H W top) = some H

-- instruction 0 has 0 and waits; each instruction is visited once at most
abbrev pub heights_of : Flow → ℕ → Option (List ℕ)
heights_of F zero = none
heights_of F (suc n) = found (fills F (suc n) (set (replicate (suc n) never) 0 0) (replicate (suc n) 0) 1)

-- the least table, with an entry for each instruction, or none
unfoldable pub heights : Flow → Option (List ℕ)
heights F = heights_of F F.n
