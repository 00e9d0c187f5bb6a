-- The filling of a table under way: H the table so far, W a stack of instructions of which `top` wait to be visited.
-- Assumes nothing.
use Rattle.std.specs.Prelude.{◌≡◌, ◌⊎◌, cond, List, [], ◌∷◌, ℕ, ◌+◌, ◌≤◌, ◌<◌, eqb, length}
use Rattle.rules_shared.specs.Limits.{limits}
use Rattle.rules_object.specs.Flow.{Flow, never, height_at, after, Lead, Fine, Reached}
use Rattle.rules_object.specs.Heights.{waiting}

-- how many entries are never
unfoldable pub nevers : List ℕ → ℕ
nevers [] = 0
nevers (x ∷ H) = cond (eqb x never) 1 0 + nevers H

-- every entry is never
pub record Blank (H : List ℕ) : Type 0 where
  pub all : (a : ℕ) → a < length H → height_at H a ≡ never
  pub count : nevers H ≡ length H

-- a is among the first `top` of W
pub record Waits (W : List ℕ) (top a : ℕ) : Type 0 where
  pub place : ℕ
  pub below : place < top
  pub is : waiting W place ≡ a

-- H is a table but for `each`, and its heights are those of paths; `space` bounds the stack and is the measure of the work left
pub record PartTable (F : Flow) (H W : List ℕ) (top : ℕ) : Type 0 where
  pub sized : F.n ≤ length H
  pub begins : (0 < F.n) × (height_at H 0 ≡ 0)
  pub low : (a : ℕ) → a < F.n → (height_at H a ≤ limits.stack) ⊎ (height_at H a ≡ never)
  pub reach : (a : ℕ) → a < F.n → height_at H a ≤ limits.stack → Reached F a (height_at H a)
  pub inside : (j : ℕ) → j < top → (waiting W j < F.n) × (height_at H (waiting W j) ≤ limits.stack)
  pub space : nevers H + top ≤ length W

-- between two visits: each instruction with a height waits or is fine
pub record Filling (F : Flow) (H W : List ℕ) (top : ℕ) : Type 0 where
  pub held : PartTable F H W top
  pub done : (b : ℕ) → b < F.n → height_at H b ≤ limits.stack → Waits W top b ⊎ Fine F H b

-- a is being visited, and k of its successors are done
pub record Visiting (F : Flow) (H W : List ℕ) (top a k : ℕ) : Type 0 where
  pub held : PartTable F H W top
  pub here : a < F.n
  pub high : height_at H a ≤ limits.stack
  pub room : F.takes a ≤ height_at H a
  pub part : (j : ℕ) → j < k → Lead F H a j
  pub done : (b : ℕ) → b < F.n → height_at H b ≤ limits.stack → (Waits W top b ⊎ Fine F H b) ⊎ (b ≡ a)

-- k successors of a are done, v is still the height after a, and what waits and what is never are `sum` together
pub record Went (F : Flow) (H W : List ℕ) (sum v a k top : ℕ) : Type 0 where
  pub visiting : Visiting F H W top a k
  pub stays : after F H a ≡ v
  pub count : nevers H + top ≡ sum
