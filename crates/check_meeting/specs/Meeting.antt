-- What a meeting does, for either answer: H is the table, W the worklist, and `sum` counts what is never and what waits.
-- Assumes nothing.
use Rattle.std.specs.Prelude.{◌≡◌, List, ℕ, ◌+◌, ◌<◌, Option, Some, None}
use Rattle.rules_object.specs.Flow.{Flow, after, PathsAgree}
use Rattle.rules_object.specs.Filling.{nevers, Visiting, Went}

-- one more successor is done, or paths do not agree
unfoldable pub Goes : Flow → List ℕ → List ℕ → ℕ → ℕ → ℕ → ℕ → Option ℕ → Type 0
Goes F H W sum v a k (Some top) = Went F H W sum v a k top
Goes F H W sum v a k None = PathsAgree F → ⊥

-- The height h comes to t of n instructions, in any flow where t is the next successor to be done and h the height after a.
pub record Meets (n t h : ℕ) (H W : List ℕ) (top : ℕ) (H' W' : List ℕ) (r : Option ℕ) : Type 0 where
  pub goes : (F : Flow) (a k : ℕ) → F.n ≡ n → F.next a k ≡ t → after F H a ≡ h → k < F.width a → Visiting F H W top a k → Goes F H' W' (nevers H + top) h a (k + 1) r
