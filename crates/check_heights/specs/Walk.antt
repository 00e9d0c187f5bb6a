-- What a visit does, for either answer: H is the table, W the worklist, and `sum` counts what is never and what waits.
-- Assumes nothing.
use Rattle.std.specs.Prelude.{◌≡◌, List, ℕ, ◌+◌, Option, Some, None}
use Rattle.rules_object.specs.Flow.{Flow, PathsAgree}
use Rattle.rules_object.specs.Filling.{nevers, Filling}

-- a is visited; a visit takes 1 off what is never and what waits, together
unfoldable pub Visited : Flow → List ℕ → List ℕ → ℕ → Option ℕ → Type 0
Visited F H W sum (Some top) = Filling F H W top × (nevers H + top ≡ sum)
Visited F H W sum None = PathsAgree F → ⊥
