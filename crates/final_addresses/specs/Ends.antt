-- The DOs that end with a statement, as the tables tell them.
-- Assumes nothing.
use Rattle.std.specs.Prelude.{ℕ, zero, suc, ◌+◌, ◌*◌, ◌≤◌, ◌<◌, cond, List, [], ◌∷◌, eqb, length, get_or}

-- the position of the last statement of the d-th DO
abbrev pub last_at : List ℕ → List ℕ → ℕ → ℕ
last_at loops jumps d = get_or jumps (get_or loops (2 * d + 1) 0) 0

-- those of the first n DOs that end with the statement at position i, the latest first
abbrev pub ends_at : List ℕ → List ℕ → ℕ → ℕ → List ℕ
ends_at loops jumps i zero = []
ends_at loops jumps i (suc d) = cond (eqb (last_at loops jumps d) i) (d ∷ ends_at loops jumps i d) (ends_at loops jumps i d)

-- the last statement's position of each of n DOs stands in the tables
pub record Lasts (loops : List ℕ) (n : ℕ) (jumps : List ℕ) : Type 0 where
  pub long : 2 * n ≤ length loops
  pub inside : (d : ℕ) → d < n → get_or loops (2 * d + 1) 0 < length jumps
