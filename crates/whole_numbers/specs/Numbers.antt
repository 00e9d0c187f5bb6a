-- Tests of one position after the other, and 20 to 22 by them.
-- Assumes nothing.
use Rattle.std.specs.Prelude.{◌≡◌, ℕ, zero, suc, ◌+◌, ◌≤◌, ◌<◌, Bool, true, false, ◌&&◌, ◌||◌, not, cond, List, eqb, leb}
use Rattle.std.proofs.Math.Option.{Option, none, some}
use Rattle.rules_shared.specs.Refusals.{or_else}
use Rattle.std.specs.Prelude as std
use Rattle.refusals.specs.Answers.{maybe}
use Rattle.read_cards.specs.declared.Number.{Number}
use Rattle.read_cards.specs.declared.Sequence.{Sequence}
use Rattle.whole_tables.specs.Rows.{kind_at, jumps_at, start_of}
use Rattle.whole_tables.specs.Tables.{number_in, place_in}
use Rattle.whole_numbers.specs.declared.Resolved.{Resolved}

-- ---- tests of n positions, from i on

abbrev pub all_from : (ℕ → Bool) → ℕ → ℕ → Bool
all_from test zero i = true
all_from test (suc n) i = test i && all_from test n (suc i)

-- the place of the first that fails
abbrev pub first_from : (ℕ → Bool) → (ℕ → ℕ) → ℕ → ℕ → Option ℕ
first_from test place zero i = none
first_from test place (suc n) i = cond (test i) (first_from test place n (suc i)) (some (place i))

-- how many pass
abbrev pub count_from : (ℕ → Bool) → ℕ → ℕ → ℕ
count_from test zero i = 0
count_from test (suc n) i = cond (test i) (suc (count_from test n (suc i))) (count_from test n (suc i))

-- an answer as the book says it
abbrev pub found_of : std.Option Sequence → Option ℕ
found_of = maybe (λ place. place.0)

-- ---- the place of the first statement with number n

unfoldable pub others : List Number → ℕ → ℕ → Bool
others numbers n q = not (eqb (number_in numbers q) n)

unfoldable pub place_of : List Number → ℕ → ℕ → Option ℕ
place_of numbers count n = first_from (others numbers n) suc count 0

-- ---- 20: END is kind 7

unfoldable pub end_right : List ℕ → ℕ → ℕ → Bool
end_right rows count q = not (eqb (kind_at rows q) 7) || eqb (q + 1) count

abbrev pub last_ends : List ℕ → ℕ → Bool
last_ends rows zero = false
last_ends rows (suc q) = eqb (kind_at rows q) 7

unfoldable pub misplaced_end : List ℕ → ℕ → Option ℕ
misplaced_end rows count = or_else (first_from (end_right rows count) suc count 0) (cond (last_ends rows count) none (some count))

-- ---- 21: DIMENSION is kind 8

-- the first with its number is itself
abbrev pub own_right : Option ℕ → ℕ → ℕ → Bool
own_right none place kind = false
own_right (some first) place kind = eqb first place && (not (eqb kind 8) && not (eqb kind 7))

unfoldable pub number_right : List ℕ → List Number → ℕ → ℕ → Bool
number_right rows numbers count q = eqb (number_in numbers q) 0 || own_right (place_of numbers count (number_in numbers q)) (suc q) (kind_at rows q)

-- ---- 22

abbrev pub found : Option ℕ → Bool
found none = false
found (some place) = true

-- the number at k stands on some statement
unfoldable pub known : List Number → ℕ → List Number → ℕ → Bool
known numbers count jumps k = found (place_of numbers count (number_in jumps k))

unfoldable pub jumps_known : List ℕ → List Number → ℕ → List Number → ℕ → Bool
jumps_known rows numbers count jumps q = all_from (known numbers count jumps) (jumps_at rows q) (start_of rows q)

-- the jumps of the statement at q, and of all before it, stand below k
unfoldable pub past : List ℕ → ℕ → ℕ → Bool
past rows k q = leb (start_of rows (suc q)) k

-- every number has its place, or the first that has none is known
pub record Resolves (numbers : List Number) (count : ℕ) (jumps : List Number) (many : ℕ) (r : Resolved) : Type 0 where
  pub within : r.known ≤ many
  pub done : (k : ℕ) → k < r.known → place_of numbers count (number_in jumps k) ≡ some (place_in r.places k)
  pub stops : r.known < many → place_of numbers count (number_in jumps r.known) ≡ none
