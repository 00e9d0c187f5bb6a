-- 20 from its two parts.
-- Assumes nothing.
use mathlib.Core.Path.{◌≡◌, ap, ◌∙◌}
use Prim.Native.Nat.{ℕ, suc}
use mathlib.Core.Bool.{Bool, cond}
use mathlib.Core.List.{List}
use mathlib.Core.Option.{Option, none, some}
use Rattle.rules_shared.specs.Refusals.{or_else}
use Rattle.whole_numbers.specs.Numbers.{last_ends, first_from, end_right, misplaced_end}

pub ends_from : (rows : List ℕ) (count : ℕ) {o : Option ℕ} → o ≡ first_from (end_right rows count) suc count 0 → or_else o (cond (last_ends rows count) none (some count)) ≡ misplaced_end rows count
unfolding misplaced_end
ends_from rows count e = ap (λ (o : Option ℕ). or_else o (cond (last_ends rows count) none (some count))) e

pub ends_at : (rows : List ℕ) (count : ℕ) {b : Bool} → none ≡ first_from (end_right rows count) suc count 0 → b ≡ last_ends rows count → cond b none (some count) ≡ misplaced_end rows count
ends_at rows count e l = ap (λ (b : Bool). cond b none (some count)) l ∙ ends_from rows count e
