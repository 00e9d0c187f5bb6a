-- The answer in parts: 20 to 22, then 23 to 25, each on the tables.
-- Assumes nothing.
use Rattle.std.specs.Prelude.{◌≡◌, ℕ, suc, ◌≤◌, ◌<◌, List, length, get_or, Result, Ok, Err}
use Rattle.std.proofs.Math.Option.{Option, none, some}
use Rattle.rules_shared.specs.Limits.{limits}
use Rattle.rules_shared.specs.Refusals.{Refusal, or_else}
use Rattle.rules_deck.specs.Whole.{refused_at}
use Rattle.refusals.specs.Answers.{refusal_of}
use Rattle.read_cards.specs.declared.Number.{Number}
use Rattle.read_cards.specs.declared.Sequence.{Sequence}
use Rattle.refused_statements.specs.declared.AtStatement.{AtStatement}
use Rattle.refused_statements.specs.Places.{as_refusal}
use Rattle.whole_tables.specs.declared.DoRange.{DoRange}
use Rattle.whole_tables.specs.Rows.{start_of}
use Rattle.whole_tables.specs.Tables.{number_in, place_in, do_at}
use Rattle.whole_numbers.specs.Numbers.{first_from, place_of, misplaced_end, number_right, jumps_known}
use Rattle.whole_ranges.specs.Ranges.{do_right, jumps_right, set_right}

-- the refusal, if it is one
abbrev pub refused : {A : Type 0} → Result A AtStatement → Option Refusal
refused (Ok a) = none
refused (Err r) = some (refusal_of (as_refusal r))

unfoldable pub numbers_refused : List ℕ → List Number → ℕ → List Number → Option Refusal
numbers_refused rows numbers count jumps =
    or_else (refused_at 20 (misplaced_end rows count)) (or_else (refused_at 21 (first_from (number_right rows numbers count) suc count 0))
    (refused_at 22 (first_from (jumps_known rows numbers count jumps) suc count 0)))

abbrev pub ByNumber : List ℕ → List Number → ℕ → List Number → Result (List Sequence) AtStatement → Type 0
ByNumber rows numbers count jumps (Ok places) =
    (numbers_refused rows numbers count jumps ≡ none) × ((k : ℕ) → k < start_of rows count → place_of numbers count (number_in jumps k) ≡ some (place_in places k))
ByNumber rows numbers count jumps (Err r) = numbers_refused rows numbers count jumps ≡ some (refusal_of (as_refusal r))

unfoldable pub ranges_refused : List ℕ → ℕ → List DoRange → List Sequence → Option Refusal
ranges_refused rows count loops places =
    or_else (refused_at 23 (first_from (do_right rows loops) (do_at loops) (length loops) 0)) (or_else (refused_at 24 (first_from (jumps_right rows loops places) suc count 0))
    (refused_at 25 (first_from (λ q. set_right rows loops (suc q)) suc count 0)))

-- places of a deck
pub record Inside (places : List Sequence) (many : ℕ) : Type 0 where
  pub few : many ≤ 1424
  pub from_one : (k : ℕ) → k < many → 1 ≤ place_in places k
  pub to_last : (k : ℕ) → k < many → place_in places k ≤ limits.statements

-- the words are their positions
pub record Positioned (places : List Sequence) (many : ℕ) (words : List ℕ) : Type 0 where
  pub long : length words ≡ 1424
  pub are : (k : ℕ) → k < many → suc (get_or words k 0) ≡ place_in places k
