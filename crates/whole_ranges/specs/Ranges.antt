-- DOs and their ranges, by sequence numbers.
-- Assumes nothing.
use Rattle.std.specs.Prelude.{ℕ, suc, ◌-◌, ◌*◌, ◌≤◌, ◌<◌, Bool, ◌&&◌, cond, List, eqb, ltb, length}
use Rattle.rules_shared.specs.Limits.{limits}
use Rattle.read_cards.specs.declared.Sequence.{Sequence}
use Rattle.whole_tables.specs.declared.DoRange.{DoRange}
use Rattle.whole_tables.specs.Rows.{kind_at, jumps_at, start_of}
use Rattle.whole_tables.specs.Tables.{place_in, do_at, last_at}
use Rattle.whole_numbers.specs.Numbers.{all_from, count_from}
use Rattle.whole_range.specs.Range.{covering, may_end_kind, uncrossed, outside, leaves}

-- reading stays inside the tables
pub record Ranged (rows : List ℕ) (count : ℕ) (loops : List DoRange) : Type 0 where
  pub few : count ≤ limits.statements
  pub few_dos : length loops ≤ limits.dos
  pub rows_long : 5 * count ≤ length rows
  pub from_one : (i : ℕ) → i < length loops → (1 ≤ do_at loops i) × (1 ≤ last_at loops i)
  pub to_last : (i : ℕ) → i < length loops → (do_at loops i ≤ count) × (last_at loops i ≤ count)
  pub few_jumps : start_of rows count ≤ 1424

unfoldable pub covers : List DoRange → ℕ → ℕ → Bool
covers loops at i = covering (do_at loops i) (last_at loops i) at

-- ---- 23

unfoldable pub apart : List DoRange → ℕ → ℕ → ℕ → Bool
apart loops first last i = uncrossed first last (do_at loops i) (last_at loops i)

unfoldable pub do_right : List ℕ → List DoRange → ℕ → Bool
do_right rows loops i =
    ltb (do_at loops i) (last_at loops i) && (may_end_kind (kind_at rows (last_at loops i - 1)) &&
    (all_from (apart loops (do_at loops i) (last_at loops i)) (length loops) 0 && ltb (count_from (covers loops (do_at loops i)) (length loops) 0) limits.nesting))

-- ---- 24

unfoldable pub stays_out : List DoRange → ℕ → ℕ → ℕ → Bool
stays_out loops from target i = outside (do_at loops i) (last_at loops i) from target

-- of the jump at k
unfoldable pub jump_stays : List DoRange → List Sequence → ℕ → ℕ → Bool
jump_stays loops places from k = all_from (stays_out loops from (place_in places k)) (length loops) 0

-- a DO, kind 4, has its last statement there and no jump
unfoldable pub exits_at : List ℕ → ℕ → ℕ
exits_at rows q = cond (eqb (kind_at rows q) 4) 0 (jumps_at rows q)

unfoldable pub jumps_right : List ℕ → List DoRange → List Sequence → ℕ → Bool
jumps_right rows loops places q = all_from (jump_stays loops places (suc q)) (exits_at rows q) (start_of rows q)

-- ---- 25

unfoldable pub set_right : List ℕ → List DoRange → ℕ → Bool
set_right rows loops at = all_from (λ i. leaves rows (do_at loops i) (last_at loops i) at) (length loops) 0
