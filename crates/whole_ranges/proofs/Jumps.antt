-- A statement's jumps from where they start.
-- Assumes nothing.
use mathlib.Core.Path.{◌≡◌}
use Prim.Native.Nat.{ℕ, suc, ◌+◌, ◌-◌, ◌≤◌}
use native.Mathlib.Omega.{arith}
use mathlib.Core.Bool.{Bool, true, false, cond}
use mathlib.Core.List.{List}
use lib.Dec.{eqb}
use Rattle.read_cards.specs.declared.Sequence.{Sequence}
use Rattle.whole_tables.specs.declared.DoRange.{DoRange}
use Rattle.whole_tables.specs.Rows.{kind_at, jumps_at, start_of}
use Rattle.whole_numbers.specs.Numbers.{all_from}
use Rattle.whole_ranges.specs.Ranges.{jump_stays, exits_at, jumps_right}

pub exits_few : (rows : List ℕ) (q : ℕ) → exits_at rows q ≤ jumps_at rows q
unfolding exits_at
exits_few rows q = by (eqb (kind_at rows q) 4)
  where
    by : (b : Bool) → cond b 0 (jumps_at rows q) ≤ jumps_at rows q
    by true = omega arith
    by false = omega arith

module _ (rows : List ℕ) (loops : List DoRange) (places : List Sequence) (q : ℕ) where
  pub jumps_told : (at size here : ℕ) → at ≡ start_of rows q → size ≡ exits_at rows q → here ≡ suc q
      → all_from (jump_stays loops places here) ((at + size) - at) at ≡ jumps_right rows loops places q
  unfolding jumps_right
  jumps_told at size here a s h =
      let m : (at + size) - at ≡ exits_at rows q = omega arith in
      rw (m, a, h)
