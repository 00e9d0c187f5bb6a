-- Where the jumps of statements start.
-- Assumes nothing.
use mathlib.Core.Path.{◌≡◌}
use Prim.Native.Nat.{ℕ, zero, suc, ◌+◌, ◌≤◌, ◌<◌}
use native.Mathlib.Numerals.{add-one}
use native.Mathlib.Nat.{lt_of_not-le}
use native.Mathlib.Decide.{dec_le}
use native.Mathlib.Omega.{arith}
use mathlib.Core.List.{List}
use Rattle.whole_tables.specs.Rows.{jumps_at, start_of}

pub start_below : (rows : List ℕ) (q count : ℕ) → q ≤ count → start_of rows q ≤ start_of rows count
start_below rows q zero h = let e : q ≡ 0 = omega arith in rw e (omega arith)
start_below rows q (suc count) h = by (dec_le q count) (start_below rows q count)
  where
    by : Dec (q ≤ count) → (q ≤ count → start_of rows q ≤ start_of rows count) → start_of rows q ≤ start_of rows count + jumps_at rows count
    by (yes l) again = let b = again l in omega arith
    by (no l) again =
        let g : count < q = lt_of_not-le l in
        let e : q ≡ suc count = omega arith in
        rw e (omega arith)

-- the jumps of a statement are below those of all
pub jumps_inside : (rows : List ℕ) (q count : ℕ) → q < count → start_of rows q + jumps_at rows q ≤ start_of rows count
jumps_inside rows q count h = start_below rows (suc q) count (omega arith)

pub start_on : (rows : List ℕ) (q at size : ℕ) → at ≡ start_of rows q → size ≡ jumps_at rows q → at + size ≡ start_of rows (q + 1)
start_on rows q at size a s = rw (add-one q, a, s)
