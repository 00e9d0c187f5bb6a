-- The first place that fails, as a loop finds it.
-- Assumes nothing.
use mathlib.Core.Path.{◌≡◌}
use Prim.Native.Nat.{ℕ, suc, ◌+◌, ◌-◌, ◌≤◌, ◌<◌}
use native.Mathlib.Numerals.{add-one}
use native.Mathlib.Omega.{arith}
use mathlib.Core.Bool.{Bool, true, false}
use mathlib.Core.Option.{none, some}
use Rattle.rules_shared.specs.Lists.{first_from}

pub first_more : (test : ℕ → Bool) (n i : ℕ) → i < n → test i ≡ true → first_from test (n - i) i ≡ first_from test (n - (i + 1)) (i + 1)
first_more test n i h q =
    let f : n - i ≡ suc (n - (i + 1)) = omega arith in
    rw (f, q, add-one i)

pub first_stops : (test : ℕ → Bool) (n i : ℕ) → i < n → test i ≡ false → first_from test (n - i) i ≡ some i
first_stops test n i h q =
    let f : n - i ≡ suc (n - (i + 1)) = omega arith in
    rw (f, q)

pub first_ends : (test : ℕ → Bool) (n i : ℕ) → n ≤ i → first_from test (n - i) i ≡ none
first_ends test n i h =
    let f : n - i ≡ 0 = omega arith in
    rw f

pub first_starts : (test : ℕ → Bool) (n i : ℕ) → i ≡ 0 → first_from test n 0 ≡ first_from test (n - i) i
first_starts test n i q =
    let f : n - 0 ≡ n = omega arith in
    rw (q, f)
