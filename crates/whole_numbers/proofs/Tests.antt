-- Tests of n positions, one after the other.
-- Assumes nothing.
use mathlib.Core.Path.{◌≡◌, refl, ap, ◌∙◌}
use Prim.Native.Nat.{ℕ, zero, suc, ◌+◌, ◌-◌, ◌≤◌, ◌<◌}
use native.Mathlib.Numerals.{add-one}
use native.Mathlib.Nat.{lt_of_not-le}
use native.Mathlib.Decide.{dec_le}
use native.Mathlib.Omega.{arith}
use mathlib.Core.Bool.{Bool, true, false, ◌&&◌}
use mathlib.Core.Option.{none, some}
use Rattle.whole_numbers.specs.Numbers.{all_from, first_from, count_from}

pub more_left : (n i : ℕ) → i < n → n - i ≡ suc (n - (i + 1))
more_left n i h = omega arith

pub none_left : (n i : ℕ) → n ≤ i → n - i ≡ 0
none_left n i h = omega arith

pub all_left : (n : ℕ) → n - 0 ≡ n
all_left n = omega arith

-- ---- the first that fails

module _ (test : ℕ → Bool) (place : ℕ → ℕ) (n : ℕ) where
  pub first_starts : first_from test place n 0 ≡ first_from test place (n - 0) 0
  first_starts = rw (all_left n)

  pub first_more : (i : ℕ) → i < n → test i ≡ true → first_from test place (n - i) i ≡ first_from test place (n - (i + 1)) (i + 1)
  first_more i h q = rw (more_left n i h, q, add-one i)

  pub first_stops : (i : ℕ) → i < n → test i ≡ false → first_from test place (n - i) i ≡ some (place i)
  first_stops i h q = rw (more_left n i h, q)

  pub first_ends : (i : ℕ) → n ≤ i → first_from test place (n - i) i ≡ none
  first_ends i h = rw (none_left n i h)

-- ---- all pass

module _ (test : ℕ → Bool) (n : ℕ) where
  pub all_more : (i : ℕ) → i < n → test i ≡ true → all_from test (n - i) i ≡ all_from test (n - (i + 1)) (i + 1)
  all_more i h q = rw (more_left n i h, q, add-one i)

  pub all_stops : (i : ℕ) → i < n → test i ≡ false → all_from test (n - i) i ≡ false
  all_stops i h q = rw (more_left n i h, q)

  pub all_ends : (i : ℕ) → n ≤ i → all_from test (n - i) i ≡ true
  all_ends i h = rw (none_left n i h)

  -- ---- how many pass

  pub count_more : (i : ℕ) → i < n → test i ≡ true → count_from test (n - i) i ≡ suc (count_from test (n - (i + 1)) (i + 1))
  count_more i h q = rw (more_left n i h, q, add-one i)

  pub count_skips : (i : ℕ) → i < n → test i ≡ false → count_from test (n - i) i ≡ count_from test (n - (i + 1)) (i + 1)
  count_skips i h q = rw (more_left n i h, q, add-one i)

  pub count_ends : (i : ℕ) → n ≤ i → count_from test (n - i) i ≡ 0
  count_ends i h = rw (none_left n i h)

-- ---- tests that agree

pub all_same : (t u : ℕ → Bool) (n i : ℕ) → ((k : ℕ) → i ≤ k → k < i + n → t k ≡ u k) → all_from t n i ≡ all_from u n i
all_same t u zero i h = refl
all_same t u (suc n) i h = rw (h i (omega arith) (omega arith), all_same t u n (suc i) (λ k l g. h k (omega arith) (omega arith)))

-- ---- every one passes, or one fails

pub all_true : (test : ℕ → Bool) (n i : ℕ) → ((k : ℕ) → i ≤ k → k < i + n → test k ≡ true) → all_from test n i ≡ true
all_true test zero i h = refl
all_true test (suc n) i h = rw (h i (omega arith) (omega arith)) (all_true test n (suc i) (λ k a b. h k (omega arith) (omega arith)))

and_false : (b : Bool) → (b && false) ≡ false
and_false true = refl
and_false false = refl

pub one_false : (test : ℕ → Bool) (n i k : ℕ) → i ≤ k → k < i + n → test k ≡ false → all_from test n i ≡ false
one_false test zero i k a b e = absurd (omega arith)
one_false test (suc n) i k a b e = by (dec_le k i) (one_false test n (suc i) k)
  where
    by : Dec (k ≤ i) → (suc i ≤ k → k < suc i + n → test k ≡ false → all_from test n (suc i) ≡ false) → (test i && all_from test n (suc i)) ≡ false
    by (yes l) again = let q : k ≡ i = omega arith in rw (← q, e)
    by (no l) again =
        let g : i < k = lt_of_not-le l in
        ap (λ (b : Bool). test i && b) (again (omega arith) (omega arith) e) ∙ and_false (test i)
