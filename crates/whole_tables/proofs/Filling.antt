-- A table that is filled from the front, over any reading of its entries.
-- Assumes nothing.
use mathlib.Core.Path.{◌≡◌, ap, ◌∙◌}
use Prim.Native.Nat.{ℕ, ◌+◌, ◌≤◌, ◌<◌}
use native.Mathlib.Nat.{lt_of_not-le}
use native.Mathlib.Decide.{dec_le}
use native.Mathlib.Omega.{arith}
use mathlib.Core.List.{List}
use lib.ListN.{length, get_or, set, take}
use lib.Seq.{get_or-set_same, get_or-set_other, get_or-take}

module _ {A : Type 0} (of : A → ℕ) (none : A) (source : ℕ → ℕ) where
  -- the first i entries are those of the source
  pub record Filled (table : List A) (i : ℕ) : Type 0 where
    pub are : (k : ℕ) → k < i → of (get_or table k none) ≡ source k

  pub none_filled : (table : List A) → Filled table 0
  none_filled table = record { are = λ k h. absurd (omega arith) }

  pub one_filled : (table : List A) (i : ℕ) (a : A) → i < length table → of a ≡ source i → Filled table i → Filled (set table i a) (i + 1)
  one_filled table i a room e f = record { are = λ k h. at k (dec_le i k) h }
    where
      at : (k : ℕ) → Dec (i ≤ k) → k < i + 1 → of (get_or (set table i a) k none) ≡ source k
      at k (yes y) h =
          let q : k ≡ i = omega arith in
          rw q (ap of (get_or-set_same table i a none room) ∙ e)
      at k (no y) h =
          let l : k < i = lt_of_not-le y in
          ap of (get_or-set_other table i k a none (λ q. omega arith)) ∙ f.are k l

  -- the first n, once they are filled
  pub front : (table : List A) (n : ℕ) → Filled table n → (k : ℕ) → k < n → of (get_or (take n table) k none) ≡ source k
  front table n f k h = ap of (get_or-take n table k none h) ∙ f.are k h
