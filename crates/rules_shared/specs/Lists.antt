-- A test and a predicate of every entry of a list, and the first entry or place that fails a test.
-- Assumes nothing.
use Rattle.std.specs.Prelude.{ℕ, zero, suc, Bool, true, ◌&&◌, cond, List, [], ◌∷◌}
use Rattle.std.proofs.Math.Option.{Option, none, some}

-- the first entry that fails the test, counted from n
abbrev pub first_bad : {A : Type 0} → (A → Bool) → List A → ℕ → Option ℕ
first_bad test [] n = none
first_bad test (a ∷ more) n = cond (test a) (first_bad test more (suc n)) (some n)

-- the first of n places, from i on, that fails
abbrev pub first_from : (ℕ → Bool) → ℕ → ℕ → Option ℕ
first_from test zero i = none
first_from test (suc n) i = cond (test i) (first_from test n (suc i)) (some i)

abbrev pub all : {A : Type 0} → (A → Bool) → List A → Bool
all test [] = true
all test (a ∷ more) = test a && all test more

pub data Each {A : Type 0} (P : A → Type 0) : List A → Type 0 where
  each_none : Each P []
  each_more : {x : A} {xs : List A} → P x → Each P xs → Each P (x ∷ xs)
