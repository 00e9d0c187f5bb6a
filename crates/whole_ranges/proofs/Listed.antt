-- Tests by index of what stands in a list are tests of the list.
-- Assumes nothing.
use mathlib.Core.Path.{◌≡◌, refl, ap, ◌∙◌}
use Prim.Native.Nat.{ℕ, zero, suc}
use mathlib.Core.Bool.{Bool, true, false, ◌&&◌, cond}
use mathlib.Core.List.{List, [], ◌∷◌}
use lib.ListN.{length, get_or}
use Rattle.std.specs.List.{list_all, filter}
use Rattle.whole_numbers.specs.Numbers.{all_from, count_from}

all_shift : (test : ℕ → Bool) (n i : ℕ) → all_from test n (suc i) ≡ all_from (λ k. test (suc k)) n i
all_shift test zero i = refl
all_shift test (suc n) i = ap (λ (b : Bool). test (suc i) && b) (all_shift test n (suc i))

count_shift : (test : ℕ → Bool) (n i : ℕ) → count_from test n (suc i) ≡ count_from (λ k. test (suc k)) n i
count_shift test zero i = refl
count_shift test (suc n) i = ap (λ (m : ℕ). cond (test (suc i)) (suc m) m) (count_shift test n (suc i))

module _ {A : Type 0} (test : A → Bool) (none : A) where
  pub all_listed : (xs : List A) → all_from (λ i. test (get_or xs i none)) (length xs) 0 ≡ list_all test xs
  all_listed [] = refl
  all_listed (x ∷ xs) = ap (λ (b : Bool). test x && b) (all_shift (λ i. test (get_or (x ∷ xs) i none)) (length xs) 0 ∙ all_listed xs)

  pub count_listed : (xs : List A) → count_from (λ i. test (get_or xs i none)) (length xs) 0 ≡ length (filter test xs)
  count_listed [] = refl
  count_listed (x ∷ xs) = ap (λ (m : ℕ). cond (test x) (suc m) m) (count_shift (λ i. test (get_or (x ∷ xs) i none)) (length xs) 0 ∙ count_listed xs) ∙ go (test x)
    where
      go : (b : Bool) → cond b (suc (length (filter test xs))) (length (filter test xs)) ≡ length (cond b (x ∷ filter test xs) (filter test xs))
      go true = refl
      go false = refl
