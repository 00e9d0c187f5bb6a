-- A numeral by its last digit and those before it, and how long it is.
-- Assumes nothing.
use Prim.Native.Nat.{ℕ, zero, suc, ◌+◌, ◌/◌, ◌%◌, ◌^◌, ◌≤◌, ◌<◌}
use mathlib.Core.Path.{◌≡◌, refl, ap, ◌∙◌}
use mathlib.Core.Logic.{◌⊎◌, inl, inr, ⊎_elim}
use mathlib.Core.List.{List, [], ◌∷◌, ◌++◌}
use native.Mathlib.Omega.{arith}
use lib.ListN.{length, length-append}
use Rattle.rules_program.specs.Text.{digit, numeral_from, numeral}

-- any bound on the digits that is no less than the number gives the same numeral
same : (a b q n : ℕ) → n ≤ a → n ≤ b → q ≡ n / 10 → numeral_from a q n ≡ numeral_from b q n
same zero zero q n h i e = refl
same zero (suc b) zero n h i e = refl
same zero (suc b) (suc q) n h i e = absurd (omega arith)
same (suc a) zero zero n h i e = refl
same (suc a) zero (suc q) n h i e = absurd (omega arith)
same (suc a) (suc b) zero n h i e = refl
same (suc a) (suc b) (suc q) n h i e =
    ap (λ (l : List ℕ). l ++ (digit (n % 10) ∷ [])) (same a b (suc q / 10) (suc q) (omega arith) (omega arith) refl)

pub numeral_one : (n : ℕ) → n < 10 → numeral n ≡ (48 + n) ∷ []
unfolding numeral
numeral_one n h = go n (n / 10) (omega arith)
  where
    go : (a q : ℕ) → q ≡ 0 → numeral_from a q n ≡ digit n ∷ []
    go zero q e = refl
    go (suc a) zero e = refl
    go (suc a) (suc q) e = absurd (omega arith)

pub numeral_more : (n : ℕ) → 10 ≤ n → numeral n ≡ numeral (n / 10) ++ ((48 + n % 10) ∷ [])
unfolding numeral
numeral_more n h = go n (n / 10) (omega arith) refl
  where
    go : (a q : ℕ) → n ≤ a → q ≡ n / 10 → numeral_from a q n ≡ numeral_from q (q / 10) q ++ (digit (n % 10) ∷ [])
    go zero q i e = absurd (omega arith)
    go (suc a) zero i e = absurd (omega arith)
    go (suc a) (suc q) i e = ap (λ (l : List ℕ). l ++ (digit (n % 10) ∷ [])) (same a (suc q) (suc q / 10) (suc q) (omega arith) (omega arith) refl)

pub numeral_more_length : (n : ℕ) → 10 ≤ n → length (numeral n) ≡ length (numeral (n / 10)) + 1
numeral_more_length n h = ap (length {A = ℕ}) (numeral_more n h) ∙ length-append (numeral (n / 10)) ((48 + n % 10) ∷ [])

below_ten : (n : ℕ) → (n < 10) ⊎ (10 ≤ n)
below_ten n = go (n / 10) refl
  where
    go : (q : ℕ) → n / 10 ≡ q → (n < 10) ⊎ (10 ≤ n)
    go zero e = inl (omega arith)
    go (suc q) e = inr (omega arith)

pub numeral_length : (d n : ℕ) → n < 10 ^ suc d → length (numeral n) ≤ suc d
numeral_length zero n h = let l = ap (length {A = ℕ}) (numeral_one n h) in omega arith
numeral_length (suc d) n h =
    ⊎_elim
    (λ (i : n < 10). let l = ap (length {A = ℕ}) (numeral_one n i) in omega arith)
    (λ (i : 10 ≤ n). let m : n / 10 < 10 ^ suc d = less in omega (arith, numeral_more_length n i, numeral_length d (n / 10) m))
    (below_ten n)
  where
    less : n / 10 < 10 ^ suc d
    less = omega (arith, h)
