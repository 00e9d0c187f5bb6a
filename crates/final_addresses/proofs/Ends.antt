-- The DOs that end with a statement, one DO more. Assumes nothing.
use mathlib.Core.Path.{◌≡◌}
use mathlib.Core.Bool.{Bool, true, false, cond}
use mathlib.Core.List.{List, ◌∷◌}
use Prim.Native.Nat.{ℕ, zero, suc, ◌+◌, ◌≤◌}
use native.Mathlib.Omega.{arith}
use native.Mathlib.Numerals.{add-one}
use lib.Dec.{eqb}
use lib.ListN.{length}
use borrow.Author.Tests.{eq-eqb, ne_eqb}
use Rattle.final_addresses.specs.Ends.{last_at, ends_at}

module _ (loops jumps : List ℕ) (i : ℕ) where
  pub ends_most : (n : ℕ) → length (ends_at loops jumps i n) ≤ n
  ends_most zero = omega arith
  ends_most (suc n) = go (eqb (last_at loops jumps n) i) (ends_most n)
    where
      go : (t : Bool) → length (ends_at loops jumps i n) ≤ n → length (cond t (n ∷ ends_at loops jumps i n) (ends_at loops jumps i n)) ≤ suc n
      go true h = omega arith
      go false h = omega arith

  pub ends_one : (d : ℕ) → last_at loops jumps d ≡ i → ends_at loops jumps i (d + 1) ≡ d ∷ ends_at loops jumps i d
  ends_one d e = rw (add-one d, eq-eqb (last_at loops jumps d) i e)

  pub ends_same : (d : ℕ) → (last_at loops jumps d ≡ i → ⊥) → ends_at loops jumps i (d + 1) ≡ ends_at loops jumps i d
  ends_same d e = rw (add-one d, ne_eqb (last_at loops jumps d) i e)
