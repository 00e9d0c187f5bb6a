-- 21 of one statement.
-- Assumes nothing.
use mathlib.Core.Path.{◌≡◌}
use Prim.Native.Nat.{ℕ, suc}
use mathlib.Core.Bool.{Bool, true}
use mathlib.Core.List.{List}
use borrow.Author.Tests.{eq-eqb, ne_eqb}
use Rattle.read_cards.specs.declared.Number.{Number}
use Rattle.whole_tables.specs.Rows.{kind_at}
use Rattle.whole_tables.specs.Tables.{number_in}
use Rattle.std.specs.Prelude.{Option}
use Rattle.read_cards.specs.declared.Sequence.{Sequence}
use Rattle.whole_numbers.specs.Numbers.{found_of, place_of, own_right, number_right}

module _ (rows : List ℕ) (numbers : List Number) (count q : ℕ) where
  pub unnumbered : number_in numbers q ≡ 0 → number_right rows numbers count q ≡ true
  unfolding number_right
  unnumbered e = rw (eq-eqb (number_in numbers q) 0 e)

  pub numbered : (number_in numbers q ≡ 0 → ⊥) → (first : Option Sequence) → found_of first ≡ place_of numbers count (number_in numbers q) → (place kind : ℕ) → place ≡ suc q → kind ≡ kind_at rows q
      → (right : Bool) → right ≡ own_right (found_of first) place kind → number_right rows numbers count q ≡ right
  unfolding number_right
  numbered n first f place kind p k right e = rw (ne_eqb (number_in numbers q) 0 n, e, f, p, k)
