-- Choices on numbers that the deck's meaning and the machine make alike: an exit, a subscript's place, a DO's next turn.
-- Assumes nothing.
use Rattle.std.specs.Prelude.{ℕ, zero, suc, ◌+◌, ◌*◌, Bool, true, false, ◌&&◌, cond, List, ltb, ℤ, pos, negsuc, ◌+ℤ◌, ◌*ℤ◌}
use Rattle.std.proofs.Math.Option.{Option, none, some}
use Rattle.std.proofs.Math.ListN.{get_elem?}
use Rattle.std.specs.Int.Signed.{le_z}
use Rattle.number.specs.Number.{Loss, is_loss}

-- below, at or above 0
abbrev pub sign3 : {A : Type 0} → ℤ → A → A → A → A
sign3 (negsuc n) a b c = a
sign3 (pos zero) a b c = b
sign3 (pos (suc n)) a b c = c

-- the exit for a value from 1 to the count of exits
abbrev pub nth : {A : Type 0} → List A → ℕ → Option A
nth ts zero = none
nth ts (suc n) = get_elem? ts n

abbrev pub exit : {A : Type 0} → List A → ℤ → Option A
exit ts (pos n) = nth ts n
exit ts (negsuc n) = none

-- a subscript: its multiplier, its variable's number and its addend
pub record SubscriptParts : Type 0 where
  pub times : ℕ
  pub variable : ℤ
  pub plus : ℤ

-- a constant has the multiplier 0
abbrev pub constant_parts : ℤ → SubscriptParts
constant_parts z = record { times = 0; variable = pos 0; plus = z }

-- worked out exactly
abbrev pub subscript_value : SubscriptParts → ℤ
subscript_value s = pos s.times *ℤ s.variable +ℤ s.plus

-- a number from 1 to the dimension, as a place from 0
abbrev pub below : Bool → ℕ → Option ℕ
below true n = some n
below false n = none

abbrev pub in_dimension : ℕ → ℤ → Option ℕ
in_dimension dimension (pos zero) = none
in_dimension dimension (pos (suc n)) = below (ltb n dimension) n
in_dimension dimension (negsuc n) = none

-- a subscript is right when its value is from 1 to its dimension
abbrev pub right : ℕ → SubscriptParts → Option ℕ
right dimension s = in_dimension dimension (subscript_value s)

-- elements lie by columns
abbrev pub by_columns : ℕ → Option ℕ → Option ℕ → Option ℕ
by_columns rows none j = none
by_columns rows (some i) none = none
by_columns rows (some i) (some j) = some (j * rows + i)

-- rows, columns and the two subscripts: the element's place in its array
unfoldable pub place : ℕ → ℕ → SubscriptParts → SubscriptParts → Option ℕ
place rows columns s t = by_columns rows (right rows s) (right columns t)

-- all of a DO's parameters must exceed 0
abbrev pub positive : ℤ → Bool
positive (pos zero) = false
positive (pos (suc n)) = true
positive (negsuc n) = false

abbrev pub all_positive : ℤ → ℤ → ℤ → Bool
all_positive a b c = positive a && (positive b && positive c)

-- The exact sum of variable and step is compared with the limit: not greater, the variable takes it.
pub data Turn : Type 0 where
  again : ℤ → Turn
  over : Turn

unfoldable pub turn : ℤ → ℤ → ℤ → Turn
turn variable limit step = cond (le_z (variable +ℤ step) limit) (again (variable +ℤ step)) over

-- a mark is one more than the first place that lost something, or 0
abbrev pub first_mark : ℕ → ℕ → ℕ
first_mark zero at = suc at
first_mark (suc m) at = suc m

abbrev pub marked : ℕ → Loss → ℕ → ℕ
marked m lost at = cond (is_loss lost) (first_mark m at) m
