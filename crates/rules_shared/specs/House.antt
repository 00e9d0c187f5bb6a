-- What a deck is read by that another house has otherwise; `Limits` has what is the same in every house. 01 has one house, the 1401's.
-- Assumes nothing.
use Rattle.std.specs.Prelude.{ℕ, ◌+◌, ◌*◌, Bool, false}
use Rattle.number.specs.Number.{Rule, digits_rule}
use Rattle.rules_shared.specs.Limits.{limits}

pub record House : Type 0 where
  -- the edition of its objects
  pub edition : ℕ
  -- k, as the object tells it, and what it may be
  pub digits : ℕ
  pub fewest_digits : ℕ
  pub most_digits : ℕ
  pub rule : Rule
  -- characters of a name, and bytes of it in the object
  pub name_length : ℕ
  pub name_bytes : ℕ
  -- cards after a statement's first
  pub continuations : ℕ
  -- an exit may be 0
  pub zero_exit : Bool
  pub array_may_end_in_f : Bool
  -- how high the stack may stand at so many levels of parentheses
  pub height : ℕ → ℕ

-- with k digits
abbrev pub house1401 : ℕ → House
house1401 k =
    record {
      edition = 1;
      digits = k;
      fewest_digits = 1;
      most_digits = limits.digits;
      rule = digits_rule k;
      name_length = 6;
      name_bytes = 8;
      continuations = 9;
      zero_exit = false;
      array_may_end_in_f = false;
      height = λ p. 2 * p + 3;
    }
