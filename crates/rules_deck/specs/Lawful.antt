-- What theorems ask of a house: that its objects are of an edition that is read, that the check lets its digits, constants and names pass, and that an object of it is run by its rule.
-- Assumes nothing.
use Rattle.std.specs.Prelude.{◌≡◌, ℕ, ◌+◌, ◌*◌, ◌^◌, ◌≤◌, true, false}
use Rattle.rules_shared.specs.Limits.{limits}
use Rattle.rules_shared.specs.House.{House}
use Rattle.rules_object.specs.Object.{Object, rule_of}
use Rattle.rules_object.specs.Kinds.{edition}
use Rattle.rules_text.specs.Cards.{right_digits}

pub record Lawful (house : House) : Type 0 where
  -- the edition that is written
  pub edition : house.edition ≡ edition
  -- an object with its digits has its rule
  pub rule : (o : Object) → o.digits ≡ house.digits → rule_of o ≡ house.rule
  -- digits that pass 1 pass 41
  pub digits : right_digits house ≡ true → (1 ≤ house.digits) × (house.digits ≤ limits.digits)
  -- and a constant that passes 12 fits, in a word too
  pub constants : right_digits house ≡ true → (10 ^ house.digits ≤ house.rule.ceiling) × (house.rule.ceiling ≤ 1000000000)
  -- a name passes 42, and has the bytes that its entry has
  pub names : house.name_length ≤ 6
  pub entries : house.name_bytes ≡ 8
  -- every exit is the number of a statement
  pub exits : house.zero_exit ≡ false
  pub height : (p : ℕ) → 2 * p + 3 ≤ house.height p
