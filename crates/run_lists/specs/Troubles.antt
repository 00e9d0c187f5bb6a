-- The trouble that stops a statement, as a halt.
-- Assumes nothing.
use Rattle.std.specs.Prelude.{◌≡◌, Result, Ok, Err}
use Rattle.rules_formats.specs.Walk.{Trouble, trouble_number, Outcome, fine, trouble}
use Rattle.object_opcodes.specs.declared.Halt.{Halt}
use Rattle.object_opcodes.specs.Halts.{number_of}

-- stopped by a trouble of this halt's number
pub record Stopped {A : Type 0} (outcome : Outcome A) (h : Halt) : Type 0 where
  pub why : Trouble
  pub is : outcome ≡ trouble why
  pub numbered : number_of h ≡ trouble_number why

pub record Fine {A : Type 0} (outcome : Outcome A) : Type 0 where
  pub value : A
  pub is : outcome ≡ fine value

-- whether all goes well
abbrev pub Tried : {A B : Type 0} → Outcome A → Result B Halt → Type 0
Tried outcome (Ok b) = Fine outcome
Tried outcome (Err h) = Stopped outcome h
