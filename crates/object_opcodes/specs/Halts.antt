-- The number of each halt. 01 "Running".
-- Assumes nothing.
use Rattle.std.specs.Prelude.{ℕ}
use Rattle.object_opcodes.specs.declared.Halt.{Halt}
use Rattle.object_opcodes.specs.declared.Halt.TheVariants.{Stop, End, Allowance, DivideByZero, BadSubscript, BadExit, BadParameter, BadStack, BadInstruction, RanOut, BadField}

abbrev pub number_of : Halt → ℕ
number_of Stop = 0
number_of End = 1
number_of Allowance = 2
number_of DivideByZero = 3
number_of BadSubscript = 4
number_of BadExit = 5
number_of BadParameter = 6
number_of BadStack = 7
number_of BadInstruction = 8
number_of RanOut = 9
number_of BadField = 10
