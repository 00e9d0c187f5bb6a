-- The number of each reason. 01 "Refusal numbers".
-- Assumes nothing.
use Rattle.std.specs.Prelude.{ℕ}
use Rattle.refusals.specs.declared.Reason.{Reason}
use Rattle.refusals.specs.declared.Reason.TheVariants.{Digits, DeckLength, Character, NumberColumns, Continuation, Empty, Statements, Form, Name, Constant, Number, Parentheses, Dimension, Element, Table, End, DefinedTwice, Undefined, Range, Jump, Variable, Room, Contents, Limits, Entry, Instruction, Heights, StoreLength, StoreNumber, State}

abbrev pub number_of : Reason → ℕ
number_of Digits = 1
number_of DeckLength = 2
number_of Character = 3
number_of NumberColumns = 4
number_of Continuation = 5
number_of Empty = 6
number_of Statements = 7
number_of Form = 10
number_of Name = 11
number_of Constant = 12
number_of Number = 13
number_of Parentheses = 14
number_of Dimension = 15
number_of Element = 16
number_of Table = 18
number_of End = 20
number_of DefinedTwice = 21
number_of Undefined = 22
number_of Range = 23
number_of Jump = 24
number_of Variable = 25
number_of Room = 30
number_of Contents = 40
number_of Limits = 41
number_of Entry = 42
number_of Instruction = 43
number_of Heights = 44
number_of StoreLength = 50
number_of StoreNumber = 51
number_of State = 52
