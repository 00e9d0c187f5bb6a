-- The word of each kind, as a row has it.
-- Assumes nothing.
use Rattle.std.specs.Prelude.{ℕ}
use Rattle.take_kinds.specs.declared.Kind.{Kind}
use Rattle.take_kinds.specs.declared.Kind.TheVariants.{Assignment, GoTo, Computed, If, Do, Continue, Stop, End, Dimension}

abbrev pub word_of : Kind → ℕ
word_of Assignment = 0
word_of GoTo = 1
word_of Computed = 2
word_of If = 3
word_of Do = 4
word_of Continue = 5
word_of Stop = 6
word_of End = 7
word_of Dimension = 8
