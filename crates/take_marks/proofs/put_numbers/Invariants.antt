-- `take_marks::put_numbers` meets its contract. Assumes nothing.
use Rattle.std.proofs.Common.{take}
use Rattle.read_items.specs.Parsed.{Put}
use Rattle.take_marks.proofs.put_numbers.Given as goal

abbrev pub invariant-loop-number : goal.invariant-loop-number
invariant-loop-number l = Put l.initial.jumps l.jumps l.from (take l.number-index l.numbers) l.at
