-- `run_fields::put_digits` meets its contract. Assumes nothing.
use Rattle.run_fields.proofs.PrintLaws.{Putting}
use Rattle.run_fields.proofs.put_digits.Given as goal

abbrev pub invariant-loop-at : goal.invariant-loop-at
invariant-loop-at l = Putting l.n l.left l.at l.initial.line l.line
