-- `print_lines::put_values` meets its contract. Assumes nothing.
use Rattle.rules_object.specs.Check.{span}
use Rattle.print_lines.proofs.Loops.{Valuing}
use Rattle.print_lines.proofs.put_values.Given as goal

abbrev pub invariant-loop-i : goal.invariant-loop-i
invariant-loop-i l = Valuing l.e l.store (span l.e.rows l.e.columns) l.at l.initial.out l.out l.n l.i
