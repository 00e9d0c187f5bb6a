-- `print_lines::put_names` meets its contract. Assumes nothing.
use Rattle.print_lines.proofs.Loops.{Listing}
use Rattle.print_lines.proofs.put_names.Given as goal

abbrev pub invariant-loop-i : goal.invariant-loop-i
invariant-loop-i l = Listing l.e l.object l.store l.at l.initial.out l.out l.n l.i
