-- `print_lines::put_name` meets its contract. Assumes nothing.
use Rattle.print_lines.proofs.Going.{Naming}
use Rattle.print_lines.proofs.put_name.Given as goal

abbrev pub invariant-loop-c : goal.invariant-loop-c
invariant-loop-c l = Naming l.text l.at l.initial.out l.out l.n l.c-index
