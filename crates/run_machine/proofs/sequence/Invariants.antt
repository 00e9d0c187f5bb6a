-- `run_machine::sequence` meets its contract. Assumes nothing.
use mathlib.Core.Path.{◌≡◌}
use Rattle.rules_object.specs.Calls.{last_at}
use Rattle.run_machine.proofs.Sequences.{rest}
use Rattle.run_machine.proofs.sequence.Given as goal

abbrev pub invariant-loop-i : goal.invariant-loop-i
invariant-loop-i l = last_at (rest l.o l.e 0) l.address 0 ≡ last_at (rest l.o l.e l.i) l.address l.found
