-- `run_machine::until_transfer` meets its contract. Assumes nothing.
use Rattle.object_contents.specs.Book.{book_of}
use Rattle.run_guards.specs.Guarding.{Sees}
use Rattle.run_machine.proofs.Pausing.{Coming}
use Rattle.run_machine.proofs.until_transfer.Given as goal

abbrev pub invariant-loop-done : goal.invariant-loop-done
invariant-loop-done l = Coming l.guarded l.o l.allowance l.initial.regs l.initial.stack l.initial.store l.regs l.stack l.store l.done × Sees (book_of l.o) l.seen
