-- `run_machine::turns` meets its contract. Assumes nothing.
use mathlib.Core.Path.{◌≡◌}
use Prim.Native.Nat.{◌-◌}
use lib.ListN.{length}
use Rattle.object_contents.specs.Book.{book_of}
use Rattle.run_registers.specs.Devices.{trays_of}
use Rattle.run_guards.specs.Guarding.{Sees}
use Rattle.run_machine.proofs.Going.{Going}
use Rattle.run_machine.proofs.turns.Given as goal

abbrev pub invariant-loop-halt : goal.invariant-loop-halt
invariant-loop-halt l =
    Going l.guarded l.o l.allowance l.initial.regs l.initial.stack l.initial.store (trays_of l.cards l.initial.lines) l.regs l.stack l.store l.trays.taken l.lines l.trays.written l.steps
    × ((length l.kept ≡ length l.initial.kept) × Sees (book_of l.o) l.seen)

abbrev pub decreases-loop-halt : goal.decreases-loop-halt
decreases-loop-halt l = l.allowance - l.steps
