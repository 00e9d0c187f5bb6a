-- `run_machine::turns_with_room` meets its contract. Assumes nothing.
use native.Mathlib.Omega.{arith}
use lib.ListN.{length-replicate}
use lib.IntN.{pos}
use Rattle.object_contents.specs.Book.{book_of}
use Rattle.run_operations.proofs.Known.{held_bounds}
use Rattle.run_guards.proofs.Seen.{sees_none}
use Rattle.run_machine.proofs.turns_with_room.Goals as goal

pub turns-requires : goal.turns-requires
turns-requires c =
    let p = c.requires in
    record { held = p.held; faultless = p.faultless; cells_in_bounds = (λ l. omega (arith, c.if-o-eq0.true)); sees = sees_none (book_of c.args.o.now) 4096 }

pub turns-requires-2 : goal.turns-requires-2
turns-requires-2 c =
    let a = c.args in
    let p = c.requires in
    let b = held_bounds a.o.now a.start a.stack.now a.store.now p.held in
    record { held = p.held; faultless = p.faultless; cells_in_bounds = (λ l. omega (arith, b.cells, length-replicate 4096 (pos 0))); sees = sees_none (book_of a.o.now) 4096 }
