-- `run_machine::run` meets its contract. Assumes nothing.
use mathlib.Core.Path.{◌∙◌}
use Rattle.rules_formats.specs.Walk.{devices_of}
use Rattle.object_contents.specs.Book.{book_of}
use Rattle.run_registers.specs.Registers.{state_of}
use Rattle.run_registers.specs.Devices.{trays_of}
use Rattle.run_machine.proofs.Going.{run_bench}
use Rattle.run_machine.proofs.run.Goals as goal

pub turns_with_room-requires : goal.turns_with_room-requires
turns_with_room-requires c = record { held = c.requires.held; faultless = λ q. c.requires.faultless }

pub returns : goal.returns
returns c =
    let a = c.args in
    let T = trays_of a.cards.now a.lines.now in
    c.turns_with_room.ensures ∙ run_bench (book_of a.o.now) T (state_of a.start a.stack.now a.store.now (devices_of T)) c.requires.faultless a.allowance
