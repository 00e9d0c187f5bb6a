-- `run_machine::bench` meets its contract. Assumes nothing.
use Rattle.run_subscripts.proofs.Laws.{apart}
use Rattle.run_machine.proofs.bench.Goals as goal

pub turns_with_room-requires : goal.turns_with_room-requires
turns_with_room-requires c = record { held = c.requires; faultless = λ q. absurd (apart q) }
