-- `run_guards::room` meets its contract. Assumes nothing.
use native.Mathlib.Omega.{arith}
use Rattle.run_guards.proofs.Guards.{room_few, room_full, room_there}
use Rattle.run_guards.proofs.room.Goals as goal
use Rattle.run_guards.proofs.room.Goals.{then-h-pops-via-then-h-pops, then-h-pops-via-else-h-pops+then-h-pops-gt-STACK}

pub returns-then-h-pops : goal.returns-then-h-pops
returns-then-h-pops c =
    elim c.then-h-pops.branch [
      | then-h-pops-via-then-h-pops w ↦ room_few _ _ _ (omega (arith, w.if-h-pops, c.from-pops.ensures, c.pops_of.ensures))
      | then-h-pops-via-else-h-pops+then-h-pops-gt-STACK w ↦
          room_full _ _ _ (omega (arith, w.if-h-pops, c.from-pops.ensures, c.pops_of.ensures)) (omega (arith, w.if-h-pops, w.if-h-pops-gt-STACK, w.from.ensures, w.pushes_of.ensures, c.from-pops.ensures, c.pops_of.ensures))
    ]

pub returns : goal.returns
returns c = room_there _ _ _ (omega (arith, c.from-pops.ensures, c.pops_of.ensures)) (omega (arith, c.from.ensures, c.pushes_of.ensures, c.from-pops.ensures, c.pops_of.ensures))
