-- `take_names::appear` meets its contract. Assumes nothing.
use Prim.Native.Nat.{◌-◌}
use lib.ListN.{length}
use Rattle.take_names.proofs.Growing.{Taking}
use Rattle.take_names.proofs.appear.Given as goal

abbrev pub invariant-loop-at : goal.invariant-loop-at
invariant-loop-at l = Taking l.items l.initial.table l.fn.n l.table l.at l.m

abbrev pub decreases-loop-at : goal.decreases-loop-at
decreases-loop-at l = length l.items - l.at
