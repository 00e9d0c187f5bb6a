-- `final_addresses::Dos::ending` meets its contract: the count is of the DOs passed. Assumes nothing.
use mathlib.Core.Path.{◌≡◌}
use lib.ListN.{length}
use Rattle.final_addresses.specs.Ends.{ends_at}
use Rattle.final_addresses.proofs.dos.Dos.ending.Given as goal

abbrev pub invariant-loop-d : goal.invariant-loop-d
invariant-loop-d l = l.many ≡ length (ends_at l.self.loops.now l.self.jumps.now l.i l.d)
