-- `final_statement::put_ends` meets its contract: the DOEs of the DOs before are left. Assumes nothing.
use mathlib.Core.List.{map}
use Rattle.final_addresses.specs.Ends.{ends_at}
use Rattle.final_statement.specs.Words.{end_word}
use Rattle.final_statement.proofs.Filling.{Left}
use Rattle.final_statement.proofs.put_ends.Given as goal

abbrev pub invariant-loop-d : goal.invariant-loop-d
invariant-loop-d l =
    Left l.fn.out l.out l.top l.at (map end_word (ends_at l.dos.loops.now l.dos.jumps.now l.i l.d)) (map end_word (ends_at l.dos.loops.now l.dos.jumps.now l.i l.dos.count))
