-- `final_statement::put_ends` meets its contract: the DOEs of the DOs before are left. Assumes nothing.
use mathlib.Core.Path.{ap}
use Prim.Native.Nat.{ℕ, ◌-◌}
use mathlib.Core.List.{map}
use Rattle.final_addresses.specs.Ends.{last_at, ends_at}
use Rattle.final_addresses.proofs.Holding.{put_as}
use Rattle.final_statement.specs.Words.{end_word, end_of}
use Rattle.final_statement.proofs.Filling.{left_less, ends_less}
use Rattle.final_statement.proofs.put_ends.Goals as goal

pub loop-d-preserved : goal.loop-d-preserved
loop-d-preserved c =
    let l = c.args.dos.now.loops.now in
    let j = c.args.dos.now.jumps.now in
    let i = c.args.i in
    let d = c.loop-d.d in
    left_less (end_of (last_at l j (d - 1)) i (d - 1)) (map end_word (ends_at l j i (d - 1))) (ends_less l j i d c.loop-d-test.true) c.loop-d.invariant
    (put_as (ap (λ (p : ℕ). end_of p i (d - 1)) c.last.ensures) c.put_end-at.ensures)
