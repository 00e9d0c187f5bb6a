-- `take_name_table::put_entry` meets its contract. Assumes nothing.
use native.Mathlib.Omega.{arith}
use Rattle.take_name_table.proofs.Leaves.{put_last}
use Rattle.take_name_table.proofs.put_entry.Goals as goal

pub returns : goal.returns
returns c =
    let p = c.put_name-a in
    let q = c.put_two-b in
    put_last p.ensures q.ensures (omega (arith, p.ensures.top, q.ensures.top, p.auto.items, q.auto.items, c.requires))
