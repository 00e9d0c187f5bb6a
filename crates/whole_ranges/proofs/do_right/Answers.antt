-- `whole_ranges::do_right` meets its contract. Assumes nothing.
use mathlib.Core.Path.{◌≡◌}
use Prim.Native.Nat.{◌-◌}
use native.Mathlib.Omega.{arith}
use Rattle.whole_tables.specs.Tables.{last_at}
use Rattle.whole_ranges.specs.Ranges.{do_right}
use Rattle.whole_ranges.proofs.do_right.Goals as goal

pub position_of-requires : goal.position_of-requires
position_of-requires c =
    let p = c.requires in
    let i = c.args.i in
    (p.0.from_one i p.1).1

pub kind_of-kind-requires : goal.kind_of-kind-requires
kind_of-kind-requires c =
    let p = c.requires in
    let i = c.args.i in
    omega (arith, (p.0.to_last i p.1).1, p.0.rows_long, c.position_of.ensures)

pub returns : goal.returns
unfolding do_right
returns c =
    let i = c.args.i in
    let a : c.position_of.result ≡ last_at c.args.loops.now i - 1 = omega (arith, c.position_of.ensures) in
    rw (c.may_end-ends.ensures, c.crosses_none-apart.ensures, c.depth_at-deep.ensures, c.kind_of-kind.ensures, a)
