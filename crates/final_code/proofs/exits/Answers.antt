-- `final_code::exits` meets its contract: the exits so far are those of the statements passed. Assumes nothing.
use mathlib.Core.Path.{◌≡◌, refl}
use Prim.Native.Nat.{ℕ, ◌+◌, ◌-◌, ◌*◌}
use native.Mathlib.Omega.{arith}
use lib.ListN.{get_or}
use Rattle.final_addresses.proofs.Told.{rows_long}
use Rattle.final_addresses.proofs.Holding.{holds_none}
use Rattle.final_code.proofs.Branching.{exits_put, exits_room, jumps_room, jumps_after, exits_all}
use Rattle.final_code.proofs.exits.Goals as goal

pub loop-i-init : goal.loop-i-init
loop-i-init c = λ house deck told. (refl, holds_none c.args.out.now)

pub bounds-rows-i : goal.bounds-rows-i
bounds-rows-i c = omega (arith, rows_long c.requires.0.are.in_rows)

pub bounds-rows-i-in-loop-i : goal.bounds-rows-i-in-loop-i
bounds-rows-i-in-loop-i c = omega (arith, rows_long c.requires.0.are.in_rows)

pub overflow_add-j : goal.overflow_add-j
overflow_add-j c =
    let g = c.requires.0 in
    omega (arith, jumps_room g.are c.loop-i.i c.loop-i.j c.loop-i-test.true (c.loop-i.invariant g.house g.deck g.are).0)

pub offset_bounds-jumps-j : goal.offset_bounds-jumps-j
offset_bounds-jumps-j c =
    let g = c.requires.0 in
    omega (arith, jumps_room g.are c.loop-i.i c.loop-i.j c.loop-i-test.true (c.loop-i.invariant g.house g.deck g.are).0)

pub slice_bounds-put_exits-end : goal.slice_bounds-put_exits-end
slice_bounds-put_exits-end c =
    let g = c.requires.0 in
    omega (arith, jumps_room g.are c.loop-i.i c.loop-i.j c.loop-i-test.true (c.loop-i.invariant g.house g.deck g.are).0)

pub put_exits-top-requires : goal.put_exits-top-requires
put_exits-top-requires c =
    let g = c.requires.0 in
    let h = c.loop-i.invariant g.house g.deck g.are in
    let room = exits_room g.are c.loop-i.i c.loop-i.j c.loop-i-test.true c.requires.1 h.0 h.1 in
    let many : ℕ = get_or c.args.rows.now (5 * c.loop-i.i + 4) 0 in
    let e : c.loop-i.j + many - c.loop-i.j ≡ many = omega arith in
    rw e (room.0, omega arith, room.1)

pub loop-i-preserved : goal.loop-i-preserved
loop-i-preserved c = λ house deck told.
    let h = c.loop-i.invariant house deck told in
    let many : ℕ = get_or c.args.rows.now (5 * c.loop-i.i + 4) 0 in
    let e : c.loop-i.j + many - c.loop-i.j ≡ many = omega arith in
    (jumps_after told c.loop-i.i c.loop-i.j c.loop-i-test.true h.0, exits_put told c.loop-i.i c.loop-i.j c.loop-i-test.true h.0 (rw e at c.put_exits-top.ensures) h.1)

pub returns : goal.returns
returns c = λ house deck told. exits_all told c.loop-i.i (omega arith) (c.loop-i.invariant house deck told).1
