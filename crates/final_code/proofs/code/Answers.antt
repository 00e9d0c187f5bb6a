-- `final_code::code` meets its contract: the code so far is that of the statements passed. Assumes nothing.
use mathlib.Core.Path.{◌≡◌}
use Prim.Native.Nat.{ℕ, ◌+◌, ◌-◌, ◌*◌}
use native.Mathlib.Omega.{arith}
use lib.ListN.{get_or, length-take, length-drop, drop}
use Rattle.final_addresses.proofs.Told.{rows_long}
use Rattle.final_addresses.proofs.DeckEnds.{dos_few}
use Rattle.final_code.proofs.Reaching.{reached_none, room_here, own_size, reached_more, reached_all}
use Rattle.final_code.proofs.code.Goals as goal

pub loop-i-init : goal.loop-i-init
loop-i-init c = λ house deck told. reached_none deck c.args.out.now

pub bounds-rows-i : goal.bounds-rows-i
bounds-rows-i c = omega (arith, rows_long c.requires.0.are.judged.in_rows)

pub bounds-rows-i-in-loop-i : goal.bounds-rows-i-in-loop-i
bounds-rows-i-in-loop-i c = omega (arith, rows_long c.requires.0.are.judged.in_rows)

pub bounds-rows-i-in-loop-i-2 : goal.bounds-rows-i-in-loop-i-2
bounds-rows-i-in-loop-i-2 c = omega (arith, rows_long c.requires.0.are.judged.in_rows)

pub overflow_add-from : goal.overflow_add-from
overflow_add-from c =
    let g = c.requires.0 in
    let room = room_here g.are c.loop-i-test.true c.requires.1 (c.loop-i.invariant g.house g.deck g.are) in
    omega (arith, room.drafted)

pub offset_bounds-draft-from : goal.offset_bounds-draft-from
offset_bounds-draft-from c =
    let g = c.requires.0 in
    let room = room_here g.are c.loop-i-test.true c.requires.1 (c.loop-i.invariant g.house g.deck g.are) in
    omega (arith, room.drafted)

pub slice_bounds-put_own-end : goal.slice_bounds-put_own-end
slice_bounds-put_own-end c =
    let g = c.requires.0 in
    let room = room_here g.are c.loop-i-test.true c.requires.1 (c.loop-i.invariant g.house g.deck g.are) in
    omega (arith, room.drafted)

pub overflow_add-j : goal.overflow_add-j
overflow_add-j c =
    let g = c.requires.0 in
    let room = room_here g.are c.loop-i-test.true c.requires.1 (c.loop-i.invariant g.house g.deck g.are) in
    omega (arith, room.jumped)

pub offset_bounds-dos-j : goal.offset_bounds-dos-j
offset_bounds-dos-j c =
    let g = c.requires.0 in
    let room = room_here g.are c.loop-i-test.true c.requires.1 (c.loop-i.invariant g.house g.deck g.are) in
    omega (arith, room.jumped)

pub slice_bounds-put_own-end-in-loop-i : goal.slice_bounds-put_own-end-in-loop-i
slice_bounds-put_own-end-in-loop-i c =
    let g = c.requires.0 in
    let room = room_here g.are c.loop-i-test.true c.requires.1 (c.loop-i.invariant g.house g.deck g.are) in
    omega (arith, room.jumped)

pub put_own-top-requires : goal.put_own-top-requires
put_own-top-requires c =
    let g = c.requires.0 in
    let room = room_here g.are c.loop-i-test.true c.requires.1 (c.loop-i.invariant g.house g.deck g.are) in
    let own : ℕ = get_or c.args.rows.now (5 * c.loop-i.i + 3) 0 in
    let many : ℕ = get_or c.args.rows.now (5 * c.loop-i.i + 4) 0 in
    let e : c.loop-i.from + own - c.loop-i.from ≡ own = omega arith in
    let f : c.loop-i.j + many - c.loop-i.j ≡ many = omega arith in
    let l = length-take own (drop c.loop-i.from c.args.draft.now) in
    let k = length-drop c.loop-i.from c.args.draft.now in
    let m = length-take many (drop c.loop-i.j c.args.dos.now.jumps.now) in
    let n = length-drop c.loop-i.j c.args.dos.now.jumps.now in
    rw (e, f) (omega (arith, room.fits, room.drafted), λ go. (omega (arith, (room.aimed go).0, room.drafted), omega (arith, (room.aimed go).1, room.jumped), (room.aimed go).2))

pub put_ends-top-requires : goal.put_ends-top-requires
put_ends-top-requires c =
    let g = c.requires.0 in
    let room = room_here g.are c.loop-i-test.true c.requires.1 (c.loop-i.invariant g.house g.deck g.are) in
    let own : ℕ = get_or c.args.rows.now (5 * c.loop-i.i + 3) 0 in
    let many : ℕ = get_or c.args.rows.now (5 * c.loop-i.i + 4) 0 in
    let e : c.loop-i.from + own - c.loop-i.from ≡ own = omega arith in
    let f : c.loop-i.j + many - c.loop-i.j ≡ many = omega arith in
    (dos_few g.are.judged.in_loops, omega (arith, room.fits, own_size room (rw (e, f) at c.put_own-top.ensures)))

pub loop-i-preserved : goal.loop-i-preserved
loop-i-preserved c = λ house deck told.
    let own : ℕ = get_or c.args.rows.now (5 * c.loop-i.i + 3) 0 in
    let many : ℕ = get_or c.args.rows.now (5 * c.loop-i.i + 4) 0 in
    let e : c.loop-i.from + own - c.loop-i.from ≡ own = omega arith in
    let f : c.loop-i.j + many - c.loop-i.j ≡ many = omega arith in
    reached_more told c.loop-i-test.true (c.loop-i.invariant house deck told) (rw (e, f) at c.put_own-top.ensures) c.put_ends-top.ensures

pub returns : goal.returns
returns c = λ house deck told. reached_all told (omega arith) (c.loop-i.invariant house deck told)
