-- `run_prints::put_lines` meets its contract. Assumes nothing.
use mathlib.Core.Path.{subst, ◌≡◌}
use Prim.Native.Nat.{◌+◌, ◌-◌, ◌*◌}
use native.Mathlib.Omega.{arith}
use lib.ListN.{length, take, drop, length-take, length-drop}
use Rattle.std.specs.Prelude.{Ok}
use Rattle.rules_formats.specs.Walk.{line_width}
use Rattle.object_contents.specs.Book.{book_of}
use Rattle.run_prints.specs.Puts.{Puts}
use Rattle.run_prints.proofs.WritingLaws.{writing_begins, some_room, as_long, line_inside, never_stops, writes_last, writes_more}
use Rattle.run_prints.proofs.put_lines.Goals as goal

pub loop-next-init : goal.loop-next-init
loop-next-init c =
    writing_begins (book_of c.args.o.now) c.args.store.now c.args.lines.now c.args.written c.args.start.word c.args.start.list c.requires.tried c.requires.scanning c.requires.reached

pub overflow_mul-n : goal.overflow_mul-n
overflow_mul-n c =
    let o = book_of c.args.o.now in
    let so = c.args.store.now in
    let before = c.args.lines.now in
    let written = c.args.written in
    let s = c.args.start in
    let lp = c.loop-next in
    let w = lp.invariant in
    let inside = line_inside o so before written s.word s.list lp.lines lp.n lp.at.word lp.at.list w in
    let long = as_long o so before written s.word s.list lp.lines lp.n lp.at.word lp.at.list w in
    omega (arith, inside, long, c.well_formed)

pub overflow_mul-n-in-loop-next : goal.overflow_mul-n-in-loop-next
overflow_mul-n-in-loop-next c =
    let o = book_of c.args.o.now in
    let so = c.args.store.now in
    let before = c.args.lines.now in
    let written = c.args.written in
    let s = c.args.start in
    let lp = c.loop-next in
    let w = lp.invariant in
    let inside = line_inside o so before written s.word s.list lp.lines lp.n lp.at.word lp.at.list w in
    let long = as_long o so before written s.word s.list lp.lines lp.n lp.at.word lp.at.list w in
    omega (arith, inside, long, c.well_formed)

pub overflow_add-n : goal.overflow_add-n
overflow_add-n c =
    let o = book_of c.args.o.now in
    let so = c.args.store.now in
    let before = c.args.lines.now in
    let written = c.args.written in
    let s = c.args.start in
    let lp = c.loop-next in
    let w = lp.invariant in
    let inside = line_inside o so before written s.word s.list lp.lines lp.n lp.at.word lp.at.list w in
    let long = as_long o so before written s.word s.list lp.lines lp.n lp.at.word lp.at.list w in
    omega (arith, inside, long, c.well_formed)

pub slice_bounds-put_line-end : goal.slice_bounds-put_line-end
slice_bounds-put_line-end c =
    let o = book_of c.args.o.now in
    let so = c.args.store.now in
    let before = c.args.lines.now in
    let written = c.args.written in
    let s = c.args.start in
    let lp = c.loop-next in
    let w = lp.invariant in
    let inside = line_inside o so before written s.word s.list lp.lines lp.n lp.at.word lp.at.list w in
    omega (arith, inside)

pub put_line-requires : goal.put_line-requires
put_line-requires c =
    let o = book_of c.args.o.now in
    let so = c.args.store.now in
    let before = c.args.lines.now in
    let written = c.args.written in
    let s = c.args.start in
    let lp = c.loop-next in
    let w = lp.invariant in
    let inside = line_inside o so before written s.word s.list lp.lines lp.n lp.at.word lp.at.list w in
    let at = line_width * lp.n in
    let width : length (take (at + line_width - at) (drop at lp.lines)) ≡ 132 = omega (arith, length-take (at + line_width - at) (drop at lp.lines), length-drop at lp.lines, inside) in
    record { stored = c.requires.stored; reached = w.reached; scanning = w.scanning; line_len = width }

pub returns-in_err-next : goal.returns-in_err-next
returns-in_err-next c =
    let o = book_of c.args.o.now in
    let so = c.args.store.now in
    let before = c.args.lines.now in
    let written = c.args.written in
    let s = c.args.start in
    let lp = c.loop-next in
    let w = lp.invariant in
    absurd (never_stops o so before written s.word s.list lp.lines lp.n lp.at.word lp.at.list w _ c.in_err-next.ensures)

pub returns-in_default : goal.returns-in_default
returns-in_default c =
    let o = book_of c.args.o.now in
    let so = c.args.store.now in
    let before = c.args.lines.now in
    let written = c.args.written in
    let s = c.args.start in
    let lp = c.loop-next in
    let w = lp.invariant in
    writes_last o so before written s.word s.list lp.lines lp.n lp.at.word lp.at.list w c.put_line.new.line (subst (λ r. Puts o so lp.at c.put_line.new.line (Ok r)) c.in_default.is c.in_ok-next.ensures)

pub loop-next-smaller : goal.loop-next-smaller
loop-next-smaller c =
    let o = book_of c.args.o.now in
    let so = c.args.store.now in
    let before = c.args.lines.now in
    let written = c.args.written in
    let s = c.args.start in
    let lp = c.loop-next in
    let w = lp.invariant in
    let some = some_room o so before written s.word s.list lp.lines lp.n lp.at.word lp.at.list w in
    omega (arith, some)

pub loop-next-preserved : goal.loop-next-preserved
loop-next-preserved c =
    let o = book_of c.args.o.now in
    let so = c.args.store.now in
    let before = c.args.lines.now in
    let written = c.args.written in
    let s = c.args.start in
    let lp = c.loop-next in
    let w = lp.invariant in
    writes_more o so before written s.word s.list lp.lines lp.n lp.at.word lp.at.list w c.put_line.new.line c.in-Some.rest.word c.in-Some.rest.list (subst (λ r. Puts o so lp.at c.put_line.new.line (Ok r)) c.in-Some.is c.in_ok-next.ensures)
