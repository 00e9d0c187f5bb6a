-- `run_prints::try_lines` meets its contract. Assumes nothing.
use mathlib.Core.Path.{◌≡◌, ◌∙◌, subst}
use Prim.Native.Nat.{ℕ, ◌+◌, ◌-◌}
use native.Mathlib.Omega.{arith}
use Rattle.std.specs.Prelude.{Ok}
use Rattle.std.proofs.lemmas.Result.{err_from_is_err_and}
use Rattle.object_contents.specs.Book.{book_of}
use Rattle.run_prints.specs.Puts.{Puts}
use Rattle.run_prints.proofs.LinesLaws.{Trying, no_room_left, trying_begins, tried_stop, tried_last, tried_full, tried_more}
use Rattle.run_prints.proofs.try_lines.Goals as goal

pub loop-init : goal.loop-init
loop-init c =
    let o = book_of c.args.o.now in
    let s = c.args.start in
    let all : c.args.room ≡ c.args.room - 0 = omega arith in
    (subst (λ (n : ℕ). Trying o c.args.store.now c.args.room s.word s.list s.word s.list n) all (trying_begins o c.args.store.now c.args.room s.word s.list c.requires.scanning c.requires.reached), c.requires.line_len)

pub put_line-requires : goal.put_line-requires
put_line-requires c =
    let t = c.loop.invariant.0 in
    record { stored = c.requires.stored; reached = t.reached; scanning = t.scanning; line_len = c.loop.invariant.1 }

pub returns-in_err-next : goal.returns-in_err-next
returns-in_err-next c =
    let o = book_of c.args.o.now in
    let so = c.args.store.now in
    let s = c.args.start in
    let lp = c.loop in
    let t = lp.invariant.0 in
    let p = err_from_is_err_and c.from_residual.result c.from_residual.ensures.1 in
    rw (p.1, p.2) (tried_stop o so c.args.room s.word s.list lp.at.word lp.at.list (c.args.room - lp.counter) t _ c.in_err-next.ensures)

pub returns-in_default : goal.returns-in_default
returns-in_default c =
    let o = book_of c.args.o.now in
    let so = c.args.store.now in
    let s = c.args.start in
    let lp = c.loop in
    let t = lp.invariant.0 in
    tried_last o so c.args.room s.word s.list lp.at.word lp.at.list (c.args.room - lp.counter) t c.put_line.new.line (subst (λ r. Puts o so lp.at c.put_line.new.line (Ok r)) c.in_default.is c.in_ok-next.ensures) (λ e. omega (arith, c.loop-test.true))

pub loop-preserved : goal.loop-preserved
loop-preserved c =
    let o = book_of c.args.o.now in
    let so = c.args.store.now in
    let s = c.args.start in
    let lp = c.loop in
    let t = lp.invariant.0 in
    let next = c.in-Some.next in
    let more = tried_more o so c.args.room s.word s.list lp.at.word lp.at.list (c.args.room - lp.counter) t c.put_line.new.line next.word next.list (subst (λ r. Puts o so lp.at c.put_line.new.line (Ok r)) c.in-Some.is c.in_ok-next.ensures) (λ e. omega (arith, c.loop-test.true)) in
    let e : c.args.room - lp.counter - 1 ≡ c.args.room - (lp.counter + 1) = omega arith in
    (subst (λ (n : ℕ). Trying o so c.args.room s.word s.list next.word next.list n) e more, c.put_line.auto.line ∙ lp.invariant.1)

pub returns-in_err-put_line : goal.returns-in_err-put_line
returns-in_err-put_line c =
    let o = book_of c.args.o.now in
    let so = c.args.store.now in
    let s = c.args.start in
    let lp = c.loop in
    let t = lp.invariant.0 in
    let p = err_from_is_err_and c.from_residual-in_err-put_line.result c.from_residual-in_err-put_line.ensures.1 in
    rw (p.1, p.2) (tried_stop o so c.args.room s.word s.list lp.at.word lp.at.list (c.args.room - lp.counter) t _ c.in_err-put_line.ensures)

pub returns : goal.returns
returns c =
    let o = book_of c.args.o.now in
    let so = c.args.store.now in
    let s = c.args.start in
    let lp = c.loop in
    let t = lp.invariant.0 in
    tried_full o so c.args.room s.word s.list lp.at.word lp.at.list (c.args.room - lp.counter) t (no_room_left o so lp.at.word lp.at.list c.put_line-2.new.line c.in_ok-put_line.field-0 c.in_ok-put_line.ensures (c.args.room - lp.counter) (omega (arith, c.loop-test.false)))
