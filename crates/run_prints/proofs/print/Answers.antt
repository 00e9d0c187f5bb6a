-- `run_prints::print` meets its contract. Assumes nothing.
use mathlib.Core.Path.{subst}
use Prim.Native.Nat.{ℕ}
use native.Mathlib.Omega.{arith}
use lib.ListN.{length-replicate}
use Rattle.std.specs.Prelude.{Err}
use Rattle.std.proofs.lemmas.Result.{err_from_is_err_and}
use Rattle.rules_formats.specs.Walk.{room_of, Outcome, Paper}
use Rattle.object_contents.specs.Book.{book_of}
use Rattle.run_prints.specs.Lines.{Prints}
use Rattle.run_prints.proofs.WritingLaws.{prints_so, prints_ill, as_printed}
use Rattle.run_prints.proofs.print.Goals as goal

pub overflow_sub-lines : goal.overflow_sub-lines
unfolding room_of
overflow_sub-lines c =
    omega (arith, c.requires.written_bound)

pub try_lines-requires : goal.try_lines-requires
try_lines-requires c =
    let begin = c.start_of-start.ensures in
    record { stored = c.requires.stored; reached = begin.reached; scanning = begin.scanning; line_len = length-replicate {A = ℕ} 132 32 }

pub returns-in_err-try_lines : goal.returns-in_err-try_lines
unfolding room_of
returns-in_err-try_lines c =
    let o = book_of c.args.o.now in
    let so = c.args.store.now in
    let before = c.args.lines.now in
    let written = c.args.written in
    let st = c.start_of-start.result in
    let is = as_printed o c.args.x c.requires.x_value st c.start_of-start.ensures.is so before written in
    let p = err_from_is_err_and c.from_residual.result c.from_residual.ensures.1 in
    rw (p.1, p.2) (subst (λ (out : Outcome Paper). Prints before written out before (Err c.in_err-try_lines.field-0.0)) is (prints_ill o so before written st.word st.list _ c.in_err-try_lines.ensures))

pub put_lines-requires-clause-tried : goal.put_lines-requires-clause-tried
unfolding room_of
put_lines-requires-clause-tried c =
    c.in_ok-try_lines.ensures

pub returns : goal.returns
unfolding room_of
returns c =
    let o = book_of c.args.o.now in
    let so = c.args.store.now in
    let before = c.args.lines.now in
    let written = c.args.written in
    let st = c.start_of-start.result in
    let is = as_printed o c.args.x c.requires.x_value st c.start_of-start.ensures.is so before written in
    subst (λ (out : Outcome Paper). Prints before written out c.put_lines.new.lines c.put_lines.result) is (prints_so o so before written st.word st.list c.requires.written_bound c.put_lines.new.lines c.put_lines.result c.in_ok-try_lines.ensures c.put_lines.ensures)
