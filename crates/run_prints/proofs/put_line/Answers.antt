-- `run_prints::put_line` meets its contract. Assumes nothing.
use mathlib.Core.Path.{ap, ◌∙◌, subst}
use native.Mathlib.Omega.{arith}
use lib.ListN.{take, replicate}
use Rattle.std.specs.Prelude.{Ok}
use Rattle.std.proofs.lemmas.Result.{err_from_is_err_and}
use Rattle.object_contents.specs.Book.{book_of}
use Rattle.object_contents.proofs.Entries.{format_length}
use Rattle.run_formats.specs.Scan.{field_of}
use Rattle.run_lists.specs.Cursors.{Left}
use Rattle.run_prints.specs.Puts.{Does}
use Rattle.run_prints.proofs.LineLaws.{begins, record_ends_lem, statement_ends_lem, stops, goes_on, scans_again, all_done}
use Rattle.run_prints.proofs.put_line.Goals as goal

pub loop-again-init : goal.loop-again-init
loop-again-init c =
    begins (book_of c.args.o.now) c.args.store.now c.args.start.word c.args.start.list c.fill.new.self (c.fill.ensures.after (λ y e. e) ∙ ap (λ n. replicate n 32) c.requires.line_len) c.requires.scanning c.requires.reached

pub returns-then-any_left : goal.returns-then-any_left
returns-then-any_left c =
    let o = book_of c.args.o.now in
    let so = c.args.store.now in
    let s = c.args.start in
    let lp = c.loop-again in
    scans_again o so s.word s.list lp.line lp.at.word lp.at.list lp.column lp.invariant c.in-End.again c.in-End.ensures (subst (Left o lp.at.list) c.if-any_left.true (c.any_left.ensures o lp.invariant.reached))

pub returns-in-End : goal.returns-in-End
returns-in-End c =
    let o = book_of c.args.o.now in
    let so = c.args.store.now in
    let s = c.args.start in
    let lp = c.loop-again in
    all_done o so s.word s.list lp.line lp.at.word lp.at.list lp.column lp.invariant c.in-End.again c.in-End.ensures (subst (Left o lp.at.list) c.if-any_left.false (c.any_left.ensures o lp.invariant.reached))

pub returns-in_err-put_field-in-Of : goal.returns-in_err-put_field-in-Of
returns-in_err-put_field-in-Of c =
    let o = book_of c.args.o.now in
    let so = c.args.store.now in
    let s = c.args.start in
    let lp = c.loop-again in
    let p = err_from_is_err_and c.from_residual.result c.from_residual.ensures.1 in
    rw (p.1, p.2) (stops o so s.word s.list lp.line lp.at.word lp.at.list lp.column lp.invariant (field_of c.in-Of.f) c.in-Of.ensures _ c.in_err-put_field-in-Of.ensures)

pub overflow_add-result : goal.overflow_add-result
overflow_add-result c =
    let o = c.args.o.now in
    let t = c.loop-again.invariant.along.scanning in
    omega (arith, t.to, t.inside, format_length o.layout o.bytes.now, o.placed, c.well_formed)

pub overflow_add-at : goal.overflow_add-at
overflow_add-at c =
    let o = c.args.o.now in
    let t = c.loop-again.invariant.along.scanning in
    omega (arith, t.to, t.inside, format_length o.layout o.bytes.now, o.placed, c.well_formed)

pub returns-in-RecordEnds : goal.returns-in-RecordEnds
returns-in-RecordEnds c =
    let o = book_of c.args.o.now in
    let so = c.args.store.now in
    let s = c.args.start in
    let lp = c.loop-again in
    record_ends_lem o so s.word s.list lp.line lp.at.word lp.at.list lp.column lp.invariant (field_of c.in-Of.f) c.in-Of.ensures c.put_field.new.line (subst (λ r. Does o so lp.at.list (take lp.column lp.line) (field_of c.in-Of.f) c.put_field.new.line (Ok r)) c.in-RecordEnds.is c.in_ok-put_field-in-Of.ensures)

pub returns-in-StatementEnds : goal.returns-in-StatementEnds
returns-in-StatementEnds c =
    let o = book_of c.args.o.now in
    let so = c.args.store.now in
    let s = c.args.start in
    let lp = c.loop-again in
    statement_ends_lem o so s.word s.list lp.line lp.at.word lp.at.list lp.column lp.invariant (field_of c.in-Of.f) c.in-Of.ensures c.put_field.new.line (subst (λ r. Does o so lp.at.list (take lp.column lp.line) (field_of c.in-Of.f) c.put_field.new.line (Ok r)) c.in-StatementEnds.is c.in_ok-put_field-in-Of.ensures)

pub loop-again-smaller : goal.loop-again-smaller
loop-again-smaller c =
    let o = c.args.o.now in
    let t = c.loop-again.invariant.along.scanning in
    omega (arith, t.to, t.inside, format_length o.layout o.bytes.now)

pub loop-again-preserved : goal.loop-again-preserved
loop-again-preserved c =
    let o = book_of c.args.o.now in
    let so = c.args.store.now in
    let s = c.args.start in
    let lp = c.loop-again in
    goes_on o so s.word s.list lp.line lp.at.word lp.at.list lp.column lp.invariant (field_of c.in-Of.f) c.in-Of.ensures c.put_field.new.line c.in-On.next c.in-On.list (subst (λ r. Does o so lp.at.list (take lp.column lp.line) (field_of c.in-Of.f) c.put_field.new.line (Ok r)) c.in-On.is c.in_ok-put_field-in-Of.ensures)
