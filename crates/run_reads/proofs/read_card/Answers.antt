-- `run_reads::read_card` meets its contract. Assumes nothing.
use mathlib.Core.Path.{◌∙◌, subst}
use native.Mathlib.Omega.{arith}
use Rattle.std.specs.Prelude.{Ok}
use Rattle.std.proofs.lemmas.Result.{err_from_is_err_and}
use Rattle.object_contents.specs.Book.{book_of}
use Rattle.object_contents.proofs.Entries.{format_length}
use Rattle.run_formats.specs.Scan.{field_of}
use Rattle.run_lists.specs.Cursors.{Left}
use Rattle.run_reads.specs.Takes.{Does}
use Rattle.run_reads.proofs.CardLaws.{begins, record_ends_lem, statement_ends_lem, stops, goes_on, scans_again, all_done}
use Rattle.run_reads.proofs.read_card.Goals as goal

pub loop-again-init : goal.loop-again-init
loop-again-init c =
    begins c.args.o.now c.args.start.word c.args.start.list c.args.store.now c.args.card.now c.requires.stored c.requires.scanning c.requires.reached

pub shape_of-store-then-any_left : goal.shape_of-store-then-any_left
shape_of-store-then-any_left c =
    c.loop-again.invariant.kept.long

pub shape_of-store-in-End : goal.shape_of-store-in-End
shape_of-store-in-End c =
    c.loop-again.invariant.kept.long

pub returns-then-any_left : goal.returns-then-any_left
returns-then-any_left c =
    let o = c.args.o.now in
    let s = c.args.start in
    let lp = c.loop-again in
    scans_again o s.word s.list c.args.store.now c.args.card.now lp.store lp.at.word lp.at.list lp.column lp.invariant c.in-End.again c.in-End.ensures (subst (Left (book_of o) lp.at.list) c.if-any_left.true (c.any_left.ensures (book_of o) lp.invariant.reached))

pub returns-in-End : goal.returns-in-End
returns-in-End c =
    let o = c.args.o.now in
    let s = c.args.start in
    let lp = c.loop-again in
    all_done o s.word s.list c.args.store.now c.args.card.now lp.store lp.at.word lp.at.list lp.column lp.invariant c.in-End.again c.in-End.ensures (subst (Left (book_of o) lp.at.list) c.if-any_left.false (c.any_left.ensures (book_of o) lp.invariant.reached))

pub read_field-requires : goal.read_field-requires
read_field-requires c =
    let going = c.loop-again.invariant in
    record { stored = going.kept.stored; ten = c.requires.ten; reached = going.reached; card_len = (c.requires.card_len, going.within) }

pub shape_of-store-in_err-read_field-in-Of : goal.shape_of-store-in_err-read_field-in-Of
shape_of-store-in_err-read_field-in-Of c =
    c.read_field.auto.store ∙ c.loop-again.invariant.kept.long

pub shape_of-store-in-RecordEnds : goal.shape_of-store-in-RecordEnds
shape_of-store-in-RecordEnds c =
    c.read_field.auto.store ∙ c.loop-again.invariant.kept.long

pub shape_of-store-in-StatementEnds : goal.shape_of-store-in-StatementEnds
shape_of-store-in-StatementEnds c =
    c.read_field.auto.store ∙ c.loop-again.invariant.kept.long

pub returns-in_err-read_field-in-Of : goal.returns-in_err-read_field-in-Of
returns-in_err-read_field-in-Of c =
    let o = c.args.o.now in
    let s = c.args.start in
    let lp = c.loop-again in
    let p = err_from_is_err_and c.from_residual.result c.from_residual.ensures.1 in
    rw (p.1, p.2) (stops o s.word s.list c.args.store.now c.args.card.now lp.store lp.at.word lp.at.list lp.column lp.invariant (field_of c.in-Of.f) c.in-Of.ensures c.read_field.new.store _ c.in_err-read_field-in-Of.ensures)

pub overflow_add-result : goal.overflow_add-result
overflow_add-result c =
    let o = c.args.o.now in
    let t = c.loop-again.invariant.along.scanning in
    omega (arith, t.to, t.inside, format_length o.layout o.bytes.now, o.placed, c.well_formed)

pub overflow_add-at : goal.overflow_add-at
overflow_add-at c =
    let o = c.args.o.now in
    let t = c.loop-again.invariant.along.scanning in
    omega (arith, t.to, t.inside, format_length o.layout o.bytes.now, o.placed, c.well_formed)

pub returns-in-RecordEnds : goal.returns-in-RecordEnds
returns-in-RecordEnds c =
    let o = c.args.o.now in
    let s = c.args.start in
    let lp = c.loop-again in
    record_ends_lem o s.word s.list c.args.store.now c.args.card.now lp.store lp.at.word lp.at.list lp.column lp.invariant (field_of c.in-Of.f) c.in-Of.ensures c.read_field.new.store (subst (λ r. Does o lp.at.list lp.store c.args.card.now lp.column (field_of c.in-Of.f) c.read_field.new.store (Ok r)) c.in-RecordEnds.is c.in_ok-read_field-in-Of.ensures)

pub returns-in-StatementEnds : goal.returns-in-StatementEnds
returns-in-StatementEnds c =
    let o = c.args.o.now in
    let s = c.args.start in
    let lp = c.loop-again in
    statement_ends_lem o s.word s.list c.args.store.now c.args.card.now lp.store lp.at.word lp.at.list lp.column lp.invariant (field_of c.in-Of.f) c.in-Of.ensures c.read_field.new.store (subst (λ r. Does o lp.at.list lp.store c.args.card.now lp.column (field_of c.in-Of.f) c.read_field.new.store (Ok r)) c.in-StatementEnds.is c.in_ok-read_field-in-Of.ensures)

pub loop-again-smaller : goal.loop-again-smaller
loop-again-smaller c =
    let o = c.args.o.now in
    let t = c.loop-again.invariant.along.scanning in
    omega (arith, t.to, t.inside, format_length o.layout o.bytes.now)

pub loop-again-preserved : goal.loop-again-preserved
loop-again-preserved c =
    let o = c.args.o.now in
    let s = c.args.start in
    let lp = c.loop-again in
    goes_on o s.word s.list c.args.store.now c.args.card.now lp.store lp.at.word lp.at.list lp.column lp.invariant (field_of c.in-Of.f) c.in-Of.ensures c.read_field.new.store c.in-On.next c.in-On.list (subst (λ r. Does o lp.at.list lp.store c.args.card.now lp.column (field_of c.in-Of.f) c.read_field.new.store (Ok r)) c.in-On.is c.in_ok-read_field-in-Of.ensures)
