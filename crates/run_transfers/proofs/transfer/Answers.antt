-- `run_transfers::transfer` meets its contract. Assumes nothing.
use mathlib.Core.Path.{refl, sym, ap, ◌∙◌, subst}
use native.Mathlib.Omega.{arith}
use Rattle.object_contents.specs.Book.{book_of}
use Rattle.run_transfers.specs.Transfers.{Transfers}
use Rattle.run_transfers.proofs.Uses.{stored, ceiling_is, some_digit, word_inside, not_read_lem, inside, right, step_is}
use Rattle.run_transfers.proofs.Moves.{with_taken, with_written, print_transfers, read_transfers, passed_on}
use Rattle.run_transfers.proofs.transfer.Goals as goal

pub load-w-requires : goal.load-w-requires
load-w-requires c = let a = c.args in word_inside a.o.now a.index a.store.now a.kept.now c.requires.ready

pub read-requires : goal.read-requires
read-requires c =
    let a = c.args in
    let o = a.o.now in
    let so = a.store.now in
    let h = c.requires.ready in
    let l = inside o a.index so a.kept.now h _ _ _ c.load-w.ensures c.operation.ensures.0 c.operand-x.ensures.0 16 c.if-operation-eq-READ.true refl in
    record {
      stored = stored o a.index so a.kept.now h;
      ten = some_digit o a.index so a.kept.now h;
      x_bound = l;
      x_value = right o a.index so a.kept.now h _ _ _ c.load-w.ensures c.operation.ensures.0 c.operand-x.ensures.0 16 c.if-operation-eq-READ.true refl;
      cells_in_bounds = h.room (omega (arith, l));
      taken_in_bounds = c.requires.counted.cards;
    }

pub returns-in_err-taken : goal.returns-in_err-taken
returns-in_err-taken c =
    let a = c.args in
    let o = a.o.now in
    let h = c.requires.ready in
    let t = read_transfers a.cards.now a.lines.now a.trays c.requires.counted (book_of o) a.index _ a.store.now o.rule (ceiling_is o a.index a.store.now a.kept.now h)
    (step_is o a.index a.store.now a.kept.now h _ _ _ c.load-w.ensures c.operation.ensures.0 c.operand-x.ensures.0 16 c.if-operation-eq-READ.true) c.read.result _ c.read.ensures in
    subst (λ r. Transfers (book_of o) a.index a.store.now a.cards.now a.lines.now a.trays r c.read.new.store a.lines.now) (ap (with_taken a.trays) c.in_err-taken.was ∙ sym (passed_on _ _ c.from_residual.ensures.0 c.from_residual.ensures.1)) t

pub returns-then-operation-eq-READ : goal.returns-then-operation-eq-READ
returns-then-operation-eq-READ c =
    let a = c.args in
    let o = a.o.now in
    let h = c.requires.ready in
    let t = read_transfers a.cards.now a.lines.now a.trays c.requires.counted (book_of o) a.index _ a.store.now o.rule (ceiling_is o a.index a.store.now a.kept.now h)
    (step_is o a.index a.store.now a.kept.now h _ _ _ c.load-w.ensures c.operation.ensures.0 c.operand-x.ensures.0 16 c.if-operation-eq-READ.true) c.read.result _ c.read.ensures in
    subst (λ r. Transfers (book_of o) a.index a.store.now a.cards.now a.lines.now a.trays r c.read.new.store a.lines.now) (ap (with_taken a.trays) c.in_ok-taken.was) t

pub print-requires : goal.print-requires
print-requires c =
    let a = c.args in
    let o = a.o.now in
    let so = a.store.now in
    let h = c.requires.ready in
    let q = not_read_lem o a.index so a.kept.now h _ _ _ c.load-w.ensures c.operation.ensures.0 c.operand-x.ensures.0 c.if-operation-eq-READ.false in
    record {
      stored = stored o a.index so a.kept.now h;
      x_bound = inside o a.index so a.kept.now h _ _ _ c.load-w.ensures c.operation.ensures.0 c.operand-x.ensures.0 17 q refl;
      x_value = right o a.index so a.kept.now h _ _ _ c.load-w.ensures c.operation.ensures.0 c.operand-x.ensures.0 17 q refl;
      written_bound = c.requires.counted.room;
    }

pub returns-in_err-written : goal.returns-in_err-written
returns-in_err-written c =
    let a = c.args in
    let o = a.o.now in
    let so = a.store.now in
    let h = c.requires.ready in
    let q = not_read_lem o a.index so a.kept.now h _ _ _ c.load-w.ensures c.operation.ensures.0 c.operand-x.ensures.0 c.if-operation-eq-READ.false in
    let t = print_transfers a.cards.now a.lines.now a.trays c.requires.counted (book_of o) a.index _ so (step_is o a.index so a.kept.now h _ _ _ c.load-w.ensures c.operation.ensures.0 c.operand-x.ensures.0 17 q) c.print.result _ c.print.ensures in
    subst (λ r. Transfers (book_of o) a.index so a.cards.now a.lines.now a.trays r so c.print.new.lines) (ap (with_written a.trays) c.in_err-written.was ∙ sym (passed_on _ _ c.from_residual-in_err-written.ensures.0 c.from_residual-in_err-written.ensures.1)) t

pub returns : goal.returns
returns c =
    let a = c.args in
    let o = a.o.now in
    let so = a.store.now in
    let h = c.requires.ready in
    let q = not_read_lem o a.index so a.kept.now h _ _ _ c.load-w.ensures c.operation.ensures.0 c.operand-x.ensures.0 c.if-operation-eq-READ.false in
    let t = print_transfers a.cards.now a.lines.now a.trays c.requires.counted (book_of o) a.index _ so (step_is o a.index so a.kept.now h _ _ _ c.load-w.ensures c.operation.ensures.0 c.operand-x.ensures.0 17 q) c.print.result _ c.print.ensures in
    subst (λ r. Transfers (book_of o) a.index so a.cards.now a.lines.now a.trays r so c.print.new.lines) (ap (with_written a.trays) c.in_ok-written.was) t
