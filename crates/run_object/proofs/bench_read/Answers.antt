-- `run_object::bench_read` meets its contract. Assumes nothing.
use mathlib.Core.Path.{◌≡◌, sym, ◌∙◌}
use native.Mathlib.Omega.{arith}
use lib.ListN.{length}
use Rattle.check_object.proofs.Laws.{digits_low, rule_is}
use Rattle.run_registers.specs.Devices.{trays_of}
use Rattle.run_lent.specs.Lending.{lent}
use Rattle.run_object.proofs.Runs.{made, bench_over, bench_refused, bench_held, bench_low, bench_ends, back, low_back}
use Rattle.object_contents.specs.declared.placed.Object.{Object}
use Rattle.object_contents.specs.Book.{book_of}
use Rattle.run_object.proofs.bench_read.Goals as goal

pub returns-then-not-limits_right : goal.returns-then-not-limits_right
returns-then-not-limits_right c =
    let a = c.args in
    made c.not_run.ensures (bench_over a.layout a.object.now a.store.now (lent a.index.now a.height.now a.mark.now a.places.now) (trays_of a.cards.now a.lines.now) a.allowance (sym (c.limits_right.ensures a.object.now) ∙ c.if-not-limits_right.true))

pub of_digits-rule-requires : goal.of_digits-rule-requires
of_digits-rule-requires c =
    let a = c.args in
    digits_low a.layout a.object.now c.requires (sym (c.limits_right.ensures a.object.now) ∙ c.if-not-limits_right.false)

pub invariant_of-o : goal.invariant_of-o
invariant_of-o c = record { placed = c.requires; ruled = c.of_digits-rule.ensures ∙ rule_is c.args.layout c.args.object.now }

pub returns-in-Err : goal.returns-in-Err
returns-in-Err c =
    let a = c.args in
    let s = a.object.now in
    let rule = c.of_digits-rule.ensures ∙ rule_is a.layout s in
    let o : Object = record { bytes = a.object; layout = a.layout; rule = c.of_digits-rule.result; placed = c.requires; ruled = rule } in
    let right = sym (c.limits_right.ensures s) ∙ c.if-not-limits_right.false in
    made c.not_run-in-Err.ensures (bench_refused o a.store.now (lent a.index.now a.height.now a.mark.now a.places.now) (trays_of a.cards.now a.lines.now) a.allowance _ right (c.in-Err.ensures s rule))

pub bench-q-requires : goal.bench-q-requires
bench-q-requires c =
    let a = c.args in
    let s = a.object.now in
    let rule = c.of_digits-rule.ensures ∙ rule_is a.layout s in
    let right = sym (c.limits_right.ensures s) ∙ c.if-not-limits_right.false in
    let forty : length a.places.now ≡ 40 = omega arith in
    bench_held _ a.store.now (lent a.index.now a.height.now a.mark.now a.places.now) (trays_of a.cards.now a.lines.now) a.allowance right (c.in_default.ensures s rule) _ _ forty c.clear.ensures

pub finish-requires : goal.finish-requires
finish-requires c =
    let a = c.args in
    let s = a.object.now in
    let rule = c.of_digits-rule.ensures ∙ rule_is a.layout s in
    let o : Object = record { bytes = a.object; layout = a.layout; rule = c.of_digits-rule.result; placed = c.requires; ruled = rule } in
    let l = lent a.index.now a.height.now a.mark.now a.places.now in
    let trays = trays_of a.cards.now a.lines.now in
    let right = sym (c.limits_right.ensures s) ∙ c.if-not-limits_right.false in
    let forty : length a.places.now ≡ 40 = omega arith in
    low_back o c.bench-q.result _ right (back (book_of o) trays c.bench-q.result _ _ _ a.allowance _ (bench_low o a.store.now l trays a.allowance right (c.in_default.ensures s rule) _ _ forty c.clear.ensures) c.bench-q.ensures)

pub returns : goal.returns
returns c =
    let a = c.args in
    let s = a.object.now in
    let rule = c.of_digits-rule.ensures ∙ rule_is a.layout s in
    let o : Object = record { bytes = a.object; layout = a.layout; rule = c.of_digits-rule.result; placed = c.requires; ruled = rule } in
    let l = lent a.index.now a.height.now a.mark.now a.places.now in
    let right = sym (c.limits_right.ensures s) ∙ c.if-not-limits_right.false in
    let forty : length a.places.now ≡ 40 = omega arith in
    bench_ends o a.store.now l (trays_of a.cards.now a.lines.now) a.allowance right (c.in_default.ensures s rule) _ _ forty c.clear.ensures _ _ _ _ _ _ c.bench-q.ensures (c.finish.ensures _ _ _)
