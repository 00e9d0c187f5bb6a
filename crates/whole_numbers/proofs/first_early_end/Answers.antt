-- `whole_numbers::first_early_end` meets its contract. Assumes nothing.
use mathlib.Core.Path.{sym, ap, ◌∙◌}
use Prim.Native.Nat.{suc}
use mathlib.Core.Option.{some}
use Rattle.whole_numbers.specs.Numbers.{end_right}
use Rattle.whole_numbers.proofs.Tests.{first_starts, first_more, first_stops, first_ends}
use Rattle.whole_numbers.proofs.first_early_end.Goals as goal

pub loop-q-init : goal.loop-q-init
loop-q-init c =
    let n = c.args.count in
    let test = end_right c.args.rows.now n in
    first_starts test suc n

pub returns-then-not-end_right : goal.returns-then-not-end_right
returns-then-not-end_right c =
    let n = c.args.count in
    let test = end_right c.args.rows.now n in
    let q = c.loop-q.q in
    let inv = c.loop-q.invariant in
    ap some c.sequence_of.ensures ∙ sym (inv ∙ first_stops test suc n q c.loop-q-test.true (sym c.end_right.ensures ∙ c.if-not-end_right.true))

pub loop-q-preserved : goal.loop-q-preserved
loop-q-preserved c =
    let n = c.args.count in
    let test = end_right c.args.rows.now n in
    let q = c.loop-q.q in
    let inv = c.loop-q.invariant in
    (inv ∙ first_more test suc n q c.loop-q-test.true (sym c.end_right.ensures ∙ c.if-not-end_right.false))

pub returns : goal.returns
returns c =
    let n = c.args.count in
    let test = end_right c.args.rows.now n in
    let q = c.loop-q.q in
    let inv = c.loop-q.invariant in
    sym (inv ∙ first_ends test suc n q c.loop-q-test.false)
