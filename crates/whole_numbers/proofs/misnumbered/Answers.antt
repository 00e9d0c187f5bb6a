-- `whole_numbers::misnumbered` meets its contract. Assumes nothing.
use mathlib.Core.Path.{sym, ap, ◌∙◌}
use Prim.Native.Nat.{suc}
use lib.ListN.{length}
use mathlib.Core.Option.{some}
use Rattle.whole_numbers.specs.Numbers.{number_right}
use Rattle.whole_numbers.proofs.Tests.{first_starts, first_more, first_stops, first_ends}
use Rattle.whole_numbers.proofs.Own.{unnumbered, numbered}
use Rattle.whole_numbers.proofs.misnumbered.Goals as goal
use Rattle.whole_numbers.proofs.misnumbered.Goals.{then-number-ne0+else-not-own_right, else-number-ne0}

pub loop-q-init : goal.loop-q-init
loop-q-init c =
    let R = c.args.rows.now in
    let N = c.args.numbers.now in
    let n = length c.args.numbers.now in
    let test = number_right R N n in
    first_starts test suc n

pub returns-then-not-own_right : goal.returns-then-not-own_right
returns-then-not-own_right c =
    let R = c.args.rows.now in
    let N = c.args.numbers.now in
    let n = length c.args.numbers.now in
    let test = number_right R N n in
    let q = c.loop-q.q in
    let inv = c.loop-q.invariant in
    let told = numbered R N n q c.if-number-ne0.true c.place_of-first.result c.place_of-first.ensures _ _ c.sequence_of-here.ensures c.kind_of.ensures _ c.own_right.ensures in
    ap some c.sequence_of-here.ensures ∙ sym (inv ∙ first_stops test suc n q c.loop-q-test.true (told ∙ c.if-not-own_right.true))

pub loop-q-preserved : goal.loop-q-preserved
loop-q-preserved c =
    let R = c.args.rows.now in
    let N = c.args.numbers.now in
    let n = length c.args.numbers.now in
    let test = number_right R N n in
    let q = c.loop-q.q in
    let inv = c.loop-q.invariant in
    (inv ∙ first_more test suc n q c.loop-q-test.true (elim c.if-number-ne0.branch [ then-number-ne0+else-not-own_right w ↦ numbered R N n q w.if-number-ne0.true w.place_of-first.result w.place_of-first.ensures _ _ w.sequence_of-here.ensures w.kind_of.ensures _ w.own_right.ensures ∙ w.if-not-own_right.false | else-number-ne0 w ↦ unnumbered R N n q w.if-number-ne0.false ]))

pub returns : goal.returns
returns c =
    let R = c.args.rows.now in
    let N = c.args.numbers.now in
    let n = length c.args.numbers.now in
    let test = number_right R N n in
    let q = c.loop-q.q in
    let inv = c.loop-q.invariant in
    sym (inv ∙ first_ends test suc n q c.loop-q-test.false)
