-- `whole_numbers::place_of` meets its contract. Assumes nothing.
use mathlib.Core.Path.{sym, ap, ◌∙◌}
use Prim.Native.Nat.{suc}
use lib.ListN.{length}
use mathlib.Core.Bool.{not}
use mathlib.Core.Option.{some}
use Rattle.whole_numbers.specs.Numbers.{others, place_of}
use Rattle.whole_numbers.proofs.Tests.{first_starts, first_more, first_stops, first_ends}
use Rattle.whole_numbers.proofs.place_of.Goals as goal

pub loop-q-init : goal.loop-q-init
loop-q-init c =
    let n = length c.args.numbers.now in
    let test = others c.args.numbers.now c.args.number.0 in
    first_starts test suc n

pub returns-then-eq : goal.returns-then-eq
unfolding others place_of
returns-then-eq c =
    let n = length c.args.numbers.now in
    let test = others c.args.numbers.now c.args.number.0 in
    let q = c.loop-q.q in
    let inv = c.loop-q.invariant in
    ap some c.sequence_of.ensures ∙ sym (inv ∙ first_stops test suc n q c.loop-q-test.true (ap not (sym c.eq.ensures ∙ c.if-eq.true)))

pub loop-q-preserved : goal.loop-q-preserved
unfolding others
loop-q-preserved c =
    let n = length c.args.numbers.now in
    let test = others c.args.numbers.now c.args.number.0 in
    let q = c.loop-q.q in
    let inv = c.loop-q.invariant in
    (inv ∙ first_more test suc n q c.loop-q-test.true (ap not (sym c.eq.ensures ∙ c.if-eq.false)))

pub returns : goal.returns
unfolding place_of
returns c =
    let n = length c.args.numbers.now in
    let test = others c.args.numbers.now c.args.number.0 in
    let q = c.loop-q.q in
    let inv = c.loop-q.invariant in
    sym (inv ∙ first_ends test suc n q c.loop-q-test.false)
