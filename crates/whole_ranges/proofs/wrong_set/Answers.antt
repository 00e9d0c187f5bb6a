-- `whole_ranges::wrong_set` meets its contract. Assumes nothing.
use mathlib.Core.Path.{sym, ap, ◌∙◌}
use Prim.Native.Nat.{ℕ, suc}
use native.Mathlib.Omega.{arith}
use mathlib.Core.Bool.{Bool}
use mathlib.Core.Option.{some}
use Rattle.whole_numbers.proofs.Tests.{first_starts, first_more, first_stops, first_ends}
use Rattle.whole_ranges.specs.Ranges.{set_right}
use Rattle.whole_ranges.proofs.wrong_set.Goals as goal

pub loop-q-init : goal.loop-q-init
loop-q-init c =
    let n = c.args.count in
    let R = c.args.rows.now in
    let D = c.args.loops.now in
    let test : ℕ → Bool = λ k. set_right R D (suc k) in
    (first_starts test suc n)

pub set_right-requires : goal.set_right-requires
set_right-requires c =
    (c.requires, (omega (arith, c.sequence_of-here.ensures), omega (arith, c.sequence_of-here.ensures, c.loop-q-test.true)))

pub returns-then-not-set_right : goal.returns-then-not-set_right
returns-then-not-set_right c =
    let n = c.args.count in
    let R = c.args.rows.now in
    let D = c.args.loops.now in
    let test : ℕ → Bool = λ k. set_right R D (suc k) in
    let q = c.loop-q.q in
    let inv = c.loop-q.invariant in
    let right = c.set_right.ensures ∙ ap (set_right R D) c.sequence_of-here.ensures in
    ap some c.sequence_of-here.ensures ∙ sym (inv ∙ first_stops test suc n q c.loop-q-test.true (sym right ∙ c.if-not-set_right.true))

pub loop-q-preserved : goal.loop-q-preserved
loop-q-preserved c =
    let n = c.args.count in
    let R = c.args.rows.now in
    let D = c.args.loops.now in
    let test : ℕ → Bool = λ k. set_right R D (suc k) in
    let q = c.loop-q.q in
    let inv = c.loop-q.invariant in
    let right = c.set_right.ensures ∙ ap (set_right R D) c.sequence_of-here.ensures in
    (inv ∙ first_more test suc n q c.loop-q-test.true (sym right ∙ c.if-not-set_right.false))

pub returns : goal.returns
returns c =
    let n = c.args.count in
    let R = c.args.rows.now in
    let D = c.args.loops.now in
    let test : ℕ → Bool = λ k. set_right R D (suc k) in
    let q = c.loop-q.q in
    let inv = c.loop-q.invariant in
    sym (inv ∙ first_ends test suc n q c.loop-q-test.false)
