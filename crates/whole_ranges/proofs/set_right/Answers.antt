-- `whole_ranges::set_right` meets its contract. Assumes nothing.
use mathlib.Core.Path.{sym, ◌∙◌}
use Prim.Native.Nat.{ℕ}
use Rattle.whole_tables.specs.Tables.{do_at, last_at}
use lib.ListN.{length}
use native.Mathlib.Omega.{arith}
use Rattle.whole_numbers.proofs.Tests.{all_left, all_more, all_stops, all_ends}
use mathlib.Core.Bool.{Bool}
use Rattle.whole_ranges.specs.Ranges.{set_right}
use Rattle.whole_range.specs.Range.{leaves}
use Rattle.whole_ranges.proofs.set_right.Goals as goal

pub loop-range-init : goal.loop-range-init
loop-range-init c =
    let D = c.args.loops.now in
    let test : ℕ → Bool = λ d. leaves c.args.rows.now (do_at D d) (last_at D d) c.args.at.0 in
    let n = length D in
    rw (all_left n)

pub leaves_be-requires : goal.leaves_be-requires
leaves_be-requires c =
    let p = c.requires in
    let a = p.0.from_one c.loop-range.range-index c.loop-range-test.true in
    let b = p.0.to_last c.loop-range.range-index c.loop-range-test.true in
    ((a.0, omega (arith, b.0, p.0.rows_long)), (p.1.0, omega (arith, p.1.1, p.0.rows_long)))

pub returns-then-not-leaves_be : goal.returns-then-not-leaves_be
unfolding set_right
returns-then-not-leaves_be c =
    let D = c.args.loops.now in
    let test : ℕ → Bool = λ d. leaves c.args.rows.now (do_at D d) (last_at D d) c.args.at.0 in
    let n = length D in
    let i = c.loop-range.range-index in
    let inv = c.loop-range.invariant in
    sym (inv ∙ all_stops test n i c.loop-range-test.true (sym c.leaves_be.ensures ∙ c.if-not-leaves_be.true))

pub loop-range-preserved : goal.loop-range-preserved
unfolding set_right
loop-range-preserved c =
    let D = c.args.loops.now in
    let test : ℕ → Bool = λ d. leaves c.args.rows.now (do_at D d) (last_at D d) c.args.at.0 in
    let n = length D in
    let i = c.loop-range.range-index in
    let inv = c.loop-range.invariant in
    (inv ∙ all_more test n i c.loop-range-test.true (sym c.leaves_be.ensures ∙ c.if-not-leaves_be.false))

pub returns : goal.returns
unfolding set_right
returns c =
    let D = c.args.loops.now in
    let test : ℕ → Bool = λ d. leaves c.args.rows.now (do_at D d) (last_at D d) c.args.at.0 in
    let n = length D in
    let i = c.loop-range.range-index in
    let inv = c.loop-range.invariant in
    sym (inv ∙ all_ends test n i c.loop-range-test.false)
