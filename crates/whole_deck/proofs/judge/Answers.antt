-- `whole_deck::judge` meets its contract. Assumes nothing.
use mathlib.Core.Path.{subst}
use lib.ListN.{take}
use Rattle.std.specs.Prelude.{Ok, Err}
use Rattle.whole_deck.specs.Whole.{Judged}
use Rattle.whole_deck.specs.Parts.{ByNumber}
use Rattle.whole_deck.proofs.Answers.{passed_on}
use Rattle.whole_deck.proofs.Top.{punched, numbers_fit, kept, ranged, judged_right, judged_ranges, judged_numbers}
use Rattle.whole_deck.proofs.judge.Goals as goal

pub numbers-numbers-requires : goal.numbers-numbers-requires
numbers-numbers-requires c =
    let a = c.args in
    let w = c.requires in
    punched a.rows.now a.count a.loops.now a.dos a.jumps.now a.many w w.deck w.sketched

pub judge_numbers-requires : goal.judge_numbers-requires
judge_numbers-requires c =
    let a = c.args in
    let w = c.requires in
    numbers_fit a.rows.now a.count a.loops.now a.dos a.jumps.now a.many w w.deck w.sketched _ c.numbers-numbers.ensures _ c.wanted-wanted.ensures

pub returns-in_err-places : goal.returns-in_err-places
returns-in_err-places c =
    let a = c.args in
    let w = c.requires in
    let n = subst (λ n. ByNumber a.rows.now (take a.count c.numbers-numbers.result) n (take a.many c.wanted-wanted.result) (Err c.in_err-places.field-0.0)) c.numbers-numbers.ensures.counted c.in_err-places.ensures in
    λ deck s. passed_on (Judged deck) _ c.from_residual.result c.from_residual.ensures.1 (judged_numbers a.rows.now a.count a.loops.now a.dos a.jumps.now a.many w deck s _ c.numbers-numbers.ensures _ c.wanted-wanted.ensures _ n)

pub loops_of-ranges-requires : goal.loops_of-ranges-requires
loops_of-ranges-requires c =
    let a = c.args in
    let w = c.requires in
    let n = subst (λ n. ByNumber a.rows.now (take a.count c.numbers-numbers.result) n (take a.many c.wanted-wanted.result) (Ok c.in_ok-places.places)) c.numbers-numbers.ensures.counted c.in_ok-places.ensures in
    kept a.rows.now a.count a.loops.now a.dos a.jumps.now a.many w w.deck w.sketched _ c.numbers-numbers.ensures _ c.wanted-wanted.ensures _ n

pub judge_ranges-requires : goal.judge_ranges-requires
judge_ranges-requires c =
    let a = c.args in
    let w = c.requires in
    let n = subst (λ n. ByNumber a.rows.now (take a.count c.numbers-numbers.result) n (take a.many c.wanted-wanted.result) (Ok c.in_ok-places.places)) c.numbers-numbers.ensures.counted c.in_ok-places.ensures in
    ranged a.rows.now a.count a.loops.now a.dos a.jumps.now a.many w w.deck w.sketched _ c.numbers-numbers.ensures _ c.wanted-wanted.ensures _ n _ c.loops_of-ranges.ensures

pub returns-in_err-judge_ranges : goal.returns-in_err-judge_ranges
returns-in_err-judge_ranges c =
    let a = c.args in
    let w = c.requires in
    let n = subst (λ n. ByNumber a.rows.now (take a.count c.numbers-numbers.result) n (take a.many c.wanted-wanted.result) (Ok c.in_ok-places.places)) c.numbers-numbers.ensures.counted c.in_ok-places.ensures in
    λ deck s. passed_on (Judged deck) _ c.from_residual-in_err-judge_ranges.result c.from_residual-in_err-judge_ranges.ensures.1 (judged_ranges a.rows.now a.count a.loops.now a.dos a.jumps.now a.many w deck s _ c.numbers-numbers.ensures _ c.wanted-wanted.ensures _ n _ c.loops_of-ranges.ensures _ c.in_err-judge_ranges.ensures)

pub returns : goal.returns
returns c =
    let a = c.args in
    let w = c.requires in
    let n = subst (λ n. ByNumber a.rows.now (take a.count c.numbers-numbers.result) n (take a.many c.wanted-wanted.result) (Ok c.in_ok-places.places)) c.numbers-numbers.ensures.counted c.in_ok-places.ensures in
    λ deck s. judged_right a.rows.now a.count a.loops.now a.dos a.jumps.now a.many w deck s _ c.numbers-numbers.ensures _ c.wanted-wanted.ensures _ n _ c.loops_of-ranges.ensures c.in_ok-judge_ranges.ensures
