-- `whole_ranges::wrong_do` meets its contract. Assumes nothing.
use mathlib.Core.Path.{sym, ◌∙◌}
use Rattle.whole_tables.specs.Tables.{do_at}
use lib.ListN.{length}
use Rattle.whole_numbers.proofs.Tests.{first_starts, first_more, first_stops, first_ends}
use Rattle.whole_ranges.specs.Ranges.{do_right}
use Rattle.whole_ranges.proofs.wrong_do.Goals as goal

pub loop-i-init : goal.loop-i-init
loop-i-init c =
    let D = c.args.loops.now in
    let n = length D in
    let test = do_right c.args.rows.now D in
    (first_starts test (do_at D) n)

pub returns-then-not-do_right : goal.returns-then-not-do_right
returns-then-not-do_right c =
    let D = c.args.loops.now in
    let n = length D in
    let test = do_right c.args.rows.now D in
    let i = c.loop-i.i in
    let inv = c.loop-i.invariant in
    sym (inv ∙ first_stops test (do_at D) n i c.loop-i-test.true (sym c.do_right.ensures ∙ c.if-not-do_right.true))

pub loop-i-preserved : goal.loop-i-preserved
loop-i-preserved c =
    let D = c.args.loops.now in
    let n = length D in
    let test = do_right c.args.rows.now D in
    let i = c.loop-i.i in
    let inv = c.loop-i.invariant in
    (inv ∙ first_more test (do_at D) n i c.loop-i-test.true (sym c.do_right.ensures ∙ c.if-not-do_right.false))

pub returns : goal.returns
returns c =
    let D = c.args.loops.now in
    let n = length D in
    let test = do_right c.args.rows.now D in
    let i = c.loop-i.i in
    let inv = c.loop-i.invariant in
    sym (inv ∙ first_ends test (do_at D) n i c.loop-i-test.false)
