-- `whole_numbers::misplaced_end` meets its contract. Assumes nothing.
use Rattle.whole_numbers.proofs.Ends.{ends_from, ends_at}
use Rattle.whole_numbers.proofs.misplaced_end.Goals as goal

pub returns-in-Some : goal.returns-in-Some
returns-in-Some c =
    ends_from c.args.rows.now c.args.count c.in-Some.ensures

pub returns-then-last_ends : goal.returns-then-last_ends
returns-then-last_ends c =
    ends_at c.args.rows.now c.args.count c.in_default.ensures c.if-last_ends.ensures

pub returns : goal.returns
returns c =
    ends_at c.args.rows.now c.args.count c.in_default.ensures c.if-last_ends.ensures
