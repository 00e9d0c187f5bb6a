-- `check_entries::tables_right` meets its contract: the counts are tested kind by kind. Assumes nothing.
use Rattle.check_entries.proofs.Tables.{begins, goes, stops, ends}
use Rattle.check_entries.proofs.tables_right.Goals as goal

pub loop-kind-init : goal.loop-kind-init
loop-kind-init c =
    begins c.args.kinds c.args.counts

pub returns-then-most_entries-counts : goal.returns-then-most_entries-counts
returns-then-most_entries-counts c =
    stops c.args.kinds c.args.counts c.requires c.well_formed.1.0.1.0.1 c.loop-kind.kind c.most_entries.result c.loop-kind-test.true c.loop-kind.invariant c.most_entries.ensures c.if-most_entries-counts.true

pub loop-kind-preserved : goal.loop-kind-preserved
loop-kind-preserved c =
    goes c.args.kinds c.args.counts c.requires c.well_formed.1.0.1.0.1 c.loop-kind.kind c.most_entries.result c.loop-kind-test.true c.loop-kind.invariant c.most_entries.ensures c.if-most_entries-counts.false

pub returns : goal.returns
returns c =
    ends c.args.kinds c.args.counts c.loop-kind.kind c.requires c.loop-kind.invariant c.loop-kind-test.false
