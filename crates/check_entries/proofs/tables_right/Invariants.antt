-- `check_entries::tables_right` meets its contract: the counts are tested kind by kind. Assumes nothing.
use Rattle.check_entries.proofs.Tables.{Going}
use Rattle.check_entries.proofs.tables_right.Given as goal

abbrev pub invariant-loop-kind : goal.invariant-loop-kind
invariant-loop-kind l = Going l.kinds l.counts l.kind
