-- `read_formats::opened` meets its contract. Assumes nothing.
use Rattle.read_formats.proofs.FormatLaws.{Opening}
use Rattle.read_formats.proofs.opened.Given as goal

abbrev pub invariant-loop-k : goal.invariant-loop-k
invariant-loop-k l = Opening l.columns l.at l.k
