-- `final_statement::put_targets` meets its contract: each address after those that are put. Assumes nothing.
use lib.ListN.{take}
use Rattle.read_items.specs.Parsed.{Put}
use Rattle.final_statement.specs.Words.{targets}
use Rattle.final_statement.proofs.put_targets.Given as goal

abbrev pub invariant-loop-jump : goal.invariant-loop-jump
invariant-loop-jump l = Put l.fn.out l.out l.top (targets (take l.jump-index l.jumps) l.starts) l.at
