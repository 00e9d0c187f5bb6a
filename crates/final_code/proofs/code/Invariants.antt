-- `final_code::code` meets its contract: the code so far is that of the statements passed. Assumes nothing.
use mathlib.Core.List.{List}
use Rattle.rules_shared.specs.House.{House}
use Rattle.rules_text.specs.Trees.{Statement}
use Rattle.final_code.specs.Settling.{Settling}
use Rattle.final_code.proofs.Reaching.{Reached}
use Rattle.final_code.proofs.code.Given as goal

abbrev pub invariant-loop-i : goal.invariant-loop-i
invariant-loop-i l = (house : House) (deck : List Statement) → Settling house deck l.rows l.count l.dos.loops.now l.dos.count l.dos.jumps.now l.starts l.draft → Reached deck l.from l.j l.top l.out l.i
