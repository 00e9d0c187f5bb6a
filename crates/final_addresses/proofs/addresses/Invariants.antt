-- `final_addresses::addresses` meets its contract: the addresses so far are the deck's. Assumes nothing.
use mathlib.Core.List.{List}
use Rattle.rules_shared.specs.House.{House}
use Rattle.rules_text.specs.Trees.{Statement}
use Rattle.final_addresses.specs.Given.{Judged}
use Rattle.final_addresses.proofs.Passing.{Passed}
use Rattle.final_addresses.proofs.addresses.Given as goal

abbrev pub invariant-loop-i : goal.invariant-loop-i
invariant-loop-i l =
    (house : House) (deck : List Statement) → Judged house deck l.rows l.count l.dos.loops.now l.dos.count l.dos.jumps.now → Passed deck l.starts l.at l.i
