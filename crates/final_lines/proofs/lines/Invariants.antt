-- `final_lines::lines` meets its contract: the lines so far are those of the statements passed. Assumes nothing.
use Prim.Native.Nat.{◌≤◌, ◌*◌}
use mathlib.Core.List.{List}
use Rattle.rules_shared.specs.House.{House}
use Rattle.rules_text.specs.Trees.{Statement}
use Rattle.final_addresses.specs.Given.{Rows, Starts, Holds}
use Rattle.final_lines.proofs.Listing.{lines_to}
use Rattle.final_lines.proofs.lines.Given as goal

abbrev pub invariant-loop-i : goal.invariant-loop-i
invariant-loop-i l = (l.top ≤ 3 * l.i) × ((house : House) (deck : List Statement) → Rows house deck l.rows l.count → Starts deck l.starts → Holds l.out l.top (lines_to deck l.i))
