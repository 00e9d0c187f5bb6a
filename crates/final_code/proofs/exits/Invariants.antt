-- `final_code::exits` meets its contract: the exits so far are those of the statements passed. Assumes nothing.
use mathlib.Core.Path.{◌≡◌}
use mathlib.Core.List.{List}
use lib.ListN.{length, take}
use Rattle.rules_shared.specs.House.{House}
use Rattle.rules_text.specs.Trees.{Statement}
use Rattle.take_draft.specs.Sketch.{deck_jumps}
use Rattle.final_addresses.specs.Given.{Holds}
use Rattle.final_code.specs.Settling.{Leading}
use Rattle.final_code.proofs.Branching.{exits_to}
use Rattle.final_code.proofs.exits.Given as goal

abbrev pub invariant-loop-i : goal.invariant-loop-i
invariant-loop-i l = (house : House) (deck : List Statement) → Leading house deck l.rows l.count l.jumps l.starts → (l.j ≡ length (deck_jumps (take l.i deck))) × Holds l.out l.top (exits_to deck l.i)
