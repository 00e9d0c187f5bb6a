-- `final_lines::bodies` meets its contract: the entries of the DOs passed have their bodies. Assumes nothing.
use mathlib.Core.Path.{◌≡◌}
use Prim.Native.Nat.{◌*◌}
use mathlib.Core.List.{List, map}
use lib.ListN.{take}
use Rattle.rules_shared.specs.House.{House}
use Rattle.rules_object.specs.Bytes.{concat, loop_words}
use Rattle.rules_text.specs.Trees.{Statement}
use Rattle.rules_deck.specs.Deck.{dos_of}
use Rattle.final_addresses.specs.Given.{Loops, Starts}
use Rattle.take_draft.specs.Sketch.{open_entry}
use Rattle.final_lines.proofs.Entering.{entered}
use Rattle.final_lines.proofs.bodies.Given as goal

abbrev pub invariant-loop-i : goal.invariant-loop-i
invariant-loop-i l = ((house : House) (deck : List Statement) → Loops house deck l.loops l.n → Starts deck l.starts → take (4 * l.n) l.initial.dos ≡ concat (map loop_words (map (open_entry deck) (dos_of deck))) → take (4 * l.n) l.dos ≡ concat (map loop_words (entered deck l.i (dos_of deck))))
