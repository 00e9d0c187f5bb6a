-- `final_lines::names` meets its contract: the entries so far are the first of body 7. Assumes nothing.
use mathlib.Core.Path.{◌≡◌}
use Prim.Native.Nat.{◌*◌}
use mathlib.Core.List.{List, map}
use lib.ListN.{take}
use Rattle.rules_shared.specs.House.{House}
use Rattle.rules_object.specs.Bytes.{concat, name_words}
use Rattle.rules_text.specs.Trees.{Statement}
use Rattle.rules_deck.specs.Translation.{held_of, names_from}
use Rattle.final_lines.specs.Names.{Names}
use Rattle.final_lines.proofs.names.Given as goal

abbrev pub invariant-loop-i : goal.invariant-loop-i
invariant-loop-i l = ((house : House) (deck : List Statement) → Names house deck l.table l.n → take (5 * l.i) l.out ≡ concat (map name_words (take l.i (names_from house 0 (held_of deck)))))
