-- What the tables hold once every statement of an accepted deck is taken: its translation, but for addresses, exits, DOEs and bodies.
-- Assumes nothing.
use Rattle.std.specs.Prelude.{◌≡◌, ◌*◌, List, map, length, take}
use Rattle.rules_shared.specs.House.{House}
use Rattle.rules_object.specs.Bytes.{concat, element_words, loop_words}
use Rattle.rules_text.specs.Trees.{Statement}
use Rattle.rules_deck.specs.Deck.{dos_of}
use Rattle.rules_deck.specs.Translation.{cell_count, held_of, no_tables, emit, translate}
use Rattle.rules_deck.specs.Judge.{name_count}
use Rattle.take_draft.specs.declared.Counts.{Counts}
use Rattle.take_draft.specs.Names.{held_words}
use Rattle.take_draft.specs.Kept.{Words}
use Rattle.take_draft.specs.Sketch.{deck_rows, deck_jumps, loops_from, plain_code, open_entry}

pub record KeptDeck (house : House) (deck : List Statement) (lent : Words) (n : Counts) : Type 0 where
  pub names_are : take (7 * n.names) lent.names ≡ held_words 0 (held_of deck)
  pub names_count : n.names ≡ name_count (held_of deck)
  pub cells_count : n.cells ≡ cell_count (held_of deck)
  pub constants_are : take n.constants lent.constants ≡ (translate house deck).constants
  pub constants_count : n.constants ≡ length (translate house deck).constants
  pub elements_are : take (9 * n.elements) lent.elements ≡ concat (map element_words (translate house deck).elements)
  pub elements_count : n.elements ≡ length (translate house deck).elements
  pub exits_count : n.exits ≡ length (translate house deck).exits
  pub dos_are : take (4 * n.dos) lent.dos ≡ concat (map loop_words (map (open_entry deck) (dos_of deck)))
  pub dos_count : n.dos ≡ length (dos_of deck)
  pub loops_are : take (2 * n.dos) lent.loops ≡ loops_from 0 0 deck
  pub code_is : take n.code lent.code ≡ emit no_tables (plain_code deck)
  pub code_count : n.code ≡ length (plain_code deck)
  pub rows_are : take (5 * n.statements) lent.rows ≡ deck_rows deck
  pub jumps_are : take n.jumps lent.jumps ≡ deck_jumps deck
  pub jumps_count : n.jumps ≡ length (deck_jumps deck)
