-- The table of names of an accepted deck.
-- Assumes nothing.
use Rattle.std.specs.Prelude.{◌≡◌, ℕ, ◌*◌, List, take}
use Rattle.rules_shared.specs.House.{House}
use Rattle.rules_text.specs.Trees.{Statement}
use Rattle.rules_deck.specs.Translation.{held_of}
use Rattle.rules_deck.specs.Judge.{name_count}
use Rattle.rules_deck.specs.Accepted.{Accepted}
use Rattle.take_draft.specs.Names.{held_words}

pub record Names (house : House) (deck : List Statement) (table : List ℕ) (n : ℕ) : Type 0 where
  pub accepted : Accepted house deck
  pub counted : n ≡ name_count (held_of deck)
  pub words_are : take (7 * n) table ≡ held_words 0 (held_of deck)

pub record Listed (table : List ℕ) (n : ℕ) : Type 0 where
  pub house : House
  pub deck : List Statement
  pub are : Names house deck table n
