-- What settling the code and the exits of an accepted deck is given.
-- Assumes nothing.
use Rattle.std.specs.Prelude.{◌≡◌, ℕ, List, map, length, take}
use Rattle.rules_shared.specs.House.{House}
use Rattle.rules_text.specs.Trees.{Statement}
use Rattle.rules_deck.specs.Translation.{no_tables, emit}
use Rattle.take_draft.specs.Sketch.{deck_jumps, plain_code}
use Rattle.final_addresses.specs.Given.{Rows, Judged, Starts}
use Rattle.rules_deck.specs.Deck.{position_of}

-- the judged deck with its addresses, and its code as drafted
pub record Settling (house : House) (deck : List Statement) (rows : List ℕ) (count : ℕ) (loops : List ℕ) (n : ℕ) (jumps starts draft : List ℕ) : Type 0 where
  pub judged : Judged house deck rows count loops n jumps
  pub starts_are : Starts deck starts
  pub drafted : take (length (plain_code deck)) draft ≡ emit no_tables (plain_code deck)

pub record Ready (rows : List ℕ) (count : ℕ) (loops : List ℕ) (n : ℕ) (jumps starts draft : List ℕ) : Type 0 where
  pub house : House
  pub deck : List Statement
  pub are : Settling house deck rows count loops n jumps starts draft

-- what the exits need of it
pub record Leading (house : House) (deck : List Statement) (rows : List ℕ) (count : ℕ) (jumps starts : List ℕ) : Type 0 where
  pub in_rows : Rows house deck rows count
  pub jumps_are : take (length (deck_jumps deck)) jumps ≡ map (position_of deck) (deck_jumps deck)
  pub starts_are : Starts deck starts

pub record Led (rows : List ℕ) (count : ℕ) (jumps starts : List ℕ) : Type 0 where
  pub house : House
  pub deck : List Statement
  pub are : Leading house deck rows count jumps starts
