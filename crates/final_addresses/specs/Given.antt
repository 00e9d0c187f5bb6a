-- What is known of an accepted deck when its code is settled: its rows, its DOs, and where its jumps lead.
-- Assumes nothing.
use Rattle.std.specs.Prelude.{◌≡◌, ℕ, ◌*◌, ◌≤◌, List, map, length, take, get_or}
use Rattle.rules_shared.specs.House.{House}
use Rattle.rules_object.specs.Bytes.{concat}
use Rattle.rules_text.specs.Trees.{Statement}
use Rattle.rules_deck.specs.Deck.{position_of, dos_of}
use Rattle.rules_deck.specs.Translation.{address_at}
use Rattle.rules_deck.specs.Accepted.{Accepted}
use Rattle.take_draft.specs.Sketch.{deck_jumps, loops_from}
use Rattle.take_draft.specs.Draft.{row_words}

-- ---- the tables hold them

pub record Rows (house : House) (deck : List Statement) (rows : List ℕ) (count : ℕ) : Type 0 where
  pub accepted : Accepted house deck
  pub counted : count ≡ length deck
  pub rows_are : take (5 * count) rows ≡ concat (map row_words deck)

pub record Loops (house : House) (deck : List Statement) (loops : List ℕ) (n : ℕ) : Type 0 where
  pub accepted : Accepted house deck
  pub dos_counted : n ≡ length (dos_of deck)
  pub loops_are : take (2 * n) loops ≡ loops_from 0 0 deck

-- each number in the jumps has its statement's position instead
pub record Judged (house : House) (deck : List Statement) (rows : List ℕ) (count : ℕ) (loops : List ℕ) (n : ℕ) (jumps : List ℕ) : Type 0 where
  pub in_rows : Rows house deck rows count
  pub in_loops : Loops house deck loops n
  pub jumps_are : take (length (deck_jumps deck)) jumps ≡ map (position_of deck) (deck_jumps deck)

-- ---- of some deck

pub record Rowed (rows : List ℕ) (count : ℕ) : Type 0 where
  pub house : House
  pub deck : List Statement
  pub are : Rows house deck rows count

pub record Looped (loops : List ℕ) (n : ℕ) : Type 0 where
  pub house : House
  pub deck : List Statement
  pub are : Loops house deck loops n

pub record Given (rows : List ℕ) (count : ℕ) (loops : List ℕ) (n : ℕ) (jumps : List ℕ) : Type 0 where
  pub house : House
  pub deck : List Statement
  pub are : Judged house deck rows count loops n jumps

-- ---- what is written

-- every statement's address, and the one after the last
pub record Starts (deck : List Statement) (starts : List ℕ) : Type 0 where
  pub at : (j : ℕ) → j ≤ length deck → get_or starts j 0 ≡ address_at deck j

-- a table begins with r words, ws
pub record Holds (table : List ℕ) (r : ℕ) (ws : List ℕ) : Type 0 where
  pub count : r ≡ length ws
  pub words : take r table ≡ ws
