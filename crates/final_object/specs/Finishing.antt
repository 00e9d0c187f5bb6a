-- What the tables hold of a deck that nothing refuses: its draft, and the position of each number's statement.
-- Assumes nothing.
use Rattle.std.specs.Prelude.{◌≡◌, ℕ, ◌*◌, List, [], ◌∷◌, map, length, take}
use Rattle.rules_shared.specs.House.{house1401}
use Rattle.rules_text.specs.Trees.{Statement}
use Rattle.rules_deck.specs.Deck.{position_of}
use Rattle.rules_deck.specs.Accepted.{Accepted}
use Rattle.take_draft.specs.declared.Counts.{Counts}
use Rattle.take_draft.specs.Sketch.{deck_jumps}
use Rattle.take_draft.specs.Kept.{Words, as_words, Room, Fit}
use Rattle.take_draft.specs.KeptDeck.{KeptDeck}

pub record Finished (k : ℕ) (deck : List Statement) (n : Counts) (t : Words) : Type 0 where
  pub accepted : Accepted (house1401 k) deck
  -- the jumps before they had positions
  pub numbers : List ℕ
  pub kept : KeptDeck (house1401 k) deck (as_words t.names t.constants t.elements t.dos t.loops t.code t.rows numbers) n
  pub placed : take n.jumps t.jumps ≡ map (position_of deck) (deck_jumps deck)
  pub counted : n.statements ≡ length deck
  pub room : Room t
  pub fit : Fit n

-- of some deck
pub record Finishes (k : ℕ) (n : Counts) (t : Words) : Type 0 where
  pub deck : List Statement
  pub are : Finished k deck n t

-- other words in the table of DOs
abbrev pub with_dos : Words → List ℕ → Words
with_dos t dos = as_words t.names t.constants t.elements dos t.loops t.code t.rows t.jumps

-- the words of each body
abbrev pub parts : (n : Counts) (t : Words) (exits code lines names : List ℕ) → List (List ℕ)
parts n t exits code lines names =
    take n.constants t.constants ∷ take (9 * n.elements) t.elements ∷ exits ∷ take (4 * n.dos) t.dos ∷ code ∷ lines ∷ names ∷ []
