-- A statement that no form spells.
-- Assumes nothing.
use Rattle.std.specs.Prelude.{◌≡◌, ℕ, List, [], ◌∷◌, ◌++◌, length}
use Rattle.rules_shared.specs.House.{House}
use Rattle.rules_text.specs.Trees.{nothing, Form, Statement}
use Rattle.rules_text.specs.Cards.{Punched, text_of, statements, carded}
use Rattle.rules_deck.specs.Judge.{nothing_taken}
use Rattle.rules_text.specs.Spelling.{Spells}
use Rattle.rules_deck.specs.Compile.{read, read_from}

-- of a deck whose cards are right in the house, the statement at position q: those before it pass, it has a text, and the text spells no form
pub record NoForm (house : House) (deck : List ℕ) (q : ℕ) : Type 0 where
  pub before : List Punched
  pub statement : Punched
  pub after : List Punched
  pub cards : carded house deck ≡ statements (before ++ statement ∷ after)
  pub position : length before ≡ q
  pub passed : List Statement
  pub passes : read_from house 0 nothing_taken before ≡ read passed
  pub written : text_of statement.raw ≡ [] → ⊥
  pub spelled : (f : Form) → Spells (text_of statement.raw) f → ⊥
