-- What writing a text into a lent output does: it stands there from a place on, and the place after it is the answer.
-- Assumes nothing.
use Rattle.std.specs.Prelude.{◌≡◌, List, ℕ, ◌+◌, ◌≤◌, length}
use Rattle.read_texts.specs.Taking.{over}

-- there is room for a text from a place on
pub record Room (text : List ℕ) (at : ℕ) (out : List ℕ) : Type 0 where
  pub fits : at + length text ≤ length out

pub record Puts (text : List ℕ) (at : ℕ) (before after : List ℕ) (r : ℕ) : Type 0 where
  pub end : r ≡ at + length text
  pub put : after ≡ over at text before
