-- What the simulation assumes of a deck. Compiling's acceptance gives it.
-- Assumes nothing.
use Rattle.std.specs.Prelude.{◌≡◌, ℕ, ◌<◌, true, List, length}
use Rattle.std.proofs.Math.Option.{some}
use Rattle.std.proofs.Math.ListN.{get_elem?}
use Rattle.rules_text.specs.Trees.{Digits, value_of, Statement, form_exits}
use Rattle.rules_deck.specs.Deck.{position_of}
use Rattle.rules_deck.specs.Whole.{ends_well}
use Rattle.rules_deck.specs.Accepted.{Among, Fitting, Nested}

pub record Sound (deck : List Statement) : Type 0 where
  -- its tables are within their limits
  pub fitting : Fitting deck
  -- DO ranges lie one in another, and no jump leads into one
  pub nested : Nested deck
  -- every jump leads to a statement
  pub targets : (j : ℕ) (s : Statement) → get_elem? deck j ≡ some s → (n : Digits) → Among n (form_exits s.form) → position_of deck (value_of n) < length deck
  -- the last statement is END
  pub ends : ends_well deck ≡ true
