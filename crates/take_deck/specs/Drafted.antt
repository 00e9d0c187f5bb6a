-- What drafting all statements of a deck ensures.
-- Assumes nothing.
use Rattle.std.specs.Prelude.{◌≡◌, ℕ, ◌≤◌, Result, Ok, Err, List, length}
use Rattle.rules_shared.specs.House.{house1401}
use Rattle.refusals.specs.Answers.{refusal_of}
use Rattle.refused_statements.specs.declared.AtStatement.{AtStatement}
use Rattle.refused_statements.specs.Places.{as_refusal}
use Rattle.rules_text.specs.Trees.{Statement}
use Rattle.rules_text.specs.Cards.{Punched, statements, carded}
use Rattle.rules_deck.specs.Compile.{Read, not_read, read}
use Rattle.take_draft.specs.declared.Counts.{Counts}
use Rattle.take_draft.specs.Draft.{draft_of}
use Rattle.take_draft.specs.Kept.{Words, Fit, Room, Kept}

-- what stands between the code and its limits before the first statement
pub record Begins (k : ℕ) (deck items : List ℕ) (lent : Words) : Type 0 where
  pub punched : List Punched
  pub are : carded (house1401 k) deck ≡ statements punched
  pub items_long : 3320 ≤ length items
  pub room : Room lent

-- o is what the book reads
pub data Drafts (o : Read) (lent : Words) : Result Counts AtStatement → Type 0 where
  refused : (r : AtStatement) → o ≡ not_read (refusal_of (as_refusal r)) → Drafts o lent (Err r)
  kept : (deck : List Statement) (n : Counts) → o ≡ read deck → n.statements ≡ length deck → Fit n → Kept (draft_of deck) lent n → Drafts o lent (Ok n)
