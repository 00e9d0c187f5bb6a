-- What compiling gives for each answer of the book, and what its parts are given.
-- Assumes nothing.
use Rattle.std.specs.Prelude.{◌≡◌, ℕ, List, length, Result, Ok, Err}
use Rattle.rules_shared.specs.House.{house1401}
use Rattle.rules_shared.specs.Refusals.{accepted}
use Rattle.refusals.specs.declared.Refusal.{Refusal}
use Rattle.refusals.specs.Answers.{refusal_of}
use Rattle.rules_shared.specs.Output.{Written, not_written}
use Rattle.rules_text.specs.Trees.{Statement}
use Rattle.rules_text.specs.Cards.{Punched, statements, carded}
use Rattle.rules_deck.specs.Compile.{read, read_carded}
use Rattle.take_draft.specs.declared.Counts.{Counts}
use Rattle.take_draft.specs.Draft.{draft_of}
use Rattle.take_draft.specs.Kept.{Words, Room, Fit, Kept}

-- with the output at the end
abbrev pub answer : Result ℕ Refusal → List ℕ → Written
answer (Ok n) output = record { refusal = accepted; length = n; output = output }
answer (Err r) output = not_written (refusal_of r) output

-- a deck whose cards are right
pub record Punches (k : ℕ) (bytes : List ℕ) : Type 0 where
  pub punched : List Punched
  pub are : carded (house1401 k) bytes ≡ statements punched

-- the tables hold a deck whose statements are right
pub record Holds (k : ℕ) (deck : List Statement) (n : Counts) (lent : Words) : Type 0 where
  pub bytes : List ℕ
  pub is : read_carded (house1401 k) (carded (house1401 k) bytes) ≡ read deck
  pub counted : n.statements ≡ length deck
  pub kept : Kept (draft_of deck) lent n
  pub room : Room lent
  pub fit : Fit n

pub record HoldsOne (k : ℕ) (n : Counts) (lent : Words) : Type 0 where
  pub deck : List Statement
  pub held : Holds k deck n lent
