-- One statement that was read: refused by 11 to 18, or taken into the draft.
-- Assumes nothing.
use Rattle.std.specs.Prelude.{◌≡◌, List, ℕ, ◌≤◌, ◌<◌, Result, length, take}
use Rattle.std.proofs.Math.Option.{some}
use Rattle.refusals.specs.declared.Reason.{Reason}
use Rattle.rules_text.specs.Trees.{Form}
use Rattle.rules_text.specs.Grammar.{form_of}
use Rattle.rules_deck.specs.Judge.{Taken}
use Rattle.read_forms.specs.declared.Statement.{Statement}
use Rattle.read_forms.specs.Statements.{form_words, statement_of}
use Rattle.take_draft.specs.declared.Counts.{Counts}
use Rattle.take_draft.specs.Draft.{Draft}
use Rattle.take_draft.specs.Kept.{Words, Fit, Room, Kept, Matches}
use Rattle.take_parts.specs.Fresh.{Fresh}
use Rattle.take_planned.specs.Judged.{Judged}

-- what the reader gave, and the table that it filled
pub record Reading (s : Statement) (items : List ℕ) : Type 0 where
  pub text : List ℕ
  pub form : Form
  pub read : form_of text ≡ some form
  pub short : length text ≤ 660
  pub says : s ≡ statement_of form
  pub table : take (length (form_words form)) items ≡ form_words form

-- what stands between the code and its limits; the tables hold some draft
pub record Ready (s : Statement) (number k : ℕ) (items : List ℕ) (lent : Words) (n : Counts) : Type 0 where
  pub reading : Reading s items
  pub number_low : number ≤ 99999
  pub digits_some : 1 ≤ k
  pub digits_few : k ≤ 9
  pub items_long : 3320 ≤ length items
  pub room : Room lent
  pub fit : Fit n
  pub statements_few : n.statements < 400
  pub draft : Draft
  pub kept : Kept draft lent n
  pub fresh : Fresh n.statements draft

-- the statement at position q, after what the draft D has
abbrev pub Comes : Statement → ℕ → ℕ → List ℕ → ℕ → Draft → Words → Result Counts Reason → Type 0
Comes s number k items q D lent r =
    (R : Reading s items) (t : Taken) → Matches t D → Fresh q D
    → Judged k q (record { number = number; form = R.form }) t D lent r
