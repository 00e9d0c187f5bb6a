-- A statement judged, or taken into the draft.
-- Assumes nothing.
use Rattle.std.specs.Prelude.{◌≡◌, ℕ, suc, Result, Ok, Err}
use Rattle.std.proofs.Math.Option.{none, some}
use Rattle.rules_shared.specs.House.{house1401}
use Rattle.refusals.specs.declared.Reason.{Reason}
use Rattle.refusals.specs.Numbers.{number_of}
use Rattle.rules_text.specs.Trees as trees
use Rattle.rules_deck.specs.Judge.{Taken, judge_form}
use Rattle.take_draft.specs.declared.Counts.{Counts}
use Rattle.take_draft.specs.Draft.{Draft, drafts}
use Rattle.take_draft.specs.Kept.{Words, Fit, Kept}

-- the tables hold the draft with the statement
pub record Took (k q : ℕ) (st : trees.Statement) (t : Taken) (D : Draft) (lent : Words) (n : Counts) : Type 0 where
  pub right : judge_form (house1401 k) q st.form t ≡ none
  pub kept : Kept (drafts q st D) lent n
  pub fit : Fit n
  pub counted : n.statements ≡ suc q

-- where it is refused, the tables are free
unfoldable pub Judged : (k q : ℕ) (st : trees.Statement) (t : Taken) (D : Draft) (lent : Words) → Result Counts Reason → Type 0
Judged k q st t D lent (Err e) = judge_form (house1401 k) q st.form t ≡ some (number_of e)
Judged k q st t D lent (Ok n) = Took k q st t D lent n
