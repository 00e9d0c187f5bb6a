-- A planned statement is refused by 15, 16 or 18, or taken.
-- Assumes nothing.
use Rattle.std.specs.Prelude.{◌≡◌, List, ℕ, ◌<◌, Result}
use Rattle.refusals.specs.declared.Reason.{Reason}
use Rattle.rules_text.specs.Trees.{Form}
use Rattle.rules_deck.specs.Judge.{Taken}
use Rattle.take_draft.specs.declared.Counts.{Counts}
use Rattle.take_draft.specs.Parts.{items_words, form_first}
use Rattle.take_draft.specs.Draft.{Draft}
use Rattle.take_draft.specs.Kept.{Words, Fit, Room, Kept, Matches}
use Rattle.take_plans.specs.declared.Plan.{Plan}
use Rattle.take_plans.specs.Plans.{Plans, Readied}
use Rattle.take_planned.specs.Judged.{Judged}
use Rattle.take_parts.specs.Fresh.{Fresh}
use Rattle.take_parts.specs.Steps.{Passed}

pub record Planning (p : Plan) (first items : List ℕ) (lent : Words) (n : Counts) : Type 0 where
  pub readied : Readied p first items
  pub digits : ℕ
  pub passed : Passed digits readied.form
  pub room : Room lent
  pub fit : Fit n
  pub few : n.statements < 400
  pub draft : Draft
  pub kept : Kept draft lent n
  pub fresh : Fresh n.statements draft

-- for any form of this plan, after what the draft D has
abbrev pub ComesPlanned : Plan → ℕ → List ℕ → List ℕ → ℕ → Draft → Words → Result Counts Reason → Type 0
ComesPlanned p number first items q D lent r =
    (k : ℕ) (f : Form) (t : Taken) → Plans f items p → first ≡ items_words (form_first f) → Passed k f → Matches t D → Fresh q D
    → Judged k q (record { number = number; form = f }) t D lent r
