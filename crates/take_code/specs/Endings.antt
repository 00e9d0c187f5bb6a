-- A form's plan as code: its items, and what ends it.
-- Assumes nothing.
use Rattle.std.specs.Prelude.{◌≡◌, ℕ, ◌≤◌, true, List, length, take}
use Rattle.rules_shared.specs.House.{house1401}
use Rattle.rules_object.specs.Operations.{DOI}
use Rattle.rules_text.specs.Trees.{Form, form_last}
use Rattle.rules_deck.specs.Translation.{Held, Tables}
use Rattle.rules_deck.specs.Judge.{right13}
use Rattle.take_kinds.specs.declared.Kind.{Kind}
use Rattle.take_kinds.specs.declared.Kind.TheVariants.{Do}
use Rattle.take_draft.specs.declared.Counts.{Counts}
use Rattle.take_draft.specs.Parts.{Worded, form_first, form_items, form_ending}
use Rattle.take_draft.specs.Names.{Lists, Known, dims_held}
use Rattle.take_draft.specs.Draft.{no_loop, draft_code}
use Rattle.take_draft.specs.Kept.{Tabled, Fit}
use Rattle.std.specs.Prelude.{Option}
use Rattle.take_instructions.specs.Emits.{EmitsWith}
use Rattle.take_plans.specs.declared.Plan.{Plan}
use Rattle.take_plans.specs.Plans.{form_plan, Plans}

abbrev pub does_by : Kind → ℕ
does_by Do = 1
does_by _ = 0

-- a DO has a DOE
unfoldable pub does_of : Plan → ℕ
does_of p = does_by p.kind

pub record Emitting (p : Plan) (items : List ℕ) (n : Counts) : Type 0 where
  pub worded : Worded (take p.count items)
  pub room : p.count ≤ length items
  pub fit : Fit n

abbrev pub EmitsEnding : Plan → List ℕ → List ℕ → List ℕ → List ℕ → List ℕ → Counts → Option Counts → Type 0
EmitsEnding p names elements words elements' words' n r =
    (digits : ℕ) (f : Form) (held : List Held) (T : Tables) (constants : List ℕ) → p ≡ form_plan f → Lists held names n.names n.cells → Tabled T constants elements n
    → right13 (house1401 digits) f ≡ true → Known held (form_first f)
    → EmitsWith (length (form_last f)) T (form_ending held (dims_held held) (DOI n.dos no_loop) f) words constants elements' words' n r

abbrev pub EmitsPlan : Plan → List ℕ → List ℕ → List ℕ → List ℕ → List ℕ → List ℕ → List ℕ → List ℕ → Counts → Option Counts → Type 0
EmitsPlan p items names constants elements words constants' elements' words' n r =
    (digits : ℕ) (f : Form) (held : List Held) (T : Tables) → Plans f items p → Lists held names n.names n.cells → Tabled T constants elements n
    → right13 (house1401 digits) f ≡ true → Known held (form_first f) → Known held (form_items f)
    → EmitsWith (length (form_last f)) T (draft_code n.dos held f) words constants' elements' words' n r
