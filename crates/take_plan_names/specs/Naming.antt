-- A form's plan against the table of names: 15, 16, and the cells that it takes.
-- Assumes nothing.
use Rattle.std.specs.Prelude.{◌≡◌, ℕ, Bool, true, List, Option}
use Rattle.rules_shared.specs.House.{house1401}
use Rattle.rules_shared.specs.Lists.{Each}
use Rattle.rules_text.specs.Trees.{Form, form_names}
use Rattle.rules_deck.specs.Translation.{Held, brings}
use Rattle.rules_deck.specs.Judge.{right15, right16}
use Rattle.take_draft.specs.Parts.{items_words, form_first}
use Rattle.take_draft.specs.Names.{Lists, Told}
use Rattle.take_name_table.specs.declared.counted.Extent.{Extent}
use Rattle.take_name_table.specs.Appears.{Appeared}
use Rattle.take_plans.specs.declared.Plan.{Plan}
use Rattle.take_plans.specs.Plans.{Plans}

abbrev pub RightArrays : Plan → List ℕ → List ℕ → ℕ → Bool → Type 0
RightArrays p items table n r =
    (digits : ℕ) (f : Form) (held : List Held) (cells : ℕ) → Plans f items p → Lists held table n cells → Each Told (form_names f) → r ≡ right15 (house1401 digits) held f

abbrev pub RightOperands : Plan → List ℕ → List ℕ → List ℕ → ℕ → Bool → Type 0
RightOperands p first items table n r =
    (f : Form) (held : List Held) (cells : ℕ) → Plans f items p → first ≡ items_words (form_first f) → Lists held table n cells → Each Told (form_names f)
    → r ≡ right16 held f

-- all that the statement at position q brings has its cells
abbrev pub TakesCells : Plan → List ℕ → List ℕ → List ℕ → List ℕ → Extent → Option Extent → Type 0
TakesCells p first items before after n r =
    (digits : ℕ) (f : Form) (held : List Held) (q : ℕ) → Plans f items p → first ≡ items_words (form_first f) → Lists held before n.names n.cells → Each Told (form_names f)
    → right15 (house1401 digits) held f ≡ true → Appeared (brings q f held) after r
