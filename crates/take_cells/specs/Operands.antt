-- A form's operands against the table of names: those that stand first, then the items.
-- Assumes nothing.
use Rattle.std.specs.Prelude.{◌≡◌, ℕ, Bool, ◌&&◌, List, [], ◌∷◌, ◌++◌, Option}
use Rattle.rules_shared.specs.Lists.{Each}
use Rattle.rules_deck.specs.Translation.{Held, hidden, appear}
use Rattle.take_draft.specs.Parts.{Item, items_words, items_names, items_plain, right_items}
use Rattle.take_draft.specs.Names.{Lists, Told}
use Rattle.take_name_table.specs.declared.counted.Extent.{Extent}
use Rattle.take_name_table.specs.Appears.{Appeared}

-- 16
abbrev pub RightBoth : List ℕ → List ℕ → List ℕ → ℕ → Bool → Type 0
RightBoth first items table n r =
    (held : List Held) (cells : ℕ) (is js : List Item) → Lists held table n cells → first ≡ items_words is → items ≡ items_words js
    → Each Told (items_names is) → Each Told (items_names js) → r ≡ (right_items held is && right_items held js)

-- their plain names have taken their cells
abbrev pub TakesBoth : List ℕ → List ℕ → List ℕ → List ℕ → Extent → Option Extent → Type 0
TakesBoth first items before after n r =
    (held : List Held) (is js : List Item) → Lists held before n.names n.cells → first ≡ items_words is → items ≡ items_words js
    → Each Told (items_names is) → Each Told (items_names js) → Appeared (appear held (items_plain is ++ items_plain js)) after r

-- a DO's limit and step
abbrev pub Hides : Extent → Option Extent → Type 0
Hides n r = (held : List Held) (table : List ℕ) (q : ℕ) → Lists held table n.names n.cells → Appeared (held ++ (hidden q ∷ [])) table r
