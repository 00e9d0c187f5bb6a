-- Names that take cells where they first appear.
-- Assumes nothing.
use Rattle.std.specs.Prelude.{◌≡◌, ℕ, List, [], ◌∷◌, ◌++◌, Option}
use Rattle.rules_text.specs.Trees.{Name}
use Rattle.rules_deck.specs.Translation.{Held, appear}
use Rattle.rules_shared.specs.Lists.{Each}
use Rattle.read_tokens.specs.Words.{name_of, no_name}
use Rattle.read_tokens.specs.declared.Name as code
use Rattle.take_draft.specs.Parts.{Item, item_words, items_words, item_names, items_names, item_plain, items_plain}
use Rattle.take_draft.specs.Names.{Lists, Told}
use Rattle.take_name_table.specs.declared.counted.Extent.{Extent}
use Rattle.take_name_table.specs.Appears.{Appeared}

-- a plain name has its cell
abbrev pub TakesName : List ℕ → List ℕ → Extent → code.Name → Option Extent → Type 0
TakesName before after n name r =
    (held : List Held) (v : Name) → Lists held before n.names n.cells → name ≡ name_of v → Told v → Appeared (appear held (v ∷ [])) after r

-- so has the name of a subscript, if it has one
pub record TakesAny (before after : List ℕ) (n : Extent) (name : code.Name) (r : Option Extent) : Type 0 where
  pub is : TakesName before after n name r
  pub none : (held : List Held) → Lists held before n.names n.cells → name ≡ no_name → Appeared held after r

-- the plain names of the operand that some words start with
abbrev pub TakesItem : List ℕ → List ℕ → List ℕ → Extent → Option Extent → Type 0
TakesItem items before after n r =
    (held : List Held) (i : Item) (more : List ℕ) → Lists held before n.names n.cells → items ≡ item_words i ++ more → Each Told (item_names i)
    → Appeared (appear held (item_plain i)) after r

-- the plain names of some operands have taken their cells
abbrev pub Appears : List ℕ → List ℕ → List ℕ → Extent → Option Extent → Type 0
Appears items before after n r =
    (held : List Held) (is : List Item) → Lists held before n.names n.cells → items ≡ items_words is → Each Told (items_names is)
    → Appeared (appear held (items_plain is)) after r
