-- The instructions of operands, for whatever the lent tables hold.
-- Assumes nothing.
use Rattle.std.specs.Prelude.{◌≡◌, ℕ, ◌+◌, true, List, [], ◌∷◌, ◌++◌, length, get_or, Option}
use Rattle.rules_object.specs.Object as object
use Rattle.rules_object.specs.Operations.{operation_number, Instr, CON, LOD}
use Rattle.rules_text.specs.Trees.{Name, Digits, value_of}
use Rattle.rules_text.specs.Trees as trees
use Rattle.rules_deck.specs.Translation.{Held, is_the_name, holds, cell_of, element_entry, store_code, Tables, add_element, tables_after, operand}
use Rattle.read_tokens.specs.Words.{capped, name_of, name_at}
use Rattle.read_tokens.specs.declared.Name as code
use Rattle.read_elements.specs.declared.Subscript.{Subscript}
use Rattle.read_elements.specs.declared.Element.{Element}
use Rattle.read_elements.specs.declared.Target.{Target}
use Rattle.read_elements.specs.Values.{subscripts_value, target_value}
use Rattle.take_draft.specs.declared.Counts.{Counts}
use Rattle.take_draft.specs.Parts.{Item, place, item_words, items_words, item_code, items_code, target_item}
use Rattle.take_draft.specs.Names.{dims_held, Told, Exact, Lists, Known}
use Rattle.take_draft.specs.Kept.{Tabled}
use Rattle.take_entries.specs.Places.{KnownItem}
use Rattle.take_instructions.specs.Emits.{Emits}

-- an expression's items
abbrev pub EmitsItems : List ℕ → List ℕ → List ℕ → List ℕ → List ℕ → List ℕ → List ℕ → List ℕ → Counts → Option Counts → Type 0
EmitsItems items names constants elements words constants' elements' words' n r =
    (held : List Held) (is : List Item) (T : Tables) → Lists held names n.names n.cells → Tabled T constants elements n → items ≡ items_words is
    → Known held is → Emits T (items_code held (dims_held held) is) words constants' elements' words' n r

-- STO or STE
abbrev pub EmitsStore : Target → List ℕ → List ℕ → List ℕ → List ℕ → List ℕ → Counts → Option Counts → Type 0
EmitsStore target names elements words elements' words' n r =
    (held : List Held) (t : trees.Target) (T : Tables) (constants : List ℕ) → Lists held names n.names n.cells → Tabled T constants elements n
    → target ≡ target_value t → Known held (target_item t ∷ []) → Emits T (store_code held (dims_held held) t ∷ []) words constants elements' words' n r

-- CON of a value
abbrev pub EmitsConstant : ℕ → List ℕ → List ℕ → List ℕ → List ℕ → Counts → Option Counts → Type 0
EmitsConstant value constants words constants' words' n r =
    (c : Digits) (T : Tables) (elements : List ℕ) → Tabled T constants elements n → value ≡ capped c → Exact c
    → Emits T (CON (value_of c) ∷ []) words constants' elements words' n r

-- LDE or STE: the instruction of this number that adds the entry
pub record Refers (T : Tables) (e : object.Element) (operation : ℕ) (i : Instr) : Type 0 where
  pub number : operation ≡ operation_number i
  pub index : operand T i ≡ length T.elements
  pub adds : tables_after T i ≡ add_element T e

abbrev pub EmitsRefer : ℕ → Element → List ℕ → List ℕ → List ℕ → List ℕ → List ℕ → Counts → Option Counts → Type 0
EmitsRefer operation element names elements words elements' words' n r =
    (held : List Held) (v : Name) (s : trees.Subscripts) (T : Tables) (constants : List ℕ) (i : Instr) → Lists held names n.names n.cells → Tabled T constants elements n
    → element ≡ record { name = name_of v; subscripts = subscripts_value s } → KnownItem held (place v s) → Refers T (element_entry held (dims_held held) v s) operation i
    → Emits T (i ∷ []) words constants elements' words' n r

-- a subscript whose words stand at a place
abbrev pub subscript_at : List ℕ → ℕ → Subscript
subscript_at items at = record { times = get_or items at 0; name = name_at items (at + 1); minus = get_or items (at + 5) 0; addend = get_or items (at + 6) 0 }

-- an element as its words have it
abbrev pub ElementAt : List ℕ → Element → Type 0
ElementAt items r = (v : Name) (s : trees.Subscripts) (more : List ℕ) → items ≡ item_words (place v s) ++ more → r ≡ record { name = name_of v; subscripts = subscripts_value s }

-- the item that the words start with
abbrev pub EmitsItem : List ℕ → List ℕ → List ℕ → List ℕ → List ℕ → List ℕ → List ℕ → List ℕ → Counts → Option Counts → Type 0
EmitsItem items names constants elements words constants' elements' words' n r =
    (held : List Held) (i : Item) (more : List ℕ) (T : Tables) → Lists held names n.names n.cells → Tabled T constants elements n → items ≡ item_words i ++ more
    → KnownItem held i → Emits T (item_code held (dims_held held) i ∷ []) words constants' elements' words' n r

-- LOD of a plain name
abbrev pub EmitsLoad : code.Name → List ℕ → List ℕ → List ℕ → Counts → Option Counts → Type 0
EmitsLoad name names words words' n r =
    (held : List Held) (v : Name) (T : Tables) (constants elements : List ℕ) → Lists held names n.names n.cells → Tabled T constants elements n
    → name ≡ name_of v → Told v → holds (is_the_name v) held ≡ true → Emits T (LOD (cell_of held v) ∷ []) words constants elements words' n r
