-- One array of a DIMENSION: its words, 15 of it, and the cells that it takes.
-- Assumes nothing.
use Rattle.std.specs.Prelude.{◌≡◌, ℕ, zero, suc, min, ◌≤◌, Bool, false, ◌&&◌, ◌||◌, not, List, [], ◌∷◌, ◌++◌, map, eqb, leb, length, drop, Option}
use Rattle.rules_shared.specs.Lists.{Each}
use Rattle.rules_text.specs.Trees.{Name, Array, array_names}
use Rattle.rules_deck.specs.Deck.{Declared, declare}
use Rattle.rules_deck.specs.Translation.{Held, array}
use Rattle.rules_deck.specs.Judge.{ends_in_f, seen, some_cells}
use Rattle.read_tokens.specs.Words.{most, name_of, name_at, same_words}
use Rattle.read_tokens.specs.declared.Name as code
use Rattle.read_forms.specs.Statements.{all_words}
use Rattle.take_draft.specs.Names.{Lists, Told}
use Rattle.take_name_table.specs.declared.counted.Extent.{Extent}
use Rattle.take_name_table.specs.Appears.{Appeared}

-- what a DIMENSION's arrays bring
abbrev pub brought : List Array → List Held
brought declared = map (λ a. array (declare a)) declared

-- ---- 15

abbrev pub EndsInF : code.Name → Bool → Type 0
EndsInF name r = (v : Name) → Told v → name ≡ name_of v → r ≡ ends_in_f v

-- whether one of the first n arrays has this name
unfoldable pub is_named : code.Name → ℕ → List ℕ → Bool
is_named name zero arrays = false
is_named name (suc n) arrays = same_words (name_at arrays 1) name || is_named name n (drop 7 arrays)

-- rows, and columns where there are two dimensions
abbrev pub some_words : ℕ → ℕ → ℕ → Bool
some_words dimensions rows columns = leb 1 rows && (eqb dimensions 1 || leb 1 columns)

-- not seen before, nor earlier in the same DIMENSION
abbrev pub IsNew : List ℕ → ℕ → List ℕ → ℕ → code.Name → Bool → Type 0
IsNew arrays i table n name r =
    (held : List Held) (cells : ℕ) (before : List Array) (more : List ℕ) (v : Name) → Lists held table n cells → arrays ≡ all_words before ++ more → i ≡ length before
    → Each Told (array_names before) → Told v → name ≡ name_of v → r ≡ not (seen (held ++ brought before) v)

abbrev pub right_array : List Held → Array → Bool
right_array held a = some_cells a && (not (seen held (declare a).name) && not (ends_in_f (declare a).name))

abbrev pub RightArray : List ℕ → ℕ → List ℕ → ℕ → Bool → Type 0
RightArray arrays i table n r =
    (held : List Held) (cells : ℕ) (before : List Array) (a : Array) (after : List Array) → Lists held table n cells
    → arrays ≡ all_words before ++ all_words (a ∷ after) → i ≡ length before → Each Told (array_names before) → Told (declare a).name → r ≡ right_array (held ++ brought before) a

-- ---- its cells

-- rows and columns may be the largest that a word of an array holds
abbrev pub TakesArray : List ℕ → List ℕ → Extent → code.Name → ℕ → ℕ → Option Extent → Type 0
TakesArray before after n name rows columns r =
    (held : List Held) (a : Declared) → Lists held before n.names n.cells → Told a.name → name ≡ name_of a.name → rows ≡ min a.dims.rows most
    → columns ≡ min a.dims.columns most → 1 ≤ a.dims.rows → Appeared (held ++ (array a ∷ [])) after r
