-- The table of names: seven words an entry, in cell order: the name's four, its first cell, rows and columns. Hidden cells only count.
-- Assumes nothing.
use Rattle.std.specs.Prelude.{◌≡◌, ℕ, suc, ◌+◌, ◌*◌, ◌≤◌, ◌<◌, List, [], ◌∷◌, ◌++◌, Bool, true, ◌&&◌, leb, length, take}
use Rattle.rules_shared.specs.Limits.{limits}
use Rattle.rules_shared.specs.Lists.{Each}
use Rattle.rules_text.specs.Trees.{Name, Digits, value_of}
use Rattle.rules_deck.specs.Deck.{Dims, Declared, dims_in}
use Rattle.rules_deck.specs.Translation.{Held, name, array, hidden, array_size, cell_count, is_the_name, holds}
use Rattle.rules_deck.specs.Judge.{name_count, Reference, right_reference}
use Rattle.rules_deck.specs.Cells.{names_held, arrays_held}
use Rattle.read_tokens.specs.Words.{name_of, name_words}
use Rattle.take_draft.specs.Parts.{Item, items_names, items_constants, items_plain, items_references}

abbrev pub entry_words : Name → ℕ → ℕ → ℕ → List ℕ
entry_words v first rows columns = name_words (name_of v) ++ (first ∷ rows ∷ columns ∷ [])

abbrev pub held_words : ℕ → List Held → List ℕ
held_words at [] = []
held_words at (name v ∷ held) = entry_words v at 0 0 ++ held_words (suc at) held
held_words at (array a ∷ held) = entry_words a.name at a.dims.rows a.dims.columns ++ held_words (at + array_size a.dims) held
held_words at (hidden q ∷ held) = held_words (at + 2) held

-- the dimensions that stand in the table
abbrev pub dims_held : List Held → Name → Dims
dims_held held v = dims_in (arrays_held held) v

-- shorter than eight bytes, each a byte and none a blank: its words tell it, and the first of them does
pub record Told (v : Name) : Type 0 where
  pub short : length v < 8
  pub solid : Each (λ (c : ℕ). c ≡ 32 → ⊥) v
  pub bytes : Each (λ (c : ℕ). c < 256) v

-- its value is the one that the reader gives
abbrev pub Exact : Digits → Type 0
Exact c = value_of c < 1000000000

-- every array has a row, so that rows tell an array from a plain name
abbrev pub SomeRows : Declared → Type 0
SomeRows a = 1 ≤ a.dims.rows

-- the table and its counts hold what has cells so far
pub record Lists (held : List Held) (table : List ℕ) (names cells : ℕ) : Type 0 where
  pub words : take (7 * names) table ≡ held_words 0 held
  pub names_are : names ≡ name_count held
  pub cells_are : cells ≡ cell_count held
  pub names_fit : names ≤ limits.names
  pub cells_fit : cells ≤ limits.cells
  pub told : Each Told (names_held held)
  pub rows : Each SomeRows (arrays_held held)

-- names and cells within their limits
abbrev pub names_fit : List Held → Bool
names_fit held = leb (name_count held) limits.names && leb (cell_count held) limits.cells

-- every operand has its cells in the table
pub record Known (held : List Held) (is : List Item) : Type 0 where
  pub told : Each Told (items_names is)
  pub exact : Each Exact (items_constants is)
  pub plains : Each (λ (v : Name). holds (is_the_name v) held ≡ true) (items_plain is)
  pub arrays : Each (λ (r : Reference). right_reference held r ≡ true) (items_references is)
