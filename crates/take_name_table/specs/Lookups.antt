-- What is read of the table of names: what it holds, cells and dimensions.
-- Assumes nothing.
use Rattle.std.specs.Prelude.{◌≡◌, ℕ, ◌≤◌, ◌<◌, Bool, true, false, List}
use Rattle.rules_text.specs.Trees.{Name}
use Rattle.rules_deck.specs.Translation.{Held, is_the_name, is_array, holds, cell_of, base_of}
use Rattle.rules_deck.specs.Judge.{Reference, right_reference}
use Rattle.read_tokens.specs.Words.{name_of, no_name}
use Rattle.read_tokens.specs.declared.Name as code
use Rattle.take_draft.specs.Names.{Lists, Told, dims_held}
use Rattle.take_name_table.specs.declared.Entry.{Entry}

-- of a name that is an array, or a plain one
abbrev pub is_kind : Bool → Name → Held → Bool
is_kind true v = is_array v
is_kind false v = is_the_name v

-- whether the table holds a name as an array, or as a plain one
pub record Holds (table : List ℕ) (n : ℕ) (name : code.Name) (arrays r : Bool) : Type 0 where
  pub is : (held : List Held) (cells : ℕ) (v : Name) → Lists held table n cells → Told v → name ≡ name_of v → r ≡ holds (is_kind arrays v) held
  pub none : (held : List Held) (cells : ℕ) → Lists held table n cells → name ≡ no_name → r ≡ false

-- r is the cell of a plain name that the table holds
pub record CellOf (table : List ℕ) (n : ℕ) (name : code.Name) (r : ℕ) : Type 0 where
  pub low : r < 4096
  pub is : (held : List Held) (cells : ℕ) (v : Name) → Lists held table n cells → Told v → name ≡ name_of v → holds (is_the_name v) held ≡ true → r ≡ cell_of held v

-- where an array stands and what its dimensions are
pub record Stands (held : List Held) (v : Name) (r : Entry) : Type 0 where
  pub first_is : r.first ≡ base_of held v
  pub rows_are : r.rows ≡ (dims_held held v).rows
  pub columns_are : r.columns ≡ (dims_held held v).columns

-- r is the entry of the array that a reference means
pub record ArrayOf (table : List ℕ) (n : ℕ) (name : code.Name) (r : Entry) : Type 0 where
  pub first_low : r.first ≤ 4096
  pub rows_low : r.rows ≤ 4096
  pub columns_low : r.columns ≤ 4096
  pub is : (held : List Held) (cells : ℕ) (e : Reference) → Lists held table n cells → Told e.name → name ≡ name_of e.name → right_reference held e ≡ true
      → Stands held e.name r
