-- A list as code goes through it: what is left of it at a cursor, and what comes next.
-- Assumes nothing.
use Rattle.std.specs.Prelude.{◌≡◌, ℕ, ◌+◌, ◌≤◌, ◌<◌, Bool, true, false, List, [], ◌∷◌, ◌++◌, map, length, take, drop, ℤ, Option, Some, None, Result, Ok, Err}
use Rattle.std.proofs.Math.Option.{none, some}
use Rattle.number.specs.Number.{Fits}
use Rattle.number.specs.Code.{Narrow}
use Rattle.rules_shared.specs.Lists.{all}
use Rattle.rules_object.specs.Object.{ListItem, Transfer, Object, rule_of}
use Rattle.rules_object.specs.Operations.{transfer_at, listed, item_right}
use Rattle.rules_object.specs.Machine.{cell, Spot, cell_spots, spots, spot_cell}
use Rattle.object_opcodes.specs.declared.Halt.{Halt}
use Rattle.object_opcodes.specs.declared.Halt.TheVariants.{BadSubscript}
use Rattle.object_contents.specs.declared.placed.Object.{Object as Opened}
use Rattle.object_contents.specs.Book.{book_of}
use Rattle.run_formats.specs.Scan.{Scanning}
use Rattle.run_lists.specs.declared.Cursor.{Cursor}
use Rattle.run_lists.specs.declared.Start.{Start}

-- The store has the object's cells, and every number in them fits a rule by which the code can work.
pub record Stored (o : Opened) (so : List ℤ) : Type 0 where
  pub narrow : Narrow (rule_of (book_of o))
  pub few : o.layout.cells ≤ 4096
  pub long : o.layout.cells ≤ length so
  pub fit : (a : ℕ) → a < o.layout.cells → Fits (rule_of (book_of o)) (cell so a)

abbrev pub start_of : Transfer → Start
start_of t = record { word = t.format; list = record { cell = 0; cells = 0; item = t.first; items = t.count } }

abbrev pub items_left : Object → Cursor → List ListItem
items_left o c = take c.items (drop c.item o.items)

unfoldable pub left_of : Object → Cursor → List Spot
left_of o c = cell_spots c.cell c.cells ++ spots (map (listed o) (items_left o c))

-- what the check of an object has settled of what is left
pub record Reached (o : Object) (c : Cursor) : Type 0 where
  pub cells : c.cell + c.cells ≤ o.cells
  pub items : c.item + c.items ≤ length o.items
  pub right : all (item_right o) (items_left o c) ≡ true

-- a statement begins at its FORMAT's first word, with its list whole
pub record Begins (o : Object) (x : ℕ) (r : Start) : Type 0 where
  pub is : r ≡ start_of (transfer_at o x)
  pub scanning : Scanning o.formats r.word
  pub reached : Reached o r.list

-- the next number is the cell a's, and d is left
pub record Found (o : Object) (so : List ℤ) (c : Cursor) (a : ℕ) (d : Cursor) : Type 0 where
  pub spot : Spot
  pub is : left_of o c ≡ spot ∷ left_of o d
  pub at : spot_cell so spot ≡ some a
  pub inside : a < o.cells
  pub next : Reached o d

pub record Astray (o : Object) (so : List ℤ) (c : Cursor) : Type 0 where
  pub spot : Spot
  pub more : List Spot
  pub is : left_of o c ≡ spot ∷ more
  pub at : spot_cell so spot ≡ none

abbrev pub Comes : Object → List ℤ → Cursor → Result (Option (ℕ × Cursor)) Halt → Type 0
Comes o so c (Ok (Some (a, d))) = Found o so c a d
Comes o so c (Ok None) = left_of o c ≡ []
Comes o so c (Err h) = Astray o so c × (h ≡ BadSubscript)

-- ---- whether any number is left

pub record SomeLeft (o : Object) (c : Cursor) : Type 0 where
  pub spot : Spot
  pub more : List Spot
  pub is : left_of o c ≡ spot ∷ more

abbrev pub Left : Object → Cursor → Bool → Type 0
Left o c true = SomeLeft o c
Left o c false = left_of o c ≡ []
