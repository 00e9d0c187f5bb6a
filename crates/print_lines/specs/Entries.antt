-- A name of body 7 as the code keeps it, and what must be so that its values can be read.
-- Assumes nothing.
use Rattle.std.specs.Prelude.{ℕ, ◌+◌, ◌*◌, ◌≤◌, ◌<◌, List, length, ℤ}
use Rattle.rules_object.specs.Object.{Named}
use Rattle.rules_object.specs.Check.{span}
use Rattle.object_contents.specs.declared.Layout.{Layout}
use Rattle.object_contents.specs.Layout.{named_at, Placed}
use Rattle.print_lines.specs.declared.Entry.{Entry}

-- the book's name
unfoldable pub named_in : Entry → Named
named_in e = record { name = e.text.now; first = e.first; rows = e.rows; columns = e.columns }

-- its i-th value can be read
pub record Reads (e : Entry) (i : ℕ) (store : List ℤ) : Type 0 where
  pub text : length e.text.now ≤ 8
  pub cell : e.first + i < length store
  pub most : length store ≤ 4096

-- each of its values can be read
pub record Inside (e : Entry) (store : List ℤ) : Type 0 where
  pub text : length e.text.now ≤ 8
  pub cells : e.first + span e.rows e.columns ≤ length store
  pub most : length store ≤ 4096

-- all of the names are inside the store
pub record AllInside (e : Layout) (s : List ℕ) (store : List ℤ) : Type 0 where
  pub placed : Placed e s
  pub cells : (i : ℕ) → i < e.name_count → (named_at s (e.names + 20 * i)).first + span (named_at s (e.names + 20 * i)).rows (named_at s (e.names + 20 * i)).columns ≤ length store
  pub most : length store ≤ 4096
