-- A line in place: filled to a column, blank after it; what putting a field on it does, and a whole line, and every line of a PRINT.
-- Assumes nothing.
use Rattle.std.specs.Prelude.{◌≡◌, List, [], ℕ, ◌≤◌, length, take, ℤ, Option, Some, None, Result, Ok, Err}
use Rattle.rules_formats.specs.Format.{Field}
use Rattle.rules_formats.specs.Walk.{Outcome, fine, Columns, line_width, whole}
use Rattle.rules_object.specs.Object.{Object}
use Rattle.rules_object.specs.Machine.{Spot, spot_get}
use Rattle.object_opcodes.specs.declared.Halt.{Halt}
use Rattle.run_formats.specs.Scan.{fields_at, scan_at, Along}
use Rattle.run_lists.specs.declared.Cursor.{Cursor}
use Rattle.run_lists.specs.declared.Step.{Step as Stepped}
use Rattle.run_lists.specs.declared.Step.TheVariants.{On, RecordEnds, StatementEnds}
use Rattle.run_lists.specs.declared.Start.{Start}
use Rattle.run_lists.specs.Cursors.{left_of, Reached}
use Rattle.run_lists.specs.Troubles.{Stopped}
use Rattle.run_prints.specs.Steps.{Step, on, record_ends, statement_ends, Line, more, last, step_of, line_of}

pub record Filled (line : Columns) (column : ℕ) : Type 0 where
  pub wide : length line ≡ line_width
  pub within : column ≤ line_width
  pub rest : line ≡ whole (take column line)

-- ---- one field

abbrev pub step_at : Object → List ℤ → Field → Cursor → Columns → Outcome (Step Spot)
step_at o so f c line = step_of spot_get so f (left_of o c) line

-- the line goes on to a column, with the list left
pub record Goes (o : Object) (so : List ℤ) (c : Cursor) (before : Columns) (f : Field) (after : Columns) (column : ℕ) (d : Cursor) : Type 0 where
  pub line : Columns
  pub is : step_at o so f c before ≡ fine (on line (left_of o d))
  pub put : after ≡ whole line
  pub long : column ≡ length line
  pub within : length line ≤ line_width
  pub next : Reached o d

abbrev pub Does : Object → List ℤ → Cursor → Columns → Field → Columns → Result Stepped Halt → Type 0
Does o so c before f after (Ok (On column d)) = Goes o so c before f after column d
Does o so c before f after (Ok RecordEnds) = (step_at o so f c before ≡ fine record_ends) × (after ≡ whole before)
Does o so c before f after (Ok StatementEnds) = (step_at o so f c before ≡ fine statement_ends) × (after ≡ whole before)
Does o so c before f after (Err h) = Stopped (step_at o so f c before) h

-- ---- one line

abbrev pub line_at : Object → List ℤ → ℕ → Cursor → Outcome (Line Spot)
line_at o so word c = line_of spot_get so (scan_at o.formats word) (fields_at o.formats word) (left_of o c) []

-- the line stands there, and the next begins at a word with the list left
pub record OneLine (o : Object) (so : List ℤ) (word : ℕ) (c : Cursor) (after : Columns) (j : ℕ) (d : Cursor) : Type 0 where
  pub line : Columns
  pub is : line_at o so word c ≡ fine (more line (fields_at o.formats j) (left_of o d))
  pub put : after ≡ whole line
  pub along : Along o.formats word j
  pub next : Reached o d

pub record LastLine (o : Object) (so : List ℤ) (word : ℕ) (c : Cursor) (after : Columns) : Type 0 where
  pub line : Columns
  pub is : line_at o so word c ≡ fine (last line)
  pub put : after ≡ whole line

abbrev pub Puts : Object → List ℤ → Start → Columns → Result (Option Start) Halt → Type 0
Puts o so s after (Ok (Some t)) = OneLine o so s.word s.list after t.word t.list
Puts o so s after (Ok None) = LastLine o so s.word s.list after
Puts o so s after (Err h) = Stopped (line_at o so s.word s.list) h
