-- A card in place, from a column on: what reading a field of it does, and a whole card, and every card of a READ.
-- Assumes nothing.
use Rattle.std.specs.Prelude.{◌≡◌, List, ℕ, ◌≤◌, length, drop, ℤ, Option, Some, None, Result as Answer, Ok, Err}
use Rattle.number.specs.declared.Rule.{Rule}
use Rattle.rules_formats.specs.Format.{Field}
use Rattle.rules_formats.specs.Walk.{trouble_number, Outcome, fine, trouble, Columns, card_width, cards, Taken, reads, cards_of}
use Rattle.rules_object.specs.Object.{Object}
use Rattle.rules_object.specs.Operations.{transfer_at, format_at, list_at}
use Rattle.rules_object.specs.Machine.{Spot, spots, spot_get, spot_set}
use Rattle.object_contents.specs.declared.placed.Object.{Object as Lent}
use Rattle.object_contents.specs.Book.{book_of}
use Rattle.object_opcodes.specs.declared.Halt.{Halt}
use Rattle.object_opcodes.specs.Halts.{number_of}
use Rattle.run_formats.specs.Scan.{fields_at, scan_at, Along}
use Rattle.run_lists.specs.declared.Cursor.{Cursor}
use Rattle.run_lists.specs.declared.Step.{Step as Stepped}
use Rattle.run_lists.specs.declared.Step.TheVariants.{On, RecordEnds, StatementEnds}
use Rattle.run_lists.specs.declared.Start.{Start}
use Rattle.run_lists.specs.Cursors.{Stored, left_of, Reached}
use Rattle.run_lists.specs.Troubles.{Stopped}
use Rattle.run_reads.specs.Steps.{Step, on, record_ends, statement_ends, Card, more, last, step_of, card_of}

-- only numbers of the object's cells are other ones, and they fit its rule
pub record Kept (ob : Lent) (before after : List ℤ) : Type 0 where
  pub stored : Stored ob after
  pub long : length after ≡ length before
  pub rest : drop ob.layout.cells after ≡ drop ob.layout.cells before

-- ---- one field

abbrev pub step_at : Object → Rule → Field → Cursor → List ℤ → Columns → Outcome (Step (List ℤ) Spot)
step_at o k f c so columns = step_of k.ceiling spot_get spot_set f (left_of o c) so columns

-- the card goes on at a column, with the list left
pub record Goes (ob : Lent) (c : Cursor) (before : List ℤ) (card : Columns) (column : ℕ) (f : Field) (after : List ℤ) (next : ℕ) (d : Cursor) : Type 0 where
  pub is : step_at (book_of ob) ob.rule f c before (drop column card) ≡ fine (on after (drop next card) (left_of (book_of ob) d))
  pub within : next ≤ card_width
  pub reached : Reached (book_of ob) d
  pub kept : Kept ob before after

abbrev pub Does : Lent → Cursor → List ℤ → Columns → ℕ → Field → List ℤ → Answer Stepped Halt → Type 0
Does ob c before card column f after (Ok (On next d)) = Goes ob c before card column f after next d
Does ob c before card column f after (Ok RecordEnds) = (step_at (book_of ob) ob.rule f c before (drop column card) ≡ fine record_ends) × (after ≡ before)
Does ob c before card column f after (Ok StatementEnds) = (step_at (book_of ob) ob.rule f c before (drop column card) ≡ fine statement_ends) × (after ≡ before)
Does ob c before card column f after (Err h) = Stopped (step_at (book_of ob) ob.rule f c before (drop column card)) h × (after ≡ before)

-- ---- one card

abbrev pub card_at : Object → Rule → ℕ → Cursor → List ℤ → Columns → Outcome (Card (List ℤ) Spot)
card_at o k word c so card = card_of k.ceiling spot_get spot_set (scan_at o.formats word) (fields_at o.formats word) (left_of o c) so card

-- the next card begins at a word with the list left
pub record OneCard (ob : Lent) (word : ℕ) (c : Cursor) (before : List ℤ) (card : Columns) (after : List ℤ) (j : ℕ) (d : Cursor) : Type 0 where
  pub is : card_at (book_of ob) ob.rule word c before card ≡ fine (more (fields_at (book_of ob).formats j) (left_of (book_of ob) d) after)
  pub along : Along (book_of ob).formats word j
  pub next : Reached (book_of ob) d

abbrev pub TakesSo : Lent → Start → List ℤ → Columns → List ℤ → Answer (Option Start) Halt → Type 0
TakesSo ob s before card after (Ok (Some t)) = OneCard ob s.word s.list before card after t.word t.list
TakesSo ob s before card after (Ok None) = card_at (book_of ob) ob.rule s.word s.list before card ≡ fine (last after)
TakesSo ob s before card after (Err h) = Stopped (card_at (book_of ob) ob.rule s.word s.list before card) h

pub record Takes (ob : Lent) (s : Start) (before : List ℤ) (card : Columns) (after : List ℤ) (r : Answer (Option Start) Halt) : Type 0 where
  pub kept : Kept ob before after
  pub so : TakesSo ob s before card after r

-- ---- every card

-- the cards from a word on, with what is left of the list
unfoldable pub cards_on : Object → Rule → List Columns → ℕ → Cursor → List ℤ → Outcome (Taken (List ℤ))
cards_on o k cs word c so = cards k.ceiling spot_get spot_set (scan_at o.formats word) cs (fields_at o.formats word) (left_of o c) so

abbrev pub cards_at : Object → Rule → List Columns → Start → List ℤ → Outcome (Taken (List ℤ))
cards_at o k cs s so = cards_on o k cs s.word s.list so

-- the store, and the cards not yet taken
pub record Well (bytes : List ℕ) (taken : ℕ) (t : Taken (List ℤ)) (after : List ℤ) (now : ℕ) : Type 0 where
  pub store : after ≡ t.store
  pub cards : drop now (cards_of bytes) ≡ t.cards
  pub onward : taken ≤ now
  pub within : now ≤ length (cards_of bytes)

abbrev pub Reads : List ℕ → ℕ → Outcome (Taken (List ℤ)) → List ℤ → Answer ℕ Halt → Type 0
Reads cards taken (fine t) after (Ok now) = Well cards taken t after now
Reads cards taken (fine t) after (Err h) = ⊥
Reads cards taken (trouble w) after (Ok now) = ⊥
Reads cards taken (trouble w) after (Err h) = number_of h ≡ trouble_number w

pub record Read (ob : Lent) (cards : List ℕ) (taken : ℕ) (outcome : Outcome (Taken (List ℤ))) (before after : List ℤ) (r : Answer ℕ Halt) : Type 0 where
  pub kept : Kept ob before after
  pub so : Reads cards taken outcome after r

-- ---- the statement

unfoldable pub read_by : Object → Rule → ℕ → List ℤ → List Columns → Outcome (Taken (List ℤ))
read_by o k x so cs = reads k.ceiling spot_get spot_set (format_at o (transfer_at o x).format) (spots (list_at o (transfer_at o x))) so cs

-- trouble leaves all as it was
abbrev pub Result : List ℕ → ℕ → Outcome (Taken (List ℤ)) → List ℤ → List ℤ → Answer ℕ Halt → Type 0
Result cards taken (fine t) before after (Ok now) = Well cards taken t after now
Result cards taken (fine t) before after (Err h) = ⊥
Result cards taken (trouble w) before after (Ok now) = ⊥
Result cards taken (trouble w) before after (Err h) = (number_of h ≡ trouble_number w) × (after ≡ before)
