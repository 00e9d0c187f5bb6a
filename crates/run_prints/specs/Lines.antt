-- Every line of a PRINT: what trying them and writing them do, and the whole statement.
-- Assumes nothing.
use Rattle.std.specs.Prelude.{◌≡◌, List, ℕ, ◌+◌, ◌*◌, ◌≤◌, length, drop, ℤ, Result, Ok, Err}
use Rattle.rules_formats.specs.Walk.{trouble_number, Outcome, fine, trouble, Columns, line_width, lines, Paper, prints, room_of, joined_lines}
use Rattle.rules_object.specs.Object.{Object}
use Rattle.rules_object.specs.Operations.{transfer_at, format_at, list_at}
use Rattle.rules_object.specs.Machine.{spots, spot_get}
use Rattle.run_registers.specs.Devices.{paper_of}
use Rattle.run_fields.specs.Put.{over}
use Rattle.object_opcodes.specs.declared.Halt.{Halt}
use Rattle.object_opcodes.specs.Halts.{number_of}
use Rattle.run_formats.specs.Scan.{fields_at, scan_at}
use Rattle.run_lists.specs.declared.Cursor.{Cursor}
use Rattle.run_lists.specs.declared.Start.{Start}
use Rattle.run_lists.specs.Cursors.{left_of}

-- the lines from a word on, with what is left of the list and room for so many
unfoldable pub lines_from : Object → List ℤ → ℕ → ℕ → Cursor → Outcome (List Columns)
lines_from o so room word c = lines spot_get (scan_at o.formats word) so room (fields_at o.formats word) (left_of o c)

abbrev pub lines_at : Object → List ℤ → ℕ → Start → Outcome (List Columns)
lines_at o so room s = lines_from o so room s.word s.list

-- the lines stand below those written, which is how many there are now
pub record Written (outcome : Outcome (List Columns)) (before after : List ℕ) (written now : ℕ) : Type 0 where
  pub count : (ls : List Columns) → outcome ≡ fine ls → now ≡ written + length ls
  pub put : (ls : List Columns) → outcome ≡ fine ls → after ≡ over (line_width * written) (joined_lines ls) before

abbrev pub Writes : Outcome (List Columns) → List ℕ → List ℕ → ℕ → Result ℕ Halt → Type 0
Writes outcome before after written (Ok now) = Written outcome before after written now
Writes outcome before after written (Err h) = ⊥

-- ---- the statement

unfoldable pub printed : Object → ℕ → List ℤ → Paper → Outcome Paper
printed o x so p = prints spot_get (format_at o (transfer_at o x).format) (spots (list_at o (transfer_at o x))) so p

-- the paper is now p; what follows the lines written stays
pub record Well (before : List ℕ) (written : ℕ) (p : Paper) (after : List ℕ) (now : ℕ) : Type 0 where
  pub paper : paper_of now after ≡ p
  pub onward : written ≤ now
  pub room : now ≤ room_of after
  pub long : length after ≡ length before
  pub rest : drop (line_width * now) after ≡ drop (line_width * now) before

-- trouble leaves all as it was
abbrev pub Prints : List ℕ → ℕ → Outcome Paper → List ℕ → Result ℕ Halt → Type 0
Prints before written (fine p) after (Ok now) = Well before written p after now
Prints before written (fine p) after (Err h) = ⊥
Prints before written (trouble w) after (Ok now) = ⊥
Prints before written (trouble w) after (Err h) = (number_of h ≡ trouble_number w) × (after ≡ before)
