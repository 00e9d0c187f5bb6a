-- A run printed, in the book's words.
-- Assumes nothing.
use Rattle.std.specs.Prelude.{ℕ, ◌≡◌, List, [], replicate, ℤ, pos}
use Rattle.rules_shared.specs.Limits.{limits}
use Rattle.rules_object.specs.Bytes.{read_object}
use Rattle.rules_object.specs.Safe.{fresh_lent}
use Rattle.rules_program.specs.Program.{zero_store, names_of, run_lines}
use Rattle.run_object.specs.declared.Ran.{Ran}
use Rattle.run_object.specs.Outcomes.{ran_of}

-- bytes of output that are enough for any deck: a line for each cell, of at most 41 bytes, and the halt's line
abbrev pub most_printed : ℕ
most_printed = 168000

-- what is printed of a run that is done; the state that it left is not printed
unfoldable pub ran_text : List ℕ → Ran → List ℤ → List ℕ
ran_text object r store = run_lines (names_of (read_object object)) (ran_of r fresh_lent store [])

-- the store and the stack's places before the run
pub record Zero (store places : List ℤ) : Type 0 where
  pub cells : store ≡ zero_store
  pub stack : places ≡ replicate limits.stack (pos 0)
