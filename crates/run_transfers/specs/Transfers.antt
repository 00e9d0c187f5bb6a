-- A READ or PRINT as the code of a run does it: what it asks, and what it leaves.
-- Assumes nothing.
use Rattle.std.specs.Prelude.{◌≡◌, ◌⊎◌, true, List, ℕ, ◌≤◌, ◌<◌, length, get_or, ℤ, Result, Ok, Err}
use Rattle.number.specs.Number.{Fits}
use Rattle.number.specs.Code.{ruled}
use Rattle.rules_shared.specs.Runs.{go, halt}
use Rattle.rules_formats.specs.Walk.{Trouble, Devices}
use Rattle.rules_object.specs.Halts.{halt_number, Out}
use Rattle.rules_object.specs.Object as book
use Rattle.rules_object.specs.Check.{right41}
use Rattle.rules_object.specs.Operations.{operation_of, right43, entry_right}
use Rattle.rules_object.specs.Machine.{State, cell, next, with_store, with_devices, halt_in, step}
use Rattle.object_contents.specs.declared.placed.Object.{Object}
use Rattle.object_contents.specs.Book.{book_of}
use Rattle.object_opcodes.specs.declared.Halt as opcodes
use Rattle.object_opcodes.specs.Halts.{number_of}
use Rattle.run_registers.specs.Devices.{trays_of, devices_in, Counted}
use Rattle.run_transfers.specs.declared.Trays.{Trays}

abbrev pub word_in : book.Object → ℕ → ℕ
word_in o i = get_or o.code i 0

-- The instruction at i is a READ or PRINT that is right, and every number of the cells fits.
-- An object that has transfers gets room to keep its cells.
pub record Ready (o : Object) (i : ℕ) (store kept : List ℤ) : Type 0 where
  pub right : right41 (book_of o) ≡ true
  pub inside : i < o.layout.code_count
  pub is : (operation_of (word_in (book_of o) i) ≡ 16) ⊎ (operation_of (word_in (book_of o) i) ≡ 17)
  pub operand : right43 (book_of o) (word_in (book_of o) i) ≡ true
  pub entry : entry_right (book_of o) (word_in (book_of o) i) ≡ true
  pub long : o.layout.cells ≤ length store
  pub fit : (a : ℕ) → a < o.layout.cells → Fits (ruled o.rule) (cell store a)
  pub room : 0 < o.layout.transfer_count → o.layout.cells ≤ length kept

-- It is done; or there is trouble, which leaves all as it was.
pub data Moved (r : Result Trays opcodes.Halt) (t : State) (store : List ℤ) (devices : Devices) : Out State → Type 0 where
  done : (now : Trays) → r ≡ Ok now → Moved r t store devices (go (next (with_devices devices (with_store store t))))
  not_done : (w : Trouble) (x : opcodes.Halt) → r ≡ Err x → number_of x ≡ halt_number (halt_in w) → store ≡ t.store → devices ≡ t.devices → Moved r t store devices (halt (halt_in w) t)

-- the trays after it
abbrev pub after : Trays → Result Trays opcodes.Halt → Trays
after trays (Ok now) = now
after trays (Err h) = trays

-- The book's step, from any state with this store, these cards and these lines.
pub record Transfers (o : book.Object) (i : ℕ) (store : List ℤ) (cards lines : List ℕ) (trays : Trays) (r : Result Trays opcodes.Halt) (store' : List ℤ) (lines' : List ℕ) : Type 0 where
  pub is : (t : State) → t.index ≡ i → t.store ≡ store → t.devices ≡ devices_in cards trays.taken lines trays.written → Moved r t store' (devices_in cards (after trays r).taken lines' (after trays r).written) (step o t)
  pub counted : Counted (trays_of cards lines) (after trays r).taken lines' (after trays r).written
  pub onward : trays.written ≤ (after trays r).written
