-- What the code of an instruction asks of the entries, the places and the store.
-- Assumes nothing.
use Rattle.std.specs.Prelude.{◌≡◌, true, List, ℕ, ◌+◌, ◌-◌, ◌≤◌, ◌<◌, length, ℤ, pos}
use Rattle.number.specs.Number.{Fits}
use Rattle.number.specs.Code.{ruled}
use Rattle.rules_object.specs.Object as book
use Rattle.rules_object.specs.Check.{right41}
use Rattle.rules_object.specs.Operations.{meant, operation_at, pops, pushes}
use Rattle.rules_object.specs.Machine.{cell}
use Rattle.object_contents.specs.declared.placed.Object.{Object}
use Rattle.object_contents.specs.Book.{book_of}
use Rattle.run_registers.specs.declared.Regs.{Regs}

-- Every number that an instruction can read fits the object's rule. Places above the height are 0.
pub record Held (o : Object) (r : Regs) (st so : List ℤ) : Type 0 where
  pub right : right41 (book_of o) ≡ true
  pub low : r.height ≤ 40
  pub forty : length st ≡ 40
  pub clean : (i : ℕ) → r.height ≤ i → cell st i ≡ pos 0
  pub stack : (i : ℕ) → Fits (ruled o.rule) (cell st i)
  pub long : o.layout.cells ≤ length so
  pub store : (a : ℕ) → a < o.layout.cells → Fits (ruled o.rule) (cell so a)

-- the operation op with operand x can be done on a stack of height h
pub record Ready (o : book.Object) (op x h : ℕ) : Type 0 where
  pub operand : (operation_at op).operand_right o x ≡ true
  pub entry : (operation_at op).entry_right o x ≡ true
  pub popped : pops (meant o op x) ≤ h
  pub pushed : h - pops (meant o op x) + pushes (meant o op x) ≤ 40
