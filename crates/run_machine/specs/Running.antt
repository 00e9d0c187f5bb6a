-- A run's answer in the book's words, and what its steps up to a READ or PRINT come to.
-- Assumes nothing.
use Rattle.std.specs.Prelude.{◌≡◌, List, ℕ, ◌+◌, ◌≤◌, ℤ, Ok}
use Rattle.rules_shared.specs.Runs.{go, halt, run}
use Rattle.rules_shared.specs.Refusals.{accepted}
use Rattle.rules_formats.specs.Format.{Flat}
use Rattle.rules_formats.specs.Walk.{Devices}
use Rattle.rules_object.specs.Halts.{Halt, halt_number}
use Rattle.rules_object.specs.Object as rules
use Rattle.object_opcodes.specs.Halts.{number_of}
use Rattle.rules_object.specs.Operations.{Listed, Instr, READ, PRINT, instruction}
use Rattle.rules_object.specs.Machine.{State, step, bench_step}
use Rattle.rules_object.specs.Calls.{sequence_of}
use Rattle.rules_object.specs.Calls as book
use Rattle.rules_object.specs.Safe.{Right}
use Rattle.object_contents.specs.declared.placed.Object.{Object}
use Rattle.object_contents.specs.Book.{book_of}
use Rattle.run_registers.specs.declared.Regs.{Regs}
use Rattle.run_registers.specs.Registers.{lent_of, state_of}
use Rattle.run_operations.specs.Ready.{Held}
use Rattle.run_guards.specs.Guarding.{guard_of}
use Rattle.run_machine.specs.declared.Ran.{Ran}
use Rattle.run_machine.specs.declared.Pause.{Pause}
use Rattle.run_machine.specs.declared.Pause.TheVariants.{Used, Halted, Transfer}
use Rattle.run_machine.specs.declared.Paused.{Paused}

-- what the code answers, with the places, the store and the lines that it leaves
abbrev pub answer : rules.Object → Ran → List ℤ → List ℤ → List ℕ → book.Ran
answer o q st so lines =
    record {
      refusal = accepted;
      halt = number_of q.halt;
      steps = q.steps;
      sequence = sequence_of o.lines q.regs.mark;
      lent = lent_of q.regs st;
      store = so;
      cards_taken = q.trays.taken;
      lines_written = q.trays.written;
      lines = lines;
    }

-- ---- up to a READ or PRINT

-- at every state of the unguarded run from t the instruction can be done
abbrev pub Rights : rules.Object → State → Type 0
Rights o t = (n : ℕ) (u : State) → run (step o) n t ≡ go u → Right o u

-- so with some cards and paper: whether an instruction can be done does not hang on them
pub record NoFault (o : rules.Object) (r : Regs) (st so : List ℤ) : Type 0 where
  pub devices : Devices
  pub rights : Rights o (state_of r st so devices)

-- a READ or PRINT
pub data IsTransfer : Instr → Type 0 where
  a_read : (n : ℕ) (f : Flat) (list : List Listed) → IsTransfer (READ n f list)
  a_print : (n : ℕ) (f : Flat) (list : List Listed) → IsTransfer (PRINT n f list)

-- why it pauses after n whole steps, whatever the cards and the paper
abbrev pub Because : rules.Object → ℕ → ℕ → Regs → List ℤ → List ℤ → Pause → Type 0
Because o allowance n r st so Used = n ≡ allowance
Because o allowance n r st so (Halted x) = (v : Devices) → (h : Halt) × ((bench_step o (state_of r st so v) ≡ halt h (state_of r st so v)) × (number_of x ≡ halt_number h))
Because o allowance n r st so Transfer = (guard_of o r.index r.height ≡ Ok tt) × IsTransfer (instruction o r.index)

-- with the one that halts, or is a READ or PRINT
abbrev pub counted : Pause → ℕ → ℕ
counted Used n = n
counted (Halted x) n = n + 1
counted Transfer n = n + 1

-- The whole steps before the pause are the book's, with the cards and the paper as they were.
pub record Pauses (o : Object) (allowance : ℕ) (start : Regs) (st₀ so₀ : List ℤ) (q : Paused) (st so : List ℤ) : Type 0 where
  pub before : ℕ
  pub steps : q.steps ≡ counted q.pause before
  pub most : q.steps ≤ allowance
  pub held : Held o q.regs st so
  pub comes : (v : Devices) → run (bench_step (book_of o)) before (state_of start st₀ so₀ v) ≡ go (state_of q.regs st so v)
  pub why : Because (book_of o) allowance before q.regs st so q.pause
