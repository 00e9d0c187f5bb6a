-- The registers: how one is made of another, and the state that they are of.
-- Assumes nothing.
use Rattle.std.specs.Prelude.{List, ℕ, ◌+◌, ℤ}
use Rattle.number.specs.Number.{Loss}
use Rattle.rules_shared.specs.Choose.{marked}
use Rattle.rules_formats.specs.Walk.{Devices}
use Rattle.rules_object.specs.Machine.{State}
use Rattle.rules_object.specs.Calls.{Lent, taken}
use Rattle.run_registers.specs.declared.Regs.{Regs}

abbrev pub regs : ℕ → ℕ → ℕ → Regs
regs i h m = record { index = i; height = h; mark = m }

-- the instruction at a, or the next one, comes next, on a stack of height h
abbrev pub going_to : ℕ → ℕ → Regs → Regs
going_to a h r = regs a h r.mark

abbrev pub onward : ℕ → Regs → Regs
onward h r = going_to (r.index + 1) h r

-- told what the instruction lost
abbrev pub marking : Loss → Regs → Regs
marking lost r = regs r.index r.height (marked r.mark lost r.index)

-- ---- with the places of the stack, as the book says it

abbrev pub lent_of : Regs → List ℤ → Lent
lent_of r st = record { index = r.index; height = r.height; mark = r.mark; places = st }

abbrev pub state_of : Regs → List ℤ → List ℤ → Devices → State
state_of r st so d = taken (lent_of r st) so d
