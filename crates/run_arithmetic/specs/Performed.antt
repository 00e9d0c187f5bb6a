-- One instruction on the forty places of the stack, the lowest first: what the code does. The book has the stack with its top first and no places.
-- Assumes nothing.
use Rattle.std.specs.Prelude.{Bool, true, false, List, ℕ, zero, suc, ◌+◌, ◌-◌, set, ℤ, pos, neg_ℤ}
use Rattle.std.proofs.Math.Option.{Option, none, some}
use Rattle.number.specs.Number.{Rule, Result, value, trouble, apply}
use Rattle.rules_shared.specs.Choose.{sign3, exit, positive, all_positive, again, over, turn}
use Rattle.rules_shared.specs.Choose as choose
use Rattle.rules_object.specs.Object.{Loop}
use Rattle.rules_object.specs.Operations.{Instr, HLT, CON, LOD, STO, LDE, STE, OP, NEG, JMP, BR3, BRC, DOI, DOE, READ, PRINT}
use Rattle.rules_object.specs.Machine.{cell, place_of}
use Rattle.run_registers.specs.declared.Regs.{Regs}
use Rattle.run_registers.specs.declared.Turn.{Turn}
use Rattle.run_registers.specs.declared.Turn.TheVariants.{Next, Halt, Transfer}
use Rattle.object_opcodes.specs.declared.Halt as opcodes
use Rattle.object_opcodes.specs.declared.Halt.TheVariants.{Stop, End, DivideByZero, BadSubscript, BadExit, BadParameter}
use Rattle.run_registers.specs.Registers.{going_to, onward, marking}

-- ---- what an instruction gives, and the places and the store after it

pub record After : Type 0 where
  pub turn : Turn
  pub places : List ℤ
  pub store : List ℤ

abbrev pub after : Turn → List ℤ → List ℤ → After
after t st so = record { turn = t; places = st; store = so }

abbrev pub next : Regs → List ℤ → List ℤ → After
next r st so = after (Next r) st so

-- all as before the instruction
abbrev pub stopped : opcodes.Halt → List ℤ → List ℤ → After
stopped h st so = after (Halt h) st so

-- ---- by operation; a place that is left free is 0

abbrev pub pushed : Regs → List ℤ → List ℤ → ℤ → After
pushed r st so v = next (onward (r.height + 1) r) (set st r.height v) so

-- one number off the stack, the store as given
abbrev pub popped : Regs → List ℤ → List ℤ → ℕ → After
popped r st so i = next (going_to i (r.height - 1) r) (set st (r.height - 1) (pos 0)) so

-- two numbers become one
abbrev pub joined : Result → Regs → List ℤ → List ℤ → After
joined (value v lost) r st so =
    next (onward (r.height - 1) (marking lost r)) (set (set st (r.height - 2) v) (r.height - 1) (pos 0)) so
joined (trouble w) r st so = stopped DivideByZero st so

abbrev pub negated : Regs → List ℤ → List ℤ → After
negated r st so = next (onward r.height r) (set st (r.height - 1) (neg_ℤ (cell st (r.height - 1)))) so

abbrev pub loaded : Option ℕ → ℕ → Regs → List ℤ → List ℤ → After
loaded none base r st so = stopped BadSubscript st so
loaded (some p) base r st so = pushed r st so (cell so (base + p))

abbrev pub put : Option ℕ → ℕ → Regs → List ℤ → List ℤ → After
put none base r st so = stopped BadSubscript st so
put (some p) base r st so = popped r st (set so (base + p) (cell st (r.height - 1))) (r.index + 1)

abbrev pub branched : Option ℕ → Regs → List ℤ → List ℤ → After
branched none r st so = stopped BadExit st so
branched (some a) r st so = popped r st so a

-- variable, limit and step are the three upper numbers
abbrev pub begun : Bool → Loop → Regs → List ℤ → List ℤ → After
begun true d r st so =
    next (onward (r.height - 3) r)
    (set (set (set st (r.height - 3) (pos 0)) (r.height - 2) (pos 0)) (r.height - 1) (pos 0))
    (set (set (set so d.variable (cell st (r.height - 3))) d.limit (cell st (r.height - 2))) d.step (cell st (r.height - 1)))
begun false d r st so = stopped BadParameter st so

abbrev pub turned : choose.Turn → Loop → Regs → List ℤ → List ℤ → After
turned (again i) d r st so = next (going_to d.body r.height r) st (set so d.variable i)
turned over d r st so = next (onward r.height r) st so

abbrev pub ended : Bool → Loop → Regs → List ℤ → List ℤ → After
ended true d r st so = turned (turn (cell so d.variable) (cell so d.limit) (cell so d.step)) d r st so
ended false d r st so = stopped BadParameter st so

abbrev pub end_of : ℕ → opcodes.Halt
end_of zero = Stop
end_of (suc n) = End

abbrev pub performed : Rule → Instr → Regs → List ℤ → List ℤ → After
performed k (HLT x) r st so = stopped (end_of x) st so
performed k (CON c) r st so = pushed r st so (pos c)
performed k (LOD a) r st so = pushed r st so (cell so a)
performed k (STO a) r st so = popped r st (set so a (cell st (r.height - 1))) (r.index + 1)
performed k (LDE e) r st so = loaded (place_of so e) e.base r st so
performed k (STE e) r st so = put (place_of so e) e.base r st so
performed k (OP f) r st so = joined (apply k f (cell st (r.height - 2)) (cell st (r.height - 1))) r st so
performed k NEG r st so = negated r st so
performed k (JMP a) r st so = next (going_to a r.height r) st so
performed k (BR3 a b c) r st so = popped r st so (sign3 (cell st (r.height - 1)) a b c)
performed k (BRC ts) r st so = branched (exit ts (cell st (r.height - 1))) r st so
performed k (DOI n d) r st so = begun (all_positive (cell st (r.height - 3)) (cell st (r.height - 2)) (cell st (r.height - 1))) d r st so
performed k (DOE n d) r st so = ended (positive (cell so d.step)) d r st so
performed k (READ n f is) r st so = after Transfer st so
performed k (PRINT n f is) r st so = after Transfer st so
