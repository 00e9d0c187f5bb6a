-- The machine: its state, one step of it, and a step with the tests of a bench run. 01 "Translation", "Running", 2026-01.
-- Assumes nothing.
use Rattle.std.specs.Prelude.{ℕ, zero, suc, ◌+◌, ◌-◌, Bool, true, false, ◌&&◌, cond, List, [], ◌∷◌, ◌++◌, leb, length, get_or, set, ℤ, pos, neg_ℤ}
use Rattle.std.proofs.Math.Option.{Option, none, some}
use Rattle.number.specs.Number.{Rule, Result, value, by_zero, apply, Loss, Trouble, trouble}
use Rattle.rules_shared.specs.Limits.{limits}
use Rattle.rules_shared.specs.Runs.{go, halt}
use Rattle.rules_object.specs.Halts.{Halt, at_stop, at_end, divide_by_zero, bad_subscript, bad_exit, bad_parameter, bad_stack, bad_instruction, ran_out, bad_field, Out}
use Rattle.rules_shared.specs.Choose.{sign3, exit, SubscriptParts, place, positive, all_positive, Turn, again, over, turn, marked}
use Rattle.rules_formats.specs.Walk.{Devices, with_cards, with_paper, Paper, Taken, prints, reads, fine}
use Rattle.rules_formats.specs.Walk as walk
use Rattle.rules_object.specs.Object.{SubscriptEntry, Element, Loop, Object, rule_of}
use Rattle.rules_object.specs.Check.{in_code}
use Rattle.rules_object.specs.Operations.{Listed, a_span, one_element, Instr, HLT, CON, LOD, STO, LDE, STE, OP, NEG, JMP, BR3, BRC, DOI, DOE, READ, PRINT, right43, entry_right, instruction, pops, pushes}

-- ---- the state

-- the index of the instruction to be done, the stack (its top first), the store, the drop mark (1 plus the first dropping instruction, or 0), and the cards and the paper
pub record State : Type 0 where
  pub index : ℕ
  pub stack : List ℤ
  pub store : List ℤ
  pub mark : ℕ
  pub devices : Devices

abbrev pub fresh : List ℤ → Devices → State
fresh cells devices = record { index = 0; stack = []; store = cells; mark = 0; devices = devices }

abbrev pub cell : List ℤ → ℕ → ℤ
cell store a = get_or store a (pos 0)

-- what is popped, and what is left; an empty stack gives 0
abbrev pub top : List ℤ → ℤ
top [] = pos 0
top (v ∷ s) = v

abbrev pub under : List ℤ → List ℤ
under [] = []
under (v ∷ s) = s

-- the state but for one thing
abbrev pub going_to : ℕ → State → State
going_to a t = record { index = a; stack = t.stack; store = t.store; mark = t.mark; devices = t.devices }

abbrev pub with_stack : List ℤ → State → State
with_stack s t = record { index = t.index; stack = s; store = t.store; mark = t.mark; devices = t.devices }

abbrev pub with_store : List ℤ → State → State
with_store cells t = record { index = t.index; stack = t.stack; store = cells; mark = t.mark; devices = t.devices }

abbrev pub with_mark : ℕ → State → State
with_mark m t = record { index = t.index; stack = t.stack; store = t.store; mark = m; devices = t.devices }

abbrev pub with_devices : Devices → State → State
with_devices d t = record { index = t.index; stack = t.stack; store = t.store; mark = t.mark; devices = d }

abbrev pub next : State → State
next t = going_to (suc t.index) t

abbrev pub pushing : ℤ → State → State
pushing v t = with_stack (v ∷ t.stack) t

abbrev pub popping : State → State
popping t = with_stack (under t.stack) t

abbrev pub setting : ℕ → ℤ → State → State
setting a v t = with_store (set t.store a v) t

-- told what an instruction lost
abbrev pub marking : Loss → State → State
marking lost t = with_mark (marked t.mark lost t.index) t

-- ---- one instruction, with no test of stack, operand or entry

abbrev pub halt_for : Trouble → Halt
halt_for by_zero = divide_by_zero

-- s is the stack without the operands; a halt leaves all as before the instruction
abbrev pub operated : Result → State → List ℤ → Out State
operated (value v lost) t s = go (next (marking lost (pushing v (with_stack s t))))
operated (trouble w) t s = halt (halt_for w) t

abbrev pub subscript_of : List ℤ → SubscriptEntry → SubscriptParts
subscript_of store s = record { times = s.times; variable = cell store s.cell; plus = s.plus }

abbrev pub place_of : List ℤ → Element → Option ℕ
place_of store e = place e.rows e.columns (subscript_of store e.first) (subscript_of store e.second)

abbrev pub element_loaded : Option ℕ → Element → State → Out State
element_loaded none e t = halt bad_subscript t
element_loaded (some p) e t = go (next (pushing (cell t.store (e.base + p)) t))

abbrev pub element_stored : Option ℕ → Element → State → Out State
element_stored none e t = halt bad_subscript t
element_stored (some p) e t = go (next (popping (setting (e.base + p) (top t.stack) t)))

abbrev pub branched : Option ℕ → State → Out State
branched none t = halt bad_exit t
branched (some a) t = go (going_to a (popping t))

-- sets variable, limit and step, in this order
abbrev pub begun : Bool → Loop → ℤ → ℤ → ℤ → State → Out State
begun true d m₁ m₂ m₃ t = go (next (popping (popping (popping (setting d.step m₃ (setting d.limit m₂ (setting d.variable m₁ t)))))))
begun false d m₁ m₂ m₃ t = halt bad_parameter t

abbrev pub turned : Turn → Loop → State → Out State
turned (again i) d t = go (going_to d.body (setting d.variable i t))
turned over d t = go (next t)

-- a step below 1 gives halt 6
abbrev pub ended : Bool → Loop → State → Out State
ended true d t = turned (turn (cell t.store d.variable) (cell t.store d.limit) (cell t.store d.step)) d t
ended false d t = halt bad_parameter t

-- ---- READ and PRINT

-- where a number of a list stands: a cell, or an element, whose subscripts are worked out when it is come to
pub data Spot : Type 0 where
  a_cell : ℕ → Spot
  an_element : Element → Spot

abbrev pub cell_spots : ℕ → ℕ → List Spot
cell_spots a zero = []
cell_spots a (suc n) = a_cell a ∷ cell_spots (suc a) n

abbrev pub spots : List Listed → List Spot
spots [] = []
spots (a_span a n ∷ list) = cell_spots a n ++ spots list
spots (one_element e ∷ list) = an_element e ∷ spots list

abbrev pub element_spot : ℕ → Option ℕ → Option ℕ
element_spot base none = none
element_spot base (some p) = some (base + p)

-- its cell, unless a subscript is wrong
abbrev pub spot_cell : List ℤ → Spot → Option ℕ
spot_cell store (a_cell a) = some a
spot_cell store (an_element e) = element_spot e.base (place_of store e)

abbrev pub cell_in : List ℤ → Option ℕ → Option ℤ
cell_in store none = none
cell_in store (some a) = some (cell store a)

abbrev pub store_with : List ℤ → ℤ → Option ℕ → Option (List ℤ)
store_with store v none = none
store_with store v (some a) = some (set store a v)

unfoldable pub spot_get : List ℤ → Spot → Option ℤ
spot_get store x = cell_in store (spot_cell store x)

unfoldable pub spot_set : List ℤ → Spot → ℤ → Option (List ℤ)
spot_set store x v = store_with store v (spot_cell store x)

abbrev pub halt_in : walk.Trouble → Halt
halt_in walk.bad_subscript = bad_subscript
halt_in walk.ran_out = ran_out
halt_in walk.bad_field = bad_field

abbrev pub was_printed : walk.Outcome Paper → State → Out State
was_printed (fine p) t = go (next (with_devices (with_paper p t.devices) t))
was_printed (walk.trouble w) t = halt (halt_in w) t

abbrev pub was_read : walk.Outcome (Taken (List ℤ)) → State → Out State
was_read (fine r) t = go (next (with_devices (with_cards r.cards t.devices) (with_store r.store t)))
was_read (walk.trouble w) t = halt (halt_in w) t

-- ---- any instruction

abbrev pub halts : ℕ → Halt
halts zero = at_stop
halts (suc r) = at_end

abbrev pub act : Rule → Instr → State → Out State
act r (HLT x) t = halt (halts x) t
act r (CON c) t = go (next (pushing (pos c) t))
act r (LOD a) t = go (next (pushing (cell t.store a) t))
act r (STO a) t = go (next (popping (setting a (top t.stack) t)))
act r (LDE e) t = element_loaded (place_of t.store e) e t
act r (STE e) t = element_stored (place_of t.store e) e t
act r (OP o) t = operated (apply r o (top (under t.stack)) (top t.stack)) t (under (under t.stack))
act r NEG t = go (next (pushing (neg_ℤ (top t.stack)) (popping t)))
act r (JMP a) t = go (going_to a t)
act r (BR3 a b c) t = go (going_to (sign3 (top t.stack) a b c) (popping t))
act r (BRC exits) t = branched (exit exits (top t.stack)) t
act r (DOI n d) t =
    begun (all_positive (top (under (under t.stack))) (top (under t.stack)) (top t.stack)) d (top (under (under t.stack))) (top (under t.stack)) (top t.stack) t
act r (DOE n d) t = ended (positive (cell t.store d.step)) d t
act r (READ n f is) t = was_read (reads r.ceiling spot_get spot_set f (spots is) t.store t.devices.cards) t
act r (PRINT n f is) t = was_printed (prints spot_get f (spots is) t.store t.devices.paper) t

-- one step of a run
unfoldable pub step : Object → State → Out State
step o t = act (rule_of o) (instruction o t.index) t

-- ---- a step of a bench run: 8 (outside the code, breaks 43, or uses an entry that breaks 42), then 7 (the stack), then the instruction

-- popped first, then pushed
abbrev pub room : Instr → List ℤ → Bool
room i s = leb (pops i) (length s) && leb (length s - pops i + pushes i) limits.stack

unfoldable pub bench_step : Object → State → Out State
bench_step o t =
    cond (in_code o t.index && (right43 o (get_or o.code t.index 0) && entry_right o (get_or o.code t.index 0)))
    (cond (room (instruction o t.index) t.stack) (step o t) (halt bad_stack t))
    (halt bad_instruction t)
