-- What holds at every state of a run of an object that passes the check: promise 6, "no fault".
-- Assumes nothing.
use Rattle.std.specs.Prelude.{◌≡◌, ◌⊎◌, true, List, [], ◌∷◌, ◌++◌, ℕ, zero, suc, ◌+◌, ◌-◌, ◌*◌, ◌≤◌, ◌<◌, length, get_or, take, drop, replicate, ℤ, pos}
use Rattle.std.proofs.Math.Option.{Option, none, some}
use Rattle.number.specs.Number.{Fits}
use Rattle.rules_shared.specs.Limits.{limits}
use Rattle.rules_shared.specs.Runs.{go, halt, run, steps}
use Rattle.rules_formats.specs.Walk.{card_width, line_width, Trays}
use Rattle.rules_object.specs.Halts.{Halt, halt_number, Out}
use Rattle.rules_object.specs.Object.{Element, Loop, Object, rule_of}
use Rattle.rules_object.specs.Operations.{Listed, a_span, one_element, Instr, HLT, CON, LOD, STO, LDE, STE, OP, NEG, JMP, BR3, BRC, DOI, DOE, READ, PRINT, right43, entry_right, pops, pushes, instruction}
use Rattle.rules_object.specs.Machine.{State, cell, place_of, step, bench_step, with_store}
use Rattle.rules_object.specs.Flow.{height_at}
use Rattle.rules_shared.specs.Refusals.{accepted}
use Rattle.rules_shared.specs.Output.{Written}
use Rattle.rules_object.specs.Calls.{Lent, Ran, map_of, ran_with}
use Rattle.rules_shared.specs.Lists.{Each}

-- ---- every cell that an instruction reads or writes

abbrev pub element_cell : Element → Option ℕ → List ℕ
element_cell e none = []
element_cell e (some place) = (e.base + place) ∷ []

-- both subscripts' cells and, where the subscripts are right, the element's
abbrev pub element_cells : Element → List ℤ → List ℕ
element_cells e store = e.first.cell ∷ e.second.cell ∷ element_cell e (place_of store e)

abbrev pub loop_cells : Loop → List ℕ
loop_cells d = d.variable ∷ d.limit ∷ d.step ∷ []

abbrev pub cells_from : ℕ → ℕ → List ℕ
cells_from a zero = []
cells_from a (suc n) = a ∷ cells_from (suc a) n

-- all cells of an element's array: which of them is read or written may hang on what the statement reads before
abbrev pub list_cells : List Listed → List ℕ
list_cells [] = []
list_cells (a_span a n ∷ list) = cells_from a n ++ list_cells list
list_cells (one_element e ∷ list) = e.first.cell ∷ e.second.cell ∷ (cells_from e.base (e.rows * e.columns) ++ list_cells list)

abbrev pub touched_by : Instr → List ℤ → List ℕ
touched_by (HLT x) store = []
touched_by (CON c) store = []
touched_by (LOD a) store = a ∷ []
touched_by (STO a) store = a ∷ []
touched_by (LDE e) store = element_cells e store
touched_by (STE e) store = element_cells e store
touched_by (OP o) store = []
touched_by NEG store = []
touched_by (JMP a) store = []
touched_by (BR3 a b c) store = []
touched_by (BRC exits) store = []
touched_by (DOI n d) store = loop_cells d
touched_by (DOE n d) store = loop_cells d
touched_by (READ n f is) store = list_cells is
touched_by (PRINT n f is) store = list_cells is

unfoldable pub touches : Object → State → List ℕ
touches o t = touched_by (instruction o t.index) t.store

-- These are all of them: of two states that agree in these cells a step makes two that agree in these cells, and it changes no other.
abbrev pub In : ℕ → List ℕ → Type 0
In a [] = ⊥
In a (b ∷ l) = (a ≡ b) ⊎ In a l

pub record AgreeIn (cells : List ℕ) (t u : State) : Type 0 where
  pub index : t.index ≡ u.index
  pub stack : t.stack ≡ u.stack
  pub mark : t.mark ≡ u.mark
  pub devices : t.devices ≡ u.devices
  pub long : length t.store ≡ length u.store
  pub values : (a : ℕ) → In a cells → cell t.store a ≡ cell u.store a

abbrev pub AlikeIn : List ℕ → Out State → Out State → Type 0
AlikeIn cells (go t) (go u) = AgreeIn cells t u
AlikeIn cells (go t) (halt h u) = ⊥
AlikeIn cells (halt h t) (go u) = ⊥
AlikeIn cells (halt h t) (halt i u) = (h ≡ i) × AgreeIn cells t u

-- ---- the instruction to be done can be done, and touches only what it may

pub record Right (o : Object) (t : State) : Type 0 where
  pub inside : t.index < length o.code
  pub operand : right43 o (get_or o.code t.index 0) ≡ true
  pub entry : entry_right o (get_or o.code t.index 0) ≡ true
  pub popped : pops (instruction o t.index) ≤ length t.stack
  pub pushed : length t.stack - pops (instruction o t.index) + pushes (instruction o t.index) ≤ limits.stack
  pub cells : Each (λ a. a < o.cells) (touches o t)

-- 7 and 8 are faults
pub record NoFaultHalt (number : ℕ) : Type 0 where
  pub not_stack : number ≡ 7 → ⊥
  pub not_instruction : number ≡ 8 → ⊥

-- at every state of the unguarded run from t the instruction can be done, no halt is 7 or 8, and the guarded run is the same, step by step
pub record Faultless (o : Object) (t : State) : Type 0 where
  pub right : (n : ℕ) (u : State) → run (step o) n t ≡ go u → Right o u
  pub halts : (n : ℕ) (h : Halt) (u : State) → run (step o) n t ≡ halt h u → NoFaultHalt (halt_number h)
  pub guarded : (n : ℕ) → run (bench_step o) n t ≡ run (step o) n t
  pub counted : (n : ℕ) → steps (bench_step o) n t ≡ steps (step o) n t

-- ---- what a state of a run has

-- of at most k digits
abbrev pub Within : Object → ℤ → Type 0
Within o z = Fits (rule_of o) z

-- in the code, at its height, all numbers within the digits, and the mark of the code or 0
pub record Stands (o : Object) (table : List ℕ) (t : State) : Type 0 where
  pub inside : t.index < length o.code
  pub height : height_at table t.index ≡ length t.stack
  pub low : length t.stack ≤ limits.stack
  pub stack : Each (Within o) t.stack
  pub long : o.cells ≤ length t.store
  pub store : (a : ℕ) → a < o.cells → Within o (cell t.store a)
  pub mark : t.mark ≤ length o.code

-- ---- cells past the count

abbrev pub with_cells : List ℤ → State → State
with_cells extra t = with_store (t.store ++ extra) t

abbrev pub ran_with_cells : List ℤ → Ran → Ran
ran_with_cells extra r = ran_with (r.store ++ extra) r

-- ---- runs of bytes, compared

-- a fresh state, as it is lent
abbrev pub fresh_lent : Lent
fresh_lent = record { index = 0; height = 0; mark = 0; places = replicate limits.stack (pos 0) }

-- what a run leaves of the cards and of the room for lines
unfoldable pub rest : Trays → Ran → Trays
rest trays r = record { cards = drop (card_width * r.cards_taken) trays.cards; lines = drop (line_width * r.lines_written) r.lines }

-- two runs as one, the second with the rest: what the second leaves, with the steps, cards and lines of both
unfoldable pub after_run : Ran → Ran → Ran
after_run q r =
    record {
      refusal = r.refusal;
      halt = r.halt;
      steps = q.steps + r.steps;
      sequence = r.sequence;
      lent = r.lent;
      store = r.store;
      cards_taken = q.cards_taken + r.cards_taken;
      lines_written = q.lines_written + r.lines_written;
      lines = take (line_width * q.lines_written) q.lines ++ r.lines;
    }

-- ---- a refusal changes nothing

-- what was lent came back as it was, and every other field is 0
pub record Unchanged (l : Lent) (store : List ℤ) (trays : Trays) (r : Ran) : Type 0 where
  pub no_halt : r.halt ≡ 0
  pub no_steps : r.steps ≡ 0
  pub no_sequence : r.sequence ≡ 0
  pub same_lent : r.lent ≡ l
  pub same_store : r.store ≡ store
  pub no_cards : r.cards_taken ≡ 0
  pub no_lines : r.lines_written ≡ 0
  pub same_lines : r.lines ≡ trays.lines

pub record MapUnchanged (table : List ℕ) (m : Written) : Type 0 where
  pub no_length : m.length ≡ 0
  pub same_table : m.output ≡ table

-- An accepted map: its bytes stand at the table's start, and the bytes past them stay.
pub record MapWritten (o : Object) (table : List ℕ) (m : Written) : Type 0 where
  pub accepts : m.refusal ≡ accepted
  pub count : m.length ≡ length (map_of o)
  pub first : take m.length m.output ≡ map_of o
  pub rest : drop m.length m.output ≡ drop m.length table
  pub long : length m.output ≡ length table
