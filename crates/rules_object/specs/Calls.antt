-- What the calls on objects answer: check, run, bench and map, each with one outcome for whatever is lent. 01 "Refusal numbers", "Running", 2026-01.
-- Assumes nothing.
use Rattle.std.specs.Prelude.{ℕ, zero, suc, ◌-◌, Bool, ◌&&◌, cond, List, [], ◌∷◌, ◌++◌, map, reverse, ltb, leb, eqb, length, take, replicate, ℤ, pos}
use Rattle.std.proofs.Math.Option.{Option, none, some}
use Rattle.number.specs.Number.{fits}
use Rattle.rules_shared.specs.Limits.{limits}
use Rattle.rules_shared.specs.Runs.{go, halt, run, steps}
use Rattle.rules_formats.specs.Walk.{Devices, cards_of, Trays, devices_of, lines_after}
use Rattle.rules_object.specs.Halts.{halt_number, Out}
use Rattle.rules_object.specs.Object.{Line, Object, rule_of}
use Rattle.rules_object.specs.Check.{right41, right_constant, right_element, right_loop, right_line, right_named, right_format, right_item, right_transfer}
use Rattle.rules_object.specs.Operations.{right43, flow_of}
use Rattle.rules_object.specs.Machine.{State, fresh, step, bench_step, going_to, with_stack, with_mark}
use Rattle.rules_object.specs.Bytes.{concat, bytes_of, name_words, read_object}
use Rattle.rules_object.specs.Flow.{height_at}
use Rattle.rules_object.specs.Heights.{heights}
use Rattle.rules_shared.specs.Refusals.{Refusal, refusal, accepted, at_entry, or_else, unless, no_room}
use Rattle.rules_shared.specs.Lists.{all, first_bad, first_from}
use Rattle.rules_shared.specs.Output.{Written, not_written, write}

-- ---- the check: 40 to 44

-- lowest kind, then lowest entry; exits and code are judged by 43 alone
unfoldable pub refused42 : Object → Option Refusal
refused42 o =
    or_else (at_entry 42 1 (first_bad (right_constant o) o.constants 0))
    (or_else (at_entry 42 2 (first_bad (right_element o) o.elements 0))
    (or_else (at_entry 42 4 (first_bad (right_loop o) o.dos 0))
    (or_else (at_entry 42 6 (first_bad (right_line o) o.lines 0))
    (or_else (at_entry 42 7 (first_bad (right_named o) o.names 0))
    (or_else (at_entry 42 8 (first_from (right_format o) (length o.formats) 0))
    (or_else (at_entry 42 9 (first_bad (right_item o) o.items 0)) (at_entry 42 10 (first_bad (right_transfer o) o.transfers 0))))))))

unfoldable pub refused43 : Object → Option Refusal
refused43 o = at_entry 43 5 (first_bad (right43 o) o.code 0)

-- refused, or the object with the least table of its heights
pub data Checked : Type 0 where
  refused : Refusal → Checked
  passed : Object → List ℕ → Checked

abbrev pub judged44 : Object → Option (List ℕ) → Checked
judged44 o none = refused (refusal 44 0 0)
judged44 o (some table) = passed o table

abbrev pub judged : Object → Option Refusal → Checked
judged o (some r) = refused r
judged o none = judged44 o (heights (flow_of o))

abbrev pub checked_object : Option Object → Checked
checked_object none = refused (refusal 40 0 0)
checked_object (some o) = judged o (or_else (unless (right41 o) 41) (or_else (refused42 o) (refused43 o)))

unfoldable pub checked : List ℕ → Checked
checked bytes = checked_object (read_object bytes)

abbrev pub verdict : Checked → Refusal
verdict (refused r) = r
verdict (passed o table) = accepted

-- the call `check`
unfoldable pub checking : List ℕ → Refusal
checking bytes = verdict (checked bytes)

-- ---- the state as it is lent, and 50 to 52

-- index, height, drop mark and the stack's forty places, the lowest first
pub record Lent : Type 0 where
  pub index : ℕ
  pub height : ℕ
  pub mark : ℕ
  pub places : List ℤ

unfoldable pub taken : Lent → List ℤ → Devices → State
taken l store devices = going_to l.index (with_stack (reverse (take l.height l.places)) (with_mark l.mark (fresh store devices)))

-- places above the height come back 0
unfoldable pub given : State → Lent
given t =
    record {
      index = t.index;
      height = length t.stack;
      mark = t.mark;
      places = reverse t.stack ++ replicate (limits.stack - length t.stack) (pos 0);
    }

unfoldable pub right50 : Object → List ℤ → Bool
right50 o store = leb o.cells (length store)

unfoldable pub right51 : Object → List ℤ → Bool
right51 o store = all (fits (rule_of o)) (take o.cells store)

-- reachable, at its height, its stack within k digits, its mark of the code or 0
unfoldable pub right52 : Object → List ℕ → Lent → Bool
right52 o table l =
    ltb l.index (length o.code) && (leb (height_at table l.index) limits.stack && (eqb l.height (height_at table l.index) &&
    (all (fits (rule_of o)) (take l.height l.places) && leb l.mark (length o.code))))

-- the lowest number that a store and a state are refused by
abbrev pub refused50to52 : Object → List ℕ → List ℤ → Lent → Option Refusal
refused50to52 o table store l = or_else (unless (right50 o store) 50) (or_else (unless (right51 o store) 51) (unless (right52 o table l) 52))

-- ---- run and bench run

-- the sequence number of the last entry with an address at or before that of a mark, else 0
abbrev pub last_at : List Line → ℕ → ℕ → ℕ
last_at [] address found = found
last_at (l ∷ ls) address found = last_at ls address (cond (leb l.address address) l.sequence found)

unfoldable pub sequence_of : List Line → ℕ → ℕ
sequence_of lines zero = 0
sequence_of lines (suc address) = last_at lines address 0

-- all that a run answers and leaves
pub record Ran : Type 0 where
  pub refusal : Refusal
  pub halt : ℕ
  pub steps : ℕ
  pub sequence : ℕ
  pub lent : Lent
  pub store : List ℤ
  -- cards taken and lines written by this call, and what was lent for lines
  pub cards_taken : ℕ
  pub lines_written : ℕ
  pub lines : List ℕ

-- a refusal changes nothing that was lent
abbrev pub not_run : Refusal → Lent → List ℤ → Trays → Ran
not_run r l store trays =
    record { refusal = r; halt = 0; steps = 0; sequence = 0; lent = l; store = store; cards_taken = 0; lines_written = 0; lines = trays.lines }

-- with another store
abbrev pub ran_with : List ℤ → Ran → Ran
ran_with store r =
    record {
      refusal = r.refusal;
      halt = r.halt;
      steps = r.steps;
      sequence = r.sequence;
      lent = r.lent;
      store = store;
      cards_taken = r.cards_taken;
      lines_written = r.lines_written;
      lines = r.lines;
    }

abbrev pub halted : ℕ → ℕ → Object → Trays → State → Ran
halted h n o trays t =
    record {
      refusal = accepted;
      halt = h;
      steps = n;
      sequence = sequence_of o.lines t.mark;
      lent = given t;
      store = t.store;
      cards_taken = length (cards_of trays.cards) - length t.devices.cards;
      lines_written = length t.devices.paper.lines;
      lines = lines_after t.devices.paper.lines trays.lines;
    }

-- halt 2 where the allowance is used
abbrev pub ran : Object → Trays → ℕ → Out State → Ran
ran o trays n (go t) = halted 2 n o trays t
ran o trays n (halt h t) = halted (halt_number h) n o trays t

abbrev pub run_from : Object → Trays → (State → Out State) → ℕ → State → Ran
run_from o trays f allowance t = ran o trays (steps f allowance t) (run f allowance t)

abbrev pub or_refused : Option Refusal → Lent → List ℤ → Trays → Ran → Ran
or_refused (some r) l store trays a = not_run r l store trays
or_refused none l store trays a = a

abbrev pub run_checked : Checked → List ℤ → Lent → Trays → ℕ → Ran
run_checked (refused r) store l trays allowance = not_run r l store trays
run_checked (passed o table) store l trays allowance =
    or_refused (refused50to52 o table store l) l store trays (run_from o trays (step o) allowance (taken l store (devices_of trays)))

-- the call `run`
unfoldable pub running : List ℕ → List ℤ → Lent → Trays → ℕ → Ran
running bytes store l trays allowance = run_checked (checked bytes) store l trays allowance

abbrev pub bench_object : Option Object → List ℤ → Lent → Trays → ℕ → Ran
bench_object none store l trays allowance = not_run (refusal 40 0 0) l store trays
bench_object (some o) store l trays allowance =
    or_refused (or_else (unless (right41 o) 41) (or_else (unless (right50 o store) 50) (unless (right51 o store) 51))) l store trays
    (run_from o trays (bench_step o) allowance (fresh store (devices_of trays)))

-- The call `bench`: it starts fresh; what was lent for the state takes the state after it.
unfoldable pub benching : List ℕ → List ℤ → Lent → Trays → ℕ → Ran
benching bytes store l trays allowance = bench_object (read_object bytes) store l trays allowance

-- ---- the map: body 7

unfoldable pub map_of : Object → List ℕ
map_of o = bytes_of (concat (map name_words o.names))

abbrev pub map_checked : Checked → List ℕ → Written
map_checked (refused r) table = not_written r table
map_checked (passed o heights) table = write no_room (map_of o) table

-- the call `map`
unfoldable pub mapping : List ℕ → List ℕ → Written
mapping bytes table = map_checked (checked bytes) table
