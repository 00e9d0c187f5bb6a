-- What the page of promises says of objects and runs, next to its theorems: what passes the check, what may be run, which cells a step touches, what a run's steps are.
-- Assumes nothing.
use Rattle.std.specs.Prelude.{◌≡◌, Bool, true, false, ◌&&◌, List, ℕ, ◌-◌, ◌*◌, ◌≤◌, ◌<◌, length, take, drop, ℤ}
use Rattle.std.proofs.Math.Option.{Option, none, some}
use Rattle.rules_shared.specs.Limits.{limits}
use Rattle.rules_shared.specs.Runs.{go, halt}
use Rattle.rules_formats.specs.Walk.{card_width, line_width, Trays}
use Rattle.rules_object.specs.Halts.{Out}
use Rattle.rules_object.specs.Object.{Object}
use Rattle.rules_object.specs.Check.{right41, right_constant, right_element, right_loop, right_line, right_named, right_format, right_item, right_transfer}
use Rattle.rules_object.specs.Operations.{operation_of, right43, flow_of}
use Rattle.rules_object.specs.Machine.{State, cell, step}
use Rattle.rules_object.specs.Bytes.{read_object}
use Rattle.rules_shared.specs.Lists.{Each}
use Rattle.rules_object.specs.Flow.{Reached}
use Rattle.rules_shared.specs.Refusals.{accepted}
use Rattle.rules_object.specs.Calls.{checking, Lent, right50, right51, Ran}
use Rattle.rules_object.specs.Safe.{touches, In, AgreeIn, AlikeIn, Within}

-- ---- the check

-- one of the eighteen operations, with an operand that is right for it
pub record RightWord (o : Object) (word : ℕ) : Type 0 where
  pub known : operation_of word < 18
  pub operand : right43 o word ≡ true

-- the bytes are an object that passes 41, every entry of it 42, and every word of its code 43, reached or not
pub record Judged (bytes : List ℕ) (o : Object) : Type 0 where
  pub reads : read_object bytes ≡ some o
  pub limits : right41 o ≡ true
  pub constants : Each (λ c. right_constant o c ≡ true) o.constants
  pub elements : Each (λ e. right_element o e ≡ true) o.elements
  pub dos : Each (λ d. right_loop o d ≡ true) o.dos
  pub lines : Each (λ l. right_line o l ≡ true) o.lines
  pub names : Each (λ n. right_named o n ≡ true) o.names
  pub formats : (i : ℕ) → i < length o.formats → right_format o i ≡ true
  pub items : Each (λ i. right_item o i ≡ true) o.items
  pub transfers : Each (λ t. right_transfer o t ≡ true) o.transfers
  pub code : Each (RightWord o) o.code

-- ---- what may be run

abbrev pub right_store_of : Option Object → List ℤ → Bool
right_store_of none store = false
right_store_of (some o) store = right50 o store && right51 o store

-- the store has the object's cells, each within its digits: 50 and 51 let it pass
unfoldable pub right_store : List ℕ → List ℤ → Bool
right_store bytes store = right_store_of (read_object bytes) store

-- 52 lets the state pass, in terms of paths: one comes to its index with its height; the stack's numbers are within the digits, and the mark is of the code or 0
pub record RightLent (o : Object) (l : Lent) : Type 0 where
  pub reached : Reached (flow_of o) l.index l.height
  pub stack : Each (Within o) (take l.height l.places)
  pub mark : l.mark ≤ length o.code

-- an object that passes the check, a store that 50 and 51 let pass, and a state of forty places that 52 lets pass
pub record Runnable (bytes : List ℕ) (store : List ℤ) (l : Lent) : Type 0 where
  pub passes : checking bytes ≡ accepted
  pub stored : right_store bytes store ≡ true
  pub stands : (o : Object) → read_object bytes ≡ some o → RightLent o l
  pub forty : length l.places ≡ limits.stack

-- ---- the cells that a step touches

abbrev pub came_to : Out State → State
came_to (go t) = t
came_to (halt h t) = t

-- What it does hangs on no other cell than those listed, and it changes no other.
pub record TouchesOnly (o : Object) (t : State) : Type 0 where
  pub reads : (u : State) → AgreeIn (touches o t) t u → AlikeIn (touches o t) (step o t) (step o u)
  pub writes : (a : ℕ) → (In a (touches o t) → ⊥) → cell (came_to (step o t)).store a ≡ cell t.store a
  pub long : length (came_to (step o t)).store ≡ length t.store

-- ---- what was lent for cards and lines

-- No more is taken or written than was lent; what was lent for lines comes back as long as it was, and the bytes after the lines written are as they were.
pub record InTrays (trays : Trays) (r : Ran) : Type 0 where
  pub cards : card_width * r.cards_taken ≤ length trays.cards
  pub lines : line_width * r.lines_written ≤ length trays.lines
  pub long : length r.lines ≡ length trays.lines
  pub others : drop (line_width * r.lines_written) r.lines ≡ drop (line_width * r.lines_written) trays.lines

-- ---- what a run's steps are, for runs by their allowance

-- a halt other than 2 takes a step at least and is given at the steps reported too; one step less gives halt 2, and leaves the same store, state, cards and lines
pub record HaltsAt (ran : ℕ → Ran) (a : ℕ) : Type 0 where
  pub some : 1 ≤ (ran a).steps
  pub exact : ran (ran a).steps ≡ ran a
  pub before : (ran ((ran a).steps - 1)).halt ≡ 2
  pub same_store : (ran a).store ≡ (ran ((ran a).steps - 1)).store
  pub same_lent : (ran a).lent ≡ (ran ((ran a).steps - 1)).lent
  pub same_cards : (ran a).cards_taken ≡ (ran ((ran a).steps - 1)).cards_taken
  pub same_count : (ran a).lines_written ≡ (ran ((ran a).steps - 1)).lines_written
  pub same_lines : (ran a).lines ≡ (ran ((ran a).steps - 1)).lines

-- by definition the steps are the machine's; halt 2 reports the whole allowance
pub record StepsOf (ran : ℕ → Ran) (a : ℕ) : Type 0 where
  pub whole : (ran a).halt ≡ 2 → (ran a).steps ≡ a
  pub other : ((ran a).halt ≡ 2 → ⊥) → HaltsAt ran a
