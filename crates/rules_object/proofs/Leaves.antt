-- What is true of the store and the devices before a step, and stays so where a cell is set that it touches, cards are taken or lines are printed, is true after it.
-- Assumes nothing.
use mathlib.Core.Path.{◌≡◌, refl}
use mathlib.Core.Logic.{inl, inr}
use mathlib.Core.Bool.{Bool, true, false, ◌&&◌, cond}
use mathlib.Core.List.{List}
use mathlib.Core.Option.{Option, none, some}
use Prim.Native.Nat.{ℕ, zero, suc, ◌+◌}
use lib.ListN.{get_or, set}
use lib.IntN.{ℤ}
use Rattle.number.specs.Number.{Rule, Result, value, apply, trouble}
use Rattle.rules_shared.specs.Runs.{go, halt, then, run}
use Rattle.rules_shared.specs.Choose.{exit, positive, all_positive, Turn, again, over, turn}
use Rattle.rules_formats.specs.Walk.{Columns, Devices, with_cards, with_paper, Outcome, fine, Paper, Taken, prints, reads}
use Rattle.rules_formats.specs.Walk as walk
use Rattle.rules_formats.proofs.Kept.{Holds, KeepsP, reads_keep}
use Rattle.rules_formats.proofs.Lengths.{LastOf, ReadsRight, reads_right, Printed, PrintsRight, prints_right}
use Rattle.rules_object.specs.Halts.{bad_stack, bad_instruction, Out}
use Rattle.rules_object.specs.Object.{Element, Loop, Object, rule_of}
use Rattle.rules_object.specs.Check.{in_code}
use Rattle.rules_object.specs.Operations.{Instr, HLT, CON, LOD, STO, LDE, STE, OP, NEG, JMP, BR3, BRC, DOI, DOE, READ, PRINT, right43, entry_right, instruction}
use Rattle.rules_object.specs.Machine.{State, cell, top, under, operated, place_of, element_loaded, element_stored, branched, begun, turned, ended, Spot, spots, spot_cell, store_with, spot_get, spot_set, was_read, was_printed, act, step, room, bench_step}
use Rattle.rules_object.specs.Safe.{element_cell, loop_cells, list_cells, touched_by, touches, In}
use Rattle.rules_object.specs.Promised.{came_to}
use Rattle.rules_object.proofs.Spots.{SpotIn, spots_in, spot_in}

-- taking the first of the cards, or printing below the lines so far, keeps P
pub record Goes (P : List ℤ → Devices → Type 0) : Type 0 where
  pub takes : (c : List ℤ) (d : Devices) (cs : List Columns) → LastOf d.cards cs → P c d → P c (with_cards cs d)
  pub prints : (c : List ℤ) (d : Devices) (p : Paper) → Printed d.paper p → P c d → P c (with_paper p d)

module _ (P : List ℤ → Devices → Type 0) (goes : Goes P) (t : State) (start : P t.store t.devices) where
  -- in the cells of a list
  abbrev Sets : List ℕ → Type 0
  Sets cells = (c : List ℤ) (x : ℕ) (v : ℤ) → In x cells → P c t.devices → P (set c x v) t.devices

  abbrev Leaves : Out State → Type 0
  Leaves x = P (came_to x).store (came_to x).devices

  operated_leaves : (r : Result) (s : List ℤ) → Leaves (operated r t s)
  operated_leaves (value v lost) s = start
  operated_leaves (trouble w) s = start

  loaded_leaves : (e : Element) (p : Option ℕ) → Leaves (element_loaded p e t)
  loaded_leaves e none = start
  loaded_leaves e (some p) = start

  stored_leaves : (e : Element) (p : Option ℕ) → Sets (element_cell e p) → Leaves (element_stored p e t)
  stored_leaves e none sets = start
  stored_leaves e (some p) sets = sets t.store (e.base + p) (top t.stack) (inl refl) start

  branched_leaves : (p : Option ℕ) → Leaves (branched p t)
  branched_leaves none = start
  branched_leaves (some x) = start

  begun_leaves : (b : Bool) (d : Loop) (m₁ m₂ m₃ : ℤ) → Sets (loop_cells d) → Leaves (begun b d m₁ m₂ m₃ t)
  begun_leaves false d m₁ m₂ m₃ sets = start
  begun_leaves true d m₁ m₂ m₃ sets =
      sets _ d.step m₃ (inr (inr (inl refl))) (sets _ d.limit m₂ (inr (inl refl)) (sets t.store d.variable m₁ (inl refl) start))

  turned_leaves : (r : Turn) (d : Loop) → Sets (loop_cells d) → Leaves (turned r d t)
  turned_leaves (again i) d sets = sets t.store d.variable i (inl refl) start
  turned_leaves over d sets = start

  ended_leaves : (b : Bool) (d : Loop) → Sets (loop_cells d) → Leaves (ended b d t)
  ended_leaves false d sets = start
  ended_leaves true d sets = turned_leaves (turn (cell t.store d.variable) (cell t.store d.limit) (cell t.store d.step)) d sets

  -- one number of a READ's list
  spot_leaves : (cells : List ℕ) → Sets cells → (c : List ℤ) (x : Spot) (v : ℤ) → P c t.devices → SpotIn cells x → Holds (λ s. P s t.devices) (spot_set c x v)
  unfolding spot_set
  spot_leaves cells sets c x v h i = by (spot_cell c x) (spot_in cells c x i)
    where
      by : (p : Option ℕ) → ((a : ℕ) → p ≡ some a → In a cells) → Holds (λ s. P s t.devices) (store_with c v p)
      by none f = tt
      by (some a) f = sets c a v (f a refl) h

  read_leaves : (r : Outcome (Taken (List ℤ))) → KeepsP (λ s. P s t.devices) r → ReadsRight t.devices.cards r → Leaves (was_read r t)
  read_leaves (fine r) k l = goes.takes r.store t.devices r.cards l k
  read_leaves (walk.trouble w) k l = start

  printed_leaves : (r : Outcome Paper) → PrintsRight t.devices.paper r → Leaves (was_printed r t)
  printed_leaves (fine p) q = goes.prints t.store t.devices p q start
  printed_leaves (walk.trouble w) q = start

  act_leaves : (r : Rule) (i : Instr) → Sets (touched_by i t.store) → Leaves (act r i t)
  act_leaves r (HLT x) sets = start
  act_leaves r (CON c) sets = start
  act_leaves r (LOD x) sets = start
  act_leaves r (STO x) sets = sets t.store x (top t.stack) (inl refl) start
  act_leaves r (LDE e) sets = loaded_leaves e (place_of t.store e)
  act_leaves r (STE e) sets = stored_leaves e (place_of t.store e) (λ c x v q. sets c x v (inr (inr q)))
  act_leaves r (OP f) sets = operated_leaves (apply r f (top (under t.stack)) (top t.stack)) (under (under t.stack))
  act_leaves r NEG sets = start
  act_leaves r (JMP x) sets = start
  act_leaves r (BR3 x y z) sets = start
  act_leaves r (BRC ts) sets = branched_leaves (exit ts (top t.stack))
  act_leaves r (DOI k d) sets =
      begun_leaves (all_positive (top (under (under t.stack))) (top (under t.stack)) (top t.stack)) d (top (under (under t.stack))) (top (under t.stack)) (top t.stack) sets
  act_leaves r (DOE k d) sets = ended_leaves (positive (cell t.store d.step)) d sets
  act_leaves r (READ n f is) sets =
      read_leaves (reads r.ceiling spot_get spot_set f (spots is) t.store t.devices.cards)
      (reads_keep r.ceiling spot_get spot_set (λ s. P s t.devices) (SpotIn (list_cells is)) (λ c x v h i w. spot_leaves (list_cells is) sets c x v h i) f (spots is) (spots_in is) t.store start
      t.devices.cards)
      (reads_right r.ceiling spot_get spot_set f (spots is) t.store t.devices.cards)
  act_leaves r (PRINT n f is) sets =
      printed_leaves (prints spot_get f (spots is) t.store t.devices.paper) (prints_right spot_get f (spots is) t.store t.devices.paper)

  pub step_leaves : (o : Object) → Sets (touches o t) → P (came_to (step o t)).store (came_to (step o t)).devices
  unfolding step touches
  step_leaves o sets = act_leaves (rule_of o) (instruction o t.index) sets

  -- a test of a bench run that fails leaves all as it was
  pub bench_leaves : (o : Object) → Sets (touches o t) → P (came_to (bench_step o t)).store (came_to (bench_step o t)).devices
  unfolding bench_step
  bench_leaves o sets =
      by (in_code o t.index && (right43 o (get_or o.code t.index 0) && entry_right o (get_or o.code t.index 0))) (room (instruction o t.index) t.stack)
    where
      by : (a b : Bool) → Leaves (cond a (cond b (step o t) (halt bad_stack t)) (halt bad_instruction t))
      by true true = step_leaves o sets
      by true false = start
      by false b = start

-- so it is true after a run
pub run_leaves : (P : State → Type 0) (f : State → Out State) → ((t : State) → P t → P (came_to (f t))) → (n : ℕ) (t : State) → P t → P (came_to (run f n t))
run_leaves P f keeps zero t p = p
run_leaves P f keeps (suc n) t p = on (f t) (keeps t p) (run_leaves P f keeps n)
  where
    on : (x : Out State) → P (came_to x) → ((u : State) → P u → P (came_to (run f n u))) → P (came_to (then x (λ u. run f n u)))
    on (go u) q more = more u q
    on (halt h u) q more = q
