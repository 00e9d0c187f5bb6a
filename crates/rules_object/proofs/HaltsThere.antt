-- A halt leaves all as before its instruction, in a run and in a bench run.
-- Assumes nothing.
use mathlib.Core.Path.{◌≡◌, refl, subst}
use mathlib.Core.Bool.{Bool, true, false, ◌&&◌, cond}
use mathlib.Core.List.{List}
use mathlib.Core.Option.{Option, none, some}
use Prim.Native.Nat.{ℕ}
use lib.ListN.{get_or}
use lib.IntN.{ℤ}
use Rattle.number.specs.Number.{Rule, Result, value, trouble, apply}
use Rattle.rules_shared.specs.Runs.{go, halt}
use Rattle.rules_object.specs.Halts.{Halt, bad_stack, bad_instruction, Out}
use Rattle.rules_shared.specs.Choose.{exit, positive, all_positive, Turn, again, over, turn}
use Rattle.rules_formats.specs.Walk.{Outcome, fine, Paper, Taken, prints, reads}
use Rattle.rules_formats.specs.Walk as walk
use Rattle.rules_object.specs.Object.{Element, Loop, Object, rule_of}
use Rattle.rules_object.specs.Check.{in_code}
use Rattle.rules_object.specs.Operations.{Instr, HLT, CON, LOD, STO, LDE, STE, OP, NEG, JMP, BR3, BRC, DOI, DOE, READ, PRINT, right43, instruction, entry_right}
use Rattle.rules_object.specs.Machine.{State, cell, top, under, operated, place_of, element_loaded, element_stored, branched, begun, turned, ended, spots, spot_get, spot_set, was_read, was_printed, act, step, room, bench_step}

module _ (t : State) where
  -- going on, or halted at t
  abbrev There : Out State → Type 0
  There (go u) = Unit {0}
  There (halt h u) = u ≡ t

  operated_there : (r : Result) (s : List ℤ) → There (operated r t s)
  operated_there (value v lost) s = tt
  operated_there (trouble w) s = refl

  loaded_there : (p : Option ℕ) (e : Element) → There (element_loaded p e t)
  loaded_there none e = refl
  loaded_there (some p) e = tt

  stored_there : (p : Option ℕ) (e : Element) → There (element_stored p e t)
  stored_there none e = refl
  stored_there (some p) e = tt

  branched_there : (p : Option ℕ) → There (branched p t)
  branched_there none = refl
  branched_there (some a) = tt

  begun_there : (b : Bool) (d : Loop) (m₁ m₂ m₃ : ℤ) → There (begun b d m₁ m₂ m₃ t)
  begun_there true d m₁ m₂ m₃ = tt
  begun_there false d m₁ m₂ m₃ = refl

  turned_there : (r : Turn) (d : Loop) → There (turned r d t)
  turned_there (again i) d = tt
  turned_there over d = tt

  ended_there : (b : Bool) (d : Loop) → There (ended b d t)
  ended_there true d = turned_there (turn (cell t.store d.variable) (cell t.store d.limit) (cell t.store d.step)) d
  ended_there false d = refl

  read_there : (r : Outcome (Taken (List ℤ))) → There (was_read r t)
  read_there (fine r) = tt
  read_there (walk.trouble w) = refl

  printed_there : (r : Outcome Paper) → There (was_printed r t)
  printed_there (fine p) = tt
  printed_there (walk.trouble w) = refl

  act_there : (r : Rule) (i : Instr) → There (act r i t)
  act_there r (HLT x) = refl
  act_there r (CON c) = tt
  act_there r (LOD a) = tt
  act_there r (STO a) = tt
  act_there r (LDE e) = loaded_there (place_of t.store e) e
  act_there r (STE e) = stored_there (place_of t.store e) e
  act_there r (OP o) = operated_there (apply r o (top (under t.stack)) (top t.stack)) (under (under t.stack))
  act_there r NEG = tt
  act_there r (JMP a) = tt
  act_there r (BR3 a b c) = tt
  act_there r (BRC exits) = branched_there (exit exits (top t.stack))
  act_there r (DOI n d) = begun_there (all_positive (top (under (under t.stack))) (top (under t.stack)) (top t.stack)) d (top (under (under t.stack))) (top (under t.stack)) (top t.stack)
  act_there r (DOE n d) = ended_there (positive (cell t.store d.step)) d
  act_there r (READ n f is) = read_there (reads r.ceiling spot_get spot_set f (spots is) t.store t.devices.cards)
  act_there r (PRINT n f is) = printed_there (prints spot_get f (spots is) t.store t.devices.paper)

module _ (o : Object) (t : State) where
  there : There t (step o t)
  unfolding step
  there = act_there t (rule_of o) (instruction o t.index)

  guarded_there : There t (bench_step o t)
  unfolding bench_step
  guarded_there =
      by (in_code o t.index && (right43 o (get_or o.code t.index 0) && entry_right o (get_or o.code t.index 0))) (room (instruction o t.index) t.stack)
    where
      by : (a b : Bool) → There t (cond a (cond b (step o t) (halt bad_stack t)) (halt bad_instruction t))
      by true true = there
      by true false = refl
      by false b = refl

  pub step_there : (u : State) (h : Halt) → step o t ≡ halt h u → u ≡ t
  step_there u h e = subst (There t) e there

  pub bench_there : (u : State) (h : Halt) → bench_step o t ≡ halt h u → u ≡ t
  bench_there u h e = subst (There t) e guarded_there
