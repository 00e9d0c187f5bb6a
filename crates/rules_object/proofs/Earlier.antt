-- Lines printed before do not matter to a run: it does the same below them. And what a run leaves of its cards and its room is of those lent.
-- Assumes nothing.
use mathlib.Core.Path.{◌≡◌, refl, ap, ◌∙◌}
use mathlib.Core.Bool.{Bool, true, false}
use mathlib.Core.List.{List}
use mathlib.Core.Option.{Option, none, some}
use Prim.Native.Nat.{ℕ}
use lib.IntN.{ℤ}
use Rattle.number.specs.Number.{Rule, Result, value, apply, trouble}
use Rattle.rules_shared.specs.Runs.{run, steps}
use Rattle.rules_shared.specs.Choose.{exit, positive, all_positive, Turn, again, over, turn}
use Rattle.rules_formats.specs.Walk.{Columns, with_paper, Trays, Outcome, fine, Paper, Taken, prints, reads}
use Rattle.rules_formats.specs.Walk as walk
use Rattle.rules_formats.proofs.Lengths.{after, after_all, prints_after}
use Rattle.rules_formats.proofs.Resume.{Used, used_cards, used_paper}
use Rattle.rules_object.specs.Halts.{Out}
use Rattle.rules_object.specs.Object.{Element, Loop, Object, rule_of}
use Rattle.rules_object.specs.Operations.{Instr, HLT, CON, LOD, STO, LDE, STE, OP, NEG, JMP, BR3, BRC, DOI, DOE, READ, PRINT, instruction}
use Rattle.rules_object.specs.Machine.{State, cell, top, under, operated, place_of, element_loaded, element_stored, branched, begun, turned, ended, spots, spot_get, spot_set, was_read, was_printed, act, step, bench_step, with_devices}
use Rattle.rules_object.specs.Promised.{came_to}
use Rattle.rules_shared.proofs.RunLaws.{map_out, run_map, steps_map}
use Rattle.rules_object.proofs.Leaves.{Goes, step_leaves, bench_leaves, run_leaves}

-- the state with more lines before those so far
abbrev pub below : List Columns → State → State
below earlier t = with_devices (with_paper (after earlier t.devices.paper) t.devices) t

module _ (earlier : List Columns) (t : State) where
  abbrev Same : (State → Out State) → Type 0
  Same f = f (below earlier t) ≡ map_out (below earlier) (f t)

  operated_same : (r : Result) (s : List ℤ) → Same (λ u. operated r u s)
  operated_same (value v lost) s = refl
  operated_same (trouble w) s = refl

  loaded_same : (p : Option ℕ) (e : Element) → Same (element_loaded p e)
  loaded_same none e = refl
  loaded_same (some p) e = refl

  stored_same : (p : Option ℕ) (e : Element) → Same (element_stored p e)
  stored_same none e = refl
  stored_same (some p) e = refl

  branched_same : (p : Option ℕ) → Same (branched p)
  branched_same none = refl
  branched_same (some a) = refl

  begun_same : (b : Bool) (d : Loop) (m₁ m₂ m₃ : ℤ) → Same (begun b d m₁ m₂ m₃)
  begun_same true d m₁ m₂ m₃ = refl
  begun_same false d m₁ m₂ m₃ = refl

  turned_same : (r : Turn) (d : Loop) → Same (turned r d)
  turned_same (again i) d = refl
  turned_same over d = refl

  ended_same : (b : Bool) (d : Loop) → Same (ended b d)
  ended_same true d = turned_same (turn (cell t.store d.variable) (cell t.store d.limit) (cell t.store d.step)) d
  ended_same false d = refl

  read_same : (r : Outcome (Taken (List ℤ))) → Same (was_read r)
  read_same (fine r) = refl
  read_same (walk.trouble w) = refl

  printed_same : (r : Outcome Paper) → was_printed (after_all earlier r) (below earlier t) ≡ map_out (below earlier) (was_printed r t)
  printed_same (fine p) = refl
  printed_same (walk.trouble w) = refl

  act_same : (r : Rule) (i : Instr) → Same (act r i)
  act_same r (HLT x) = refl
  act_same r (CON c) = refl
  act_same r (LOD a) = refl
  act_same r (STO a) = refl
  act_same r (LDE e) = loaded_same (place_of t.store e) e
  act_same r (STE e) = stored_same (place_of t.store e) e
  act_same r (OP o) = operated_same (apply r o (top (under t.stack)) (top t.stack)) (under (under t.stack))
  act_same r NEG = refl
  act_same r (JMP a) = refl
  act_same r (BR3 a b c) = refl
  act_same r (BRC exits) = branched_same (exit exits (top t.stack))
  act_same r (DOI n d) =
      begun_same (all_positive (top (under (under t.stack))) (top (under t.stack)) (top t.stack)) d (top (under (under t.stack))) (top (under t.stack)) (top t.stack)
  act_same r (DOE n d) = ended_same (positive (cell t.store d.step)) d
  act_same r (READ n f is) = read_same (reads r.ceiling spot_get spot_set f (spots is) t.store t.devices.cards)
  act_same r (PRINT n f is) =
      ap (λ p. was_printed p (below earlier t)) (prints_after spot_get f (spots is) t.store earlier t.devices.paper)
      ∙ printed_same (prints spot_get f (spots is) t.store t.devices.paper)

module _ (o : Object) (earlier : List Columns) where
  step_below : (t : State) → step o (below earlier t) ≡ map_out (below earlier) (step o t)
  unfolding step
  step_below t = act_same earlier t (rule_of o) (instruction o t.index)

  pub run_below : (n : ℕ) (t : State) → run (step o) n (below earlier t) ≡ map_out (below earlier) (run (step o) n t)
  run_below n t = run_map (λ u. Unit {0}) (step o) (λ u v p e. tt) (below earlier) (step o) (λ u p. step_below u) n t tt

  pub steps_below : (n : ℕ) (t : State) → steps (step o) n (below earlier t) ≡ steps (step o) n t
  steps_below n t = steps_map (λ u. Unit {0}) (step o) (λ u v p e. tt) (below earlier) (step o) (λ u p. step_below u) n t tt

-- the devices of a run, and of a bench run, are of those lent
uses : (trays : Trays) → Goes (λ c d. Used trays d)
uses trays = record { takes = λ c d cs l h. used_cards h l; prints = λ c d p q h. used_paper h q }

module _ (o : Object) (trays : Trays) where
  pub run_used : (n : ℕ) (t : State) → Used trays t.devices → Used trays (came_to (run (step o) n t)).devices
  run_used = run_leaves (λ t. Used trays t.devices) (step o) (λ t u. step_leaves (λ c d. Used trays d) (uses trays) t u o (λ c x v q h. h))

  pub bench_used : (n : ℕ) (t : State) → Used trays t.devices → Used trays (came_to (run (bench_step o) n t)).devices
  bench_used = run_leaves (λ t. Used trays t.devices) (bench_step o) (λ t u. bench_leaves (λ c d. Used trays d) (uses trays) t u o (λ c x v q h. h))
