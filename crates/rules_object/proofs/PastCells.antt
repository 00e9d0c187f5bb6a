-- Cells past the count neither change nor matter.
-- Assumes nothing.
use mathlib.Core.Path.{◌≡◌, refl, sym, ap, ap₂, ◌∙◌}
use mathlib.Core.Bool.{Bool, true, false}
use mathlib.Core.List.{List, ◌++◌}
use mathlib.Core.Option.{Option, none, some}
use Prim.Native.Nat.{ℕ, ◌+◌, ◌*◌, ◌≤◌, ◌<◌}
use native.Mathlib.Omega.{arith}
use lib.ListN.{length, set, length-set, get_or-append}
use lib.Seq.{set-append_left}
use lib.IntN.{ℤ, pos}
use Rattle.number.specs.Number.{Rule, Result, value, apply, trouble}
use Rattle.rules_shared.specs.Runs.{go, run, steps}
use Rattle.rules_shared.specs.Lists.{Each}
use Rattle.rules_formats.specs.Walk.{with_cards, Outcome, fine, Paper, Taken, prints}
use Rattle.rules_formats.specs.Walk as walk
use Rattle.rules_formats.proofs.Simulation.{Alike, stopped, went}
use Rattle.rules_object.specs.Halts.{Out}
use Rattle.rules_shared.specs.Choose.{exit, place, positive, all_positive, Turn, again, over, turn}
use Rattle.rules_object.specs.Object.{SubscriptEntry, Element, Loop, Object, rule_of}
use Rattle.rules_object.specs.Operations.{Instr, HLT, CON, LOD, STO, LDE, STE, OP, NEG, JMP, BR3, BRC, DOI, DOE, READ, PRINT, instruction}
use Rattle.rules_object.specs.Machine.{State, cell, top, under, operated, subscript_of, place_of, element_loaded, element_stored, branched, begun, turned, ended, spots, spot_get, was_read, was_printed, act, step, going_to, with_store, with_devices, next, pushing, popping}
use Rattle.rules_object.specs.Safe.{list_cells, Stands, with_cells}
use Rattle.rules_shared.proofs.RunLaws.{map_out, run_map, steps_map}
use Rattle.rules_object.specs.Passed.{Passed}
use Rattle.rules_object.proofs.GoodWords.{GoodElement, GoodLoop, Good, word_good}
use Rattle.rules_shared.proofs.Places.{place_below}
use Rattle.rules_object.proofs.Safe.{list_touched, step_stands}
use Rattle.rules_object.proofs.Spots.{each_in, AlikeAt, list_prints, list_reads}

module _ (o : Object) (extra : List ℤ) (t : State) (long : o.cells ≤ length t.store) where
  abbrev more : Out State → Out State
  more = map_out (with_cells extra)

  same_cell : (a : ℕ) → a < o.cells → cell (t.store ++ extra) a ≡ cell t.store a
  same_cell a l = get_or-append t.store extra (pos 0) a (omega arith)

  same_set : (c : List ℤ) (a : ℕ) (v : ℤ) → length c ≡ length t.store → a < o.cells → set (c ++ extra) a v ≡ set c a v ++ extra
  same_set c a v e l = set-append_left c extra a v (omega arith)

  same_subscript : (s : SubscriptEntry) → s.cell < o.cells → subscript_of (t.store ++ extra) s ≡ subscript_of t.store s
  same_subscript s l = ap (λ (z : ℤ). record { times = s.times; variable = z; plus = s.plus }) (same_cell s.cell l)

  same_place : (e : Element) → GoodElement o e → place_of (t.store ++ extra) e ≡ place_of t.store e
  same_place e g = ap₂ (λ v w. place e.rows e.columns v w) (same_subscript e.first g.first) (same_subscript e.second g.second)

  operated_more : (r : Result) (s : List ℤ) → operated r (with_cells extra t) s ≡ more (operated r t s)
  operated_more (value v lost) s = refl
  operated_more (trouble w) s = refl

  branched_more : (p : Option ℕ) → branched p (with_cells extra t) ≡ more (branched p t)
  branched_more none = refl
  branched_more (some a) = refl

  loaded_more : (e : Element) (p : Option ℕ) → GoodElement o e → ((q : ℕ) → p ≡ some q → q < e.rows * e.columns) → element_loaded p e (with_cells extra t) ≡ more (element_loaded p e t)
  loaded_more e none g b = refl
  loaded_more e (some p) g b =
      let z = b p refl in
      let y = g.span in
      ap (λ v. go (next (pushing v (with_cells extra t)))) (same_cell (e.base + p) (omega arith))

  stored_more : (e : Element) (p : Option ℕ) → GoodElement o e → ((q : ℕ) → p ≡ some q → q < e.rows * e.columns) → element_stored p e (with_cells extra t) ≡ more (element_stored p e t)
  stored_more e none g b = refl
  stored_more e (some p) g b =
      let z = b p refl in
      let y = g.span in
      ap (λ c. go (next (popping (with_store c t)))) (same_set t.store (e.base + p) (top t.stack) refl (omega arith))

  begun_more : (b : Bool) (d : Loop) (m₁ m₂ m₃ : ℤ) → GoodLoop o d → begun b d m₁ m₂ m₃ (with_cells extra t) ≡ more (begun b d m₁ m₂ m₃ t)
  begun_more false d m₁ m₂ m₃ g = refl
  begun_more true d m₁ m₂ m₃ g =
      let c₁ = set t.store d.variable m₁ in
      let c₂ = set c₁ d.limit m₂ in
      let n₁ : length c₁ ≡ length t.store = length-set t.store d.variable m₁ in
      let n₂ : length c₂ ≡ length t.store = length-set c₁ d.limit m₂ ∙ n₁ in
      ap (λ c. go (next (popping (popping (popping (with_store c t))))))
      (ap (λ c. set (set c d.limit m₂) d.step m₃) (same_set t.store d.variable m₁ refl g.variable)
      ∙ ap (λ c. set c d.step m₃) (same_set c₁ d.limit m₂ n₁ g.limit) ∙ same_set c₂ d.step m₃ n₂ g.step)

  turned_more : (r : Turn) (d : Loop) → GoodLoop o d → turned r d (with_cells extra t) ≡ more (turned r d t)
  turned_more (again i) d g = ap (λ c. go (going_to d.body (with_store c t))) (same_set t.store d.variable i refl g.variable)
  turned_more over d g = refl

  ended_more : (b : Bool) (d : Loop) → GoodLoop o d → ended b d (with_cells extra t) ≡ more (ended b d t)
  ended_more false d g = refl
  ended_more true d g =
      ap₂ (λ v w. turned (turn v w (cell (t.store ++ extra) d.step)) d (with_cells extra t)) (same_cell d.variable g.variable) (same_cell d.limit g.limit)
      ∙ ap (λ w. turned (turn (cell t.store d.variable) (cell t.store d.limit) w) d (with_cells extra t)) (same_cell d.step g.step)
      ∙ turned_more (turn (cell t.store d.variable) (cell t.store d.limit) (cell t.store d.step)) d g

  -- the store with the extra cells behind it
  record WithExtra (c d : List ℤ) : Type 0 where
    enough : o.cells ≤ length c
    is : d ≡ c ++ extra

  extra_alike : (cells : List ℕ) → Each (λ a. a < o.cells) cells → AlikeAt cells WithExtra
  extra_alike cells low =
      record {
        same = λ c d r a h. let l = each_in a cells low h in let n = r.enough in sym (ap (λ x. cell x a) r.is ∙ get_or-append c extra (pos 0) a (omega arith));
        sets = λ c d r a v h.
            let l = each_in a cells low h in
            let n = r.enough in
            record { enough = omega (arith, length-set c a v); is = ap (λ x. set x a v) r.is ∙ set-append_left c extra a v (omega arith) };
      }

  read_more : {r r' : Outcome (Taken (List ℤ))} → Alike WithExtra r r' → was_read r' (with_cells extra t) ≡ more (was_read r t)
  read_more stopped = refl
  read_more (went {cs = cs} h) = ap (λ c. go (next (with_devices (with_cards cs t.devices) (with_store c t)))) h.is

  printed_more : (r : Outcome Paper) → was_printed r (with_cells extra t) ≡ more (was_printed r t)
  printed_more (fine p) = refl
  printed_more (walk.trouble w) = refl

  act_more : (r : Rule) (i : Instr) → Good o i → act r i (with_cells extra t) ≡ more (act r i t)
  act_more r (HLT x) g = refl
  act_more r (CON c) g = refl
  act_more r (LOD a) g = ap (λ v. go (next (pushing v (with_cells extra t)))) (same_cell a g)
  act_more r (STO a) g = ap (λ c. go (next (popping (with_store c t)))) (same_set t.store a (top t.stack) refl g)
  act_more r (LDE e) g =
      ap (λ p. element_loaded p e (with_cells extra t)) (same_place e g) ∙ loaded_more e (place_of t.store e) g (λ q z. place_below e.rows e.columns _ _ q z)
  act_more r (STE e) g =
      ap (λ p. element_stored p e (with_cells extra t)) (same_place e g) ∙ stored_more e (place_of t.store e) g (λ q z. place_below e.rows e.columns _ _ q z)
  act_more r (OP f) g = operated_more (apply r f (top (under t.stack)) (top t.stack)) (under (under t.stack))
  act_more r NEG g = refl
  act_more r (JMP a) g = refl
  act_more r (BR3 a b c) g = refl
  act_more r (BRC ts) g = branched_more (exit ts (top t.stack))
  act_more r (DOI n d) g =
      begun_more (all_positive (top (under (under t.stack))) (top (under t.stack)) (top t.stack)) d (top (under (under t.stack))) (top (under t.stack)) (top t.stack) g
  act_more r (DOE n d) g =
      ap (λ z. ended (positive z) d (with_cells extra t)) (same_cell d.step g.step) ∙ ended_more (positive (cell t.store d.step)) d g
  act_more r (READ n f is) g =
      read_more (list_reads is WithExtra (extra_alike (list_cells is) (list_touched o is g)) f t.store (t.store ++ extra) (record { enough = long; is = refl }) r.ceiling t.devices.cards)
  act_more r (PRINT n f is) g =
      ap (λ p. was_printed p (with_cells extra t))
      (sym (list_prints is WithExtra (extra_alike (list_cells is) (list_touched o is g)) f t.store (t.store ++ extra) (record { enough = long; is = refl }) t.devices.paper))
      ∙ printed_more (prints spot_get f (spots is) t.store t.devices.paper)

module _ {bytes : List ℕ} {o : Object} {table : List ℕ} (p : Passed bytes o table) (extra : List ℤ) where
  step_more : (t : State) → Stands o table t → step o (with_cells extra t) ≡ map_out (with_cells extra) (step o t)
  unfolding step
  step_more t s = act_more o extra t s.long (rule_of o) (instruction o t.index) (word_good p t.index s.inside).1

  -- the run with more cells is the run without them, and they stay as they were
  pub run_past_cells : (n : ℕ) (t : State) → Stands o table t → run (step o) n (with_cells extra t) ≡ map_out (with_cells extra) (run (step o) n t)
  run_past_cells = run_map (Stands o table) (step o) (step_stands p) (with_cells extra) (step o) step_more

  pub steps_past_cells : (n : ℕ) (t : State) → Stands o table t → steps (step o) n (with_cells extra t) ≡ steps (step o) n t
  steps_past_cells = steps_map (Stands o table) (step o) (step_stands p) (with_cells extra) (step o) step_more
