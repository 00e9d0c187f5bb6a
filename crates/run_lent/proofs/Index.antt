-- A bench run stays in the code or just past it: the index after it is at most the count of instructions.
-- Assumes nothing.
use mathlib.Core.Path.{◌≡◌, refl, ◌∙◌, subst}
use mathlib.Core.Bool.{Bool, true, false, ◌&&◌, cond}
use mathlib.Core.List.{List, [], ◌∷◌}
use mathlib.Core.Option.{Option, none, some}
use Prim.Native.Nat.{ℕ, zero, suc, ◌+◌, ◌-◌, ◌≤◌, ◌<◌}
use native.Mathlib.Omega.{arith}
use lib.Dec.{ltb, leb}
use lib.ListN.{length, get_or, get_elem?, take, drop, length-drop}
use lib.Seq.{length-take-le, get_or-take, get_or-drop}
use lib.IntN.{ℤ, pos, negsuc, neg_ℤ}
use borrow.Author.Tests.{ltb-true, leb-true}
use Rattle.number.specs.Number.{Rule, Op, add, sub, mul, div, Result, value, trouble, apply}
use Rattle.rules_shared.specs.Limits.{limits}
use Rattle.rules_shared.specs.Lists.{Each, each_none, each_more}
use Rattle.rules_formats.specs.Walk.{Devices, Trays, Paper, Taken, Outcome, fine, prints, reads}
use Rattle.rules_formats.specs.Walk as walk
use Rattle.rules_object.specs.Object.{Element, Loop, Object, rule_of}
use Rattle.rules_object.specs.Check.{in_code, in_cells, right_loop}
use Rattle.rules_object.specs.Operations.{Instr, HLT, CON, LOD, STO, LDE, STE, OP, NEG, JMP, BR3, BRC, DOI, DOE, READ, PRINT, operation_of, operand_of, no_loop, Operation, operations, unknown, decode, targets, exit_at, right43, entry_right, pops, pushes, instruction}
use Rattle.rules_object.specs.Machine.{State, top, under, cell, operated, place_of, element_loaded, element_stored, branched, begun, turned, ended, spots, spot_get, spot_set, was_printed, was_read, act, step, room, bench_step}
use Rattle.rules_object.proofs.States.{state}
use Rattle.rules_shared.specs.Runs.{go, halt, then, run, steps}
use Rattle.rules_object.specs.Halts.{bad_stack, bad_instruction, Out}
use Rattle.rules_shared.specs.Choose.{sign3, exit, positive, all_positive, Turn, again, over, turn}
use Rattle.rules_object.specs.Calls.{Lent, given, ran, run_from}
use Rattle.rules_object.proofs.Passed.{both}

module _ (o : Object) where
  -- a target, where there is one, is in the code
  abbrev Some : Option ℕ → Type 0
  Some none = Unit {0}
  Some (some a) = a < length o.code

  target : (ts : List ℕ) (k : ℕ) → targets o ts ≡ true → Some (get_elem? ts k)
  target [] k e = tt
  target (t ∷ ts) zero e = ltb-true _ _ (both (in_code o t) _ e).0
  target (t ∷ ts) (suc k) e = target ts k (both (in_code o t) _ e).1

  at_target : (ts : List ℕ) (k : ℕ) → k < length ts → targets o ts ≡ true → get_or ts k 0 < length o.code
  at_target [] k l e = absurd (omega arith)
  at_target (t ∷ ts) zero l e = ltb-true _ _ (both (in_code o t) _ e).0
  at_target (t ∷ ts) (suc k) l e = at_target ts k (omega arith) (both (in_code o t) _ e).1

  exits_in_lem : (ts : List ℕ) (v : ℤ) → targets o ts ≡ true → Some (exit ts v)
  exits_in_lem ts (pos zero) e = tt
  exits_in_lem ts (pos (suc k)) e = target ts k e
  exits_in_lem ts (negsuc k) e = tt

  -- where an instruction's operand leads
  abbrev Near : Instr → Type 0
  Near (HLT x) = Unit {0}
  Near (CON c) = Unit {0}
  Near (LOD a) = Unit {0}
  Near (STO a) = Unit {0}
  Near (LDE e) = Unit {0}
  Near (STE e) = Unit {0}
  Near (OP p) = Unit {0}
  Near NEG = Unit {0}
  Near (JMP a) = a < length o.code
  Near (BR3 a b c) = (a < length o.code) × ((b < length o.code) × (c < length o.code))
  Near (BRC ts) = targets o ts ≡ true
  Near (DOI n d) = Unit {0}
  Near (DOE n d) = d.body < length o.code
  Near (READ n f list) = Unit {0}
  Near (PRINT n f list) = Unit {0}

  -- ---- one instruction

  pub record Low (u : State) : Type 0 where
    pub index : u.index ≤ length o.code
    pub height : length u.stack ≤ 40

  abbrev Inside : Out State → Type 0
  Inside (go u) = Low u
  Inside (halt h u) = Low u

  length_under : (s : List ℤ) → length (under s) ≡ length s - 1
  length_under [] = refl
  length_under (v ∷ s) = omega arith

  module _ (t : State) (l : t.index < length o.code) (low : length t.stack ≤ 40) where
    stays : Low t
    stays = record { index = omega arith; height = low }

    onward : (s c : List ℤ) (m : ℕ) (v : Devices) → length s ≤ 40 → Low (state (suc t.index) s c m v)
    onward s c m v h = record { index = omega arith; height = h }

    goes : (a : ℕ) (s c : List ℤ) (m : ℕ) (v : Devices) → a ≤ length o.code → length s ≤ 40 → Low (state a s c m v)
    goes a s c m v h k = record { index = h; height = k }

    one : length (under t.stack) ≤ 40
    one = omega (arith, length_under t.stack)

    operated_in : (r : Result) (s : List ℤ) → suc (length s) ≤ 40 → Inside (operated r t s)
    operated_in (value v lost) s h = onward (v ∷ s) _ _ _ h
    operated_in (trouble w) s h = stays

    loaded_in : (p : Option ℕ) (e : Element) → suc (length t.stack) ≤ 40 → Inside (element_loaded p e t)
    loaded_in none e h = stays
    loaded_in (some p) e h = onward _ _ _ _ h

    stored_in : (p : Option ℕ) (e : Element) → Inside (element_stored p e t)
    stored_in none e = stays
    stored_in (some p) e = onward (under t.stack) _ _ _ one

    branched_in : (p : Option ℕ) → Some p → Inside (branched p t)
    branched_in none s = stays
    branched_in (some a) s = goes a (under t.stack) _ _ _ (omega arith) one

    sign_in : (v : ℤ) (a b c : ℕ) → Near (BR3 a b c) → sign3 v a b c ≤ length o.code
    sign_in (negsuc n) a b c h = omega (arith, h.0)
    sign_in (pos zero) a b c h = omega (arith, h.1.0)
    sign_in (pos (suc n)) a b c h = omega (arith, h.1.1)

    begun_in : (b : Bool) (d : Loop) (x y z : ℤ) → Inside (begun b d x y z t)
    begun_in true d x y z = onward _ _ _ _ (omega (arith, length_under t.stack, length_under (under t.stack), length_under (under (under t.stack))))
    begun_in false d x y z = stays

    turned_in : (u : Turn) (d : Loop) → d.body < length o.code → Inside (turned u d t)
    turned_in (again i) d h = goes d.body t.stack _ _ _ (omega arith) low
    turned_in over d h = onward t.stack _ _ _ low

    ended_in : (b : Bool) (d : Loop) → d.body < length o.code → Inside (ended b d t)
    ended_in true d h = turned_in (turn (cell t.store d.variable) (cell t.store d.limit) (cell t.store d.step)) d h
    ended_in false d h = stays

    read_in : (b : Outcome (Taken (List ℤ))) → Inside (was_read b t)
    read_in (fine r) = onward t.stack _ _ _ low
    read_in (walk.trouble w) = stays

    printed_in : (b : Outcome Paper) → Inside (was_printed b t)
    printed_in (fine p) = onward t.stack _ _ _ low
    printed_in (walk.trouble w) = stays

    act_in : (r : Rule) (i : Instr) → Near i → pops i ≤ length t.stack → length t.stack - pops i + pushes i ≤ 40 → Inside (act r i t)
    act_in r (HLT x) h p q = stays
    act_in r (CON c) h p q = onward _ _ _ _ (omega arith)
    act_in r (LOD a) h p q = onward _ _ _ _ (omega arith)
    act_in r (STO a) h p q = onward (under t.stack) _ _ _ one
    act_in r (LDE e) h p q = loaded_in (place_of t.store e) e (omega arith)
    act_in r (STE e) h p q = stored_in (place_of t.store e) e
    act_in r (OP f) h p q =
        operated_in (apply r f (top (under t.stack)) (top t.stack)) (under (under t.stack)) (by f p q)
      where
        by : (f : Op) → pops (OP f) ≤ length t.stack → length t.stack - pops (OP f) + pushes (OP f) ≤ 40 → suc (length (under (under t.stack))) ≤ 40
        by add p q = omega (arith, length_under t.stack, length_under (under t.stack))
        by sub p q = omega (arith, length_under t.stack, length_under (under t.stack))
        by mul p q = omega (arith, length_under t.stack, length_under (under t.stack))
        by div p q = omega (arith, length_under t.stack, length_under (under t.stack))
    act_in r NEG h p q = onward (neg_ℤ (top t.stack) ∷ under t.stack) _ _ _ (omega (arith, length_under t.stack))
    act_in r (JMP a) h p q = goes a t.stack _ _ _ (omega arith) low
    act_in r (BR3 a b c) h p q = goes (sign3 (top t.stack) a b c) (under t.stack) _ _ _ (sign_in (top t.stack) a b c h) one
    act_in r (BRC ts) h p q = branched_in (exit ts (top t.stack)) (exits_in_lem ts (top t.stack) h)
    act_in r (DOI n d) h p q = begun_in (all_positive (top (under (under t.stack))) (top (under t.stack)) (top t.stack)) d _ _ _
    act_in r (DOE n d) h p q = ended_in (positive (cell t.store d.step)) d h
    act_in r (READ n f list) h p q = read_in (reads r.ceiling spot_get spot_set f (spots list) t.store t.devices.cards)
    act_in r (PRINT n f list) h p q = printed_in (prints spot_get f (spots list) t.store t.devices.paper)

  -- ---- by operation: the tests of 43 and 42 keep every target in the code

  abbrev StaysNear : Operation → Type 0
  StaysNear p = (x : ℕ) → p.operand_right o x ≡ true → p.entry_right o x ≡ true → Near (p.says o x)

  near_at : (ps : List Operation) → Each StaysNear ps → (op : ℕ) → StaysNear (get_or ps op unknown)
  near_at [] n op x f e = tt
  near_at (p ∷ ps) (each_more g r) zero x f e = g x f e
  near_at (p ∷ ps) (each_more g r) (suc op) x f e = near_at ps r op x f e

  three : (x : ℕ) → (ltb (x + 2) (length o.exits) && targets o (take 3 (drop x o.exits))) ≡ true
      → Near (BR3 (get_or o.exits x 0) (get_or o.exits (x + 1) 0) (get_or o.exits (x + 2) 0))
  three x q =
      let b = both (ltb (x + 2) (length o.exits)) _ q in
      let l : x + 2 < length o.exits = ltb-true _ _ b.0 in
      let ts : List ℕ = take 3 (drop x o.exits) in
      let k : length ts ≡ 3 = length-take-le 3 (drop x o.exits) (omega (arith, length-drop x o.exits)) in
      let is : (j : ℕ) → j < 3 → get_or ts j 0 ≡ get_or o.exits (x + j) 0 = λ j h. get_or-take 3 (drop x o.exits) j 0 h ∙ get_or-drop x o.exits j 0 in
      let zero_in : get_or o.exits (x + 0) 0 < length o.code = subst (λ (a : ℕ). a < length o.code) (is 0 (omega arith)) (at_target ts 0 (omega arith) b.1) in
      let z : x + 0 ≡ x = omega arith in (
        subst (λ (a : ℕ). get_or o.exits a 0 < length o.code) z zero_in,
        (
          subst (λ (a : ℕ). a < length o.code) (is 1 (omega arith)) (at_target ts 1 (omega arith) b.1),
          subst (λ (a : ℕ). a < length o.code) (is 2 (omega arith)) (at_target ts 2 (omega arith) b.1),
        ),
      )

  many : (x n : ℕ) (a b c : Bool) → (a && (b && (c && targets o (take n (drop (x + 1) o.exits))))) ≡ true → targets o (take n (drop (x + 1) o.exits)) ≡ true
  many x n a b c q = (both c _ (both b _ (both a _ q).1).1).1

  body_in_lem : (d : Loop) → right_loop o d ≡ true → d.body < length o.code
  unfolding right_loop
  body_in_lem d q = ltb-true _ _ (both (in_cells o d.step) _ (both (in_cells o d.limit) _ (both (in_cells o d.variable) _ q).1).1).1

  all_near : Each StaysNear operations
  all_near =
      each_more (λ x f e. tt)
      (each_more (λ x f e. tt)
      (each_more (λ x f e. tt)
      (each_more (λ x f e. tt)
      (each_more (λ x f e. tt)
      (each_more (λ x f e. tt)
      (each_more (λ x f e. tt)
      (each_more (λ x f e. tt)
      (each_more (λ x f e. tt)
      (each_more (λ x f e. tt)
      (each_more (λ x f e. tt)
      (each_more (λ x f e. ltb-true _ _ f)
      (each_more (λ x f e. three x f)
      (each_more (λ x f e. many x (exit_at o x) (leb limits.fewest_exits (exit_at o x)) (leb (exit_at o x) limits.most_exits) (ltb (x + exit_at o x) (length o.exits)) f)
      (each_more (λ x f e. tt)
      (each_more (λ x f e. body_in_lem (get_or o.dos x no_loop) e)
      (each_more (λ x f e. tt)
      (each_more (λ x f e. tt) each_none)))))))))))))))))

  -- ---- a step, and a run

  step_in : (t : State) → Low t → in_code o t.index ≡ true → right43 o (get_or o.code t.index 0) ≡ true → entry_right o (get_or o.code t.index 0) ≡ true
      → room (instruction o t.index) t.stack ≡ true → Inside (step o t)
  unfolding step decode right43 entry_right
  step_in t l a f e r =
      let w : ℕ = get_or o.code t.index 0 in
      let b = both (leb (pops (instruction o t.index)) (length t.stack)) _ r in
      act_in t (ltb-true _ _ a) l.height (rule_of o) (decode o w) (near_at operations all_near (operation_of w) (operand_of w) f e) (leb-true _ _ b.0) (leb-true _ _ b.1)

  bench_in : (t : State) → Low t → Inside (bench_step o t)
  unfolding bench_step
  bench_in t l = by (in_code o t.index) (right43 o (get_or o.code t.index 0)) (entry_right o (get_or o.code t.index 0)) (room (instruction o t.index) t.stack) refl refl refl refl
    where
      by : (a f e b : Bool) → in_code o t.index ≡ a → right43 o (get_or o.code t.index 0) ≡ f → entry_right o (get_or o.code t.index 0) ≡ e → room (instruction o t.index) t.stack ≡ b
          → Inside (cond (a && (f && e)) (cond b (step o t) (halt bad_stack t)) (halt bad_instruction t))
      by false f e b p q r s = l
      by true false e b p q r s = l
      by true true false b p q r s = l
      by true true true false p q r s = l
      by true true true true p q r s = step_in t l p q r s

  run_in : (n : ℕ) (t : State) → Low t → Inside (run (bench_step o) n t)
  run_in zero t l = l
  run_in (suc n) t l = by (bench_step o t) (bench_in t l) (λ u h. run_in n u h)
    where
      by : (b : Out State) → Inside b → ((u : State) → Low u → Inside (run (bench_step o) n u)) → Inside (then b (λ u. run (bench_step o) n u))
      by (go u) h more = more u h
      by (halt x u) h more = h

  -- as it is given back
  pub record Back (l : Lent) : Type 0 where
    pub index : l.index ≤ length o.code
    pub height : l.height ≤ 40

  pub stays_in : (trays : Trays) (n : ℕ) (t : State) → Low t → Back (run_from o trays (bench_step o) n t).lent
  unfolding given
  stays_in trays n t l = by (run (bench_step o) n t) (run_in n t l)
    where
      by : (b : Out State) → Inside b → Back (ran o trays (steps (bench_step o) n t) b).lent
      by (go u) h = record { index = h.index; height = h.height }
      by (halt x u) h = record { index = h.index; height = h.height }
