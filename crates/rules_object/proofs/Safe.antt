-- No fault: a state that stands is right, and each step from it stands again or halts there by no fault; so of whole runs. Promise 6.
-- Assumes nothing.
use mathlib.Core.Path.{◌≡◌, refl, sym, ◌∙◌, subst}
use mathlib.Core.Bool.{Bool, true, false, cond}
use mathlib.Core.List.{List, [], ◌∷◌}
use mathlib.Core.Option.{Option, none, some}
use Prim.Native.Nat.{ℕ, zero, suc, ◌+◌, ◌-◌, ◌*◌, ◌≤◌, ◌<◌}
use native.Mathlib.Omega.{arith}
use lib.ListN.{length, get_or, get_elem?, set, length-set}
use lib.IntN.{ℤ, pos, negsuc}
use Rattle.number.specs.Number.{Op, add, sub, mul, div, Loss, is_loss, by_zero, Result, value, trouble, apply}
use Rattle.number.proofs.Laws.{ResultFits, apply_fits, neg_fits}
use Rattle.rules_shared.specs.Limits.{limits}
use Rattle.rules_shared.specs.Runs.{go, halt, run}
use Rattle.rules_formats.specs.Walk.{Devices, with_cards, with_paper, Outcome, fine, Paper, Taken, prints, reads}
use Rattle.rules_formats.specs.Walk as walk
use Rattle.rules_formats.proofs.Kept.{Holds, KeepsP, reads_keep}
use Rattle.rules_object.specs.Halts.{Halt, halt_number, Out}
use Rattle.rules_shared.specs.Choose.{sign3, exit, positive, all_positive, Turn, again, over, turn, first_mark, marked}
use Rattle.rules_object.specs.Object.{Element, Loop, Object, rule_of}
use Rattle.rules_object.specs.Operations.{Listed, a_span, one_element, Instr, HLT, CON, LOD, STO, LDE, STE, OP, NEG, JMP, BR3, BRC, DOI, DOE, READ, PRINT, pops, pushes, instruction}
use Rattle.rules_object.specs.Machine.{State, cell, top, under, operated, place_of, element_loaded, element_stored, branched, begun, turned, ended, spots, spot_cell, store_with, spot_get, spot_set, halt_in, was_read, was_printed, halts, act, step, going_to, with_stack, setting}
use Rattle.rules_object.proofs.States.{state}
use Rattle.rules_object.specs.Safe.{element_cell, element_cells, cells_from, list_cells, touched_by, touches, Right, NoFaultHalt, Within, Stands}
use Rattle.rules_shared.specs.Lists.{Each, each_none, each_more}
use Rattle.rules_shared.proofs.EachLaws.{each_one, each_of, each_append}
use Rattle.rules_shared.proofs.RunLaws.{run_keeps, halted}
use Rattle.rules_shared.proofs.Places.{place_below}
use Rattle.rules_object.proofs.HaltsThere.{step_there}
use Rattle.rules_object.specs.Passed.{Passed}
use Rattle.rules_object.proofs.Numbers.{top_within, under_within, set_within, TurnWithin, turn_within, under_length}
use Rattle.rules_object.proofs.GoodWords.{GoodElement, GoodLoop, GoodListed, Good, word_good, Led, Leads, word_leads}

-- ---- one step

pub below_seven : {n : ℕ} → n < 7 → NoFaultHalt n
below_seven l = record { not_stack = λ e. omega arith; not_instruction = λ e. omega arith }

halts_fault : (x : ℕ) → NoFaultHalt (halt_number (halts x))
unfolding halt_number
halts_fault zero = below_seven (omega arith)
halts_fault (suc x) = below_seven (omega arith)

trouble_fault : (w : walk.Trouble) → NoFaultHalt (halt_number (halt_in w))
unfolding halt_number
trouble_fault walk.bad_subscript = below_seven (omega arith)
trouble_fault walk.ran_out = record { not_stack = λ e. omega arith; not_instruction = λ e. omega arith }
trouble_fault walk.bad_field = record { not_stack = λ e. omega arith; not_instruction = λ e. omega arith }

-- going on where it stands, or halted by no fault
abbrev Kept : Object → List ℕ → Out State → Type 0
Kept o H (go u) = Stands o H u
Kept o H (halt h u) = NoFaultHalt (halt_number h)

abbrev LedTo : Object → List ℕ → ℕ → Option ℕ → Type 0
LedTo o H h none = Unit {0}
LedTo o H h (some a) = Led o H a h

module _ {o : Object} {H : List ℕ} {h : ℕ} where
  sign_led : {a b c : ℕ} (z : ℤ) → Led o H a h → Led o H b h → Led o H c h → Led o H (sign3 z a b c) h
  sign_led (negsuc n) p q r = p
  sign_led (pos zero) p q r = q
  sign_led (pos (suc n)) p q r = r

  nth_led : (ts : List ℕ) (n : ℕ) → ((k : ℕ) → k < length ts → Led o H (get_or ts k 0) h) → LedTo o H h (get_elem? ts n)
  nth_led [] n f = tt
  nth_led (t ∷ ts) zero f = f 0 (omega arith)
  nth_led (t ∷ ts) (suc n) f = nth_led ts n (λ k l. f (suc k) (omega arith))

  exit_led : (ts : List ℕ) (z : ℤ) → ((k : ℕ) → k < length ts → Led o H (get_or ts k 0) h) → LedTo o H h (exit ts z)
  exit_led ts (pos zero) f = tt
  exit_led ts (pos (suc n)) f = nth_led ts n f
  exit_led ts (negsuc n) f = tt

marked_inside : (m : ℕ) (lost : Loss) (a n : ℕ) → m ≤ n → a < n → marked m lost a ≤ n
marked_inside m lost a n h l = by m (is_loss lost) h
  where
    by : (m : ℕ) (b : Bool) → m ≤ n → cond b (first_mark m a) m ≤ n
    by m false h = h
    by zero true h = omega arith
    by (suc m) true h = h

two_one : (p : Op) → (pops (OP p) ≡ 2) × (pushes (OP p) ≡ 1)
two_one add = (refl, refl)
two_one sub = (refl, refl)
two_one mul = (refl, refl)
two_one div = (refl, refl)

module _ (o : Object) (H : List ℕ) (t : State) (s : Stands o H t) where
  -- what is popped, and what is left, is within the digits
  rest₁ : Each (Within o) (under t.stack)
  rest₁ = under_within o t.stack s.stack

  rest₂ : Each (Within o) (under (under t.stack))
  rest₂ = under_within o (under t.stack) rest₁

  rest₃ : Each (Within o) (under (under (under t.stack)))
  rest₃ = under_within o (under (under t.stack)) rest₂

  top₁ : Within o (top t.stack)
  top₁ = top_within o t.stack s.stack

  top₂ : Within o (top (under t.stack))
  top₂ = top_within o (under t.stack) rest₁

  top₃ : Within o (top (under (under t.stack)))
  top₃ = top_within o (under (under t.stack)) rest₂

  -- at a state of the given stack, store, mark and devices
  arrive : (a h : ℕ) (stack store : List ℤ) (m : ℕ) (d : Devices) → Led o H a h → length stack ≡ h → Each (Within o) stack → o.cells ≤ length store → ((b : ℕ) → b < o.cells → Within o (cell store b)) → m ≤ length o.code
      → Stands o H (state a stack store m d)
  arrive a h stack store m d l e w n c k =
      let low = l.low in
      let is = l.is in
      record { inside = l.inside; height = is ∙ sym e; low = omega arith; stack = w; long = n; store = c; mark = k }

  -- the store as it is
  moves : (a h : ℕ) (stack : List ℤ) → Led o H a h → length stack ≡ h → Each (Within o) stack → Stands o H (going_to a (with_stack stack t))
  moves a h stack l e w = arrive a h stack t.store t.mark t.devices l e w s.long s.store s.mark

  -- a cell set
  writes : (a h x : ℕ) (v : ℤ) (stack : List ℤ) → Led o H a h → length stack ≡ h → Each (Within o) stack → Within o v → Stands o H (going_to a (with_stack stack (setting x v t)))
  writes a h x v stack l e w z = let n = s.long in arrive a h stack _ t.mark t.devices l e w (omega (arith, length-set t.store x v)) (set_within o t.store x v s.store z) s.mark

  operated_kept : (r : Result) (h : ℕ) → ResultFits (rule_of o) r → Led o H (suc t.index) h → length (under (under t.stack)) + 1 ≡ h → Kept o H (operated r t (under (under t.stack)))
  unfolding halt_number
  operated_kept (value v lost) h f l e =
      arrive _ h _ t.store (marked t.mark lost t.index) t.devices l (omega arith) (each_more f rest₂) s.long s.store (marked_inside t.mark lost t.index _ s.mark s.inside)
  operated_kept (trouble by_zero) h f l e = below_seven (omega arith)

  loaded_kept : (e : Element) (p : Option ℕ) (h : ℕ) → GoodElement o e → ((q : ℕ) → p ≡ some q → q < e.rows * e.columns) → Led o H (suc t.index) h → suc (length t.stack) ≡ h → Kept o H (element_loaded p e t)
  unfolding halt_number
  loaded_kept e none h g b l q = below_seven (omega arith)
  loaded_kept e (some p) h g b l q = let z = b p refl in let y = g.span in moves _ h _ l q (each_more (s.store (e.base + p) (omega arith)) s.stack)

  stored_kept : (e : Element) (p : Option ℕ) (h : ℕ) → Led o H (suc t.index) h → length (under t.stack) ≡ h → Kept o H (element_stored p e t)
  unfolding halt_number
  stored_kept e none h l q = below_seven (omega arith)
  stored_kept e (some p) h l q = writes _ h (e.base + p) (top t.stack) _ l q rest₁ top₁

  branched_kept : (p : Option ℕ) (h : ℕ) → LedTo o H h p → length (under t.stack) ≡ h → Kept o H (branched p t)
  unfolding halt_number
  branched_kept none h l q = below_seven (omega arith)
  branched_kept (some a) h l q = moves a h _ l q rest₁

  begun_kept : (b : Bool) (d : Loop) (h : ℕ) → Led o H (suc t.index) h → length (under (under (under t.stack))) ≡ h
      → Kept o H (begun b d (top (under (under t.stack))) (top (under t.stack)) (top t.stack) t)
  unfolding halt_number
  begun_kept false d h l q = below_seven (omega arith)
  begun_kept true d h l q =
      let m₁ = top (under (under t.stack)) in
      let m₂ = top (under t.stack) in
      let m₃ = top t.stack in
      let c₁ = set t.store d.variable m₁ in
      let c₂ = set c₁ d.limit m₂ in
      let n = s.long in
      arrive _ h _ (set c₂ d.step m₃) t.mark t.devices l q rest₃
      (omega (arith, length-set t.store d.variable m₁, length-set c₁ d.limit m₂, length-set c₂ d.step m₃))
      (set_within o c₂ d.step m₃ (set_within o c₁ d.limit m₂ (set_within o t.store d.variable m₁ s.store top₃) top₂) top₁) s.mark

  turned_kept : (r : Turn) (d : Loop) (h : ℕ) → TurnWithin o r → Led o H d.body h → Led o H (suc t.index) h → length t.stack ≡ h → Kept o H (turned r d t)
  turned_kept (again i) d h w l m q = writes d.body h d.variable i _ l q s.stack w
  turned_kept over d h w l m q = moves _ h _ m q s.stack

  ended_kept : (b : Bool) (d : Loop) (h : ℕ) → positive (cell t.store d.step) ≡ b → GoodLoop o d → Led o H d.body h → Led o H (suc t.index) h → length t.stack ≡ h → Kept o H (ended b d t)
  unfolding halt_number
  ended_kept false d h e g l m q = below_seven (omega arith)
  ended_kept true d h e g l m q =
      let v = cell t.store d.variable in
      let m₂ = cell t.store d.limit in
      let m₃ = cell t.store d.step in
      turned_kept (turn v m₂ m₃) d h (turn_within o v m₂ m₃ e (s.store _ g.variable) (s.store _ g.limit) (s.store _ g.step)) l m q

  -- a store with the object's cells, each within the digits
  abbrev Right51 : List ℤ → Type 0
  Right51 store = (o.cells ≤ length store) × ((a : ℕ) → a < o.cells → Within o (cell store a))

  -- a number that a READ sets is below the ceiling
  spot_kept : (store : List ℤ) (v : ℤ) (p : Option ℕ) → Right51 store → Within o v → Holds Right51 (store_with store v p)
  spot_kept store v none h w = tt
  spot_kept store v (some a) h w = let n = h.0 in (omega (arith, length-set store a v), set_within o store a v h.1 w)

  read_kept : (r : Outcome (Taken (List ℤ))) (h : ℕ) → KeepsP Right51 r → Led o H (suc t.index) h → length t.stack ≡ h → Kept o H (was_read r t)
  read_kept (fine r) h k l e = arrive _ h _ r.store t.mark (with_cards r.cards t.devices) l e s.stack k.0 k.1 s.mark
  read_kept (walk.trouble w) h k l e = trouble_fault w

  printed_kept : (r : Outcome Paper) (h : ℕ) → Led o H (suc t.index) h → length t.stack ≡ h → Kept o H (was_printed r t)
  printed_kept (fine p) h l e = arrive _ h _ t.store t.mark (with_paper p t.devices) l e s.stack s.long s.store s.mark
  printed_kept (walk.trouble w) h l e = trouble_fault w

  act_kept : (i : Instr) → Good o i → pops i ≤ length t.stack → Leads o H t.index i (length t.stack) → Kept o H (act (rule_of o) i t)
  unfolding spot_set
  act_kept (HLT x) g p l = halts_fault x
  act_kept (CON c) g p l = moves _ _ _ (l 0 (omega arith)) (omega arith) (each_more g s.stack)
  act_kept (LOD a) g p l = moves _ _ _ (l 0 (omega arith)) (omega arith) (each_more (s.store a g) s.stack)
  act_kept (STO a) g p l = writes _ _ a _ _ (l 0 (omega arith)) (omega (arith, under_length t.stack)) rest₁ top₁
  act_kept (LDE e) g p l = loaded_kept e (place_of t.store e) _ g (λ q r. place_below e.rows e.columns _ _ q r) (l 0 (omega arith)) (omega arith)
  act_kept (STE e) g p l = stored_kept e (place_of t.store e) _ (l 0 (omega arith)) (omega (arith, under_length t.stack))
  act_kept (OP f) g p l =
      let e₁ = (two_one f).0 in
      let e₂ = (two_one f).1 in
      operated_kept (apply (rule_of o) f (top (under t.stack)) (top t.stack)) _ (apply_fits (rule_of o) f _ _ top₂) (l 0 (omega arith))
      (omega (arith, under_length t.stack, under_length (under t.stack)))
  act_kept NEG g p l = moves _ _ _ (l 0 (omega arith)) (omega (arith, under_length t.stack)) (each_more (neg_fits (rule_of o) (top t.stack) top₁) rest₁)
  act_kept (JMP a) g p l = moves a _ _ (l 0 (omega arith)) (omega arith) s.stack
  act_kept (BR3 a b c) g p l =
      moves _ _ _ (sign_led (top t.stack) (l 0 (omega arith)) (l 1 (omega arith)) (l 2 (omega arith))) (omega (arith, under_length t.stack)) rest₁
  act_kept (BRC ts) g p l = branched_kept (exit ts (top t.stack)) _ (exit_led ts (top t.stack) l) (omega (arith, under_length t.stack))
  act_kept (DOI n d) g p l =
      begun_kept (all_positive (top (under (under t.stack))) (top (under t.stack)) (top t.stack)) d _ (l 0 (omega arith))
      (omega (arith, under_length t.stack, under_length (under t.stack), under_length (under (under t.stack))))
  act_kept (DOE n d) g p l = ended_kept (positive (cell t.store d.step)) d _ refl g (l 0 (omega arith)) (l 1 (omega arith)) (omega arith)
  act_kept (READ n f is) g p l =
      read_kept (reads (rule_of o).ceiling spot_get spot_set f (spots is) t.store t.devices.cards) _
      (reads_keep (rule_of o).ceiling spot_get spot_set Right51 (λ x. Unit {0}) (λ c x v h i. spot_kept c v (spot_cell c x) h) f (spots is) (each_of (λ x. tt) (spots is)) t.store (s.long, s.store) t.devices.cards)
      (l 0 (omega arith)) (omega arith)
  act_kept (PRINT n f is) g p l = printed_kept (prints spot_get f (spots is) t.store t.devices.paper) _ (l 0 (omega arith)) (omega arith)

-- ---- what an instruction touches, and the height after it

after_low : {o : Object} {H : List ℕ} (a : ℕ) (i : Instr) (h : ℕ) → h ≤ limits.stack → Leads o H a i h → h - pops i + pushes i ≤ limits.stack
after_low a (HLT x) h b l = omega arith
after_low a (CON c) h b l = (l 0 (omega arith)).low
after_low a (LOD x) h b l = (l 0 (omega arith)).low
after_low a (STO x) h b l = (l 0 (omega arith)).low
after_low a (LDE e) h b l = (l 0 (omega arith)).low
after_low a (STE e) h b l = (l 0 (omega arith)).low
after_low a (OP p) h b l = (l 0 (omega arith)).low
after_low a NEG h b l = (l 0 (omega arith)).low
after_low a (JMP t) h b l = (l 0 (omega arith)).low
after_low a (BR3 t u v) h b l = (l 0 (omega arith)).low
after_low a (BRC ts) h b l = omega arith
after_low a (DOI n d) h b l = (l 0 (omega arith)).low
after_low a (DOE n d) h b l = (l 0 (omega arith)).low
after_low a (READ n f is) h b l = (l 0 (omega arith)).low
after_low a (PRINT n f is) h b l = (l 0 (omega arith)).low

module _ (o : Object) where
  element_touched : (e : Element) (store : List ℤ) → GoodElement o e → Each (λ a. a < o.cells) (element_cells e store)
  element_touched e store g = each_more g.first (each_more g.second (by (place_of store e) (λ q r. place_below e.rows e.columns _ _ q r)))
    where
      by : (p : Option ℕ) → ((q : ℕ) → p ≡ some q → q < e.rows * e.columns) → Each (λ a. a < o.cells) (element_cell e p)
      by none f = each_none
      by (some p) f = let z = f p refl in let y = g.span in each_one (omega arith)

  span_touched : (a n : ℕ) → a + n ≤ o.cells → Each (λ c. c < o.cells) (cells_from a n)
  span_touched a zero h = each_none
  span_touched a (suc n) h = let low : a < o.cells = omega arith in each_more low (span_touched (suc a) n (omega arith))

  pub list_touched : (is : List Listed) → Each (GoodListed o) is → Each (λ c. c < o.cells) (list_cells is)
  list_touched [] g = each_none
  list_touched (a_span a n ∷ is) (each_more g gs) = each_append (span_touched a n g) (list_touched is gs)
  list_touched (one_element e ∷ is) (each_more g gs) =
      each_more g.first (each_more g.second (each_append (span_touched e.base (e.rows * e.columns) g.span) (list_touched is gs)))

  touched_below : (i : Instr) (store : List ℤ) → Good o i → Each (λ a. a < o.cells) (touched_by i store)
  touched_below (HLT x) c g = each_none
  touched_below (CON n) c g = each_none
  touched_below (LOD a) c g = each_one g
  touched_below (STO a) c g = each_one g
  touched_below (LDE e) c g = element_touched e c g
  touched_below (STE e) c g = element_touched e c g
  touched_below (OP f) c g = each_none
  touched_below NEG c g = each_none
  touched_below (JMP a) c g = each_none
  touched_below (BR3 x y z) c g = each_none
  touched_below (BRC ts) c g = each_none
  touched_below (DOI n d) c g = each_more g.variable (each_more g.limit (each_one g.step))
  touched_below (DOE n d) c g = each_more g.variable (each_more g.limit (each_one g.step))
  touched_below (READ n f is) c g = list_touched is g
  touched_below (PRINT n f is) c g = list_touched is g

-- ---- the theorems

module _ {bytes : List ℕ} {o : Object} {table : List ℕ} (p : Passed bytes o table) where
  -- one step
  kept : (t : State) → Stands o table t → Kept o table (step o t)
  unfolding step
  kept t s =
      let l = word_leads p t.index (length t.stack) s.inside s.height s.low in
      act_kept o table t s (instruction o t.index) (word_good p t.index s.inside).1 l.0 l.1

  pub step_stands : (t u : State) → Stands o table t → step o t ≡ go u → Stands o table u
  step_stands t u s e = subst (λ x. Kept o table x) e (kept t s)

  -- a halt leaves all as before the instruction, and is none of 7 and 8
  pub step_halts : (t u : State) (h : Halt) → Stands o table t → step o t ≡ halt h u → (u ≡ t) × NoFaultHalt (halt_number h)
  step_halts t u h s e = (step_there o t u h e, subst (λ x. Kept o table x) e (kept t s))

  pub stands_right : (t : State) → Stands o table t → Right o t
  unfolding touches
  stands_right t s =
      let l = word_leads p t.index (length t.stack) s.inside s.height s.low in
      let g = word_good p t.index s.inside in
      record {
        inside = s.inside;
        operand = p.words t.index s.inside;
        entry = g.0;
        popped = l.0;
        pushed = after_low t.index (instruction o t.index) (length t.stack) s.low l.1;
        cells = touched_below o (instruction o t.index) t.store g.1;
      }

  -- whole runs, at any allowance
  pub run_stands : (n : ℕ) (t u : State) → Stands o table t → run (step o) n t ≡ go u → Stands o table u × Right o u
  run_stands n t u s e = let r = run_keeps (Stands o table) (step o) step_stands n t u s e in (r, stands_right u r)

  pub run_halts : (n : ℕ) (t u : State) (h : Halt) → Stands o table t → run (step o) n t ≡ halt h u → (Stands o table u × Right o u) × NoFaultHalt (halt_number h)
  run_halts n t u h s e =
      let x = halted (step o) n t u h e in
      let r = run_stands x.before t x.at s x.goes in
      let q = step_halts x.at u h r.0 x.halts in
      (subst (λ v. Stands o table v × Right o v) (sym q.0) r, q.1)
