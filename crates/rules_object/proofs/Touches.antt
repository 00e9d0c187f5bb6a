-- `touches` lists every cell that a step reads or writes: a step changes no other, and what it does hangs on no other.
-- Assumes nothing.
use mathlib.Core.Path.{◌≡◌, refl, sym, ap, ap₂, ◌∙◌, subst}
use mathlib.Core.Logic.{inl, inr}
use mathlib.Core.Bool.{Bool, true, false}
use mathlib.Core.List.{List, [], ◌∷◌}
use mathlib.Core.Option.{Option, none, some}
use Prim.Native.Nat.{ℕ, zero, suc, ◌+◌}
use native.Mathlib.Omega.{arith}
use lib.ListN.{length, set, length-set}
use lib.Seq.{get_or-set_other}
use lib.IntN.{ℤ, pos}
use Rattle.number.specs.Number.{Rule, Result, value, apply, trouble}
use Rattle.rules_formats.specs.Walk.{Devices, Outcome, fine, Paper, Taken, prints}
use Rattle.rules_formats.specs.Walk as walk
use Rattle.rules_formats.proofs.Simulation.{Alike, stopped, went}
use Rattle.rules_shared.specs.Choose.{exit, positive, all_positive, Turn, again, over, turn}
use Rattle.rules_object.specs.Object.{Element, Loop, Object, rule_of}
use Rattle.rules_object.specs.Operations.{Instr, HLT, CON, LOD, STO, LDE, STE, OP, NEG, JMP, BR3, BRC, DOI, DOE, READ, PRINT, instruction}
use Rattle.rules_object.specs.Machine.{State, cell, top, under, operated, place_of, element_loaded, element_stored, branched, begun, turned, ended, spots, spot_get, was_read, was_printed, act, step}
use Rattle.rules_object.proofs.States.{state}
use Rattle.rules_object.specs.Safe.{element_cell, element_cells, loop_cells, list_cells, touched_by, touches, In, AgreeIn, AlikeIn}
use Rattle.rules_object.specs.Promised.{came_to, TouchesOnly}
use Rattle.rules_object.proofs.Spots.{AlikeAt, place_alike, list_prints, list_reads}
use Rattle.rules_object.proofs.Leaves.{Goes, step_leaves}

-- ---- what it writes

-- of the store alone
stays : (P : List ℤ → Type 0) → Goes (λ c d. P c)
stays P = record { takes = λ c d cs l h. h; prints = λ c d p q h. h }

-- a cell that is not touched stays
untouched : (o : Object) (t : State) (a : ℕ) → (In a (touches o t) → ⊥) → cell (came_to (step o t)).store a ≡ cell t.store a
untouched o t a n =
    step_leaves (λ c d. cell c a ≡ cell t.store a) (stays (λ c. cell c a ≡ cell t.store a)) t refl o
    (λ c x v q e. get_or-set_other c x a v (pos 0) (λ s. n (subst (λ b. In b (touches o t)) (sym s) q)) ∙ e)

pub same_length : (o : Object) (t : State) → length (came_to (step o t)).store ≡ length t.store
same_length o t = step_leaves (λ c d. length c ≡ length t.store) (stays (λ c. length c ≡ length t.store)) t refl o (λ c x v q e. length-set c x v ∙ e)

-- ---- what it reads: a state with other cells, alike in those that are touched

set_alike : (c d : List ℤ) → length c ≡ length d → (x : ℕ) (v : ℤ) (b : ℕ) → cell c b ≡ cell d b → cell (set c x v) b ≡ cell (set d x v) b
set_alike [] [] l x v b h = refl
set_alike [] (z ∷ d) l x v b h = absurd (omega arith)
set_alike (y ∷ c) [] l x v b h = absurd (omega arith)
set_alike (y ∷ c) (z ∷ d) l zero v zero h = refl
set_alike (y ∷ c) (z ∷ d) l zero v (suc b) h = h
set_alike (y ∷ c) (z ∷ d) l (suc x) v zero h = h
set_alike (y ∷ c) (z ∷ d) l (suc x) v (suc b) h = set_alike c d (omega arith) x v b h

-- as long, and the same in these cells
record StoresAgree (cells : List ℕ) (c d : List ℤ) : Type 0 where
  long : length c ≡ length d
  values : (a : ℕ) → In a cells → cell c a ≡ cell d a

agreeing : (cells : List ℕ) → AlikeAt cells (StoresAgree cells)
agreeing cells =
    record {
      same = λ c d r. r.values;
      sets = λ c d r x v h. record { long = length-set c x v ∙ r.long ∙ sym (length-set d x v); values = λ a q. set_alike c d r.long x v a (r.values a q) };
    }

module _ (cells : List ℕ) (index : ℕ) (stack c d : List ℤ) (mark : ℕ) (devices : Devices) (long : length c ≡ length d) (values : (a : ℕ) → In a cells → cell c a ≡ cell d a) where
  abbrev t : State
  t = state index stack c mark devices

  abbrev u : State
  u = state index stack d mark devices

  -- the same state but for the store
  moved : (i : ℕ) (s : List ℤ) (m : ℕ) (v : Devices) → AgreeIn cells (state i s c m v) (state i s d m v)
  moved i s m v = record { index = refl; stack = refl; mark = refl; devices = refl; long = long; values = values }

  wrote : (x : ℕ) (v : ℤ) (i : ℕ) (s : List ℤ) (m : ℕ) → AgreeIn cells (state i s (set c x v) m devices) (state i s (set d x v) m devices)
  wrote x v i s m =
      record { index = refl; stack = refl; mark = refl; devices = refl; long = length-set c x v ∙ long ∙ sym (length-set d x v); values = λ a q. set_alike c d long x v a (values a q) }

  loaded : (x : ℕ) (i : ℕ) (s : List ℤ) (m : ℕ) → In x cells → AgreeIn cells (state i (cell c x ∷ s) c m devices) (state i (cell d x ∷ s) d m devices)
  loaded x i s m q = record { index = refl; stack = ap (λ z. z ∷ s) (values x q); mark = refl; devices = refl; long = long; values = values }

  operated_alike : (r : Result) (s : List ℤ) → AlikeIn cells (operated r t s) (operated r u s)
  operated_alike (value v lost) s = moved _ _ _ _
  operated_alike (trouble w) s = (refl, moved _ _ _ _)

  loaded_alike : (e : Element) (p : Option ℕ) → ((x : ℕ) → In x (element_cell e p) → In x cells) → AlikeIn cells (element_loaded p e t) (element_loaded p e u)
  loaded_alike e none f = (refl, moved _ _ _ _)
  loaded_alike e (some p) f = loaded (e.base + p) _ _ _ (f (e.base + p) (inl refl))

  stored_alike : (e : Element) (p : Option ℕ) → AlikeIn cells (element_stored p e t) (element_stored p e u)
  stored_alike e none = (refl, moved _ _ _ _)
  stored_alike e (some p) = wrote (e.base + p) (top stack) _ _ _

  branched_alike : (p : Option ℕ) → AlikeIn cells (branched p t) (branched p u)
  branched_alike none = (refl, moved _ _ _ _)
  branched_alike (some a) = moved _ _ _ _

  read_alike : {r r' : Outcome (Taken (List ℤ))} → Alike (StoresAgree cells) r r' → AlikeIn cells (was_read r t) (was_read r' u)
  read_alike stopped = (refl, moved _ _ _ _)
  read_alike (went h) = record { index = refl; stack = refl; mark = refl; devices = refl; long = h.long; values = h.values }

  printed_alike : (r : Outcome Paper) → AlikeIn cells (was_printed r t) (was_printed r u)
  printed_alike (fine p) = moved _ _ _ _
  printed_alike (walk.trouble w) = (refl, moved _ _ _ _)

  turned_alike : (r : Turn) (l : Loop) → AlikeIn cells (turned r l t) (turned r l u)
  turned_alike (again i) l = wrote l.variable i _ _ _
  turned_alike over l = moved _ _ _ _

  ended_alike : (b : Bool) (l : Loop) → ((x : ℕ) → In x (loop_cells l) → In x cells) → AlikeIn cells (ended b l t) (ended b l u)
  ended_alike false l f = (refl, moved _ _ _ _)
  ended_alike true l f =
      let e₁ = values l.variable (f l.variable (inl refl)) in
      let e₂ = values l.limit (f l.limit (inr (inl refl))) in
      let e₃ = values l.step (f l.step (inr (inr (inl refl)))) in
      let e : turn (cell c l.variable) (cell c l.limit) (cell c l.step) ≡ turn (cell d l.variable) (cell d l.limit) (cell d l.step) =
      ap₂ (λ x y. turn x y (cell c l.step)) e₁ e₂ ∙ ap (λ z. turn (cell d l.variable) (cell d l.limit) z) e₃ in
      subst (λ r. AlikeIn cells (ended true l t) (turned r l u)) e (turned_alike (turn (cell c l.variable) (cell c l.limit) (cell c l.step)) l)

begun_alike : (cells : List ℕ) (index : ℕ) (stack c d : List ℤ) (mark : ℕ) (devices : Devices) → length c ≡ length d → ((a : ℕ) → In a cells → cell c a ≡ cell d a) → (b : Bool) (l : Loop) (m₁ m₂ m₃ : ℤ)
    → AlikeIn cells (begun b l m₁ m₂ m₃ (state index stack c mark devices)) (begun b l m₁ m₂ m₃ (state index stack d mark devices))
begun_alike cells index stack c d mark devices long values false l m₁ m₂ m₃ = (refl, moved cells index stack c d mark devices long values _ _ _ _)
begun_alike cells index stack c d mark devices long values true l m₁ m₂ m₃ =
    let c₁ = set c l.variable m₁ in
    let d₁ = set d l.variable m₁ in
    let a₁ = wrote cells index stack c d mark devices long values l.variable m₁ index stack mark in
    let a₂ = wrote cells index stack c₁ d₁ mark devices a₁.long a₁.values l.limit m₂ index stack mark in
    wrote cells index stack (set c₁ l.limit m₂) (set d₁ l.limit m₂) mark devices a₂.long a₂.values l.step m₃ _ _ _

module _ (r : Rule) (index : ℕ) (stack c d : List ℤ) (mark : ℕ) (devices : Devices) (long : length c ≡ length d) where
  abbrev Values : Instr → Type 0
  Values i = (a : ℕ) → In a (touched_by i c) → cell c a ≡ cell d a

  place_same : (e : Element) → ((a : ℕ) → In a (element_cells e c) → cell c a ≡ cell d a) → place_of c e ≡ place_of d e
  place_same e v = place_alike (element_cells e c) (StoresAgree (element_cells e c)) (agreeing (element_cells e c)) c d (record { long = long; values = v }) e (inl refl) (inr (inl refl))

  act_alike : (i : Instr) → Values i → AlikeIn (touched_by i c) (act r i (state index stack c mark devices)) (act r i (state index stack d mark devices))
  act_alike (HLT x) v = (refl, moved [] index stack c d mark devices long v _ _ _ _)
  act_alike (CON n) v = moved [] index stack c d mark devices long v _ _ _ _
  act_alike (LOD x) v = loaded (x ∷ []) index stack c d mark devices long v x _ _ _ (inl refl)
  act_alike (STO x) v = wrote (x ∷ []) index stack c d mark devices long v x (top stack) _ _ _
  act_alike (LDE e) v =
      subst (λ p. AlikeIn (element_cells e c) (element_loaded (place_of c e) e (state index stack c mark devices)) (element_loaded p e (state index stack d mark devices))) (place_same e v)
      (loaded_alike (element_cells e c) index stack c d mark devices long v e (place_of c e) (λ x q. inr (inr q)))
  act_alike (STE e) v =
      subst (λ p. AlikeIn (element_cells e c) (element_stored (place_of c e) e (state index stack c mark devices)) (element_stored p e (state index stack d mark devices))) (place_same e v)
      (stored_alike (element_cells e c) index stack c d mark devices long v e (place_of c e))
  act_alike (OP f) v = operated_alike [] index stack c d mark devices long v (apply r f (top (under stack)) (top stack)) (under (under stack))
  act_alike NEG v = moved [] index stack c d mark devices long v _ _ _ _
  act_alike (JMP a) v = moved [] index stack c d mark devices long v _ _ _ _
  act_alike (BR3 x y z) v = moved [] index stack c d mark devices long v _ _ _ _
  act_alike (BRC ts) v = branched_alike [] index stack c d mark devices long v (exit ts (top stack))
  act_alike (DOI n l) v =
      begun_alike (loop_cells l) index stack c d mark devices long v (all_positive (top (under (under stack))) (top (under stack)) (top stack)) l (top (under (under stack))) (top (under stack)) (top stack)
  act_alike (DOE n l) v =
      subst (λ z. AlikeIn (loop_cells l) (ended (positive (cell c l.step)) l (state index stack c mark devices)) (ended (positive z) l (state index stack d mark devices))) (v l.step (inr (inr (inl refl))))
      (ended_alike (loop_cells l) index stack c d mark devices long v (positive (cell c l.step)) l (λ x q. q))
  act_alike (READ n f is) v =
      read_alike (list_cells is) index stack c d mark devices long v
      (list_reads is (StoresAgree (list_cells is)) (agreeing (list_cells is)) f c d (record { long = long; values = v }) r.ceiling devices.cards)
  act_alike (PRINT n f is) v =
      subst (λ p. AlikeIn (list_cells is) (was_printed (prints spot_get f (spots is) c devices.paper) (state index stack c mark devices)) (was_printed p (state index stack d mark devices)))
      (list_prints is (StoresAgree (list_cells is)) (agreeing (list_cells is)) f c d (record { long = long; values = v }) devices.paper)
      (printed_alike (list_cells is) index stack c d mark devices long v (prints spot_get f (spots is) c devices.paper))

-- states that agree in the touched cells do alike, and agree in them after
touched_alike : (o : Object) (t u : State) → AgreeIn (touches o t) t u → AlikeIn (touches o t) (step o t) (step o u)
unfolding step touches
touched_alike o t u g =
    let e : state t.index t.stack u.store t.mark t.devices ≡ u =
    ap₂ (λ i s. state i s u.store t.mark t.devices) g.index g.stack ∙ ap₂ (λ m d. state u.index u.stack u.store m d) g.mark g.devices in
    subst (λ v. AlikeIn (touches o t) (step o t) (step o v)) e
    (act_alike (rule_of o) t.index t.stack t.store u.store t.mark t.devices g.long (instruction o t.index) g.values)

pub touches_only : (o : Object) (t : State) → TouchesOnly o t
touches_only o t = record { reads = touched_alike o t; writes = untouched o t; long = same_length o t }
