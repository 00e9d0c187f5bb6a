-- What an instruction does on the places is what the book says of the state; the cards and the paper stay as they are, but for READ and PRINT, which are not done here.
-- By cases on the instruction, once. Assumes nothing.
use mathlib.Core.Path.{◌≡◌, refl, sym, ap, ap₂, ◌∙◌, subst}
use mathlib.Core.Bool.{Bool, true, false, not, cond}
use mathlib.Core.List.{List, ◌∷◌, reverse}
use mathlib.Core.Option.{Option, none, some}
use Prim.Native.Nat.{ℕ, zero, suc, ◌+◌, ◌-◌, ◌*◌, ◌≤◌, ◌<◌}
use native.Mathlib.Omega.{arith}
use lib.Dec.{T, ltb, leb→le, ltb→lt, nltb→le}
use lib.ListN.{length, set, take, length-set}
use lib.Seq.{get_or-set_other}
use lib.IntN.{ℤ, pos, negsuc, nat_abs, neg_ℤ, sub_ℕ, ◌+ℤ◌}
use lib.Signed.{le_z}
use Rattle.number.specs.Number.{Rule, Op, add, sub, mul, div, Result, value, by_zero, trouble, apply}
use Rattle.number.proofs.Laws.{ResultFits, apply_fits, neg_fits}
use Rattle.rules_shared.specs.Runs.{go, halt}
use Rattle.rules_formats.specs.Walk.{Devices}
use Rattle.rules_object.specs.Halts.{Halt, at_stop, at_end, divide_by_zero, bad_subscript, bad_exit, bad_parameter, halt_number, Out}
use Rattle.rules_shared.specs.Choose as choose
use Rattle.rules_shared.specs.Choose.{sign3, exit, positive, all_positive, again, over, turn, marked}
use Rattle.rules_object.specs.Object.{Element, Loop}
use Rattle.rules_object.specs.Operations.{Instr, HLT, CON, LOD, STO, LDE, STE, OP, NEG, JMP, BR3, BRC, DOI, DOE, READ, PRINT, pops, pushes}
use Rattle.rules_object.specs.Machine.{State, cell, top, under, place_of, act}
use Rattle.rules_object.proofs.States.{state}
use Rattle.rules_object.specs.Machine as book
use Rattle.rules_object.specs.Calls.{taken}
use Rattle.object_opcodes.specs.declared.Halt as opcodes
use Rattle.object_opcodes.specs.declared.Halt.TheVariants.{Stop, End, DivideByZero, BadSubscript, BadExit, BadParameter}
use Rattle.object_opcodes.specs.Halts.{number_of}
use Rattle.run_registers.specs.declared.Regs.{Regs}
use Rattle.run_registers.specs.declared.Turn.{Turn}
use Rattle.run_registers.specs.declared.Turn.TheVariants.{Next, Halt as Halts, Transfer}
use Rattle.run_registers.specs.Registers.{regs, state_of}
use Rattle.run_arithmetic.specs.Performed.{After, next, stopped, pushed, popped, joined, loaded, put, branched, begun, turned, ended, end_of, performed}
use Rattle.run_subscripts.proofs.Laws.{place_below}
use Rattle.run_machine.specs.Running.{IsTransfer, a_read, a_print}
use Rattle.run_machine.proofs.Places.{tops, tops_is, tops_other, tops_push, under_tops, top_tops, zero_set, small_set}

-- ---- a height, places and a store

pub record Sound (cells p h : ℕ) (st so : List ℤ) : Type 0 where
  pub low : h ≤ 40
  pub forty : length st ≡ 40
  pub clean : (i : ℕ) → h ≤ i → cell st i ≡ pos 0
  pub stack : (i : ℕ) → nat_abs (cell st i) < p
  pub long : cells ≤ length so
  pub store : (a : ℕ) → a < cells → nat_abs (cell so a) < p

-- Both go on, to the same state, or both halt, where they were, by the same number; or nothing is done yet, of an instruction that is X.
abbrev pub Did : Type 0 → ℕ → ℕ → List ℤ → List ℤ → State → Turn → List ℤ → List ℤ → Out State → Type 0
Did X cells p st so t (Next q) st' so' (go u) = (Sound cells p q.height st' so' × (length so' ≡ length so)) × (state_of q st' so' t.devices ≡ u)
Did X cells p st so t (Next q) st' so' (halt h u) = ⊥
Did X cells p st so t (Halts n) st' so' (go u) = ⊥
Did X cells p st so t (Halts n) st' so' (halt h u) = ((st' ≡ st) × (so' ≡ so)) × ((number_of n ≡ halt_number h) × (u ≡ t))
Did X cells p st so t Transfer st' so' b = X × ((st' ≡ st) × (so' ≡ so))

abbrev pub DidAll : Type 0 → ℕ → ℕ → List ℤ → List ℤ → State → After → Out State → Type 0
DidAll X cells p st so t a b = Did X cells p st so t a.turn a.places a.store b

-- ---- what an instruction that is right has

abbrev pub Good : ℕ → ℕ → Instr → Type 0
Good cells p (HLT x) = x ≤ 1
Good cells p (CON c) = c < p
Good cells p (LOD a) = a < cells
Good cells p (STO a) = Unit {0}
Good cells p (LDE e) = e.base + e.rows * e.columns ≤ cells
Good cells p (STE e) = Unit {0}
Good cells p (OP f) = Unit {0}
Good cells p NEG = Unit {0}
Good cells p (JMP a) = Unit {0}
Good cells p (BR3 a b c) = Unit {0}
Good cells p (BRC ts) = Unit {0}
Good cells p (DOI n d) = Unit {0}
Good cells p (DOE n d) = (d.variable < cells) × ((d.limit < cells) × (d.step < cells))
Good cells p (READ n f list) = Unit {0}
Good cells p (PRINT n f list) = Unit {0}

-- ---- the end of a turn keeps the digits

sub_within : (p b a : ℕ) → b < p → a < p → nat_abs (sub_ℕ b a) < p
sub_within p b a h g = by (ltb b a) (ltb→lt b a) (nltb→le b a)
  where
    by : (t : Bool) → (T t → b < a) → (T (not t) → a ≤ b) → nat_abs (cond t (negsuc (a - suc b)) (pos (b - a))) < p
    by true f f' = omega (arith, f tt)
    by false f f' = omega arith

sum_within : (p : ℕ) (i s l : ℤ) → T (positive s) → nat_abs i < p → nat_abs s < p → nat_abs l < p → T (le_z (i +ℤ s) l) → nat_abs (i +ℤ s) < p
sum_within p (pos a) (pos b) (pos c) q hi hs hl t = omega (arith, leb→le (a + b) c t)
sum_within p (pos a) (pos b) (negsuc _) q hi hs hl t = elim t [ ]
sum_within p (pos a) (negsuc _) l q hi hs hl t = elim q [ ]
sum_within p (negsuc a) (pos b) l q hi hs hl t = sub_within p b (suc a) hs hi
sum_within p (negsuc a) (negsuc _) l q hi hs hl t = elim q [ ]

abbrev TurnWithin : ℕ → choose.Turn → Type 0
TurnWithin p (again v) = nat_abs v < p
TurnWithin p over = Unit {0}

turn_within : (p : ℕ) (i l s : ℤ) → positive s ≡ true → nat_abs i < p → nat_abs l < p → nat_abs s < p → TurnWithin p (turn i l s)
unfolding turn
turn_within p i l s q hi hl hs = by (le_z (i +ℤ s) l) (λ t. t)
  where
    by : (d : Bool) → (T d → T (le_z (i +ℤ s) l)) → TurnWithin p (cond d (again (i +ℤ s)) over)
    by true f = sum_within p i s l (subst T (sym q) tt) hi hs hl (f tt)
    by false f = tt

two : (f : Op) {h : ℕ} → pops (OP f) ≤ h → 1 < h
two add l = omega arith
two sub l = omega arith
two mul l = omega arith
two div l = omega arith

-- a place at or above the new height that is none of those set is above the old one
past_one : (h j : ℕ) → h - 1 ≤ j → (j ≡ h - 1 → ⊥) → h ≤ j
past_one h j l n = past (j - (h - 1)) refl
  where
    past : (d : ℕ) → d ≡ j - (h - 1) → h ≤ j
    past zero e = absurd (n (omega arith))
    past (suc d) e = omega arith

less₂ : (h : ℕ) → h - 1 - 1 ≡ h - 2
less₂ h = omega arith

less₃ : (h : ℕ) → h - 2 - 1 ≡ h - 3
less₃ h = omega arith

past_three : (h j : ℕ) → h - 3 ≤ j → (j ≡ h - 1 → ⊥) → (j ≡ h - 2 → ⊥) → (j ≡ h - 3 → ⊥) → h ≤ j
past_three h j l a b c =
    let two_down = past_one (h - 2) j (subst (λ n. n ≤ j) (sym (less₃ h)) l) (λ e. c (e ∙ less₃ h)) in
    past_one h j (past_one (h - 1) j (subst (λ n. n ≤ j) (sym (less₂ h)) two_down) (λ e. b (e ∙ less₂ h))) a

-- ---- one instruction

module _ (k : Rule) (cells i h m : ℕ) (st so : List ℤ) (devices : Devices) (s : Sound cells k.ceiling h st so) (X : Type 0) where
  abbrev p : ℕ
  p = k.ceiling

  abbrev r : Regs
  r = regs i h m

  abbrev S : List ℤ
  S = tops h st

  abbrev t : State
  t = state i S so m devices

  abbrev Does : After → Out State → Type 0
  Does a b = DidAll X cells p st so t a b

  -- going on: places and store that are right, and the book's state
  on : (j h' n : ℕ) (st' so' : List ℤ) → Sound cells p h' st' so' → length so' ≡ length so → (j' : ℕ) (S' so'' : List ℤ) (n' : ℕ) → j ≡ j' → tops h' st' ≡ S' → so' ≡ so'' → n ≡ n'
      → Does (next (regs j h' n) st' so') (go (state j' S' so'' n' devices))
  unfolding taken
  on j h' n st' so' q l j' S' so'' n' a b c d = (
    (q, l),
    let f : h' ≤ length st' = omega (arith, q.low, q.forty) in
        let e = tops_is h' st' f ∙ b in
        let z : state j (reverse (take h' st')) so' n devices ≡ state j' S' so'' n' devices = cc in
        z,
  )

  off : (n : opcodes.Halt) (x : Halt) → number_of n ≡ halt_number x → Does (stopped n st so) (halt x t)
  off n x e = ((refl, refl), (e, refl))

  one_more : i + 1 ≡ suc i
  one_more = omega arith

  zero_small : nat_abs (pos 0) < p
  zero_small = omega (arith, s.stack 0)

  -- ---- the places after it

  sound_push : h < 40 → (v : ℤ) → nat_abs v < p → Sound cells p (h + 1) (set st h v) so
  sound_push l v w =
      record {
        low = omega arith;
        forty = length-set st h v ∙ s.forty;
        clean = λ j q. get_or-set_other st h j v (pos 0) (λ e. omega arith) ∙ s.clean j (omega arith);
        stack = λ j. small_set p st h v w j (s.stack j);
        long = s.long;
        store = s.store;
      }

  push_is : h < 40 → (v : ℤ) → tops (h + 1) (set st h v) ≡ v ∷ S
  push_is l v = let e : h + 1 ≡ suc h = omega arith in ap (λ n. tops n (set st h v)) e ∙ tops_push h st v (omega (arith, s.forty))

  pushes_does : h < 40 → (v v' : ℤ) → nat_abs v < p → v ≡ v' → Does (pushed r st so v) (go (state (suc i) (v' ∷ S) so m devices))
  pushes_does l v v' w e = on (i + 1) (h + 1) m (set st h v) so (sound_push l v w) refl (suc i) (v' ∷ S) so m one_more (push_is l v ∙ ap (λ x. x ∷ S) e) refl refl

  -- a store that is right
  abbrev Stored : List ℤ → Type 0
  Stored so' = (length so' ≡ length so) × ((a : ℕ) → a < cells → nat_abs (cell so' a) < p)

  kept : Stored so
  kept = (refl, s.store)

  set_stored : (so' : List ℤ) → Stored so' → (a : ℕ) (v : ℤ) → nat_abs v < p → Stored (set so' a v)
  set_stored so' q a v w = (length-set so' a v ∙ q.0, λ b l. small_set p so' a v w b (q.1 b l))

  sound_pop : (so' : List ℤ) → Stored so' → Sound cells p (h - 1) (set st (h - 1) (pos 0)) so'
  sound_pop so' q =
      record {
        low = omega (arith, s.low);
        forty = length-set st (h - 1) (pos 0) ∙ s.forty;
        clean = λ j l. zero_set st (h - 1) j (λ n. s.clean j (past_one h j l n));
        stack = λ j. small_set p st (h - 1) (pos 0) zero_small j (s.stack j);
        long = omega (arith, s.long, q.0);
        store = q.1;
      }

  pops_does : (so' so'' : List ℤ) → Stored so' → so' ≡ so'' → (j j' : ℕ) → j ≡ j' → Does (popped r st so' j) (go (state j' (under S) so'' m devices))
  pops_does so' so'' q e j j' f =
      on j (h - 1) m (set st (h - 1) (pos 0)) so' (sound_pop so' q) q.0 j' (under S) so'' m f
      (tops_other (h - 1) (h - 1) st (pos 0) (omega arith) ∙ sym (under_tops h st)) e refl

  -- ---- the upper numbers

  top₁ : 0 < h → cell st (h - 1) ≡ top S
  top₁ l = sym (top_tops h st l)

  under₁ : under S ≡ tops (h - 1) st
  under₁ = under_tops h st

  top₂ : 1 < h → cell st (h - 2) ≡ top (under S)
  top₂ l = ap (cell st) (sym (less₂ h)) ∙ sym (ap top under₁ ∙ top_tops (h - 1) st (omega arith))

  under₂ : under (under S) ≡ tops (h - 2) st
  under₂ = ap under under₁ ∙ under_tops (h - 1) st ∙ ap (λ n. tops n st) (less₂ h)

  top₃ : 2 < h → cell st (h - 3) ≡ top (under (under S))
  top₃ l = ap (cell st) (sym (less₃ h)) ∙ sym (ap top under₂ ∙ top_tops (h - 2) st (omega arith))

  under₃ : under (under (under S)) ≡ tops (h - 3) st
  under₃ = ap under under₂ ∙ under_tops (h - 2) st ∙ ap (λ n. tops n st) (less₃ h)

  -- ---- two become one

  joins_does : 1 < h → (q : Result) → ResultFits k q → Does (joined q r st so) (book.operated q t (under (under S)))
  unfolding halt_number
  joins_does l (trouble by_zero) f = off DivideByZero divide_by_zero refl
  joins_does l (value v lost) f =
      on (i + 1) (h - 1) (marked m lost i) (set (set st (h - 2) v) (h - 1) (pos 0)) so
      (record {
        low = omega (arith, s.low);
        forty = length-set (set st (h - 2) v) (h - 1) (pos 0) ∙ length-set st (h - 2) v ∙ s.forty;
        clean = λ j q. zero_set (set st (h - 2) v) (h - 1) j (λ n. get_or-set_other st (h - 2) j v (pos 0) (λ e. omega arith) ∙ s.clean j (past_one h j q n));
        stack = λ j. small_set p (set st (h - 2) v) (h - 1) (pos 0) zero_small j (small_set p st (h - 2) v f j (s.stack j));
        long = s.long;
        store = s.store;
      }) refl (suc i) (v ∷ under (under S)) so (marked m lost i) one_more
      (tops_other (h - 1) (h - 1) (set st (h - 2) v) (pos 0) (omega arith) ∙ ap (λ n. tops n (set st (h - 2) v)) up ∙ tops_push (h - 2) st v (omega (arith, s.low, s.forty)) ∙ ap (λ x. v ∷ x) (sym under₂)) refl refl
    where
      up : h - 1 ≡ suc (h - 2)
      up = omega arith

  negs_does : 0 < h → Does (performed k NEG r st so) (go (state (suc i) (neg_ℤ (top S) ∷ under S) so m devices))
  negs_does l =
      let v = neg_ℤ (cell st (h - 1)) in
      let w = neg_fits k (cell st (h - 1)) (s.stack (h - 1)) in
      let e : h ≡ suc (h - 1) = omega arith in
      on (i + 1) h m (set st (h - 1) v) so
      (record {
        low = s.low;
        forty = length-set st (h - 1) v ∙ s.forty;
        clean = λ j q. get_or-set_other st (h - 1) j v (pos 0) (λ f. omega arith) ∙ s.clean j q;
        stack = λ j. small_set p st (h - 1) v w j (s.stack j);
        long = s.long;
        store = s.store;
      }) refl (suc i) (neg_ℤ (top S) ∷ under S) so m one_more
      (ap (λ n. tops n (set st (h - 1) v)) e ∙ tops_push (h - 1) st v (omega (arith, s.low, s.forty)) ∙ ap₂ ◌∷◌ (ap neg_ℤ (top₁ l)) (sym under₁)) refl refl

  -- ---- elements, exits, DOs

  loads_does : h < 40 → (e : Element) → e.base + e.rows * e.columns ≤ cells → (q : Option ℕ) → ((n : ℕ) → q ≡ some n → n < e.rows * e.columns) → Does (loaded q e.base r st so) (book.element_loaded q e t)
  unfolding halt_number
  loads_does l e g none f = off BadSubscript bad_subscript refl
  loads_does l e g (some n) f = pushes_does l (cell so (e.base + n)) (cell so (e.base + n)) (s.store (e.base + n) (omega (arith, f n refl))) refl

  puts_does : 0 < h → (e : Element) (q : Option ℕ) → Does (put q e.base r st so) (book.element_stored q e t)
  unfolding halt_number
  puts_does l e none = off BadSubscript bad_subscript refl
  puts_does l e (some n) = pops_does (set so (e.base + n) (cell st (h - 1))) _ (set_stored so kept (e.base + n) (cell st (h - 1)) (s.stack (h - 1))) (ap (set so (e.base + n)) (top₁ l)) (i + 1) (suc i) one_more

  leaves_does : (q : Option ℕ) → Does (branched q r st so) (book.branched q t)
  unfolding halt_number
  leaves_does none = off BadExit bad_exit refl
  leaves_does (some a) = pops_does so so kept refl a a refl

  begins_does : 2 < h → (q : Bool) (d : Loop) → Does (begun q d r st so) (book.begun q d (cell st (h - 3)) (cell st (h - 2)) (cell st (h - 1)) t)
  unfolding halt_number
  begins_does l false d = off BadParameter bad_parameter refl
  begins_does l true d =
      let c₁ = set so d.variable (cell st (h - 3)) in
      let c₂ = set c₁ d.limit (cell st (h - 2)) in
      let c₃ = set c₂ d.step (cell st (h - 1)) in
      let q = set_stored c₂ (set_stored c₁ (set_stored so kept d.variable (cell st (h - 3)) (s.stack (h - 3))) d.limit (cell st (h - 2)) (s.stack (h - 2))) d.step (cell st (h - 1)) (s.stack (h - 1)) in
      let a₁ = set st (h - 3) (pos 0) in
      let a₂ = set a₁ (h - 2) (pos 0) in
      let low = s.low in
      on (i + 1) (h - 3) m (set a₂ (h - 1) (pos 0)) c₃
      (record {
        low = omega arith;
        forty = length-set a₂ (h - 1) (pos 0) ∙ length-set a₁ (h - 2) (pos 0) ∙ length-set st (h - 3) (pos 0) ∙ s.forty;
        clean = λ j w. zero_set a₂ (h - 1) j (λ n₁. zero_set a₁ (h - 2) j (λ n₂. zero_set st (h - 3) j (λ n₃. s.clean j (past_three h j w n₁ n₂ n₃))));
        stack = λ j. small_set p a₂ (h - 1) (pos 0) zero_small j (small_set p a₁ (h - 2) (pos 0) zero_small j (small_set p st (h - 3) (pos 0) zero_small j (s.stack j)));
        long = omega (arith, s.long, q.0);
        store = q.1;
      }) q.0 (suc i) (under (under (under S))) c₃ m one_more
      (tops_other (h - 3) (h - 1) a₂ (pos 0) (omega arith) ∙ tops_other (h - 3) (h - 2) a₁ (pos 0) (omega arith) ∙ tops_other (h - 3) (h - 3) st (pos 0) (omega arith) ∙ sym under₃) refl refl

  same_stack : (so' : List ℤ) → Stored so' → Sound cells p h st so'
  same_stack so' q = record { low = s.low; forty = s.forty; clean = s.clean; stack = s.stack; long = omega (arith, s.long, q.0); store = q.1 }

  moves_does : (j j' : ℕ) (so' : List ℤ) → Stored so' → j ≡ j' → Does (next (regs j h m) st so') (go (state j' S so' m devices))
  moves_does j j' so' q e = on j h m st so' (same_stack so' q) q.0 j' S so' m e refl refl refl

  turns_does : (q : choose.Turn) (d : Loop) → TurnWithin p q → Does (turned q d r st so) (book.turned q d t)
  turns_does (again v) d w = moves_does d.body d.body (set so d.variable v) (set_stored so kept d.variable v w) refl
  turns_does over d w = moves_does (i + 1) (suc i) so kept one_more

  ends_does : (q : Bool) (d : Loop) → positive (cell so d.step) ≡ q → (d.variable < cells) × ((d.limit < cells) × (d.step < cells)) → Does (ended q d r st so) (book.ended q d t)
  unfolding halt_number
  ends_does false d e g = off BadParameter bad_parameter refl
  ends_does true d e g =
      let v = cell so d.variable in
      let l = cell so d.limit in
      let w = cell so d.step in
      turns_does (turn v l w) d (turn_within p v l w e (s.store d.variable g.0) (s.store d.limit g.1.0) (s.store d.step g.1.1))

  halts_does : (x : ℕ) → x ≤ 1 → Does (stopped (end_of x) st so) (halt (book.halts x) t)
  unfolding halt_number
  halts_does zero l = off Stop at_stop refl
  halts_does (suc zero) l = off End at_end refl
  halts_does (suc (suc x)) l = absurd (omega arith)

  pub does_tops : (n : Instr) → (IsTransfer n → X) → Good cells p n → pops n ≤ h → h - pops n + pushes n ≤ 40 → Does (performed k n r st so) (act k n t)
  unfolding halt_number
  does_tops (HLT x) w g a b = halts_does x g
  does_tops (CON c) w g a b = pushes_does (omega arith) (pos c) (pos c) g refl
  does_tops (LOD x) w g a b = pushes_does (omega arith) (cell so x) (cell so x) (s.store x g) refl
  does_tops (STO x) w g a b = pops_does (set so x (cell st (h - 1))) _ (set_stored so kept x (cell st (h - 1)) (s.stack (h - 1))) (ap (set so x) (top₁ (omega arith))) (i + 1) (suc i) one_more
  does_tops (LDE e) w g a b = loads_does (omega arith) e g (place_of so e) (λ n q. place_below e.rows e.columns _ _ n (sym q))
  does_tops (STE e) w g a b = puts_does (omega arith) e (place_of so e)
  does_tops (OP f) w g a b =
      let l : 1 < h = two f a in
      subst (λ q. Does (joined (apply k f (cell st (h - 2)) (cell st (h - 1))) r st so) (book.operated q t (under (under S)))) (ap₂ (apply k f) (top₂ l) (top₁ (omega arith)))
      (joins_does l (apply k f (cell st (h - 2)) (cell st (h - 1))) (apply_fits k f _ _ (s.stack (h - 2))))
  does_tops NEG w g a b = negs_does (omega arith)
  does_tops (JMP x) w g a b = moves_does x x so kept refl
  does_tops (BR3 x y z) w g a b = pops_does so so kept refl _ _ (ap (λ v. sign3 v x y z) (top₁ (omega arith)))
  does_tops (BRC ts) w g a b =
      subst (λ q. Does (branched (exit ts (cell st (h - 1))) r st so) (book.branched q t)) (ap (exit ts) (top₁ (omega arith))) (leaves_does (exit ts (cell st (h - 1))))
  does_tops (DOI n d) w g a b =
      subst (λ x. Does (begun (all_positive (cell st (h - 3)) (cell st (h - 2)) (cell st (h - 1))) d r st so) (book.begun (all_positive x (top (under S)) (top S)) d x (top (under S)) (top S) t)) (top₃ (omega arith))
      (subst (λ x. Does (begun (all_positive (cell st (h - 3)) (cell st (h - 2)) (cell st (h - 1))) d r st so) (book.begun (all_positive (cell st (h - 3)) x (top S)) d (cell st (h - 3)) x (top S) t)) (top₂ (omega arith))
      (subst (λ x. Does (begun (all_positive (cell st (h - 3)) (cell st (h - 2)) (cell st (h - 1))) d r st so) (book.begun (all_positive (cell st (h - 3)) (cell st (h - 2)) x) d (cell st (h - 3)) (cell st (h - 2)) x t)) (top₁ (omega arith))
      (begins_does (omega arith) (all_positive (cell st (h - 3)) (cell st (h - 2)) (cell st (h - 1))) d)))
  does_tops (DOE n d) w g a b = ends_does (positive (cell so d.step)) d refl g
  does_tops (READ n f list) w g a b = (w (a_read n f list), (refl, refl))
  does_tops (PRINT n f list) w g a b = (w (a_print n f list), (refl, refl))

  state_is : t ≡ state_of (regs i h m) st so devices
  unfolding taken
  state_is = ap (λ l. state i l so m devices) (sym (tops_is h st (omega (arith, s.low, s.forty))))

  pub does : (n : Instr) → (IsTransfer n → X) → Good cells p n → pops n ≤ h → h - pops n + pushes n ≤ 40
      → DidAll X cells p st so (state_of (regs i h m) st so devices) (performed k n r st so) (act k n (state_of (regs i h m) st so devices))
  does n w g a b = subst (λ u. DidAll X cells p st so u (performed k n r st so) (act k n u)) state_is (does_tops n w g a b)
