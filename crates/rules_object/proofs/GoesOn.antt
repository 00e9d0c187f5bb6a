-- A run stopped by its allowance goes on, with what it left, as one run; one that halted stays halted, and what a run leaves is never refused. Promise 3.
-- Assumes nothing.
use mathlib.Core.Path.{◌≡◌, refl, sym, ap, ap₂, ◌∙◌, subst}
use mathlib.Core.List.{List}
use Prim.Native.Nat.{ℕ, ◌+◌, ◌-◌}
use native.Mathlib.Omega.{arith}
use lib.ListN.{length, drop, replicate}
use lib.IntN.{ℤ, pos}
use Rattle.rules_shared.specs.Limits.{limits}
use Rattle.rules_shared.specs.Runs.{go, halt, then, run, steps_from, steps}
use Rattle.rules_formats.specs.Walk.{Trays, devices_of}
use Rattle.rules_formats.proofs.Resume.{Used, used_none}
use Rattle.rules_object.specs.Halts.{Halt, at_stop, at_end, divide_by_zero, bad_subscript, bad_exit, bad_parameter, bad_stack, bad_instruction, ran_out, bad_field, halt_number, Out}
use Rattle.rules_object.specs.Object.{Object}
use Rattle.rules_object.specs.Machine.{State, step}
use Rattle.rules_shared.specs.Refusals.{accepted}
use Rattle.rules_object.specs.Calls.{Lent, taken, given, Ran, halted, ran, running}
use Rattle.rules_object.specs.Safe.{Stands, rest, after_run}
use Rattle.rules_object.specs.Promised.{came_to}
use Rattle.rules_shared.proofs.RunLaws.{run_add, steps_add, steps_go, halts_more, steps_more}
use Rattle.rules_object.proofs.Safe.{run_stands, run_halts}
use Rattle.rules_object.proofs.Lents.{taken_stands, stands_50, stands_51, stands_52, given_forty, given_above}
use Rattle.rules_object.proofs.Earlier.{run_used}
use Rattle.rules_object.proofs.TwoRuns.{from_both}
use Rattle.rules_object.proofs.Refusals.{from_accepts}
use Rattle.rules_object.proofs.Accepts.{Answer, refuses, runs, answer, Accepts, accepts, accepts_run}

-- no halt of the machine is 2
pub not_two : (h : Halt) → halt_number h ≡ 2 → ⊥
unfolding halt_number
not_two at_stop e = omega arith
not_two at_end e = omega arith
not_two divide_by_zero e = omega arith
not_two bad_subscript e = omega arith
not_two bad_exit e = omega arith
not_two bad_parameter e = omega arith
not_two bad_stack e = omega arith
not_two bad_instruction e = omega arith
not_two ran_out e = omega arith
not_two bad_field e = omega arith

-- ---- an accepted run, at any allowance

module _ (bytes : List ℕ) (store : List ℤ) (l : Lent) (x : Accepts bytes store l) (trays : Trays) where
  abbrev o : Object
  o = x.object

  abbrev t : State
  t = taken l store (devices_of trays)

  -- it goes on, with halt 2 and its whole allowance; or it halts
  data Did (a : ℕ) : Type 0 where
    went : (u : State) → run (step o) a t ≡ go u → running bytes store l trays a ≡ halted 2 a o trays u → Did a
    stopped : (h : Halt) (u : State) → run (step o) a t ≡ halt h u → running bytes store l trays a ≡ halted (halt_number h) (steps (step o) a t) o trays u → Did a

  did : (a : ℕ) → Did a
  did a = by (run (step o) a t) refl
    where
      is : (out : Out State) → run (step o) a t ≡ out → running bytes store l trays a ≡ ran o trays (steps (step o) a t) out
      is out e = accepts_run x trays a ∙ ap (λ z. ran o trays (steps (step o) a t) z) e

      by : (out : Out State) → run (step o) a t ≡ out → Did a
      by (go u) e = went u e (is (go u) e ∙ ap (λ n. halted 2 n o trays u) (steps_go (step o) a t u e))
      by (halt h u) e = stopped h u e (is (halt h u) e)

  ran_more : (a b : ℕ) (u : State) → run (step o) a t ≡ go u → running bytes store l trays (a + b) ≡ ran o trays (a + steps (step o) b u) (run (step o) b u)
  ran_more a b u e =
      let s : steps (step o) (a + b) t ≡ a + steps (step o) b u =
      steps_add (step o) a b t ∙ ap₂ (λ n m. n + m) (steps_go (step o) a t u e) (ap (λ z. steps_from z (λ v. steps (step o) b v)) e) in
      let r : run (step o) (a + b) t ≡ run (step o) b u = run_add (step o) a b t ∙ ap (λ z. then z (λ v. run (step o) b v)) e in
      accepts_run x trays (a + b) ∙ ap₂ (λ n z. ran o trays n z) s r

  went_used : (a : ℕ) (u : State) → run (step o) a t ≡ go u → Used trays u.devices
  unfolding taken
  went_used a u e = subst (λ z. Used trays (came_to z).devices) e (run_used o trays a t (used_none trays))

  module _ (forty : length l.places ≡ limits.stack) where
    start : Stands o x.table t
    start = taken_stands o x.table l store (devices_of trays) forty x.right50 x.right51 x.right52

    -- a state that stands passes 50 to 52
    abbrev onward : (u : State) → Stands o x.table u → Accepts bytes u.store (given u)
    onward u s = record { object = o; table = x.table; is = x.is; passes = x.passes; right50 = stands_50 u s; right51 = stands_51 u s; right52 = stands_52 u s }

    left : (a : ℕ) → (u : State) × (Stands o x.table u × (((running bytes store l trays a).store ≡ u.store) × ((running bytes store l trays a).lent ≡ given u)))
    left a = by (did a)
      where
        by : Did a → (u : State) × (Stands o x.table u × (((running bytes store l trays a).store ≡ u.store) × ((running bytes store l trays a).lent ≡ given u)))
        by (went u e q) = (u, ((run_stands x.passes a t u start e).0, (ap (λ r. r.store) q, ap (λ r. r.lent) q)))
        by (stopped h u e q) = (u, ((run_halts x.passes a t u h start e).0.0, (ap (λ r. r.store) q, ap (λ r. r.lent) q)))

-- ---- the theorems, over bytes

module _ (bytes : List ℕ) (store : List ℤ) (l : Lent) (trays : Trays) (forty : length l.places ≡ limits.stack) (a : ℕ) where
  -- a run of a stopped by halt 2, then one of b with what it left, is one of a + b
  pub goes_on : (running bytes store l trays a).refusal.number ≡ 0 → (running bytes store l trays a).halt ≡ 2 → (b : ℕ)
      → running bytes store l trays (a + b)
      ≡ after_run (running bytes store l trays a) (running bytes (running bytes store l trays a).store (running bytes store l trays a).lent (rest trays (running bytes store l trays a)) b)
  goes_on e two b = by (did bytes store l x trays a)
    where
      x : Accepts bytes store l
      x = accepts bytes store l trays a e

      P : Ran → Type 0
      P r = running bytes store l trays (a + b) ≡ after_run r (running bytes r.store r.lent (rest trays r) b)

      by : Did bytes store l x trays a → P (running bytes store l trays a)
      by (went u q r) =
          let s = (run_stands x.passes a (taken l store (devices_of trays)) u (start bytes store l x trays forty) q).0 in
          let first = halted 2 a x.object trays u in
          subst P (sym r)
          (ran_more bytes store l x trays a b u q ∙ from_both x.object trays a u (went_used bytes store l x trays a u q) b
          ∙ ap (after_run first) (sym (accepts_run (onward bytes store l x trays forty u s) (rest trays first) b)))
      by (stopped h u q r) = absurd (not_two h (ap (λ z. z.halt) (sym r) ∙ two))

  -- what a run leaves passes 50 to 52, whatever halted it, with any cards and lines
  pub leaves_right : (running bytes store l trays a).refusal.number ≡ 0 → (more : Trays) (b : ℕ)
      → (running bytes (running bytes store l trays a).store (running bytes store l trays a).lent more b).refusal ≡ accepted
  leaves_right e more b =
      let x = accepts bytes store l trays a e in
      let w = left bytes store l x trays forty a in
      let u = w.0 in
      ap₂ (λ c k. (running bytes c k more b).refusal) w.1.1.0 w.1.1.1
      ∙ ap (λ r. r.refusal) (accepts_run (onward bytes store l x trays forty u w.1.0) more b) ∙ from_accepts x.object more (step x.object) b _

  -- forty places come back, 0 above the height
  pub places_forty : length (running bytes store l trays a).lent.places ≡ limits.stack
  places_forty = by (answer bytes store l)
    where
      by : Answer bytes store l → length (running bytes store l trays a).lent.places ≡ limits.stack
      by (refuses r p q) = ap (λ z. length z.lent.places) (q trays a) ∙ forty
      by (runs x q) = let w = left bytes store l x trays forty a in ap (λ k. length k.places) w.1.1.1 ∙ given_forty w.0 w.1.0.low

  pub places_above : (running bytes store l trays a).refusal.number ≡ 0
      → drop (running bytes store l trays a).lent.height (running bytes store l trays a).lent.places ≡ replicate (limits.stack - (running bytes store l trays a).lent.height) (pos 0)
  places_above e =
      let w = left bytes store l (accepts bytes store l trays a e) trays forty a in
      subst (λ k. drop k.height k.places ≡ replicate (limits.stack - k.height) (pos 0)) (sym w.1.1.1) (given_above w.0)

-- a halt other than 2 is given at every larger allowance, in as many steps
pub stays_halted : (bytes : List ℕ) (store : List ℤ) (l : Lent) (trays : Trays) (a : ℕ) → (running bytes store l trays a).refusal.number ≡ 0
    → ((running bytes store l trays a).halt ≡ 2 → ⊥) → (b : ℕ) → running bytes store l trays (a + b) ≡ running bytes store l trays a
stays_halted bytes store l trays a e other b = by (did bytes store l x trays a)
  where
    x : Accepts bytes store l
    x = accepts bytes store l trays a e

    f : State → Out State
    f = step x.object

    t₀ : State
    t₀ = taken l store (devices_of trays)

    by : Did bytes store l x trays a → running bytes store l trays (a + b) ≡ running bytes store l trays a
    by (went u q r) = absurd (other (ap (λ z. z.halt) r))
    by (stopped h u q r) = accepts_run x trays (a + b) ∙ ap₂ (λ n z. ran x.object trays n z) (steps_more f a b t₀ u h q) (halts_more f a b t₀ u h q) ∙ sym r
