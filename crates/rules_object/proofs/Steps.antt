-- What the steps of a run are, and that a halt other than 2 leaves store, state, cards and lines as one step less leaves them; so of a bench run. Promise 4.
-- Assumes nothing.
use mathlib.Core.Path.{◌≡◌, refl, sym, ap, ◌∙◌}
use mathlib.Core.List.{List}
use Prim.Native.Nat.{ℕ, ◌-◌}
use native.Mathlib.Omega.{arith}
use lib.ListN.{length}
use lib.IntN.{ℤ}
use Rattle.rules_shared.specs.Runs.{go, halt, run, steps}
use Rattle.rules_formats.specs.Walk.{cards_of, Trays, devices_of, lines_after}
use Rattle.rules_object.specs.Halts.{Halt, Out}
use Rattle.rules_object.specs.Object.{Object}
use Rattle.rules_object.specs.Machine.{State, fresh, step, bench_step}
use Rattle.rules_shared.specs.Refusals.{accepted}
use Rattle.rules_object.specs.Calls.{Lent, taken, given, Ran, ran, run_from, running, benching}
use Rattle.rules_object.specs.Promised.{HaltsAt, StepsOf}
use Rattle.rules_shared.proofs.RunLaws.{steps_go, steps_some, halts_at, steps_at_lem, goes_before}
use Rattle.rules_object.proofs.HaltsThere.{step_there, bench_there}
use Rattle.rules_object.proofs.Accepts.{accepts, accepts_run, BenchAnswer, refuses, runs, bench_answer}
use Rattle.rules_object.proofs.GoesOn.{not_two}

-- a call that runs a step function that halts where it stands
module _ (o : Object) (trays : Trays) (f : State → Out State) (there : (t u : State) (h : Halt) → f t ≡ halt h u → u ≡ t) (t : State) (call : ℕ → Ran) (runs : (a : ℕ) → call a ≡ run_from o trays f a t) (a : ℕ) where
  is : (b : ℕ) (x : Out State) → run f b t ≡ x → call b ≡ ran o trays (steps f b t) x
  is b x e = runs b ∙ ap (ran o trays (steps f b t)) e

  halts_so : (h : Halt) (u : State) → run f a t ≡ halt h u → HaltsAt call a
  halts_so h u e =
      let n = steps f a t in
      let q = is a (halt h u) e in
      let s : (call a).steps ≡ n = ap (λ r. r.steps) q in
      let w = goes_before f a t u h e in
      let less : call ((call a).steps - 1) ≡ ran o trays (steps f (n - 1) t) (go w.0) = ap (λ m. call (m - 1)) s ∙ is (n - 1) (go w.0) w.1.0 in
      let stays = there w.0 u h w.1.1 in
      let one = steps_some f a t u h e in
      record {
        some = omega arith;
        exact = ap call s ∙ is n (halt h u) (halts_at f a t u h e) ∙ ap (λ m. ran o trays m (halt h u)) (steps_at_lem f a t u h e) ∙ sym q;
        before = ap (λ r. r.halt) less;
        same_store = ap (λ r. r.store) q ∙ ap (λ v. v.store) stays ∙ sym (ap (λ r. r.store) less);
        same_lent = ap (λ r. r.lent) q ∙ ap given stays ∙ sym (ap (λ r. r.lent) less);
        same_cards = ap (λ r. r.cards_taken) q ∙ ap (λ v. length (cards_of trays.cards) - length v.devices.cards) stays ∙ sym (ap (λ r. r.cards_taken) less);
        same_count = ap (λ r. r.lines_written) q ∙ ap (λ v. length v.devices.paper.lines) stays ∙ sym (ap (λ r. r.lines_written) less);
        same_lines = ap (λ r. r.lines) q ∙ ap (λ v. lines_after v.devices.paper.lines trays.lines) stays ∙ sym (ap (λ r. r.lines) less);
      }

  steps_of : StepsOf call a
  steps_of = by (run f a t) refl
    where
      by : (x : Out State) → run f a t ≡ x → StepsOf call a
      by (go u) e =
          let q = is a (go u) e in
          record { whole = λ two. ap (λ r. r.steps) q ∙ steps_go f a t u e; other = λ n. absurd (n (ap (λ r. r.halt) q)) }
      by (halt h u) e =
          record { whole = λ two. absurd (not_two h (sym (ap (λ r. r.halt) (is a (halt h u) e)) ∙ two)); other = λ n. halts_so h u e }

pub run_steps : (bytes : List ℕ) (store : List ℤ) (l : Lent) (trays : Trays) (a : ℕ) → (running bytes store l trays a).refusal ≡ accepted → StepsOf (running bytes store l trays) a
run_steps bytes store l trays a e =
    let x = accepts bytes store l trays a (ap (λ r. r.number) e) in
    steps_of x.object trays (step x.object) (step_there x.object) (taken l store (devices_of trays)) (running bytes store l trays) (accepts_run x trays) a

pub bench_steps_of : (bytes : List ℕ) (store : List ℤ) (l : Lent) (trays : Trays) (a : ℕ) → (benching bytes store l trays a).refusal ≡ accepted → StepsOf (benching bytes store l trays) a
bench_steps_of bytes store l trays a e = by (bench_answer bytes store)
  where
    by : BenchAnswer bytes store → StepsOf (benching bytes store l trays) a
    by (refuses r p q) = let z : r.number ≡ 0 = ap (λ x. x.refusal.number) (sym (q l trays a)) ∙ ap (λ r. r.number) e in absurd (omega arith)
    by (runs x q) = steps_of x.object trays (bench_step x.object) (bench_there x.object) (fresh store (devices_of trays)) (benching bytes store l trays) (q l trays) a
