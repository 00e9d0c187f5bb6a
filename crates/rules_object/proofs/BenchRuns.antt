-- On an object that passes the check the bench run is the run from a fresh state, and no run gives 7 or 8; the guarded step is the unguarded one.
-- Assumes nothing.
use mathlib.Core.Path.{◌≡◌, refl, sym, ap, ap₂, ◌∙◌, subst}
use mathlib.Core.Bool.{Bool, true, false, cond}
use mathlib.Core.List.{List}
use mathlib.Core.Option.{some}
use Prim.Native.Nat.{ℕ, ◌+◌, ◌-◌}
use native.Mathlib.Omega.{arith}
use lib.ListN.{length, get_or, length-replicate}
use lib.IntN.{ℤ, pos}
use borrow.Author.Tests.{lt-ltb, le-leb}
use Rattle.rules_shared.specs.Limits.{limits}
use Rattle.rules_shared.specs.Runs.{go, halt, run, steps}
use Rattle.rules_shared.specs.Lists.{each_none}
use Rattle.rules_object.specs.Halts.{bad_stack, bad_instruction, Out}
use Rattle.rules_formats.specs.Walk.{Trays, devices_of}
use Rattle.rules_object.specs.Object.{Object}
use Rattle.rules_object.specs.Check.{right41}
use Rattle.rules_object.specs.Operations.{pops, pushes, instruction}
use Rattle.rules_object.specs.Machine.{State, fresh, step, room, bench_step}
use Rattle.rules_object.specs.Flow.{first}
use Rattle.rules_shared.specs.Refusals.{or_else, unless}
use Rattle.rules_object.specs.Calls.{passed, checking, Lent, taken, given, right50, right51, right52, Ran, ran, run_from, or_refused, run_checked, running, bench_object, benching}
use Rattle.rules_object.specs.Safe.{Right, NoFaultHalt, Stands, fresh_lent}
use Rattle.rules_shared.proofs.RunLaws.{run_same, steps_same}
use Rattle.rules_object.specs.Passed.{Passed}
use Rattle.rules_object.proofs.Safe.{below_seven, step_stands, stands_right, run_halts}
use Rattle.rules_object.proofs.Lents.{and_true, fresh_stands, taken_stands, lent_right, taken_given}
use Rattle.rules_object.proofs.Accepts.{checks, Answer, refuses, runs, answer, BenchAnswer, bench_answer}

-- where all is right, the tests of the bench run pass
pub bench_right : (o : Object) (t : State) → Right o t → bench_step o t ≡ step o t
unfolding bench_step
bench_right o t r =
    let i = instruction o t.index in
    let w = get_or o.code t.index 0 in
    ap (λ b. cond b (cond (room i t.stack) (step o t) (halt bad_stack t)) (halt bad_instruction t)) (and_true (lt-ltb t.index (length o.code) r.inside) (and_true r.operand r.entry))
    ∙ ap (λ b. cond b (step o t) (halt bad_stack t))
    (and_true (le-leb (pops i) (length t.stack) r.popped) (le-leb (length t.stack - pops i + pushes i) limits.stack r.pushed))

module _ {bytes : List ℕ} {o : Object} {table : List ℕ} (p : Passed bytes o table) where
  alike : (t : State) → Stands o table t → bench_step o t ≡ step o t
  alike t s = bench_right o t (stands_right p t s)

  pub bench_is_run : (n : ℕ) (t : State) → Stands o table t → run (bench_step o) n t ≡ run (step o) n t
  bench_is_run = run_same (Stands o table) (step o) (bench_step o) (step_stands p) alike

  pub bench_steps : (n : ℕ) (t : State) → Stands o table t → steps (bench_step o) n t ≡ steps (step o) n t
  bench_steps = steps_same (Stands o table) (step o) (bench_step o) (step_stands p) alike

  fresh_52 : right52 o table fresh_lent ≡ true
  fresh_52 = lent_right p fresh_lent (record { reached = first; stack = each_none; mark = omega arith })

  same_object : (store : List ℤ) (trays : Trays) (a : ℕ) → bench_object (some o) store fresh_lent trays a ≡ run_checked (passed o table) store fresh_lent trays a
  unfolding given
  same_object store trays a = by (right50 o store) (right51 o store) refl refl
    where
      B : Bool → Bool → Bool → Ran
      B x y z = or_refused (or_else (unless x 41) (or_else (unless y 50) (unless z 51))) fresh_lent store trays (run_from o trays (bench_step o) a (fresh store (devices_of trays)))

      R : Bool → Bool → Bool → Ran
      R y z v = or_refused (or_else (unless y 50) (or_else (unless z 51) (unless v 52))) fresh_lent store trays (run_from o trays (step o) a (taken fresh_lent store (devices_of trays)))

      by : (y z : Bool) → right50 o store ≡ y → right51 o store ≡ z → B (right41 o) (right50 o store) (right51 o store) ≡ R (right50 o store) (right51 o store) (right52 o table fresh_lent)
      by false z e f = ap₂ (λ x y. B x y (right51 o store)) p.right e ∙ ap (λ y. R y (right51 o store) (right52 o table fresh_lent)) (sym e)
      by true false e f =
          ap₂ (λ x y. B x y (right51 o store)) p.right e ∙ ap (B true true) f
          ∙ ap₂ (λ y z. R y z (right52 o table fresh_lent)) (sym e) (sym f)
      by true true e f =
          let s = fresh_stands p store (devices_of trays) e f in
          ap₂ (λ x y. B x y (right51 o store)) p.right e ∙ ap (B true true) f
          ∙ ap₂ (λ n x. ran o trays n x) (bench_steps a (fresh store (devices_of trays)) s) (bench_is_run a (fresh store (devices_of trays)) s)
          ∙ ap (run_from o trays (step o) a) (sym (taken_given (fresh store (devices_of trays))))
          ∙ ap (R true true) (sym fresh_52) ∙ ap₂ (λ y z. R y z (right52 o table fresh_lent)) (sym e) (sym f)

-- ---- over bytes

-- the bench run of an object that passes is the run from a fresh state, refused alike too
pub bench_is_running : (bytes : List ℕ) → (checking bytes).number ≡ 0 → (store : List ℤ) (trays : Trays) (a : ℕ) → benching bytes store fresh_lent trays a ≡ running bytes store fresh_lent trays a
unfolding benching running
bench_is_running bytes e store trays a =
    let x = checks bytes e in
    ap (λ o. bench_object o store fresh_lent trays a) x.passes.reads ∙ same_object x.passes store trays a ∙ ap (λ c. run_checked c store fresh_lent trays a) (sym x.is)

-- what is lent for the state does not matter to a bench run
pub bench_lent : (bytes : List ℕ) (store : List ℤ) (l m : Lent) (trays : Trays) (a : ℕ) → (benching bytes store l trays a).refusal.number ≡ 0 → benching bytes store l trays a ≡ benching bytes store m trays a
bench_lent bytes store l m trays a e = by (bench_answer bytes store)
  where
    by : BenchAnswer bytes store → benching bytes store l trays a ≡ benching bytes store m trays a
    by (refuses r p q) = let z : r.number ≡ 0 = ap (λ x. x.refusal.number) (sym (q l trays a)) ∙ e in absurd (omega arith)
    by (runs x q) = q l trays a ∙ sym (q m trays a)

pub bench_refusal_lent : (bytes : List ℕ) (store : List ℤ) (l m : Lent) (trays : Trays) (a : ℕ) → (benching bytes store l trays a).refusal ≡ (benching bytes store m trays a).refusal
bench_refusal_lent bytes store l m trays a = by (bench_answer bytes store)
  where
    by : BenchAnswer bytes store → (benching bytes store l trays a).refusal ≡ (benching bytes store m trays a).refusal
    by (refuses r p q) = ap (λ x. x.refusal) (q l trays a) ∙ ap (λ x. x.refusal) (sym (q m trays a))
    by (runs x q) = ap (λ x. x.refusal) (q l trays a ∙ sym (q m trays a))

-- so, whatever was lent: accepted together, with the same answer; refused together, by the same refusal
pub bench_accepted : (bytes : List ℕ) → (checking bytes).number ≡ 0 → (store : List ℤ) (l : Lent) (trays : Trays) (a : ℕ) → (benching bytes store l trays a).refusal.number ≡ 0
    → benching bytes store l trays a ≡ running bytes store fresh_lent trays a
bench_accepted bytes e store l trays a q = bench_lent bytes store l fresh_lent trays a q ∙ bench_is_running bytes e store trays a

pub bench_refused : (bytes : List ℕ) → (checking bytes).number ≡ 0 → (store : List ℤ) (l : Lent) (trays : Trays) (a : ℕ) → (benching bytes store l trays a).refusal ≡ (running bytes store fresh_lent trays a).refusal
bench_refused bytes e store l trays a = bench_refusal_lent bytes store l fresh_lent trays a ∙ ap (λ x. x.refusal) (bench_is_running bytes e store trays a)

-- no run gives 7 or 8
pub run_no_fault : (bytes : List ℕ) (store : List ℤ) (l : Lent) (trays : Trays) (a : ℕ) → length l.places ≡ limits.stack → NoFaultHalt (running bytes store l trays a).halt
run_no_fault bytes store l trays a forty = by (answer bytes store l)
  where
    by : Answer bytes store l → NoFaultHalt (running bytes store l trays a).halt
    by (refuses r p q) = subst (λ x. NoFaultHalt x.halt) (sym (q trays a)) (below_seven (omega arith))
    by (runs x q) = subst (λ x. NoFaultHalt x.halt) (sym (q trays a)) (out (run (step x.object) a (taken l store (devices_of trays))) refl)
      where
        out : (z : Out State) → run (step x.object) a (taken l store (devices_of trays)) ≡ z → NoFaultHalt (ran x.object trays (steps (step x.object) a (taken l store (devices_of trays))) z).halt
        out (go u) e = below_seven (omega arith)
        out (halt h u) e = (run_halts x.passes a (taken l store (devices_of trays)) u h (taken_stands x.object x.table l store (devices_of trays) forty x.right50 x.right51 x.right52) e).1

pub bench_no_fault : (bytes : List ℕ) → (checking bytes).number ≡ 0 → (store : List ℤ) (l : Lent) (trays : Trays) (a : ℕ) → NoFaultHalt (benching bytes store l trays a).halt
bench_no_fault bytes e store l trays a = by (bench_answer bytes store)
  where
    by : BenchAnswer bytes store → NoFaultHalt (benching bytes store l trays a).halt
    by (refuses r p q) = subst (λ x. NoFaultHalt x.halt) (sym (q l trays a)) (below_seven (omega arith))
    by (runs x q) = subst (λ x. NoFaultHalt x.halt) (sym (q l trays a ∙ sym (q fresh_lent trays a) ∙ bench_is_running bytes e store trays a)) (run_no_fault bytes store fresh_lent trays a (length-replicate limits.stack (pos 0)))
