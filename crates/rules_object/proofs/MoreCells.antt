-- Over bytes: a longer store is the same run with its further cells put back, and no run changes a store's length.
-- Assumes nothing.
use mathlib.Core.Path.{◌≡◌, refl, sym, ap, ap₂, ◌∙◌}
use mathlib.Core.Bool.{Bool, true, false}
use mathlib.Core.List.{List, ◌++◌}
use Prim.Native.Nat.{ℕ}
use native.Mathlib.Omega.{arith}
use lib.ListN.{length, length-append}
use lib.Seq.{take-append-le}
use lib.IntN.{ℤ}
use borrow.Author.Tests.{le-leb}
use Rattle.number.specs.Number.{fits}
use Rattle.rules_shared.specs.Limits.{limits}
use Rattle.rules_shared.specs.Runs.{go, halt, run, steps}
use Rattle.rules_formats.specs.Walk.{Trays, devices_of}
use Rattle.rules_object.specs.Halts.{Out}
use Rattle.rules_object.specs.Object.{Object, rule_of}
use Rattle.rules_object.specs.Machine.{State, step}
use Rattle.rules_shared.specs.Refusals.{refusal, or_else, unless}
use Rattle.rules_shared.specs.Lists.{all}
use Rattle.rules_object.specs.Calls.{Lent, taken, given, right50, right51, right52, Ran, ran, run_from, or_refused, run_checked, running}
use Rattle.rules_object.specs.Safe.{with_cells, ran_with_cells}
use Rattle.rules_object.specs.Promised.{came_to}
use Rattle.rules_shared.proofs.RunLaws.{map_out}
use Rattle.rules_object.specs.Passed.{Passed}
use Rattle.rules_object.proofs.Lents.{long_enough, taken_stands}
use Rattle.rules_object.proofs.Leaves.{run_leaves}
use Rattle.rules_object.proofs.Touches.{same_length}
use Rattle.rules_object.proofs.PastCells.{run_past_cells, steps_past_cells}
use Rattle.rules_object.proofs.Accepts.{Verdict, bad, good, judge, Answer, refuses, runs, answer}

-- ---- a store comes back as long as it was lent

run_long : (o : Object) (n : ℕ) (t : State) → length (came_to (run (step o) n t)).store ≡ length t.store
run_long o n t = run_leaves (λ u. length u.store ≡ length t.store) (step o) (λ u e. same_length o u ∙ e) n t refl

pub store_length : (bytes : List ℕ) (store : List ℤ) (l : Lent) (trays : Trays) (a : ℕ) → length (running bytes store l trays a).store ≡ length store
unfolding taken
store_length bytes store l trays a = by (answer bytes store l)
  where
    out : (o : Object) (n : ℕ) (x : Out State) → (ran o trays n x).store ≡ (came_to x).store
    out o n (go u) = refl
    out o n (halt h u) = refl

    by : Answer bytes store l → length (running bytes store l trays a).store ≡ length store
    by (refuses r p q) = ap (λ x. length x.store) (q trays a)
    by (runs x q) = ap (λ x. length x.store) (q trays a) ∙ ap length (out x.object _ (run (step x.object) a (taken l store (devices_of trays)))) ∙ run_long x.object a (taken l store (devices_of trays))

-- ---- cells past the count

module _ (c extra : List ℤ) (o : Object) where
  more_50 : right50 o c ≡ true → right50 o (c ++ extra) ≡ true
  unfolding right50
  more_50 e = let l = long_enough o c e in le-leb o.cells (length (c ++ extra)) (omega (arith, length-append c extra))

  more_51 : right50 o c ≡ true → right51 o (c ++ extra) ≡ right51 o c
  unfolding right51
  more_51 e = ap (all (fits (rule_of o))) (take-append-le o.cells c extra (long_enough o c e))

ran_more : (extra : List ℤ) (o : Object) (trays : Trays) (n : ℕ) (x : Out State) → ran o trays n (map_out (with_cells extra) x) ≡ ran_with_cells extra (ran o trays n x)
unfolding given
ran_more extra o trays n (go u) = refl
ran_more extra o trays n (halt h u) = refl

-- where the store is not too short, further cells change nothing but that they come back behind it
pub past_cells : (bytes : List ℕ) (c extra : List ℤ) (l : Lent) (trays : Trays) (a : ℕ) → length l.places ≡ limits.stack → ((running bytes c l trays a).refusal.number ≡ 50 → ⊥)
    → running bytes (c ++ extra) l trays a ≡ ran_with_cells extra (running bytes c l trays a)
unfolding running taken
past_cells bytes c extra l trays a forty not50 = by (judge bytes)
  where
    R : List ℤ → Object → Bool → Bool → Bool → Ran
    R store o x y z = or_refused (or_else (unless x 50) (or_else (unless y 51) (unless z 52))) l store trays (run_from o trays (step o) a (taken l store (devices_of trays)))

    on : (o : Object) (table : List ℕ) → Passed bytes o table → (x y z : Bool) → right50 o c ≡ x → right51 o c ≡ y → right52 o table l ≡ z → ((R c o x y z).refusal.number ≡ 50 → ⊥)
        → R (c ++ extra) o (right50 o (c ++ extra)) (right51 o (c ++ extra)) z ≡ ran_with_cells extra (R c o x y z)
    on o table p false y z e f g n = absurd (n refl)
    on o table p true y z e f g n = ap₂ (λ x y. R (c ++ extra) o x y z) (more_50 c extra o e) (more_51 c extra o e ∙ f) ∙ rest y z f g
      where
        rest : (y z : Bool) → right51 o c ≡ y → right52 o table l ≡ z → R (c ++ extra) o true y z ≡ ran_with_cells extra (R c o true y z)
        rest false z f g = refl
        rest true false f g = refl
        rest true true f g =
            let s = taken_stands o table l c (devices_of trays) forty e f g in
            ap₂ (λ n x. ran o trays n x) (steps_past_cells p extra a (taken l c (devices_of trays)) s) (run_past_cells p extra a (taken l c (devices_of trays)) s) ∙ ran_more extra o trays (steps (step o) a (taken l c (devices_of trays))) (run (step o) a (taken l c (devices_of trays)))

    by : Verdict bytes → running bytes (c ++ extra) l trays a ≡ ran_with_cells extra (running bytes c l trays a)
    by (bad r e p w) = ap (λ k. run_checked k (c ++ extra) l trays a) e ∙ ap (λ k. ran_with_cells extra (run_checked k c l trays a)) (sym e)
    by (good o table e p) =
        ap (λ k. run_checked k (c ++ extra) l trays a) e
        ∙ on o table p (right50 o c) (right51 o c) (right52 o table l) refl refl refl (λ q. not50 (ap (λ k. (run_checked k c l trays a).refusal.number) e ∙ q))
        ∙ ap (λ k. ran_with_cells extra (run_checked k c l trays a)) (sym e)
