-- A run is accepted exactly where its object passes the check, its store 50 and 51, and its state 52, in terms of paths. A fresh state always does, and so does what a run leaves.
-- A bench run asks for 40, 41, 50 and 51 alone.
-- Assumes nothing.
use mathlib.Core.Path.{◌≡◌, refl, sym, ap, ◌∙◌, subst}
use mathlib.Core.Logic.{◌↔◌}
use mathlib.Core.Bool.{true}
use mathlib.Core.List.{List}
use mathlib.Core.Option.{Option, none, some}
use Prim.Native.Nat.{ℕ}
use native.Mathlib.Omega.{arith}
use lib.ListN.{length}
use lib.IntN.{ℤ}
use Rattle.rules_shared.specs.Limits.{limits}
use Rattle.rules_shared.specs.Lists.{each_none}
use Rattle.rules_formats.specs.Walk.{Devices, Trays, devices_of}
use Rattle.rules_object.specs.Object.{Object}
use Rattle.rules_object.specs.Check.{right41}
use Rattle.rules_object.specs.Machine.{fresh, step, bench_step}
use Rattle.rules_object.specs.Bytes.{read_object}
use Rattle.rules_object.specs.Flow.{first}
use Rattle.rules_shared.specs.Refusals.{accepted}
use Rattle.rules_object.specs.Calls.{verdict, checking, Lent, taken, right50, right51, run_from, or_refused, running, bench_object, benching}
use Rattle.rules_object.specs.Safe.{Stands, fresh_lent}
use Rattle.rules_object.specs.Promised.{right_store_of, right_store, RightLent, Runnable}
use Rattle.rules_object.specs.Passed.{Passed}
use Rattle.rules_object.proofs.Passed.{both}
use Rattle.rules_object.proofs.Lents.{and_true, taken_stands, right_lent, lent_right}
use Rattle.rules_object.proofs.Accepts.{checks, Accepts, accepts, accepts_run, BenchAnswer, refuses, runs, refused_bench, bench_answer}
use Rattle.rules_object.proofs.Refusals.{from_accepts}
use Rattle.rules_object.proofs.GoesOn.{leaves_right, places_forty}

-- the bytes are one object
one_object : (bytes : List ℕ) {o p : Object} → read_object bytes ≡ some o → read_object bytes ≡ some p → o ≡ p
one_object bytes {o = o} {p = p} e f = let q : ◌≡◌ {A = Option Object} (some o) (some p) = sym e ∙ f in cc

module _ {bytes : List ℕ} {store : List ℤ} {l : Lent} where
  pub runnable_accepts : Runnable bytes store l → Accepts bytes store l
  unfolding right_store
  runnable_accepts r =
      let x = checks bytes (ap (λ r. r.number) r.passes) in
      let o = x.object in
      let s = both (right50 o store) (right51 o store) (sym (ap (λ p. right_store_of p store) x.passes.reads) ∙ r.stored) in
      record { object = o; table = x.table; is = x.is; passes = x.passes; right50 = s.0; right51 = s.1; right52 = lent_right x.passes l (r.stands o x.passes.reads) }

  pub accepts_runnable : length l.places ≡ limits.stack → Accepts bytes store l → Runnable bytes store l
  unfolding right_store checking
  accepts_runnable forty x =
      record {
        passes = ap verdict x.is;
        stored = ap (λ p. right_store_of p store) x.passes.reads ∙ and_true x.right50 x.right51;
        stands = λ o e. subst (λ p. RightLent p l) (one_object bytes x.passes.reads e) (right_lent x.passes l x.right52);
        forty = forty;
      }

pub runs_exactly : (bytes : List ℕ) (store : List ℤ) (l : Lent) → length l.places ≡ limits.stack → (trays : Trays) (a : ℕ) → ((running bytes store l trays a).refusal ≡ accepted) ↔ Runnable bytes store l
runs_exactly bytes store l forty trays a = (
  λ e. accepts_runnable forty (accepts bytes store l trays a (ap (λ r. r.number) e)),
  λ r. let x = runnable_accepts r in ap (λ z. z.refusal) (accepts_run x trays a) ∙ from_accepts x.object trays (step x.object) a (taken l store (devices_of trays)),
)

-- a bench run is accepted by 40, 41, 50 and 51 alone
pub benches_exactly : (bytes : List ℕ) (store : List ℤ) (l : Lent) (trays : Trays) (a : ℕ)
    → ((benching bytes store l trays a).refusal ≡ accepted) ↔ ((o : Object) × (read_object bytes ≡ some o) × (right41 o ≡ true) × (right_store bytes store ≡ true))
unfolding benching right_store
benches_exactly bytes store l trays a = (there (bench_answer bytes store), back)
  where
    there : BenchAnswer bytes store → (benching bytes store l trays a).refusal ≡ accepted → (o : Object) × (read_object bytes ≡ some o) × (right41 o ≡ true) × (right_store bytes store ≡ true)
    there (refuses r p q) e = let z : r.number ≡ 0 = ap (λ x. x.refusal.number) (sym (q l trays a)) ∙ ap (λ r. r.number) e in absurd (omega arith)
    there (runs x q) e = (x.object, x.reads, x.right41, ap (λ p. right_store_of p store) x.reads ∙ and_true x.right50 x.right51)

    back : (o : Object) × (read_object bytes ≡ some o) × (right41 o ≡ true) × (right_store bytes store ≡ true) → (benching bytes store l trays a).refusal ≡ accepted
    back x =
        let o = x.0 in
        let s = both (right50 o store) (right51 o store) (sym (ap (λ p. right_store_of p store) x.1) ∙ x.3) in
        let q₁ = x.2 in
        let q₂ = s.0 in
        let q₃ = s.1 in
        let q : refused_bench o store ≡ none = rw (q₁, q₂, q₃) refl in
        ap (λ p. (bench_object p store l trays a).refusal) x.1 ∙ ap (λ r. (or_refused r l store trays (run_from o trays (bench_step o) a (fresh store (devices_of trays)))).refusal) q ∙ from_accepts o trays (bench_step o) a (fresh store (devices_of trays))

-- ---- from the start, and again

pub fresh_runnable : (bytes : List ℕ) (store : List ℤ) → checking bytes ≡ accepted → right_store bytes store ≡ true → Runnable bytes store fresh_lent
fresh_runnable bytes store e s = record { passes = e; stored = s; stands = λ o r. record { reached = first; stack = each_none; mark = omega arith }; forty = refl }

pub leaves_runnable : (bytes : List ℕ) (store : List ℤ) (l : Lent) → Runnable bytes store l → (trays : Trays) (a : ℕ) → Runnable bytes (running bytes store l trays a).store (running bytes store l trays a).lent
leaves_runnable bytes store l r trays a =
    let e = ap (λ r. r.number) ((runs_exactly bytes store l r.forty trays a).1 r) in
    (runs_exactly bytes _ _ (places_forty bytes store l trays r.forty a) trays 0).0 (leaves_right bytes store l trays r.forty a e trays 0)

-- the object's state, and that it stands
pub runnable_stands : {bytes : List ℕ} {store : List ℤ} {l : Lent} → Runnable bytes store l → (devices : Devices) (o : Object) → read_object bytes ≡ some o → (table : List ℕ) × (Passed bytes o table × Stands o table (taken l store devices))
runnable_stands {bytes} {store} {l} r devices o e =
    let x = runnable_accepts r in
    subst (λ p. (table : List ℕ) × (Passed bytes p table × Stands p table (taken l store devices))) (one_object bytes x.passes.reads e)
    (x.table, (x.passes, taken_stands x.object x.table l store devices r.forty x.right50 x.right51 x.right52))
