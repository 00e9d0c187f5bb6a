-- A refusal changes nothing that was lent and answers nothing else; an acceptance has number, place and kind 0. Promise 8, for check, run, bench and map.
-- Assumes nothing.
use mathlib.Core.Path.{◌≡◌, refl, sym, ap, ◌∙◌, subst}
use mathlib.Core.Logic.{◌⊎◌, inl, inr}
use mathlib.Core.Bool.{Bool, true, false}
use mathlib.Core.List.{List, [], ◌∷◌}
use mathlib.Core.Option.{Option, none, some}
use Prim.Native.Nat.{ℕ, ◌<◌}
use native.Mathlib.Omega.{arith}
use lib.Dec.{leb}
use lib.ListN.{length, drop, length-append, length-drop}
use lib.Seq.{take-append_seam, drop-append_seam}
use borrow.Author.Tests.{leb-true}
use lib.IntN.{ℤ}
use Rattle.rules_shared.specs.Runs.{go, halt, run, steps}
use Rattle.rules_formats.specs.Walk.{Trays, devices_of}
use Rattle.rules_object.specs.Halts.{Out}
use Rattle.rules_object.specs.Object.{Object}
use Rattle.rules_object.specs.Check.{right41}
use Rattle.rules_object.specs.Machine.{State, fresh, bench_step, step}
use Rattle.rules_object.specs.Bytes.{read_object}
use Rattle.rules_shared.specs.Refusals.{Refusal, refusal, accepted, or_else, unless, no_room}
use Rattle.rules_shared.specs.Output.{Written, not_written, written_if, write}
use Rattle.rules_object.specs.Calls.{refused, passed, checked, verdict, checking, Lent, taken, right50, right51, Ran, not_run, ran, run_from, or_refused, run_checked, running, bench_object, benching, map_of, map_checked, mapping}
use Rattle.rules_object.specs.Safe.{Unchanged, MapUnchanged, MapWritten, In}
use Rattle.rules_object.proofs.Accepts.{If, or_if, unless_if, Why, unread, over, later, Verdict, bad, good, judge, refused_bench, Answer, refuses, runs, answer, BenchAnswer, bench_answer}

-- ---- check

pub check_accepts : (bytes : List ℕ) → (checking bytes).number ≡ 0 → checking bytes ≡ accepted
unfolding checking
check_accepts bytes e = by (judge bytes)
  where
    by : Verdict bytes → verdict (checked bytes) ≡ accepted
    by (bad r q p w) = let z : r.number ≡ 0 = ap (λ c. (verdict c).number) (sym q) ∙ e in absurd (omega arith)
    by (good o table q p) = ap verdict q

-- ---- run and bench

-- a run that refuses what was lent, and nothing else; or that accepts it
abbrev One : Lent → List ℤ → Trays → Ran → Type 0
One l store trays r = ((0 < r.refusal.number) × (r ≡ not_run r.refusal l store trays)) ⊎ (r.refusal ≡ accepted)

pub from_accepts : (o : Object) (trays : Trays) (f : State → Out State) (a : ℕ) (t : State) → (run_from o trays f a t).refusal ≡ accepted
from_accepts o trays f a t = by (run f a t)
  where
    by : (x : Out State) → (ran o trays (steps f a t) x).refusal ≡ accepted
    by (go u) = refl
    by (halt h u) = refl

-- each field of it
not_run_lem : (l : Lent) (store : List ℤ) (trays : Trays) (r : Ran) → r ≡ not_run r.refusal l store trays → Unchanged l store trays r
not_run_lem l store trays r e =
    record {
      no_halt = ap (λ x. x.halt) e;
      no_steps = ap (λ x. x.steps) e;
      no_sequence = ap (λ x. x.sequence) e;
      same_lent = ap (λ x. x.lent) e;
      same_store = ap (λ x. x.store) e;
      no_cards = ap (λ x. x.cards_taken) e;
      no_lines = ap (λ x. x.lines_written) e;
      same_lines = ap (λ x. x.lines) e;
    }

one_refuses : (l : Lent) (store : List ℤ) (trays : Trays) (r : Ran) → One l store trays r → 0 < r.refusal.number → Unchanged l store trays r
one_refuses l store trays r (inl x) p = not_run_lem l store trays r x.1
one_refuses l store trays r (inr e) p = let z : r.refusal.number ≡ 0 = ap (λ x. x.number) e in absurd (omega arith)

one_keeps : (l : Lent) (store : List ℤ) (trays : Trays) (r : Ran) → One l store trays r → (r.refusal ≡ accepted → ⊥) → r ≡ not_run r.refusal l store trays
one_keeps l store trays r (inl x) n = x.1
one_keeps l store trays r (inr e) n = absurd (n e)

one_accepts : (l : Lent) (store : List ℤ) (trays : Trays) (r : Ran) → One l store trays r → r.refusal.number ≡ 0 → r.refusal ≡ accepted
one_accepts l store trays r (inl x) e = absurd (let z = x.0 in omega arith)
one_accepts l store trays r (inr q) e = q

module _ (bytes : List ℕ) (store : List ℤ) (l : Lent) (trays : Trays) (a : ℕ) where
  run_one : One l store trays (running bytes store l trays a)
  run_one = by (answer bytes store l)
    where
      by : Answer bytes store l → One l store trays (running bytes store l trays a)
      by (refuses r p q) = subst (One l store trays) (sym (q trays a)) (inl (p, refl))
      by (runs x q) = inr (ap (λ z. z.refusal) (q trays a) ∙ from_accepts x.object trays (step x.object) a (taken l store (devices_of trays)))

  pub run_refuses : 0 < (running bytes store l trays a).refusal.number → Unchanged l store trays (running bytes store l trays a)
  run_refuses p = one_refuses l store trays _ run_one p

  pub run_keeps : ((running bytes store l trays a).refusal ≡ accepted → ⊥) → running bytes store l trays a ≡ not_run (running bytes store l trays a).refusal l store trays
  run_keeps n = one_keeps l store trays _ run_one n

  pub run_accepts : (running bytes store l trays a).refusal.number ≡ 0 → (running bytes store l trays a).refusal ≡ accepted
  run_accepts e = one_accepts l store trays _ run_one e

  bench_one : One l store trays (benching bytes store l trays a)
  bench_one = by (bench_answer bytes store)
    where
      by : BenchAnswer bytes store → One l store trays (benching bytes store l trays a)
      by (refuses r p q) = subst (One l store trays) (sym (q l trays a)) (inl (p, refl))
      by (runs x q) = inr (ap (λ z. z.refusal) (q l trays a) ∙ from_accepts x.object trays (bench_step x.object) a (fresh store (devices_of trays)))

  pub bench_refuses : 0 < (benching bytes store l trays a).refusal.number → Unchanged l store trays (benching bytes store l trays a)
  bench_refuses p = one_refuses l store trays _ bench_one p

  pub bench_keeps : ((benching bytes store l trays a).refusal ≡ accepted → ⊥) → benching bytes store l trays a ≡ not_run (benching bytes store l trays a).refusal l store trays
  bench_keeps n = one_keeps l store trays _ bench_one n

  pub bench_accepts : (benching bytes store l trays a).refusal.number ≡ 0 → (benching bytes store l trays a).refusal ≡ accepted
  bench_accepts e = one_accepts l store trays _ bench_one e

-- ---- by which numbers a bench run refuses

abbrev BenchNumber : Refusal → Type 0
BenchNumber r = In r.number (0 ∷ 40 ∷ 41 ∷ 50 ∷ 51 ∷ [])

pub bench_only : (bytes : List ℕ) (store : List ℤ) (l : Lent) (trays : Trays) (a : ℕ) → In (benching bytes store l trays a).refusal.number (0 ∷ 40 ∷ 41 ∷ 50 ∷ 51 ∷ [])
unfolding benching
bench_only bytes store l trays a = by (read_object bytes)
  where
    on : (o : Object) (r : Option Refusal) → If BenchNumber r → BenchNumber (or_refused r l store trays (run_from o trays (bench_step o) a (fresh store (devices_of trays)))).refusal
    on o (some r) h = h
    on o none h = inl (ap (λ r. r.number) (from_accepts o trays (bench_step o) a (fresh store (devices_of trays))))

    by : (p : Option Object) → BenchNumber (bench_object p store l trays a).refusal
    by none = inr (inl refl)
    by (some o) =
        on o (refused_bench o store)
        (or_if BenchNumber (unless (right41 o) 41) (or_else (unless (right50 o store) 50) (unless (right51 o store) 51)) (unless_if BenchNumber (right41 o) 41 (inr (inr (inl refl))))
        (or_if BenchNumber (unless (right50 o store) 50) (unless (right51 o store) 51) (unless_if BenchNumber (right50 o store) 50 (inr (inr (inr (inl refl)))))
        (unless_if BenchNumber (right51 o store) 51 (inr (inr (inr (inr (inl refl))))))))

-- ---- a refusal by the check

-- is the run's too
pub run_checks : (bytes : List ℕ) → 0 < (checking bytes).number → (store : List ℤ) (l : Lent) (trays : Trays) (a : ℕ) → (running bytes store l trays a).refusal ≡ checking bytes
unfolding running checking
run_checks bytes some' store l trays a = by (judge bytes)
  where
    by : Verdict bytes → (run_checked (checked bytes) store l trays a).refusal ≡ verdict (checked bytes)
    by (bad r q p w) = ap (λ c. (run_checked c store l trays a).refusal) q ∙ ap verdict (sym q)
    by (good o table q p) = let z : (verdict (checked bytes)).number ≡ 0 = ap (λ c. (verdict c).number) q in absurd (omega arith)

-- and the map's
pub map_checks : (bytes : List ℕ) → 0 < (checking bytes).number → (table : List ℕ) → (mapping bytes table).refusal ≡ checking bytes
unfolding mapping checking
map_checks bytes some' table = by (judge bytes)
  where
    by : Verdict bytes → (map_checked (checked bytes) table).refusal ≡ verdict (checked bytes)
    by (bad r q p w) = ap (λ c. (map_checked c table).refusal) q ∙ ap verdict (sym q)
    by (good o heights q p) = let z : (verdict (checked bytes)).number ≡ 0 = ap (λ c. (verdict c).number) q in absurd (omega arith)

-- and, by 40 or 41, the bench run's
pub bench_checks : (bytes : List ℕ) → 0 < (checking bytes).number → (checking bytes).number < 42 → (store : List ℤ) (l : Lent) (trays : Trays) (a : ℕ) → (benching bytes store l trays a).refusal ≡ checking bytes
unfolding benching checking
bench_checks bytes some' few store l trays a = by (judge bytes)
  where
    is : {r : Refusal} → checked bytes ≡ refused r → Why bytes r → (bench_object (read_object bytes) store l trays a).refusal ≡ r
    is q (unread e) = ap (λ p. (bench_object p store l trays a).refusal) e
    is q (over o e f) =
        ap (λ p. (bench_object p store l trays a).refusal) e
        ∙ ap (λ b. (or_refused (or_else (unless b 41) (or_else (unless (right50 o store) 50) (unless (right51 o store) 51))) l store trays (run_from o trays (bench_step o) a (fresh store (devices_of trays)))).refusal) f
    is q (later r o e f h) = let z : (verdict (checked bytes)).number ≡ r.number = ap (λ c. (verdict c).number) q in absurd (omega arith)

    by : Verdict bytes → (bench_object (read_object bytes) store l trays a).refusal ≡ verdict (checked bytes)
    by (bad r q p w) = is q w ∙ ap verdict (sym q)
    by (good o table q p) = let z : (verdict (checked bytes)).number ≡ 0 = ap (λ c. (verdict c).number) q in absurd (omega arith)

-- ---- map

module _ (bytes table : List ℕ) where
  -- refused, the table as it was; or written
  data MapOne (m : Written) : Type 0 where
    not : 0 < m.refusal.number → m ≡ not_written m.refusal table → MapOne m
    yes : (o : Object) (heights : List ℕ) → checked bytes ≡ passed o heights → MapWritten o table m → MapOne m

  wrote : (o : Object) (heights : List ℕ) → checked bytes ≡ passed o heights → (b : Bool) → leb (length (map_of o)) (length table) ≡ b → MapOne (written_if no_room b (map_of o) table)
  wrote o heights q true e =
      yes o heights q
      (record {
        accepts = refl;
        count = refl;
        first = take-append_seam (map_of o) (drop (length (map_of o)) table);
        rest = drop-append_seam (map_of o) (drop (length (map_of o)) table);
        long = let l = leb-true (length (map_of o)) (length table) e in omega (arith, length-append (map_of o) (drop (length (map_of o)) table), length-drop (length (map_of o)) table);
      })
  wrote o heights q false e = not (omega arith) refl

  map_one : MapOne (mapping bytes table)
  unfolding mapping write map_of
  map_one = by (judge bytes)
    where
      by : Verdict bytes → MapOne (map_checked (checked bytes) table)
      by (bad r q p w) = subst (λ c. MapOne (map_checked c table)) (sym q) (not p refl)
      by (good o heights q p) = subst (λ c. MapOne (map_checked c table)) (sym q) (wrote o heights q (leb (length (map_of o)) (length table)) refl)

  pub map_refuses : 0 < (mapping bytes table).refusal.number → MapUnchanged table (mapping bytes table)
  map_refuses p = by map_one
    where
      by : MapOne (mapping bytes table) → MapUnchanged table (mapping bytes table)
      by (not q x) = record { no_length = ap (λ m. m.length) x; same_table = ap (λ m. m.output) x }
      by (yes o heights q x) = let z : (mapping bytes table).refusal.number ≡ 0 = ap (λ r. r.number) x.accepts in absurd (omega arith)

  pub map_keeps : ((mapping bytes table).refusal ≡ accepted → ⊥) → mapping bytes table ≡ not_written (mapping bytes table).refusal table
  map_keeps n = by map_one
    where
      by : MapOne (mapping bytes table) → mapping bytes table ≡ not_written (mapping bytes table).refusal table
      by (not q x) = x
      by (yes o heights q x) = absurd (n x.accepts)

  pub map_accepts : (mapping bytes table).refusal.number ≡ 0 → (o : Object) × ((heights : List ℕ) × ((checked bytes ≡ passed o heights) × MapWritten o table (mapping bytes table)))
  map_accepts e = by map_one
    where
      by : MapOne (mapping bytes table) → (o : Object) × ((heights : List ℕ) × ((checked bytes ≡ passed o heights) × MapWritten o table (mapping bytes table)))
      by (not q x) = absurd (omega arith)
      by (yes o heights q x) = (o, (heights, (q, x)))
