-- When a call on an object accepts what it is lent, and what it is then. Every refusal's number is above 0.
-- Assumes nothing.
use mathlib.Core.Path.{◌≡◌, refl, sym, ap, ◌∙◌}
use mathlib.Core.Bool.{Bool, true, false}
use mathlib.Core.List.{List}
use mathlib.Core.Option.{Option, none, some}
use Prim.Native.Nat.{ℕ, ◌≤◌, ◌<◌}
use native.Mathlib.Omega.{arith}
use lib.ListN.{length}
use lib.IntN.{ℤ}
use Rattle.rules_formats.specs.Walk.{Trays, devices_of}
use Rattle.rules_object.specs.Object.{Object}
use Rattle.rules_object.specs.Check.{right41, right_constant, right_element, right_loop, right_line, right_named, right_format, right_item, right_transfer}
use Rattle.rules_object.specs.Operations.{right43, flow_of}
use Rattle.rules_object.specs.Machine.{fresh, step, bench_step}
use Rattle.rules_object.specs.Bytes.{read_object}
use Rattle.rules_object.specs.Heights.{heights}
use Rattle.rules_shared.specs.Refusals.{Refusal, refusal, at_entry, or_else, unless}
use Rattle.rules_shared.specs.Lists.{first_bad, first_from}
use Rattle.rules_object.specs.Calls.{refused42, refused43, Checked, refused, passed, judged44, judged, checked_object, checked, verdict, checking, Lent, taken, right50, right51, right52, refused50to52, not_run, run_from, or_refused, run_checked, running, bench_object, benching}
use Rattle.rules_object.specs.Passed.{Passed}
use Rattle.rules_object.proofs.Passed.{or_none, unless_none, check_passed}

-- ---- a refusal's number

abbrev Above : Refusal → Type 0
Above r = 0 < r.number

-- of the refusal, where there is one
abbrev pub If : (Refusal → Type 0) → Option Refusal → Type 0
If P none = Unit {0}
If P (some r) = P r

module _ (P : Refusal → Type 0) where
  pub or_if : (a b : Option Refusal) → If P a → If P b → If P (or_else a b)
  or_if none b p q = q
  or_if (some r) b p q = p

  pub unless_if : (b : Bool) (n : ℕ) → P (refusal n 0 0) → If P (unless b n)
  unless_if true n h = tt
  unless_if false n h = h

  entry_if : (n kind : ℕ) (e : Option ℕ) → ((place : ℕ) → P (refusal n place kind)) → If P (at_entry n kind e)
  entry_if n kind none h = tt
  entry_if n kind (some e) h = h e

-- those of 42 and 43
pub entries_42 : (o : Object) → If (λ r. 42 ≤ r.number) (or_else (refused42 o) (refused43 o))
unfolding refused42 refused43
entries_42 o = or_if P (refused42 o) (refused43 o) by_entry (entry_if P 43 5 (first_bad (right43 o) o.code 0) (λ n. omega arith))
  where
    P : Refusal → Type 0
    P r = 42 ≤ r.number

    from : ℕ → Option ℕ → Option Refusal → Option Refusal
    from kind e b = or_else (at_entry 42 kind e) b

    and : (kind : ℕ) (e : Option ℕ) (b : Option Refusal) → If P b → If P (from kind e b)
    and kind e b h = or_if P (at_entry 42 kind e) b (entry_if P 42 kind e (λ n. omega arith)) h

    by_entry : If P (refused42 o)
    by_entry =
        and 1 (first_bad (right_constant o) o.constants 0) _
        (and 2 (first_bad (right_element o) o.elements 0) _
        (and 4 (first_bad (right_loop o) o.dos 0) _
        (and 6 (first_bad (right_line o) o.lines 0) _
        (and 7 (first_bad (right_named o) o.names 0) _
        (and 8 (first_from (right_format o) (length o.formats) 0) _
        (and 9 (first_bad (right_item o) o.items 0) _ (entry_if P 42 10 (first_bad (right_transfer o) o.transfers 0) (λ n. omega arith))))))))

-- ---- the check: refused by a number above 0, or passed

pub data Why (bytes : List ℕ) : Refusal → Type 0 where
  unread : read_object bytes ≡ none → Why bytes (refusal 40 0 0)
  over : (o : Object) → read_object bytes ≡ some o → right41 o ≡ false → Why bytes (refusal 41 0 0)
  later : (r : Refusal) (o : Object) → read_object bytes ≡ some o → right41 o ≡ true → 42 ≤ r.number → Why bytes r

why_positive : {bytes : List ℕ} {r : Refusal} → Why bytes r → 0 < r.number
why_positive (unread e) = omega arith
why_positive (over o e q) = omega arith
why_positive (later r o e q h) = omega arith

abbrev CheckedWhy : List ℕ → Checked → Type 0
CheckedWhy bytes (refused r) = Why bytes r
CheckedWhy bytes (passed o table) = Unit {0}

module _ (bytes : List ℕ) (o : Object) (e : read_object bytes ≡ some o) where
  table_why : right41 o ≡ true → (t : Option (List ℕ)) → CheckedWhy bytes (judged44 o t)
  table_why q none = later (refusal 44 0 0) o e q (omega arith)
  table_why q (some t) = tt

  entries_why : right41 o ≡ true → (r : Option Refusal) → If (λ r. 42 ≤ r.number) r → CheckedWhy bytes (judged o r)
  entries_why q (some r) h = later r o e q h
  entries_why q none h = table_why q (heights (flow_of o))

  object_why : (b : Bool) → right41 o ≡ b → CheckedWhy bytes (judged o (or_else (unless b 41) (or_else (refused42 o) (refused43 o))))
  object_why false q = over o e q
  object_why true q = entries_why q (or_else (refused42 o) (refused43 o)) (entries_42 o)

checked_why : (bytes : List ℕ) → CheckedWhy bytes (checked bytes)
unfolding checked
checked_why bytes = by (read_object bytes) refl
  where
    by : (p : Option Object) → read_object bytes ≡ p → CheckedWhy bytes (checked_object p)
    by none e = unread e
    by (some o) e = object_why bytes o e (right41 o) refl

pub data Verdict (bytes : List ℕ) : Type 0 where
  bad : (r : Refusal) → checked bytes ≡ refused r → 0 < r.number → Why bytes r → Verdict bytes
  good : (o : Object) (table : List ℕ) → checked bytes ≡ passed o table → Passed bytes o table → Verdict bytes

pub judge : (bytes : List ℕ) → Verdict bytes
judge bytes = by (checked bytes) refl (checked_why bytes)
  where
    by : (c : Checked) → checked bytes ≡ c → CheckedWhy bytes c → Verdict bytes
    by (refused r) e w = bad r e (why_positive w) w
    by (passed o table) e w = good o table e (check_passed bytes o table e)

pub record Checks (bytes : List ℕ) : Type 0 where
  pub object : Object
  pub table : List ℕ
  pub is : checked bytes ≡ passed object table
  pub passes : Passed bytes object table

pub checks : (bytes : List ℕ) → (checking bytes).number ≡ 0 → Checks bytes
unfolding checking
checks bytes e = by (judge bytes)
  where
    by : Verdict bytes → Checks bytes
    by (bad r q p w) = let z : r.number ≡ 0 = ap (λ c. (verdict c).number) (sym q) ∙ e in absurd (omega arith)
    by (good o table q p) = record { object = o; table = table; is = q; passes = p }

-- ---- the run

-- the object passes the check, and the store and the state 50 to 52: whatever the cards, the room for lines and the allowance
pub record Accepts (bytes : List ℕ) (store : List ℤ) (l : Lent) : Type 0 where
  pub object : Object
  pub table : List ℕ
  pub is : checked bytes ≡ passed object table
  pub passes : Passed bytes object table
  pub right50 : right50 object store ≡ true
  pub right51 : right51 object store ≡ true
  pub right52 : right52 object table l ≡ true

pub data Answer (bytes : List ℕ) (store : List ℤ) (l : Lent) : Type 0 where
  refuses : (r : Refusal) → 0 < r.number → ((trays : Trays) (a : ℕ) → running bytes store l trays a ≡ not_run r l store trays) → Answer bytes store l
  runs : (x : Accepts bytes store l) → ((trays : Trays) (a : ℕ) → running bytes store l trays a ≡ run_from x.object trays (step x.object) a (taken l store (devices_of trays))) → Answer bytes store l

pub answer : (bytes : List ℕ) (store : List ℤ) (l : Lent) → Answer bytes store l
unfolding running
answer bytes store l = by (judge bytes)
  where
    test : (o : Object) (table : List ℕ) → checked bytes ≡ passed o table → Passed bytes o table → (r : Option Refusal) → refused50to52 o table store l ≡ r → If Above r → Answer bytes store l
    test o table e p (some r) q h =
        refuses r h (λ trays a. ap (λ c. run_checked c store l trays a) e ∙ ap (λ r. or_refused r l store trays (run_from o trays (step o) a (taken l store (devices_of trays)))) q)
    test o table e p none q h =
        let q₁ = or_none (unless (right50 o store) 50) _ q in
        let q₂ = or_none (unless (right51 o store) 51) _ q₁.1 in
        runs (record { object = o; table = table; is = e; passes = p; right50 = unless_none _ _ q₁.0; right51 = unless_none _ _ q₂.0; right52 = unless_none _ _ q₂.1 })
        (λ trays a. ap (λ c. run_checked c store l trays a) e ∙ ap (λ r. or_refused r l store trays (run_from o trays (step o) a (taken l store (devices_of trays)))) q)

    by : Verdict bytes → Answer bytes store l
    by (bad r e p w) = refuses r p (λ trays a. ap (λ c. run_checked c store l trays a) e)
    by (good o table e p) =
        test o table e p (refused50to52 o table store l) refl
        (or_if Above (unless (right50 o store) 50) _ (unless_if Above (right50 o store) 50 (omega arith))
        (or_if Above (unless (right51 o store) 51) _ (unless_if Above (right51 o store) 51 (omega arith)) (unless_if Above (right52 o table l) 52 (omega arith))))

pub accepts : (bytes : List ℕ) (store : List ℤ) (l : Lent) (trays : Trays) (a : ℕ) → (running bytes store l trays a).refusal.number ≡ 0 → Accepts bytes store l
accepts bytes store l trays a e = by (answer bytes store l)
  where
    by : Answer bytes store l → Accepts bytes store l
    by (refuses r p q) = let z : r.number ≡ 0 = ap (λ x. x.refusal.number) (sym (q trays a)) ∙ e in absurd (omega arith)
    by (runs x q) = x

-- an accepted run is the machine's
pub accepts_run : {bytes : List ℕ} {store : List ℤ} {l : Lent} (x : Accepts bytes store l) (trays : Trays) (a : ℕ)
    → running bytes store l trays a ≡ run_from x.object trays (step x.object) a (taken l store (devices_of trays))
unfolding running
accepts_run {store = store} {l = l} x trays a =
    let o = x.object in
    let table = x.table in
    let q₁ = ap (λ b. unless b 50) x.right50 in
    let q₂ = ap (λ b. unless b 51) x.right51 in
    let q₃ = ap (λ b. unless b 52) x.right52 in
    let q : refused50to52 o table store l ≡ none = rw (q₁, q₂, q₃) refl in
    ap (λ c. run_checked c store l trays a) x.is ∙ ap (λ r. or_refused r l store trays (run_from o trays (step o) a (taken l store (devices_of trays)))) q

-- ---- the bench run

pub record Benches (bytes : List ℕ) (store : List ℤ) : Type 0 where
  pub object : Object
  pub reads : read_object bytes ≡ some object
  pub right41 : right41 object ≡ true
  pub right50 : right50 object store ≡ true
  pub right51 : right51 object store ≡ true

abbrev pub refused_bench : Object → List ℤ → Option Refusal
refused_bench o store = or_else (unless (right41 o) 41) (or_else (unless (right50 o store) 50) (unless (right51 o store) 51))

pub data BenchAnswer (bytes : List ℕ) (store : List ℤ) : Type 0 where
  refuses : (r : Refusal) → 0 < r.number → ((l : Lent) (trays : Trays) (a : ℕ) → benching bytes store l trays a ≡ not_run r l store trays) → BenchAnswer bytes store
  runs : (x : Benches bytes store)
      → ((l : Lent) (trays : Trays) (a : ℕ) → benching bytes store l trays a ≡ run_from x.object trays (bench_step x.object) a (fresh store (devices_of trays))) → BenchAnswer bytes store

pub bench_answer : (bytes : List ℕ) (store : List ℤ) → BenchAnswer bytes store
unfolding benching
bench_answer bytes store = by (read_object bytes) refl
  where
    test : (o : Object) → read_object bytes ≡ some o → (r : Option Refusal) → refused_bench o store ≡ r → If Above r → BenchAnswer bytes store
    test o e (some r) q h =
        refuses r h (λ l trays a. ap (λ p. bench_object p store l trays a) e ∙ ap (λ r. or_refused r l store trays (run_from o trays (bench_step o) a (fresh store (devices_of trays)))) q)
    test o e none q h =
        let q₁ = or_none (unless (right41 o) 41) _ q in
        let q₂ = or_none (unless (right50 o store) 50) _ q₁.1 in
        runs (record { object = o; reads = e; right41 = unless_none _ _ q₁.0; right50 = unless_none _ _ q₂.0; right51 = unless_none _ _ q₂.1 })
        (λ l trays a. ap (λ p. bench_object p store l trays a) e ∙ ap (λ r. or_refused r l store trays (run_from o trays (bench_step o) a (fresh store (devices_of trays)))) q)

    by : (p : Option Object) → read_object bytes ≡ p → BenchAnswer bytes store
    by none e = refuses (refusal 40 0 0) (omega arith) (λ l trays a. ap (λ p. bench_object p store l trays a) e)
    by (some o) e =
        test o e (refused_bench o store) refl
        (or_if Above (unless (right41 o) 41) _ (unless_if Above (right41 o) 41 (omega arith))
        (or_if Above (unless (right50 o store) 50) _ (unless_if Above (right50 o store) 50 (omega arith)) (unless_if Above (right51 o store) 51 (omega arith))))
