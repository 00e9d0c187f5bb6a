-- No fault, from whatever may be run. Promise 6.
-- Assumes nothing.
use mathlib.Core.Path.{◌≡◌}
use mathlib.Core.List.{List}
use mathlib.Core.Option.{some}
use Prim.Native.Nat.{ℕ}
use lib.IntN.{ℤ}
use Rattle.rules_formats.specs.Walk.{Devices}
use Rattle.rules_object.specs.Object.{Object}
use Rattle.rules_object.specs.Machine.{State}
use Rattle.rules_object.specs.Calls.{Lent, taken}
use Rattle.rules_object.specs.Safe.{Stands, Faultless}
use Rattle.rules_object.specs.Passed.{Passed}
use Rattle.rules_object.specs.Bytes.{read_object}
use Rattle.rules_object.specs.Promised.{Runnable}
use Rattle.rules_object.proofs.Safe.{run_stands, run_halts}
use Rattle.rules_object.proofs.Runnable.{runnable_stands}
use Rattle.rules_object.proofs.BenchRuns.{bench_is_run, bench_steps}

pub stands_no_fault : {bytes : List ℕ} {o : Object} {table : List ℕ} → Passed bytes o table → (t : State) → Stands o table t → Faultless o t
stands_no_fault p t s =
    record {
      right = λ n u e. (run_stands p n t u s e).1;
      halts = λ n h u e. (run_halts p n t u h s e).1;
      guarded = λ n. bench_is_run p n t s;
      counted = λ n. bench_steps p n t s;
    }

pub runnable_no_fault : (bytes : List ℕ) (store : List ℤ) (l : Lent) → Runnable bytes store l → (devices : Devices) (o : Object) → read_object bytes ≡ some o → Faultless o (taken l store devices)
runnable_no_fault bytes store l r devices o e = let x = runnable_stands r devices o e in stands_no_fault x.1.0 (taken l store devices) x.1.1
