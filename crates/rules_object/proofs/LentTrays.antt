-- What a run and a bench run leave of what was lent for cards and lines.
-- Assumes nothing.
use mathlib.Core.Path.{refl, sym, subst}
use mathlib.Core.List.{List}
use Prim.Native.Nat.{ℕ, ◌*◌, ◌≤◌}
use native.Mathlib.Omega.{arith}
use lib.ListN.{length}
use lib.IntN.{ℤ}
use Rattle.rules_shared.specs.Runs.{go, halt, run}
use Rattle.rules_formats.specs.Walk.{line_width, room_of, Trays, devices_of}
use Rattle.rules_formats.proofs.Lengths.{last_count, cards_lent}
use Rattle.rules_formats.proofs.Resume.{Used, used_none, lines_rest, lines_long}
use Rattle.rules_object.specs.Halts.{halt_number, Out}
use Rattle.rules_object.specs.Object.{Object}
use Rattle.rules_object.specs.Machine.{State, fresh, step, bench_step}
use Rattle.rules_shared.specs.Refusals.{Refusal}
use Rattle.rules_object.specs.Calls.{Lent, taken, not_run, halted, ran, running, benching}
use Rattle.rules_object.specs.Promised.{came_to, InTrays}
use Rattle.rules_object.proofs.Earlier.{run_used, bench_used}
use Rattle.rules_object.proofs.Accepts.{Answer, refuses, runs, answer, BenchAnswer, bench_answer}

module _ (trays : Trays) where
  refused_trays : (r : Refusal) (l : Lent) (store : List ℤ) → InTrays trays (not_run r l store trays)
  refused_trays r l store = record { cards = omega arith; lines = omega arith; long = refl; others = refl }

  halted_trays : (h n : ℕ) (o : Object) (t : State) → Used trays t.devices → InTrays trays (halted h n o trays t)
  unfolding room_of
  halted_trays h n o t u =
      let ls = t.devices.paper.lines in
      let room : line_width * length ls ≤ length trays.lines = omega (arith, u.room) in
      record {
        cards = omega (arith, last_count u.cards, (cards_lent trays.cards).1);
        lines = room;
        long = lines_long ls u.wide trays.lines room;
        others = lines_rest ls u.wide trays.lines;
      }

  ran_trays : (o : Object) (n : ℕ) (x : Out State) → Used trays (came_to x).devices → InTrays trays (ran o trays n x)
  ran_trays o n (go t) u = halted_trays 2 n o t u
  ran_trays o n (halt h t) u = halted_trays (halt_number h) n o t u

pub run_trays : (bytes : List ℕ) (store : List ℤ) (l : Lent) (trays : Trays) (a : ℕ) → InTrays trays (running bytes store l trays a)
unfolding taken
run_trays bytes store l trays a = by (answer bytes store l)
  where
    by : Answer bytes store l → InTrays trays (running bytes store l trays a)
    by (refuses r p q) = subst (InTrays trays) (sym (q trays a)) (refused_trays trays r l store)
    by (runs x q) =
        let t = taken l store (devices_of trays) in
        subst (InTrays trays) (sym (q trays a)) (ran_trays trays x.object _ (run (step x.object) a t) (run_used x.object trays a t (used_none trays)))

pub bench_trays : (bytes : List ℕ) (store : List ℤ) (l : Lent) (trays : Trays) (a : ℕ) → InTrays trays (benching bytes store l trays a)
bench_trays bytes store l trays a = by (bench_answer bytes store)
  where
    by : BenchAnswer bytes store → InTrays trays (benching bytes store l trays a)
    by (refuses r p q) = subst (InTrays trays) (sym (q l trays a)) (refused_trays trays r l store)
    by (runs x q) =
        let t = fresh store (devices_of trays) in
        subst (InTrays trays) (sym (q l trays a)) (ran_trays trays x.object _ (run (bench_step x.object) a t) (bench_used x.object trays a t (used_none trays)))
