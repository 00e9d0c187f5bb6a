-- A run from where another was stopped by its allowance, with what that left of cards and lines: both are one run.
-- Assumes nothing.
use mathlib.Core.Path.{◌≡◌, sym, ap, ap₂, ◌∙◌, subst}
use mathlib.Core.List.{List, ◌++◌, append-nil}
use Prim.Native.Nat.{ℕ, ◌+◌, ◌-◌, ◌*◌}
use native.Mathlib.Omega.{arith}
use lib.ListN.{length, take, length-append}
use Rattle.rules_shared.specs.Runs.{go, halt, run, steps}
use Rattle.rules_shared.specs.Refusals.{accepted}
use Rattle.rules_formats.specs.Walk.{Columns, line_width, with_paper, cards_of, Trays, devices_of, lines_after}
use Rattle.rules_formats.proofs.Lengths.{last_count}
use Rattle.rules_formats.proofs.Resume.{Used, used_none, lines_both, anew, resumed}
use Rattle.rules_object.specs.Halts.{halt_number, Out}
use Rattle.rules_object.specs.Object.{Object}
use Rattle.rules_object.specs.Machine.{State, step, with_devices}
use Rattle.rules_object.specs.Calls.{taken, given, sequence_of, Ran, halted, ran, run_from}
use Rattle.rules_object.specs.Safe.{rest, after_run}
use Rattle.rules_object.specs.Promised.{came_to}
use Rattle.rules_shared.proofs.RunLaws.{map_out}
use Rattle.rules_object.proofs.Lents.{taken_given}
use Rattle.rules_object.proofs.Earlier.{below, run_below, steps_below, run_used}

-- u is where the first is stopped
module _ (o : Object) (trays : Trays) (a : ℕ) (u : State) (used : Used trays u.devices) where
  abbrev first : Ran
  first = halted 2 a o trays u

  abbrev lines : List Columns
  lines = u.devices.paper.lines

  -- where the second begins
  abbrev again : State
  again = with_devices (anew u.devices) u

  devices_again : devices_of (rest trays first) ≡ anew u.devices
  unfolding rest
  devices_again = resumed trays u.devices used

  taken_again : taken (given u) u.store (devices_of (rest trays first)) ≡ again
  unfolding given
  taken_again = ap (taken (given u) u.store) devices_again ∙ taken_given again

  below_again : u ≡ below lines again
  below_again = ap (λ ls. with_devices (with_paper (record { lines = ls; room = u.devices.paper.room }) u.devices) u) (sym (append-nil lines))

  module _ (n : ℕ) (w : State) (used' : Used (rest trays first) w.devices) where
    cards_both : length (cards_of trays.cards) - length w.devices.cards ≡ first.cards_taken + (length (cards_of (rest trays first).cards) - length w.devices.cards)
    unfolding devices_of
    cards_both =
        let all = last_count used.cards in
        let some' = last_count used'.cards in
        let same : length (cards_of (rest trays first).cards) ≡ length u.devices.cards = ap (λ d. length d.cards) devices_again in
        omega arith

    lines_again : lines_after (lines ++ w.devices.paper.lines) trays.lines ≡ take (line_width * length lines) (lines_after lines trays.lines) ++ lines_after w.devices.paper.lines (rest trays first).lines
    unfolding rest
    lines_again = lines_both lines used.wide trays.lines w.devices.paper.lines

    halted_both : (h : ℕ) → halted h (a + n) o trays (below lines w) ≡ after_run first (halted h n o (rest trays first) w)
    unfolding after_run given
    halted_both h = λ i.
        record {
          refusal = accepted;
          halt = h;
          steps = a + n;
          sequence = sequence_of o.lines w.mark;
          lent = given w;
          store = w.store;
          cards_taken = cards_both i;
          lines_written = length-append lines w.devices.paper.lines i;
          lines = lines_again i;
        }

  ran_both : (n : ℕ) (x : Out State) → Used (rest trays first) (came_to x).devices → ran o trays (a + n) (map_out (below lines) x) ≡ after_run first (ran o (rest trays first) n x)
  ran_both n (go w) h = halted_both n w h 2
  ran_both n (halt k w) h = halted_both n w h (halt_number k)

  -- on from u, and from what is left
  pub from_both : (b : ℕ) → ran o trays (a + steps (step o) b u) (run (step o) b u) ≡ after_run first (run_from o (rest trays first) (step o) b (taken (given u) u.store (devices_of (rest trays first))))
  from_both b =
      let s : steps (step o) b u ≡ steps (step o) b again = ap (steps (step o) b) below_again ∙ steps_below o lines b again in
      let r : run (step o) b u ≡ map_out (below lines) (run (step o) b again) = ap (run (step o) b) below_again ∙ run_below o lines b again in
      let used' : Used (rest trays first) again.devices = subst (Used (rest trays first)) devices_again (used_none (rest trays first)) in
      ap₂ (λ n x. ran o trays (a + n) x) s r
      ∙ ran_both (steps (step o) b again) (run (step o) b again) (run_used o (rest trays first) b again used')
      ∙ ap (λ v. after_run first (run_from o (rest trays first) (step o) b v)) (sym taken_again)
