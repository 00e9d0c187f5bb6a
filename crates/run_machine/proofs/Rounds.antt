-- One round of the loop of a run: the steps up to a READ or PRINT, and that one. Assumes nothing.
use mathlib.Core.Path.{◌≡◌, refl, sym, ap, ap₂, ◌∙◌, subst}
use mathlib.Core.Bool.{Bool}
use mathlib.Core.List.{List}
use Prim.Native.Nat.{ℕ, ◌+◌, ◌-◌, ◌≤◌, ◌<◌}
use native.Mathlib.Omega.{arith}
use lib.ListN.{length}
use lib.IntN.{ℤ}
use Rattle.rules_shared.specs.Runs.{then, run, steps_from, steps}
use Rattle.rules_shared.proofs.RunLaws.{run_add, steps_add, steps_go}
use Rattle.rules_formats.specs.Walk.{Trays, devices_of}
use Rattle.rules_object.specs.Halts.{Out}
use Rattle.rules_object.specs.Object.{Object}
use Rattle.rules_object.specs.Machine.{State, bench_step}
use Rattle.rules_object.specs.Calls.{run_from}
use Rattle.object_contents.specs.declared.placed.Object.{Object as Lent}
use Rattle.object_contents.specs.Book.{book_of}
use Rattle.run_registers.specs.declared.Regs.{Regs}
use Rattle.run_registers.specs.Registers.{onward, state_of}
use Rattle.run_registers.specs.Devices.{devices_in}
use Rattle.std.specs.Prelude.{Result, Ok, Err}
use Rattle.object_opcodes.specs.declared.Halt as opcodes
use Rattle.object_opcodes.specs.declared.Halt.TheVariants.{Allowance}
use Rattle.run_transfers.specs.declared.Trays as counts
use Rattle.run_transfers.specs.Transfers.{Ready, Transfers}
use Rattle.run_machine.specs.declared.Pause.{Pause}
use Rattle.run_machine.specs.declared.Pause.TheVariants.{Used, Halted, Transfer}
use Rattle.run_machine.specs.declared.Paused.{Paused}
use Rattle.run_machine.specs.Running.{answer, Because, counted, Pauses}
use Rattle.run_machine.proofs.Passes.{guard_passes}
use Rattle.run_machine.proofs.Stepping.{rights_run}
use Rattle.run_machine.proofs.Going.{Going, ran_as, used, ends, ready, transfer_goes, transfer_stops}

at_least : (p : Pause) (n : ℕ) → n ≤ counted p n
at_least Used n = omega arith
at_least (Halted number) n = omega arith
at_least Transfer n = omega arith

module _ (guarded : Bool) (ob : Lent) (allowance : ℕ) (start : Regs) (st₀ so₀ : List ℤ) (trays : Trays)
    (r : Regs) (st so : List ℤ) (taken : ℕ) (lines : List ℕ) (written : ℕ) (i : ℕ) (g : Going guarded ob allowance start st₀ so₀ trays r st so taken lines written i)
    (p : Paused) (st' so' : List ℤ) (w : Pauses ob (allowance - i) r st so p st' so') (same : length so' ≡ length so) where
  abbrev O : Object
  O = book_of ob

  abbrev F : State → Out State
  F = bench_step O

  abbrev t₀ : State
  t₀ = state_of start st₀ so₀ (devices_of trays)

  abbrev q : Regs
  q = p.regs

  abbrev j : ℕ
  j = i + w.before

  total : (c : Pause) → p.pause ≡ c → p.steps ≡ counted c w.before
  total c b = w.steps ∙ ap (λ c. counted c w.before) b

  because : (c : Pause) → p.pause ≡ c → Because O (allowance - i) w.before q st' so' c
  because c b = subst (Because O (allowance - i) w.before q st' so') b w.why

  within : w.before ≤ allowance - i
  within = omega (arith, at_least p.pause w.before, w.steps, w.most)

  -- as far as the whole steps
  there : Going guarded ob allowance start st₀ so₀ trays q st' so' taken lines written j
  there =
      let v = devices_in trays.cards taken lines written in
      let n = w.before in
      let t = state_of r st so v in
      let rest = allowance - j in
      let c = w.comes v in
      let m : allowance - i ≡ n + rest = omega (arith, g.most, within) in
      record {
        most = omega (arith, g.most, within);
        held = w.held;
        counted = g.counted;
        rights = λ b. rights_run O n t _ (g.rights b) c;
        long = same ∙ g.long;
        left = g.left ∙ ap (λ m. run F m t) m ∙ run_add F n rest t ∙ ap (λ o. then o (λ u. run F rest u)) c;
        count =
            let d : steps F (n + rest) t ≡ n + steps F rest (state_of q st' so' v) = steps_add F n rest t ∙ ap₂ (λ a o. a + steps_from o (λ u. steps F rest u)) (steps_go F n t _ c) c in
            let x : i + (n + steps F rest (state_of q st' so' v)) ≡ j + steps F rest (state_of q st' so' v) = omega arith in
            g.count ∙ ap (λ m. i + steps F m t) m ∙ ap (λ m. i + m) d ∙ x;
      }

  pub round_used : p.pause ≡ Used → answer O (ran_as Allowance (i + p.steps) q taken written) st' so' lines ≡ run_from O trays F allowance t₀
  round_used b =
      let n : i + p.steps ≡ j = ap (λ n. i + n) (total Used b) in
      ap (λ n. answer O (ran_as Allowance n q taken written) st' so' lines) n ∙ used guarded ob allowance start st₀ so₀ trays q st' so' taken lines written j there (omega (arith, because Used b))

  pub round_halted : (h : opcodes.Halt) → p.pause ≡ Halted h → answer O (ran_as h (i + p.steps) q taken written) st' so' lines ≡ run_from O trays F allowance t₀
  round_halted h b =
      let m = total (Halted h) b in
      let n : i + p.steps ≡ j + 1 = omega arith in
      let x = because (Halted h) b (devices_in trays.cards taken lines written) in
      ap (λ n. answer O (ran_as h n q taken written) st' so' lines) n
      ∙ ends guarded ob allowance start st₀ so₀ trays q st' so' taken lines written j there (omega (arith, m, w.most)) x.0 h x.1.0 x.1.1 taken lines written g.counted refl

  module _ (b : p.pause ≡ Transfer) where
    one_more : i + p.steps ≡ j + 1
    one_more = omega (arith, total Transfer b)

    pub steps_some : 0 < p.steps
    steps_some = omega (arith, total Transfer b)

    below : j < allowance
    below = omega (arith, total Transfer b, w.most)

    pub index_below : q.index < length O.code
    index_below = (guard_passes O q.index q.height (because Transfer b).0).inside

    pub round_ready : (kept : List ℤ) → (0 < ob.layout.transfer_count → ob.layout.cells ≤ length kept) → Ready ob q.index so' kept
    round_ready = ready guarded ob allowance start st₀ so₀ trays q st' so' taken lines written j there below (because Transfer b).0 (because Transfer b).1

    module _ (so'' : List ℤ) (lines' : List ℕ) where
      abbrev Moves : Result counts.Trays opcodes.Halt → Type 0
      Moves m = Transfers O q.index so' trays.cards lines (record { taken = taken; written = written }) m so'' lines'

      pub round_goes : (now : counts.Trays) → Moves (Ok now) → Going guarded ob allowance start st₀ so₀ trays (onward q.height q) st' so'' now.taken lines' now.written (i + p.steps)
      round_goes now tr =
          subst (λ n. Going guarded ob allowance start st₀ so₀ trays (onward q.height q) st' so'' now.taken lines' now.written n) (sym one_more)
          (transfer_goes guarded ob allowance start st₀ so₀ trays q st' so' taken lines written j there below (because Transfer b).0 (because Transfer b).1 (Ok now) so'' lines' tr now refl)

      pub round_stops : (x : opcodes.Halt) → Moves (Err x) → answer O (ran_as x (i + p.steps) q taken written) st' so'' lines' ≡ run_from O trays F allowance t₀
      round_stops x tr =
          ap (λ n. answer O (ran_as x n q taken written) st' so'' lines') one_more
          ∙ transfer_stops guarded ob allowance start st₀ so₀ trays q st' so' taken lines written j there below (because Transfer b).0 (because Transfer b).1 (Err x) so'' lines' tr x refl
