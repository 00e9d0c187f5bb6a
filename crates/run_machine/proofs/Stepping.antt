-- One step as the code does it, and the book's. Assumes nothing.
use mathlib.Core.Path.{◌≡◌, refl, sym, ap, ◌∙◌, subst}
use mathlib.Core.List.{List}
use Prim.Native.Nat.{ℕ, suc}
use native.Mathlib.Omega.{arith}
use lib.ListN.{length}
use lib.IntN.{ℤ}
use Rattle.rules_shared.specs.Runs.{go, halt, then, run}
use Rattle.rules_shared.proofs.RunLaws.{run_keeps}
use Rattle.rules_formats.specs.Walk.{Devices}
use Rattle.rules_object.specs.Halts.{halt_number, Out}
use Rattle.rules_object.specs.Object.{Object, rule_of}
use Rattle.rules_object.specs.Operations.{instruction}
use Rattle.rules_object.specs.Machine.{State, act, step, bench_step}
use Rattle.rules_object.specs.Calls.{taken}
use Rattle.object_contents.specs.declared.placed.Object.{Object as Lent}
use Rattle.object_contents.specs.Book.{book_of}
use Rattle.std.specs.Prelude.{Ok}
use Rattle.object_opcodes.specs.declared.Halt as opcodes
use Rattle.object_opcodes.specs.Halts.{number_of}
use Rattle.run_registers.specs.declared.Regs.{Regs}
use Rattle.run_registers.specs.declared.Turn.TheVariants.{Next, Halt, Transfer}
use Rattle.run_registers.specs.Registers.{state_of}
use Rattle.run_arithmetic.specs.Performed.{After, performed}
use Rattle.run_operations.specs.Ready.{Held}
use Rattle.run_guards.specs.Guarding.{word_of, guard_of}
use Rattle.run_machine.specs.Running.{Rights, IsTransfer}
use Rattle.run_machine.proofs.Places.{tops_is, length_tops}
use Rattle.run_machine.proofs.Does.{Did, DidAll}
use Rattle.run_machine.proofs.Performs.{performs, sound_held}
use Rattle.run_machine.proofs.Passes.{guard_passes, passes_ready, instruction_is, guard_none, right_guard}

-- ---- a run in which every instruction can be done

pub rights_on : (o : Object) (t u : State) → step o t ≡ go u → Rights o t → Rights o u
rights_on o t u q w n u' x = w (suc n) u' (ap (λ y. then y (λ v. run (step o) n v)) q ∙ x)

pub rights_run : (o : Object) (n : ℕ) (t u : State) → Rights o t → run (bench_step o) n t ≡ go u → Rights o u
rights_run o n t u w e = run_keeps (Rights o) (bench_step o) (λ s t w e. rights_on o s t (sym (guard_none o s (right_guard o s (w 0 s refl))) ∙ e) w) n t u w e

-- ---- one step

module _ (ob : Lent) where
  abbrev o : Object
  o = book_of ob

  abbrev f : State → Out State
  f = bench_step o

  module _ (r : Regs) (st so : List ℤ) (v : Devices) (held : Held ob r st so) where
    abbrev t : State
    t = state_of r st so v

    pub height_is : length t.stack ≡ r.height
    unfolding taken
    height_is = ap length (tops_is r.height st (omega (arith, held.low, held.forty))) ∙ length_tops r.height st

    pub guard_at : guard_of o r.index r.height ≡ guard_of o t.index (length t.stack)
    unfolding taken
    guard_at = ap (guard_of o r.index) (sym height_is)

    pub rights_guard : Rights o t → guard_of o r.index r.height ≡ Ok tt
    rights_guard w = guard_at ∙ right_guard o t (w 0 t refl)

    pub bench_step_lem : guard_of o r.index r.height ≡ Ok tt → f t ≡ step o t
    bench_step_lem z = guard_none o t (sym guard_at ∙ z)

    -- a step as the code does it, and the book's
    module _ (zero-guard : guard_of o r.index r.height ≡ Ok tt) (a : After) (is : a ≡ performed (rule_of o) (instruction o r.index) r st so) where
      abbrev C : ℕ
      C = (rule_of o).ceiling

      abbrev X : Type 0
      X = IsTransfer (instruction o r.index)

      did : DidAll X ob.layout.cells C st so t a (step o t)
      unfolding step taken
      did =
          let i = r.index in
          let w = word_of o i in
          let d = performs ob r st so held v _ _ (passes_ready o i r.height w _ _ (guard_passes o i r.height zero-guard) refl refl refl) in
          let q = instruction_is o i w _ _ refl refl refl in
          subst (λ b. DidAll X ob.layout.cells C st so t b (step o t)) (sym is)
          (subst (λ n. DidAll (IsTransfer n) ob.layout.cells C st so t (performed (rule_of o) n r st so) (act (rule_of o) n t)) q d)

      module _ (q : Regs) (goes : a.turn ≡ Next q) where
        on : (b : Out State) → step o t ≡ b → Did X ob.layout.cells C st so t (Next q) a.places a.store b
            → (Held ob q a.places a.store × (length a.store ≡ length so)) × (step o t ≡ go (state_of q a.places a.store v))
        unfolding taken
        on (go u) x d = ((sound_held ob r st so held q a.places a.store d.0.0, d.0.1), x ∙ ap go (sym d.1))
        on (halt h u) x d = absurd d

        pub goes_on : (Held ob q a.places a.store × (length a.store ≡ length so)) × (step o t ≡ go (state_of q a.places a.store v))
        goes_on = on (step o t) refl (subst (λ y. Did X ob.layout.cells C st so t y a.places a.store (step o t)) goes did)

      module _ (n : opcodes.Halt) (stops : a.turn ≡ Halt n) where
        off : (b : Out State) → step o t ≡ b → Did X ob.layout.cells C st so t (Halt n) a.places a.store b
            → ((a.places ≡ st) × (a.store ≡ so)) × ((h : _) × ((step o t ≡ halt h t) × (number_of n ≡ halt_number h)))
        off (go u) x d = absurd d
        off (halt h u) x d = (d.0, (h, (x ∙ ap (halt h) d.1.1, d.1.0)))

        pub stops_there : ((a.places ≡ st) × (a.store ≡ so)) × ((h : _) × ((f t ≡ halt h t) × (number_of n ≡ halt_number h)))
        stops_there =
            let d = off (step o t) refl (subst (λ y. Did X ob.layout.cells C st so t y a.places a.store (step o t)) stops did) in
            (d.0, (d.1.0, (bench_step_lem zero-guard ∙ d.1.1.0, d.1.1.1)))

      -- a READ or PRINT, of which nothing is done yet
      pub left_over : a.turn ≡ Transfer → X × ((a.places ≡ st) × (a.store ≡ so))
      left_over q = subst (λ y. Did X ob.layout.cells C st so t y a.places a.store (step o t)) q did
