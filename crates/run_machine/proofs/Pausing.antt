-- The steps up to a READ or PRINT: what the loop over them keeps, and how it ends. Assumes nothing.
use mathlib.Core.Path.{◌≡◌, refl, sym, ap, ◌∙◌, subst}
use mathlib.Core.Bool.{Bool, false}
use mathlib.Core.List.{List, []}
use Prim.Native.Nat.{ℕ, ◌+◌, ◌≤◌, ◌<◌}
use native.Mathlib.Omega.{arith}
use lib.ListN.{length}
use lib.IntN.{ℤ}
use Rattle.rules_shared.specs.Runs.{go, then, run}
use Rattle.rules_shared.proofs.RunLaws.{run_add}
use Rattle.rules_formats.specs.Walk.{Devices, devices_of}
use Rattle.rules_object.specs.Halts.{Out}
use Rattle.rules_object.specs.Object.{Object, rule_of}
use Rattle.rules_object.specs.Operations.{instruction}
use Rattle.rules_object.specs.Machine.{State, bench_step}
use Rattle.object_contents.specs.declared.placed.Object.{Object as Lent}
use Rattle.object_contents.specs.Book.{book_of}
use Rattle.std.specs.Prelude.{Ok, Err}
use Rattle.object_opcodes.specs.declared.Halt as opcodes
use Rattle.run_registers.specs.declared.Regs.{Regs}
use Rattle.run_registers.specs.declared.Turn.TheVariants as turn
use Rattle.run_registers.specs.Registers.{state_of}
use Rattle.run_registers.specs.Devices.{trays_of}
use Rattle.run_arithmetic.specs.Performed.{After, performed}
use Rattle.run_operations.specs.Ready.{Held}
use Rattle.run_guards.specs.Guarding.{guard_of}
use Rattle.run_machine.specs.declared.Pause.{Pause}
use Rattle.run_machine.specs.declared.Pause.TheVariants.{Used, Halted, Transfer}
use Rattle.run_machine.specs.Running.{NoFault, Because, counted, Pauses}
use Rattle.run_machine.proofs.Passes.{guard_stops}
use Rattle.run_machine.proofs.Stepping.{guard_at, rights_guard, rights_on, bench_step_lem, goes_on, stops_there, left_over}

-- ---- the loop's invariant

pub record Coming (guarded : Bool) (ob : Lent) (allowance : ℕ) (start : Regs) (st₀ so₀ : List ℤ) (r : Regs) (st so : List ℤ) (i : ℕ) : Type 0 where
  pub most : i ≤ allowance
  pub held : Held ob r st so
  pub long : length so ≡ length so₀
  pub safe : guarded ≡ false → NoFault (book_of ob) r st so
  pub comes : (v : Devices) → run (bench_step (book_of ob)) i (state_of start st₀ so₀ v) ≡ go (state_of r st so v)

-- places and store after a step are the same with any cards and paper, so with none
abbrev none : Devices
none = devices_of (trays_of [] [])

module _ (guarded : Bool) (ob : Lent) (allowance : ℕ) (start : Regs) (st₀ so₀ : List ℤ) where
  abbrev O : Object
  O = book_of ob

  abbrev F : State → Out State
  F = bench_step O

  abbrev PausesAs : Pause → ℕ → Regs → List ℤ → List ℤ → Type 0
  PausesAs p n r st so = Pauses ob allowance start st₀ so₀ (record { pause = p; steps = n; regs = r }) st so

  pub begins : Held ob start st₀ so₀ → (guarded ≡ false → NoFault O start st₀ so₀) → Coming guarded ob allowance start st₀ so₀ start st₀ so₀ 0
  begins h w = record { most = omega arith; held = h; long = refl; safe = w; comes = λ v. refl }

  module _ (r : Regs) (st so : List ℤ) (i : ℕ) (g : Coming guarded ob allowance start st₀ so₀ r st so i) where
    pub guard_is : guarded ≡ false → guard_of O r.index r.height ≡ Ok tt
    guard_is q = let w = g.safe q in rights_guard ob r st so w.devices g.held w.rights

    -- the allowance is used, and told
    pub used : (n : ℕ) → allowance ≤ i → n ≡ allowance → PausesAs Used n r st so
    used n l q = record { before = i; steps = omega (arith, g.most); most = omega arith; held = g.held; comes = g.comes; why = omega (arith, g.most) }

    module _ (l : i < allowance) (told : ℕ) (one_more : told ≡ i + 1) where
      pauses : (p : Pause) → i + 1 ≡ counted p i → Because O allowance i r st so p → PausesAs p told r st so
      pauses p n w = record { before = i; steps = one_more ∙ n; most = omega arith; held = g.held; comes = g.comes; why = w }

      pub guard_halts : (n : opcodes.Halt) → Err n ≡ guard_of O r.index r.height → PausesAs (Halted n) told r st so
      guard_halts n a = pauses (Halted n) refl (λ v. guard_stops O (state_of r st so v) n (a ∙ guard_at ob r st so v g.held))

      module _ (z : guard_of O r.index r.height ≡ Ok tt) (a : After) (is : a ≡ performed (rule_of O) (instruction O r.index) r st so) where
        -- one step more
        pub goes : (q : Regs) → a.turn ≡ turn.Next q → Coming guarded ob allowance start st₀ so₀ q a.places a.store (i + 1)
        goes q b =
            let x = goes_on ob r st so none g.held z a is q b in
            record {
              most = omega arith;
              held = x.0.0;
              long = x.0.1 ∙ g.long;
              safe = λ c. let w = g.safe c in record { devices = w.devices; rights = rights_on O (state_of r st so w.devices) _ (goes_on ob r st so w.devices g.held z a is q b).1 w.rights };
              comes = λ v. run_add F i 1 (state_of start st₀ so₀ v) ∙ ap (λ o. then o (λ u. run F 1 u)) (g.comes v)
                  ∙ ap (λ o. then o (λ u. go u)) (bench_step_lem ob r st so v g.held z ∙ (goes_on ob r st so v g.held z a is q b).1);
            }

        -- one that leaves all as it was
        as_it_was : (p : Pause) → (a.places ≡ st) × (a.store ≡ so) → PausesAs p told r st so → PausesAs p told r a.places a.store
        as_it_was p b h = subst (λ c. PausesAs p told r a.places c) (sym b.1) (subst (λ c. PausesAs p told r c so) (sym b.0) h)

        pub halts : (n : opcodes.Halt) → a.turn ≡ turn.Halt n → PausesAs (Halted n) told r a.places a.store
        halts n b = as_it_was (Halted n) (stops_there ob r st so none g.held z a is n b).0 (pauses (Halted n) refl (λ v. (stops_there ob r st so v g.held z a is n b).1))

        pub transfers : a.turn ≡ turn.Transfer → PausesAs Transfer told r a.places a.store
        transfers b = let x = left_over ob r st so none g.held z a is b in as_it_was Transfer x.1 (pauses Transfer refl (z, x.0))
