-- A run, from one READ or PRINT to the next: what the loop keeps. Assumes nothing.
use mathlib.Core.Path.{◌≡◌, refl, sym, ap, ap₂, ◌∙◌, subst}
use mathlib.Core.Bool.{Bool, false}
use mathlib.Core.Logic.{◌⊎◌, inl, inr}
use mathlib.Core.List.{List}
use Prim.Native.Nat.{ℕ, zero, suc, ◌+◌, ◌-◌, ◌≤◌, ◌<◌}
use native.Mathlib.Omega.{arith}
use lib.ListN.{length}
use lib.IntN.{ℤ}
use Rattle.rules_shared.specs.Runs.{go, halt, then, run, steps_from, steps}
use Rattle.rules_formats.specs.Walk.{Trays, Devices, devices_of}
use Rattle.rules_object.specs.Halts.{halt_number, Out}
use Rattle.rules_object.specs.Object.{Object, rule_of}
use Rattle.rules_object.specs.Operations.{operation_of, instruction}
use Rattle.rules_object.specs.Machine.{State, going_to, next, with_store, with_devices, halt_in, step, bench_step}
use Rattle.rules_object.specs.Calls.{taken, ran, halted, run_from}
use Rattle.rules_object.specs.Safe.{Faultless}
use Rattle.object_contents.specs.declared.placed.Object.{Object as Lent}
use Rattle.object_contents.specs.Book.{book_of}
use Rattle.object_contents.proofs.Entries.{code_length}
use Rattle.run_registers.specs.declared.Regs.{Regs}
use Rattle.run_registers.specs.Registers.{onward, state_of}
use Rattle.run_registers.specs.Devices.{trays_of, devices_in, Counted}
use Rattle.run_registers.proofs.DeviceLaws.{devices_begin, counted_begin, counted_on, cards_taken, lines_written, lines_after_lem}
use Rattle.run_operations.specs.Ready.{Held}
use Rattle.run_guards.specs.Guarding.{word_of, guard_of}
use Rattle.run_guards.proofs.Guards.{word_in_table}
use Rattle.std.specs.Prelude.{Result, Ok, Err}
use Rattle.object_opcodes.specs.declared.Halt as opcodes
use Rattle.object_opcodes.specs.declared.Halt.TheVariants.{Allowance}
use Rattle.object_opcodes.specs.Halts.{number_of}
use Rattle.run_transfers.specs.declared.Trays as counts
use Rattle.run_transfers.specs.Transfers.{Ready, Moved, after, Transfers}
use Rattle.run_machine.specs.declared.Ran.{Ran}
use Rattle.run_machine.specs.Running.{answer, Rights, IsTransfer}
use Rattle.run_machine.proofs.Places.{given_back}
use Rattle.run_machine.proofs.Does.{Sound}
use Rattle.run_machine.proofs.Performs.{held_sound, sound_held}
use Rattle.run_machine.proofs.Passes.{guard_passes}
use Rattle.run_machine.proofs.Stepping.{rights_on, bench_step_lem}
use Rattle.run_machine.proofs.Transferring.{transfer_number, transfer_keeps, moved_on, moved_not}

-- one run's answer, as the code has it
abbrev pub ran_as : opcodes.Halt → ℕ → Regs → ℕ → ℕ → Ran
ran_as h n r taken written = record { halt = h; steps = n; regs = r; trays = record { taken = taken; written = written } }

module _ (ob : Lent) where
  abbrev o : Object
  o = book_of ob

  module _ (r : Regs) (st so : List ℤ) (held : Held ob r st so) where
    -- the book's answer, where the run is at such a state
    pub answer_is : (trays : Trays) (taken : ℕ) (lines : List ℕ) (written : ℕ) → Counted trays taken lines written → (h : opcodes.Halt) (n : ℕ)
        → answer o (ran_as h n r taken written) st so lines ≡ halted (number_of h) n o trays (state_of r st so (devices_in trays.cards taken lines written))
    unfolding taken
    answer_is trays taken lines written c h n =
        let v = devices_in trays.cards taken lines written in
        let e₁ = sym (given_back r.height st held.forty held.low held.clean r.index r.mark so v) in
        let e₂ = sym (cards_taken trays taken lines written c) in
        let e₃ = sym (lines_written trays taken lines written c) in
        let e₄ = sym (lines_after_lem trays taken lines written c) in
        let z : answer o (ran_as h n r taken written) st so lines ≡ halted (number_of h) n o trays (state_of r st so v) = cc in
        z

-- ---- the loop's invariant

pub record Going (guarded : Bool) (ob : Lent) (allowance : ℕ) (start : Regs) (st₀ so₀ : List ℤ) (trays : Trays)
    (r : Regs) (st so : List ℤ) (taken : ℕ) (lines : List ℕ) (written : ℕ) (i : ℕ) : Type 0 where
  pub most : i ≤ allowance
  pub held : Held ob r st so
  pub counted : Counted trays taken lines written
  pub rights : guarded ≡ false → Rights (book_of ob) (state_of r st so (devices_in trays.cards taken lines written))
  pub long : length so ≡ length so₀
  pub left : run (bench_step (book_of ob)) allowance (state_of start st₀ so₀ (devices_of trays)) ≡ run (bench_step (book_of ob)) (allowance - i) (state_of r st so (devices_in trays.cards taken lines written))
  pub count : steps (bench_step (book_of ob)) allowance (state_of start st₀ so₀ (devices_of trays)) ≡ i + steps (bench_step (book_of ob)) (allowance - i) (state_of r st so (devices_in trays.cards taken lines written))

module _ (guarded : Bool) (ob : Lent) (allowance : ℕ) (start : Regs) (st₀ so₀ : List ℤ) (trays : Trays) where
  abbrev O : Object
  O = book_of ob

  abbrev F : State → Out State
  F = bench_step O

  abbrev t₀ : State
  t₀ = state_of start st₀ so₀ (devices_of trays)

  pub begins : Held ob start st₀ so₀ → (guarded ≡ false → Faultless O t₀) → Going guarded ob allowance start st₀ so₀ trays start st₀ so₀ 0 trays.lines 0 0
  begins h w =
      let v : devices_of trays ≡ devices_in trays.cards 0 trays.lines 0 = sym (devices_begin trays) in
      let n : allowance ≡ allowance - 0 = omega arith in
      let m : steps F allowance t₀ ≡ 0 + steps F allowance t₀ = omega arith in
      record {
        most = omega arith;
        held = h;
        counted = counted_begin trays;
        rights = λ q. subst (λ d. Rights O (state_of start st₀ so₀ d)) v (w q).right;
        long = refl;
        left = ap₂ (λ k d. run F k (state_of start st₀ so₀ d)) n v;
        count = m ∙ ap₂ (λ k d. 0 + steps F k (state_of start st₀ so₀ d)) n v;
      }

  module _ (r : Regs) (st so : List ℤ) (taken : ℕ) (lines : List ℕ) (written : ℕ) (i : ℕ) (g : Going guarded ob allowance start st₀ so₀ trays r st so taken lines written i) where
    abbrev v : Devices
    v = devices_in trays.cards taken lines written

    abbrev u : State
    u = state_of r st so v

    -- what is lent for lines as it is now
    pub counted_now : Counted (trays_of trays.cards lines) taken lines written
    counted_now = record { cards = g.counted.cards; room = g.counted.room; long = refl; rest = refl }

    -- the allowance is used
    pub used : allowance ≤ i → answer O (ran_as Allowance i r taken written) st so lines ≡ run_from O trays F allowance t₀
    used l =
        let n : allowance - i ≡ 0 = omega arith in
        let m : i ≡ i + steps F 0 u = omega arith in
        answer_is ob r st so g.held trays taken lines written g.counted Allowance i
        ∙ ap₂ (λ k b. ran O trays k b) (m ∙ ap (λ k. i + steps F k u) (sym n) ∙ sym g.count) (ap (λ k. run F k u) (sym n) ∙ sym g.left)

    module _ (l : i < allowance) where
      one : suc (allowance - (i + 1)) ≡ allowance - i
      one = omega arith

      -- one step halts the run; cards and lines are as they were
      pub ends : (x : _) (n : opcodes.Halt) → F u ≡ halt x u → number_of n ≡ halt_number x → (taken' : ℕ) (lines' : List ℕ) (written' : ℕ) → Counted trays taken' lines' written' → devices_in trays.cards taken' lines' written' ≡ v
          → answer O (ran_as n (i + 1) r taken' written') st so lines' ≡ run_from O trays F allowance t₀
      ends x n b q taken' lines' written' c w =
          let d : i + 1 ≡ i + suc zero = omega arith in
          let count : i + 1 ≡ steps F allowance t₀ = d ∙ ap (λ y. i + suc (steps_from y (λ v. steps F (allowance - (i + 1)) v))) (sym b) ∙ ap (λ k. i + steps F k u) one ∙ sym g.count in
          let left : halt x u ≡ run F allowance t₀ = ap (λ y. then y (λ v. run F (allowance - (i + 1)) v)) (sym b) ∙ ap (λ k. run F k u) one ∙ sym g.left in
          answer_is ob r st so g.held trays taken' lines' written' c n (i + 1)
          ∙ ap₂ (λ k d. halted k (i + 1) O trays (state_of r st so d)) q w
          ∙ ap₂ (λ k b. ran O trays k b) count left

      module _ (z : guard_of O r.index r.height ≡ Ok tt) (is : IsTransfer (instruction O r.index)) where
        -- one step more
        goes_to_lem : (q : Regs) (st' so' : List ℤ) (taken' : ℕ) (lines' : List ℕ) (written' : ℕ) → Held ob q st' so' → length so' ≡ length so → Counted trays taken' lines' written'
            → step O u ≡ go (state_of q st' so' (devices_in trays.cards taken' lines' written'))
            → Going guarded ob allowance start st₀ so₀ trays q st' so' taken' lines' written' (i + 1)
        goes_to_lem q st' so' taken' lines' written' h n c x =
            let w = state_of q st' so' (devices_in trays.cards taken' lines' written') in
            let y : F u ≡ go w = bench_step_lem ob r st so v g.held z ∙ x in
            let rest = allowance - (i + 1) in
            let m : i + suc (steps F rest w) ≡ i + 1 + steps F rest w = omega arith in
            record {
              most = omega arith;
              held = h;
              counted = c;
              rights = λ q. rights_on O u w x (g.rights q);
              long = n ∙ g.long;
              left = g.left ∙ ap (λ j. run F j u) (sym one) ∙ ap (λ c. then c (λ w. run F rest w)) y;
              count = g.count ∙ ap (λ j. i + steps F j u) (sym one) ∙ ap (λ c. i + suc (steps_from c (λ w. steps F rest w))) y ∙ m;
            }

        pub ready : (kept : List ℤ) → (0 < ob.layout.transfer_count → ob.layout.cells ≤ length kept) → Ready ob r.index so kept
        unfolding operation_of
        ready kept room =
            let h = g.held in
            let p = guard_passes O r.index r.height z in
            record {
              right = h.right;
              inside = omega (arith, p.inside, code_length ob.layout ob.bytes.now);
              is = either (transfer_number is) (word_in_table O (word_of O r.index) p.operand).1;
              operand = p.operand;
              entry = p.entry;
              long = h.long;
              fit = h.store;
              room = room;
            }
          where
            either : {n m : ℕ} → (n ≡ 16) ⊎ (n ≡ 17) → n ≡ m → (m ≡ 16) ⊎ (m ≡ 17)
            either (inl p) q = inl (sym q ∙ p)
            either (inr p) q = inr (sym q ∙ p)

        module _ (m : Result counts.Trays opcodes.Halt) (so' : List ℤ) (lines' : List ℕ) (tr : Transfers O r.index so trays.cards lines (record { taken = taken; written = written }) m so' lines') where
          abbrev N : counts.Trays
          N = after (record { taken = taken; written = written }) m

          abbrev v' : Devices
          v' = devices_in trays.cards N.taken lines' N.written

          counted' : Counted trays N.taken lines' N.written
          counted' = counted_on trays taken lines written g.counted N.taken lines' N.written tr.counted tr.onward

          outcome : Moved m u so' v' (step O u)
          unfolding taken
          outcome = tr.is u refl refl refl

          -- the state after it
          after_is : next (with_devices v' (with_store so' u)) ≡ state_of (onward r.height r) st so' v'
          unfolding taken
          after_is = let j : suc r.index ≡ r.index + 1 = omega arith in ap (λ n. going_to n (with_devices v' (with_store so' u))) j

          pub transfer_goes : (now : counts.Trays) → m ≡ Ok now → Going guarded ob allowance start st₀ so₀ trays (onward r.height r) st so' N.taken lines' N.written (i + 1)
          unfolding taken step
          transfer_goes now q =
              let x = moved_on outcome now q ∙ ap go after_is in
              let h = g.held in
              let y = held_sound ob r st so h in
              let c = transfer_keeps (rule_of O) ob.layout.cells (length so) (instruction O r.index) is u (refl, y.store) _ x in
              let w : Sound ob.layout.cells (rule_of O).ceiling r.height st so' = record { low = y.low; forty = y.forty; clean = y.clean; stack = y.stack; long = omega (arith, c.0, y.long); store = c.1 } in
              goes_to_lem (onward r.height r) st so' N.taken lines' N.written (sound_held ob r st so h (onward r.height r) st so' w) c.0 counted' x

          pub transfer_stops : (x : opcodes.Halt) → m ≡ Err x → answer O (ran_as x (i + 1) r N.taken N.written) st so' lines' ≡ run_from O trays F allowance t₀
          unfolding taken
          transfer_stops n q =
              let x = moved_not outcome n q in
              ap (λ c. answer O (ran_as n (i + 1) r N.taken N.written) st c lines') x.store
              ∙ ends (halt_in x.trouble) n (bench_step_lem ob r st so v g.held z ∙ x.is) x.number N.taken lines' N.written counted' x.devices

-- ---- a run of an object that passes is its bench run

pub run_bench : (o : Object) (trays : Trays) (t : State) → Faultless o t → (n : ℕ) → run_from o trays (bench_step o) n t ≡ run_from o trays (step o) n t
run_bench o trays t h n = ap₂ (λ k b. ran o trays k b) (h.counted n) (h.guarded n)
