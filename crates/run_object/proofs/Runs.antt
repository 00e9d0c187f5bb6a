-- Run and bench: each end of them, from what the machine answers.
-- Assumes nothing.
use mathlib.Core.Path.{◌≡◌, sym, ap, ◌∙◌, subst}
use mathlib.Core.Bool.{true, false}
use mathlib.Core.List.{List, reverse}
use mathlib.Core.Option.{Option, none, some}
use Prim.Native.Nat.{ℕ, ◌≤◌}
use native.Mathlib.Omega.{arith}
use lib.Dec.{ltb, leb, eqb}
use lib.ListN.{length, take, replicate}
use borrow.Author.Tests.{leb-true, eqb-true}
use lib.IntN.{ℤ, pos}
use Rattle.rules_shared.specs.Limits.{limits}
use Rattle.rules_formats.specs.Walk.{Devices, Trays, devices_of}
use Rattle.rules_object.specs.Object.{Object}
use Rattle.rules_object.specs.Check.{right41}
use Rattle.rules_object.specs.Machine.{State, fresh, step, bench_step}
use Rattle.rules_object.proofs.States.{state}
use Rattle.rules_object.specs.Flow.{height_at}
use Rattle.rules_object.specs.Bytes.{read_object}
use Rattle.rules_object.specs.Safe.{Faultless, Stands}
use Rattle.rules_shared.specs.Refusals.{Refusal, refusal, or_else, unless}
use Rattle.rules_object.specs.Calls.{Checked, passed, refused, Lent, taken, right50, right51, right52, sequence_of, run_from, or_refused, run_checked, running, bench_object, benching, refused50to52, checked}
use Rattle.rules_object.specs.Calls as book
use Rattle.rules_object.specs.Passed.{Passed}
use Rattle.rules_object.proofs.Passed.{both, or_none, unless_none}
use Rattle.rules_object.proofs.Lents.{taken_stands}
use Rattle.rules_object.proofs.NoFault.{stands_no_fault}
use Rattle.object_contents.specs.declared.Layout.{Layout}
use Rattle.object_contents.specs.Layout.{object_at}
use Rattle.object_contents.specs.declared.placed.Object.{Object as Opened}
use Rattle.object_contents.specs.Book.{book_of}
use Rattle.object_opcodes.specs.Halts.{number_of as halt_number_of}
use Rattle.refusals.specs.declared.Reason.{Reason}
use Rattle.refusals.specs.declared.Refusal as declared_refusal
use Rattle.refusals.specs.Numbers.{number_of}
use Rattle.refusals.specs.Answers.{refusal_of}
use Rattle.object_contents.proofs.Entries.{code_length}
use Rattle.run_registers.specs.declared.Regs.{Regs}
use Rattle.run_registers.specs.Registers.{regs, state_of, lent_of}
use Rattle.run_operations.specs.Ready.{Held}
use Rattle.run_machine.specs.declared.Ran.{Ran}
use Rattle.run_machine.specs.Running.{answer}
use Rattle.run_machine.proofs.Starts.{stands_held, fresh_held, fresh_state}
use Rattle.run_machine.proofs.Going.{run_bench}
use Rattle.rules_object.proofs.Limited.{limited}
use Rattle.run_object.specs.declared.Ran as declared
use Rattle.run_lent.specs.Lending.{lent, refused_store, Cleared}
use Rattle.run_object.specs.Outcomes.{ran_of, refused_ran, Ends}
use Rattle.check_object.proofs.Tells.{Accepted}
use Rattle.run_lent.proofs.Lent.{cleared_take, cleared_above, cleared_all}
use Rattle.run_lent.proofs.Index.{Low, Back, stays_in}

-- the answer by the state that goes back
pub finished : (o : Object) (q : Ran) (places store : List ℤ) (lines : List ℕ) (l : Lent) (h n : ℕ) → h ≡ halt_number_of q.halt → l ≡ lent_of q.regs places → n ≡ sequence_of o.lines q.regs.mark
    → ran_of (record { number = 0; place = 0; kind = 0; halt = h; steps = q.steps; sequence = n; cards = q.trays.taken; lines = q.trays.written }) l store lines ≡ answer o q places store lines
finished o q places store lines l h n e a b = rw (e, a, b)

-- ---- either run, ended

module _ (o : Object) (trays : Trays) (q : Ran) (places store : List ℤ) (lines : List ℕ) (a : ℕ) (t : State) (low : Low o t) (says : answer o q places store lines ≡ run_from o trays (bench_step o) a t) where
  pub back : Back o (lent_of q.regs places)
  back = subst (λ (x : book.Ran). Back o x.lent) (sym says) (stays_in o trays a t low)

-- for `finish`
pub low_back : (ob : Opened) (q : Ran) (places : List ℤ) → right41 (book_of ob) ≡ true → Back (book_of ob) (lent_of q.regs places) → (q.regs.index ≤ 4096) × (q.regs.height ≤ 4096)
low_back ob q places r b = (omega (arith, b.index, (limited (book_of ob) ob.placed.edition r).code), omega (arith, b.height))

store_passes : (o : Object) (store : List ℤ) → none ≡ refused_store o store → (right50 o store ≡ true) × (right51 o store ≡ true)
unfolding refused_store
store_passes o store q =
    let f = or_none (unless (right50 o store) 50) _ (sym q) in
    (unless_none _ _ f.0, unless_none _ _ f.1)

-- ---- bench

module _ (e : Layout) (s : List ℕ) (store : List ℤ) (l : Lent) (trays : Trays) (a : ℕ) where
  pub bench_over : right41 (object_at e s) ≡ false → Ends (bench_object (some (object_at e s)) store l trays a) (refused_ran 41 0 0) l store trays.lines
  bench_over h = record { is = rw h }

module _ (ob : Opened) (store : List ℤ) (l : Lent) (trays : Trays) (a : ℕ) where
  pub bench_refused : (n : Reason) → right41 (book_of ob) ≡ true → some (refusal (number_of n) 0 0) ≡ refused_store (book_of ob) store → Ends (bench_object (some (book_of ob)) store l trays a) (refused_ran (number_of n) 0 0) l store trays.lines
  unfolding refused_store
  bench_refused n r q =
      record { is = rw r (ap (λ (x : Option Refusal). or_refused x l store trays (run_from (book_of ob) trays (bench_step (book_of ob)) a (fresh store (devices_of trays)))) (sym q)) }

  module _ (right : right41 (book_of ob) ≡ true) (told : none ≡ refused_store (book_of ob) store)
      (old places : List ℤ) (forty : length old ≡ 40) (clean : Cleared old places 0) where
    zeros : places ≡ replicate 40 (pos 0)
    zeros = cleared_all old places forty clean

    abbrev start : Regs
    start = regs 0 0 0

    pub bench_held : Held ob start places store
    bench_held =
        let f = store_passes (book_of ob) store told in
        let h = fresh_held ob right store f.0 f.1 in
        subst (λ (x : List ℤ). Held ob (regs 0 0 0) x store) (sym zeros) h

    starts_fresh : state_of start places store (devices_of trays) ≡ fresh store (devices_of trays)
    starts_fresh =
        let f = store_passes (book_of ob) store told in
        ap (λ (x : List ℤ). state_of start x store (devices_of trays)) zeros ∙ fresh_state ob right store f.0 f.1 (devices_of trays)

    fresh_low : Low (book_of ob) (fresh store (devices_of trays))
    fresh_low = record { index = omega arith; height = omega arith }

    pub bench_low : Low (book_of ob) (state_of start places store (devices_of trays))
    bench_low = subst (Low (book_of ob)) (sym starts_fresh) fresh_low

    pub bench_ends : (q : Ran) (r : declared.Ran) (l' : Lent) (places' store' : List ℤ) (lines' : List ℕ)
        → answer (book_of ob) q places' store' lines' ≡ run_from (book_of ob) trays (bench_step (book_of ob)) a (state_of start places store (devices_of trays))
        → ran_of r l' store' lines' ≡ answer (book_of ob) q places' store' lines'
        → Ends (bench_object (some (book_of ob)) store l trays a) r l' store' lines'
    unfolding refused_store
    bench_ends q r l' places' store' lines' x y =
        let o : Object = book_of ob in
        let none_left : refused_store o store ≡ none = sym told in
        let F : State = fresh store (devices_of trays) in
        let runs : bench_object (some o) store l trays a ≡ run_from o trays (bench_step o) a F = rw right (ap (λ (z : Option Refusal). or_refused z l store trays (run_from o trays (bench_step o) a F)) none_left) in
        record { is = runs ∙ ap (run_from o trays (bench_step o) a) (sym starts_fresh) ∙ sym x ∙ sym y }

pub bench_unread : (s : List ℕ) (store : List ℤ) (l : Lent) (trays : Trays) (a : ℕ) → read_object s ≡ none → Ends (benching s store l trays a) (refused_ran 40 0 0) l store trays.lines
unfolding benching
bench_unread s store l trays a h = record { is = rw h }

pub bench_read : (s : List ℕ) (store : List ℤ) (l : Lent) (trays : Trays) (a : ℕ) (o : Object) {store' : List ℤ} {lines' : List ℕ} {l' : Lent} {r : declared.Ran} → read_object s ≡ some o
    → Ends (bench_object (some o) store l trays a) r l' store' lines' → Ends (benching s store l trays a) r l' store' lines'
unfolding benching
bench_read s store l trays a o h x = record { is = ap (λ (y : Option Object). bench_object y store l trays a) h ∙ x.is }

-- ---- run

module _ (ob : Opened) (s table : List ℕ) (store : List ℤ) (i h m : ℕ) (places : List ℤ) (trays : Trays) (a : ℕ) where
  abbrev O : Object
  O = book_of ob

  abbrev T : List ℕ
  T = take ob.layout.code_count table

  abbrev L : Lent
  L = lent i h m places

  abbrev v : Devices
  v = devices_of trays

  pub run_refused : (n : Reason) → some (refusal (number_of n) 0 0) ≡ refused50to52 O T store L → Ends (run_checked (passed O T) store L trays a) (refused_ran (number_of n) 0 0) L store trays.lines
  run_refused n q = record { is = ap (λ (x : Option Refusal). or_refused x L store trays (run_from O trays (step O) a (taken L store v))) (sym q) }

  module _ (P : Passed s O T) (forty : length places ≡ 40) (told : none ≡ refused50to52 O T store L) where
    none_left : refused50to52 O T store L ≡ none
    none_left = sym told

    rest : or_else (unless (right51 O store) 51) (unless (right52 O T L) 52) ≡ none
    rest = (or_none (unless (right50 O store) 50) _ none_left).1

    right_50 : right50 O store ≡ true
    right_50 = unless_none _ _ (or_none (unless (right50 O store) 50) _ none_left).0

    right_51 : right51 O store ≡ true
    right_51 = unless_none _ _ (or_none (unless (right51 O store) 51) _ rest).0

    right_52 : right52 O T L ≡ true
    right_52 = unless_none _ _ (or_none (unless (right51 O store) 51) _ rest).1

    stands : Stands O T (taken L store v)
    stands = taken_stands O T L store v forty right_50 right_51 right_52

    pub height_low : h ≤ 40
    unfolding right52
    height_low =
        let g₁ = both (ltb i (length O.code)) _ right_52 in
        let g₂ = both (leb (height_at T i) limits.stack) _ g₁.1 in
        let g₃ = both (eqb h (height_at T i)) _ g₂.1 in
        omega (arith, leb-true (height_at T i) limits.stack g₂.0, eqb-true h (height_at T i) g₃.0)

    module _ (places' : List ℤ) (clean : Cleared places places' h) where
      abbrev here : Regs
      here = regs i h m

      starts : state_of here places' store v ≡ taken L store v
      unfolding taken
      starts = ap (λ (x : List ℤ). state here.index (reverse x) store here.mark v) (cleared_take places places' here.height clean)

      stands' : Stands O T (state_of here places' store v)
      stands' = subst (Stands O T) (sym starts) stands

      pub run_held : Held ob here places' store
      run_held =
          stands_held ob P.right T here places' store (clean.long ∙ forty) height_low
          (cleared_above places places' here.height forty clean) v stands'

      pub no_fault : Faultless O (state_of here places' store v)
      no_fault = stands_no_fault P (state_of here places' store v) stands'

      run_low : Low O (state_of here places' store v)
      run_low = record { index = omega (arith, stands'.inside); height = stands'.low }

      module _ (q : Ran) (after store' : List ℤ) (lines' : List ℕ) (says : answer O q after store' lines' ≡ run_from O trays (step O) a (state_of here places' store v)) where
        pub run_back : (q.regs.index ≤ 4096) × (q.regs.height ≤ 4096)
        run_back = low_back ob q after P.right (back O trays q after store' lines' a (state_of here places' store v) run_low (says ∙ sym (run_bench O trays (state_of here places' store v) no_fault a)))

        pub run_ends : (r : declared.Ran) (l' : Lent) → ran_of r l' store' lines' ≡ answer O q after store' lines' → Ends (run_checked (passed O T) store L trays a) r l' store' lines'
        run_ends r l' y =
            let runs : run_checked (passed O T) store L trays a ≡ run_from O trays (step O) a (taken L store v) = ap (λ (z : Option Refusal). or_refused z L store trays (run_from O trays (step O) a (taken L store v))) none_left in
            record { is = runs ∙ ap (run_from O trays (step O) a) (sym starts) ∙ sym says ∙ sym y }

-- ---- by the check's verdict

pub run_not_checked : (s : List ℕ) (store : List ℤ) (l : Lent) (trays : Trays) (a : ℕ) (v : declared_refusal.Refusal) → checked s ≡ refused (refusal_of v) → Ends (running s store l trays a) (refused_ran (number_of v.reason) v.place v.kind) l store trays.lines
unfolding running
run_not_checked s store l trays a v h = record { is = ap (λ (c : Checked). run_checked c store l trays a) h }

pub run_checked_lem : (s table : List ℕ) (store : List ℤ) (l : Lent) (trays : Trays) (a : ℕ) (o : Opened) {store' : List ℤ} {lines' : List ℕ} {l' : Lent} {r : declared.Ran} → Accepted s table o
    → Ends (run_checked (passed (book_of o) (take o.layout.code_count table)) store l trays a) r l' store' lines' → Ends (running s store l trays a) r l' store' lines'
unfolding running
run_checked_lem s table store l trays a o h x = record { is = ap (λ (c : Checked). run_checked c store l trays a) h.is ∙ x.is }

pub few_words : (ob : Opened) (s table : List ℕ) → Passed s (book_of ob) table → ob.layout.code_count ≤ 4096
few_words ob s table P = omega (arith, (limited (book_of ob) ob.placed.edition P.right).code, code_length ob.layout ob.bytes.now)

-- the answer as the code makes it
pub made : {all : book.Ran} {r r' : declared.Ran} {l : Lent} {store : List ℤ} {lines : List ℕ} → r ≡ r' → Ends all r' l store lines → Ends all r l store lines
made {l = l} {store = store} {lines = lines} q x = record { is = x.is ∙ ap (λ (y : declared.Ran). ran_of y l store lines) (sym q) }
