-- An instruction that is ready is done as the book says: what the code holds, and what the law asks.
-- Assumes nothing.
use mathlib.Core.Path.{◌≡◌, sym, ap, subst}
use mathlib.Core.Bool.{true}
use mathlib.Core.List.{List}
use Prim.Native.Nat.{ℕ, zero, suc, ◌+◌, ◌*◌, ◌≤◌, ◌<◌}
use lib.Dec.{ltb, leb}
use lib.ListN.{get_or}
use lib.IntN.{ℤ, pos, nat_abs}
use borrow.Author.Tests.{ltb-true, leb-true}
use Rattle.number.specs.Number as numbers
use Rattle.number.proofs.Laws.{fits_yes}
use Rattle.rules_formats.specs.Walk.{Devices}
use Rattle.rules_object.specs.Object.{Element, Loop, Object, rule_of}
use Rattle.rules_object.specs.Check.{right_constant, right_element, right_loop}
use Rattle.rules_object.specs.Operations.{meant, no_element, no_loop, operation_at}
use Rattle.rules_object.specs.Machine.{cell, act}
use Rattle.object_contents.specs.declared.Layout.{Layout}
use Rattle.object_contents.specs.Layout.{object_at}
use Rattle.object_contents.specs.declared.placed.Object.{Object as Lent}
use Rattle.object_contents.specs.Book.{book_of}
use Rattle.run_registers.specs.declared.Regs.{Regs}
use Rattle.run_registers.specs.Registers.{state_of}
use Rattle.run_arithmetic.specs.Performed.{performed}
use Rattle.run_operations.specs.Ready.{Held, Ready}
use Rattle.run_subscripts.proofs.Laws.{apart}
use Rattle.run_operations.proofs.Known.{both}
use Rattle.run_machine.specs.Running.{IsTransfer}
use Rattle.run_machine.proofs.Does.{Sound, DidAll, Good, does}

-- ---- an instruction that is ready is right

module _ (e : Layout) (s : List ℕ) where
  abbrev o : Object
  o = object_at e s

  good_constant : (c : ℕ) → right_constant o c ≡ true → c < (rule_of o).ceiling
  unfolding right_constant
  good_constant c q = fits_yes (rule_of o) (pos c) q

  good_element : (n : Element) → right_element o n ≡ true → n.base + n.rows * n.columns ≤ o.cells
  unfolding right_element
  good_element n q =
      let q₁ = both (leb 1 n.rows) _ q in
      let q₂ = both (leb 1 n.columns) _ q₁.1 in
      leb-true (n.base + n.rows * n.columns) o.cells (both (leb (n.base + n.rows * n.columns) o.cells) _ q₂.1).0

  good_loop : (d : Loop) → right_loop o d ≡ true → (d.variable < o.cells) × ((d.limit < o.cells) × (d.step < o.cells))
  unfolding right_loop
  good_loop d q =
      let q₁ = both (ltb d.variable o.cells) _ q in
      let q₂ = both (ltb d.limit o.cells) _ q₁.1 in
      let q₃ = both (ltb d.step o.cells) _ q₂.1 in
      (ltb-true _ _ q₁.0, (ltb-true _ _ q₂.0, ltb-true _ _ q₃.0))

  good : (op x : ℕ) → (operation_at op).operand_right o x ≡ true → (operation_at op).entry_right o x ≡ true → Good o.cells (rule_of o).ceiling (meant o op x)
  good zero x a b = leb-true x 1 a
  good (suc zero) x a b = good_constant (get_or o.constants x 0) b
  good (suc (suc zero)) x a b = ltb-true x o.cells a
  good (suc (suc (suc zero))) x a b = tt
  good (suc (suc (suc (suc zero)))) x a b = good_element (get_or o.elements x no_element) b
  good (suc (suc (suc (suc (suc zero))))) x a b = tt
  good (suc (suc (suc (suc (suc (suc zero)))))) x a b = tt
  good (suc (suc (suc (suc (suc (suc (suc zero))))))) x a b = tt
  good (suc (suc (suc (suc (suc (suc (suc (suc zero)))))))) x a b = tt
  good (suc (suc (suc (suc (suc (suc (suc (suc (suc zero))))))))) x a b = tt
  good (suc (suc (suc (suc (suc (suc (suc (suc (suc (suc zero)))))))))) x a b = tt
  good (suc (suc (suc (suc (suc (suc (suc (suc (suc (suc (suc zero))))))))))) x a b = tt
  good (suc (suc (suc (suc (suc (suc (suc (suc (suc (suc (suc (suc zero)))))))))))) x a b = tt
  good (suc (suc (suc (suc (suc (suc (suc (suc (suc (suc (suc (suc (suc zero))))))))))))) x a b = tt
  good (suc (suc (suc (suc (suc (suc (suc (suc (suc (suc (suc (suc (suc (suc zero)))))))))))))) x a b = tt
  good (suc (suc (suc (suc (suc (suc (suc (suc (suc (suc (suc (suc (suc (suc (suc zero))))))))))))))) x a b = good_loop (get_or o.dos x no_loop) b
  good (suc (suc (suc (suc (suc (suc (suc (suc (suc (suc (suc (suc (suc (suc (suc (suc zero)))))))))))))))) x a b = tt
  good (suc (suc (suc (suc (suc (suc (suc (suc (suc (suc (suc (suc (suc (suc (suc (suc (suc zero))))))))))))))))) x a b = tt
  good (suc (suc (suc (suc (suc (suc (suc (suc (suc (suc (suc (suc (suc (suc (suc (suc (suc (suc op)))))))))))))))))) x a b = absurd (apart (sym a))

-- ---- the code's record of a state, and the law's

module _ (ob : Lent) (r : Regs) (st so : List ℤ) (h : Held ob r st so) where
  pub held_sound : Sound ob.layout.cells (rule_of (book_of ob)).ceiling r.height st so
  held_sound =
      let c = ap (λ (q : numbers.Rule). q.ceiling) ob.ruled in
      record {
        low = h.low;
        forty = h.forty;
        clean = h.clean;
        stack = λ i. subst (λ n. nat_abs (cell st i) < n) c (h.stack i);
        long = h.long;
        store = λ a l. subst (λ n. nat_abs (cell so a) < n) c (h.store a l);
      }

  pub sound_held : (q : Regs) (st' so' : List ℤ) → Sound ob.layout.cells (rule_of (book_of ob)).ceiling q.height st' so' → Held ob q st' so'
  sound_held q st' so' y =
      let c = ap (λ (q : numbers.Rule). q.ceiling) ob.ruled in
      record {
        right = h.right;
        low = y.low;
        forty = y.forty;
        clean = y.clean;
        stack = λ i. subst (λ n. nat_abs (cell st' i) < n) (sym c) (y.stack i);
        long = y.long;
        store = λ a l. subst (λ n. nat_abs (cell so' a) < n) (sym c) (y.store a l);
      }

  -- the operation as the code does it and as the book says it
  pub performs : (v : Devices) (op x : ℕ) → Ready (book_of ob) op x r.height
      → DidAll (IsTransfer (meant (book_of ob) op x)) ob.layout.cells (rule_of (book_of ob)).ceiling st so (state_of r st so v) (performed (rule_of (book_of ob)) (meant (book_of ob) op x) r st so)
      (act (rule_of (book_of ob)) (meant (book_of ob) op x) (state_of r st so v))
  unfolding object_at
  performs v op x y =
      does (rule_of (book_of ob)) ob.layout.cells r.index r.height r.mark st so v held_sound (IsTransfer (meant (book_of ob) op x)) (meant (book_of ob) op x) (λ w. w)
      (good ob.layout ob.bytes.now op x y.operand y.entry) y.popped y.pushed
