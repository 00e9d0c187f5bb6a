-- What a caller has of the state that a run starts from: from 50 to 52 and the check, or fresh. Assumes nothing.
use mathlib.Core.Path.{◌≡◌, refl, sym, ap, subst}
use mathlib.Core.Bool.{true}
use mathlib.Core.List.{List}
use Prim.Native.Nat.{ℕ, zero, suc, ◌-◌, ◌≤◌, ◌<◌}
use native.Mathlib.Omega.{arith}
use lib.ListN.{length, replicate, length-replicate, get_or-replicate, get_or-eq_default}
use lib.IntN.{ℤ, pos, nat_abs}
use Rattle.number.specs.Number as book
use Rattle.number.proofs.Laws.{digits_some}
use Rattle.rules_formats.specs.Walk.{Devices}
use Rattle.rules_object.specs.Object.{rule_of}
use Rattle.rules_object.specs.Check.{right41}
use Rattle.rules_object.specs.Machine.{cell, fresh}
use Rattle.rules_object.specs.Calls.{taken, right50, right51}
use Rattle.rules_object.specs.Safe.{Within, Stands}
use Rattle.rules_shared.specs.Lists.{Each, each_more}
use Rattle.rules_object.proofs.Lents.{long_enough, cells_within}
use Rattle.object_contents.specs.Layout.{object_at}
use Rattle.object_contents.specs.declared.placed.Object.{Object as Lent}
use Rattle.object_contents.specs.Book.{book_of}
use Rattle.run_registers.specs.declared.Regs.{Regs}
use Rattle.run_registers.specs.Registers.{regs, state_of}
use Rattle.run_operations.specs.Ready.{Held}
use Rattle.run_machine.proofs.Places.{tops, tops_is}

-- the object keeps the limits
module _ (ob : Lent) (limits : right41 (book_of ob) ≡ true) where
  is_ceiling : (rule_of (book_of ob)).ceiling ≡ ob.rule.ceiling
  is_ceiling = ap (λ (q : book.Rule). q.ceiling) (sym ob.ruled)

  cells_is : (book_of ob).cells ≡ ob.layout.cells
  unfolding object_at
  cells_is = refl

  each_tops : (h : ℕ) (st : List ℤ) → Each (Within (book_of ob)) (tops h st) → (i : ℕ) → i < h → nat_abs (cell st i) < ob.rule.ceiling
  each_tops zero st w i l = absurd (omega arith)
  each_tops (suc h) st (each_more w ws) i l = by (h - i) refl (λ m. each_tops h st ws i m)
    where
      by : (d : ℕ) → d ≡ h - i → (i < h → nat_abs (cell st i) < ob.rule.ceiling) → nat_abs (cell st i) < ob.rule.ceiling
      by zero q lower = let same : h ≡ i = omega arith in subst (λ j. nat_abs (cell st j) < ob.rule.ceiling) same (subst (λ c. nat_abs (cell st h) < c) is_ceiling w)
      by (suc d) q lower = lower (omega arith)

  -- a state that stands, its places 0 above the height
  pub stands_held : (table : List ℕ) (r : Regs) (st so : List ℤ) → length st ≡ 40 → r.height ≤ 40 → ((i : ℕ) → r.height ≤ i → cell st i ≡ pos 0) → (v : Devices) → Stands (book_of ob) table (state_of r st so v) → Held ob r st so
  unfolding taken
  stands_held table r st so forty low clean v h =
      record {
        right = limits;
        low = low;
        forty = forty;
        clean = clean;
        stack = λ i. by (r.height - i) i refl;
        long = subst (λ n. n ≤ length so) cells_is h.long;
        store = λ a l. subst (λ c. nat_abs (cell so a) < c) is_ceiling (h.store a (subst (λ n. a < n) (sym cells_is) l));
      }
    where
      by : (d i : ℕ) → d ≡ r.height - i → nat_abs (cell st i) < ob.rule.ceiling
      by zero i q = subst (λ z. nat_abs z < ob.rule.ceiling) (sym (clean i (omega arith))) (subst (λ c. 0 < c) is_ceiling (digits_some (book_of ob).digits))
      by (suc d) i q = each_tops r.height st (subst (Each (Within (book_of ob))) (tops_is r.height st (omega arith)) h.stack) i (omega arith)

  -- a fresh state
  module _ (so : List ℤ) (long : right50 (book_of ob) so ≡ true) (fit : right51 (book_of ob) so ≡ true) where
    zeros : (i : ℕ) → cell (replicate 40 (pos 0)) i ≡ pos 0
    zeros i = by (40 - i) refl
      where
        by : (d : ℕ) → d ≡ 40 - i → cell (replicate 40 (pos 0)) i ≡ pos 0
        by zero q = get_or-eq_default (replicate 40 (pos 0)) (pos 0) {n = i} (omega (arith, length-replicate {A = ℤ} 40 (pos 0)))
        by (suc d) q = get_or-replicate 40 i (pos 0) (pos 0) (omega arith)

    pub fresh_held : Held ob (regs 0 0 0) (replicate 40 (pos 0)) so
    fresh_held =
        record {
          right = limits;
          low = omega arith;
          forty = length-replicate 40 (pos 0);
          clean = λ i l. zeros i;
          stack = λ i. subst (λ z. nat_abs z < ob.rule.ceiling) (sym (zeros i)) (subst (λ c. 0 < c) is_ceiling (digits_some (book_of ob).digits));
          long = subst (λ n. n ≤ length so) cells_is (long_enough (book_of ob) so long);
          store = λ a l. subst (λ c. nat_abs (cell so a) < c) is_ceiling (cells_within (book_of ob) so long fit a (subst (λ n. a < n) (sym cells_is) l));
        }

    pub fresh_state : (v : Devices) → state_of (regs 0 0 0) (replicate 40 (pos 0)) so v ≡ fresh so v
    unfolding taken
    fresh_state v = refl
