-- The book's stack, its top first, and the places, the lowest first: push and pop on both, and what is given back. Assumes nothing.
use mathlib.Core.Path.{◌≡◌, refl, sym, ap, ap₂, ◌∙◌}
use mathlib.Core.List.{List, [], ◌∷◌, ◌++◌, reverse, reverse_aux, reverse-reverse}
use Prim.Native.Nat.{ℕ, zero, suc, ◌+◌, ◌-◌, ◌≤◌, ◌<◌}
use native.Mathlib.Omega.{arith}
use lib.ListN.{length, set, take, drop, replicate, length-drop, length-replicate, get_or-replicate, take-append-drop}
use lib.Seq.{take-suc, get_or-set_same, get_or-set_other, get_or-drop, ext_get_or}
use lib.IntN.{ℤ, pos, nat_abs}
use Rattle.rules_formats.specs.Walk.{Devices}
use Rattle.rules_object.specs.Machine.{cell, top, under}
use Rattle.rules_object.specs.Calls.{taken, given}
use Rattle.run_registers.specs.Registers.{regs, lent_of, state_of}

-- the h lowest places, the highest of them first
abbrev pub tops : ℕ → List ℤ → List ℤ
tops zero st = []
tops (suc h) st = cell st h ∷ tops h st

reverse_last : {A : Type 0} (l r : List A) (v : A) → reverse_aux (l ++ (v ∷ [])) r ≡ v ∷ reverse_aux l r
reverse_last [] r v = refl
reverse_last (x ∷ l) r v = reverse_last l (x ∷ r) v

pub tops_is : (h : ℕ) (st : List ℤ) → h ≤ length st → reverse (take h st) ≡ tops h st
tops_is zero st l = refl
tops_is (suc h) st l = ap reverse (take-suc st h (pos 0) (omega arith)) ∙ reverse_last (take h st) [] (cell st h) ∙ ap (λ s. cell st h ∷ s) (tops_is h st (omega arith))

pub length_tops : (h : ℕ) (st : List ℤ) → length (tops h st) ≡ h
length_tops zero st = refl
length_tops (suc h) st = ap suc (length_tops h st)

pub tops_other : (h j : ℕ) (st : List ℤ) (v : ℤ) → h ≤ j → tops h (set st j v) ≡ tops h st
tops_other zero j st v l = refl
tops_other (suc h) j st v l = ap₂ ◌∷◌ (get_or-set_other st j h v (pos 0) (λ e. omega arith)) (tops_other h j st v (omega arith))

pub tops_push : (h : ℕ) (st : List ℤ) (v : ℤ) → h < length st → tops (suc h) (set st h v) ≡ v ∷ tops h st
tops_push h st v l = ap₂ ◌∷◌ (get_or-set_same st h v (pos 0) l) (tops_other h h st v (omega arith))

pub under_tops : (h : ℕ) (st : List ℤ) → under (tops h st) ≡ tops (h - 1) st
under_tops zero st = refl
under_tops (suc h) st = let e : h ≡ suc h - 1 = omega arith in ap (λ n. tops n st) e

pub top_tops : (h : ℕ) (st : List ℤ) → 0 < h → top (tops h st) ≡ cell st (h - 1)
top_tops zero st l = absurd (omega arith)
top_tops (suc h) st l = let e : h ≡ suc h - 1 = omega arith in ap (cell st) e

-- ---- a place that is set to 0, or that was 0

pub zero_set : (l : List ℤ) (i j : ℕ) → ((j ≡ i → ⊥) → cell l j ≡ pos 0) → cell (set l i (pos 0)) j ≡ pos 0
zero_set [] i j f = refl
zero_set (x ∷ l) zero zero f = refl
zero_set (x ∷ l) zero (suc j) f = f (λ e. omega arith)
zero_set (x ∷ l) (suc i) zero f = f (λ e. omega arith)
zero_set (x ∷ l) (suc i) (suc j) f = zero_set l i j (λ n. f (λ e. n (omega arith)))

pub small_set : (p : ℕ) (l : List ℤ) (i : ℕ) (z : ℤ) → nat_abs z < p → (j : ℕ) → nat_abs (cell l j) < p → nat_abs (cell (set l i z) j) < p
small_set p [] i z h j k = k
small_set p (x ∷ l) zero z h zero k = h
small_set p (x ∷ l) zero z h (suc j) k = k
small_set p (x ∷ l) (suc i) z h zero k = k
small_set p (x ∷ l) (suc i) z h (suc j) k = small_set p l i z h j k

-- ---- what is given back: places above the height are 0

module _ (h : ℕ) (st : List ℤ) (forty : length st ≡ 40) (low : h ≤ 40) (clean : (i : ℕ) → h ≤ i → cell st i ≡ pos 0) where
  above_zeros : drop h st ≡ replicate (40 - h) (pos 0)
  above_zeros =
      let n = length-drop h st in
      let m = length-replicate {A = ℤ} (40 - h) (pos 0) in
      ext_get_or (pos 0) (drop h st) (replicate (40 - h) (pos 0)) (omega arith)
      (λ i l. get_or-drop h st i (pos 0) ∙ clean (h + i) (omega arith) ∙ sym (get_or-replicate (40 - h) i (pos 0) (pos 0) (omega arith)))

  places_back : reverse (reverse (take h st)) ++ replicate (40 - length (reverse (take h st))) (pos 0) ≡ st
  places_back =
      let e : length (reverse (take h st)) ≡ h = ap length (tops_is h st (omega arith)) ∙ length_tops h st in
      ap₂ ◌++◌ (reverse-reverse (take h st)) (ap (λ n. replicate (40 - n) (pos 0)) e ∙ sym above_zeros) ∙ take-append-drop h st

  pub given_back : (i m : ℕ) (so : List ℤ) (v : Devices) → given (state_of (regs i h m) st so v) ≡ lent_of (regs i h m) st
  unfolding given taken
  given_back i m so v =
      let e : length (reverse (take h st)) ≡ h = ap length (tops_is h st (omega arith)) ∙ length_tops h st in
      ap₂ (λ n l. lent_of (regs i n m) l) e places_back
