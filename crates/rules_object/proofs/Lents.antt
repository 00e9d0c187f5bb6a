-- The state as it is lent: 50 to 52 are what a state of a run has, and what is given back is taken as it was.
-- Assumes nothing.
use mathlib.Core.Path.{◌≡◌, refl, sym, ap, ◌∙◌}
use mathlib.Core.Bool.{Bool, true, ◌&&◌}
use mathlib.Core.List.{List, [], ◌∷◌, reverse, reverse_aux, reverse-reverse}
use Prim.Native.Nat.{ℕ, zero, suc, ◌-◌, ◌≤◌, ◌<◌}
use native.Mathlib.Omega.{arith}
use lib.Dec.{ltb, leb, eqb}
use lib.ListN.{length, take, drop, replicate, length-append, length-reverse, length-replicate}
use lib.Seq.{length-take-le, take_at, drop_at}
use lib.IntN.{ℤ, pos}
use borrow.Author.Tests.{ltb-true, leb-true, eqb-true, lt-ltb, le-leb, eq-eqb}
use Rattle.number.specs.Number.{fits}
use Rattle.number.proofs.Laws.{fits_yes, yes_fits}
use Rattle.rules_shared.specs.Limits.{limits}
use Rattle.rules_formats.specs.Walk.{Devices}
use Rattle.rules_object.specs.Object.{Object, rule_of}
use Rattle.rules_object.specs.Operations.{flow_of}
use Rattle.rules_object.specs.Machine.{State, fresh, cell, with_stack}
use Rattle.rules_object.specs.Flow.{height_at}
use Rattle.rules_shared.specs.Lists.{all, Each, each_none, each_more}
use Rattle.rules_object.specs.Calls.{Lent, taken, given, right50, right51, right52}
use Rattle.rules_object.specs.Safe.{Within, Stands}
use Rattle.rules_object.specs.Promised.{RightLent}
use Rattle.rules_object.proofs.HeightsExact.{height_reached, reached_height}
use Rattle.rules_object.specs.Passed.{Passed}
use Rattle.rules_object.proofs.Passed.{both}

-- ---- lists of numbers within the digits

pub and_true : {a b : Bool} → a ≡ true → b ≡ true → (a && b) ≡ true
and_true {a} {b} p q = rw (p, q) refl

module _ (o : Object) where
  all_each : (l : List ℤ) → all (fits (rule_of o)) l ≡ true → Each (Within o) l
  all_each [] e = each_none
  all_each (z ∷ l) e = let q = both (fits (rule_of o) z) _ e in each_more (fits_yes (rule_of o) z q.0) (all_each l q.1)

  each_all : (l : List ℤ) → Each (Within o) l → all (fits (rule_of o)) l ≡ true
  each_all [] h = refl
  each_all (z ∷ l) (each_more h hs) = and_true (yes_fits (rule_of o) z h) (each_all l hs)

  each_reverse : (l : List ℤ) → Each (Within o) l → Each (Within o) (reverse l)
  each_reverse l h = by l [] h each_none
    where
      by : (l r : List ℤ) → Each (Within o) l → Each (Within o) r → Each (Within o) (reverse_aux l r)
      by [] r h g = g
      by (z ∷ l) r (each_more h hs) g = by l (z ∷ r) hs (each_more h g)

  -- the first n of a store
  each_cells : (n : ℕ) (c : List ℤ) → n ≤ length c → Each (Within o) (take n c) → (a : ℕ) → a < n → Within o (cell c a)
  each_cells zero c l h a i = absurd (omega arith)
  each_cells (suc n) [] l h a i = absurd (omega arith)
  each_cells (suc n) (z ∷ c) l (each_more h hs) zero i = h
  each_cells (suc n) (z ∷ c) l (each_more h hs) (suc a) i = each_cells n c (omega arith) hs a (omega arith)

  cells_each : (n : ℕ) (c : List ℤ) → ((a : ℕ) → a < n → Within o (cell c a)) → Each (Within o) (take n c)
  cells_each zero c f = each_none
  cells_each (suc n) [] f = each_none
  cells_each (suc n) (z ∷ c) f = each_more (f 0 (omega arith)) (cells_each n c (λ a i. f (suc a) (omega arith)))

-- ---- from what is lent to a state

module _ (o : Object) (store : List ℤ) where
  pub long_enough : right50 o store ≡ true → o.cells ≤ length store
  unfolding right50
  long_enough e = leb-true _ _ e

  pub cells_within : right50 o store ≡ true → right51 o store ≡ true → (a : ℕ) → a < o.cells → Within o (cell store a)
  unfolding right51
  cells_within e f = each_cells o o.cells store (long_enough e) (all_each o (take o.cells store) f)

pub taken_stands : (o : Object) (table : List ℕ) (l : Lent) (store : List ℤ) (devices : Devices) → length l.places ≡ limits.stack
    → right50 o store ≡ true → right51 o store ≡ true → right52 o table l ≡ true → Stands o table (taken l store devices)
unfolding right52 taken
taken_stands o table l store devices forty e f g =
    let g₁ = both (ltb l.index (length o.code)) _ g in
    let g₂ = both (leb (height_at table l.index) limits.stack) _ g₁.1 in
    let g₃ = both (eqb l.height (height_at table l.index)) _ g₂.1 in
    let g₄ = both (all (fits (rule_of o)) (take l.height l.places)) _ g₃.1 in
    let low = leb-true (height_at table l.index) limits.stack g₂.0 in
    let same = eqb-true l.height (height_at table l.index) g₃.0 in
    let n = length-take-le l.height l.places (omega arith) in
    let r = length-reverse (take l.height l.places) in
    record {
      inside = ltb-true _ _ g₁.0;
      height = omega arith;
      low = omega arith;
      stack = each_reverse o (take l.height l.places) (all_each o (take l.height l.places) g₄.0);
      long = long_enough o store e;
      store = cells_within o store e f;
      mark = leb-true _ _ g₄.1;
    }

pub fresh_stands : {bytes : List ℕ} {o : Object} {table : List ℕ} → Passed bytes o table → (store : List ℤ) (devices : Devices) → right50 o store ≡ true → right51 o store ≡ true → Stands o table (fresh store devices)
unfolding flow_of
fresh_stands {o = o} p store devices e f =
    let b = p.least.valid.begins in
    record { inside = b.0; height = b.1; low = omega arith; stack = each_none; long = long_enough o store e; store = cells_within o store e f; mark = omega arith }

-- ---- 52 and paths

module _ {bytes : List ℕ} {o : Object} {table : List ℕ} (p : Passed bytes o table) (l : Lent) where
  pub right_lent : right52 o table l ≡ true → RightLent o l
  unfolding right52 flow_of
  right_lent e =
      let e₁ = both (ltb l.index (length o.code)) _ e in
      let e₂ = both (leb (height_at table l.index) limits.stack) _ e₁.1 in
      let e₃ = both (eqb l.height (height_at table l.index)) _ e₂.1 in
      let e₄ = both (all (fits (rule_of o)) (take l.height l.places)) _ e₃.1 in
      let low = leb-true (height_at table l.index) limits.stack e₂.0 in
      let same = eqb-true l.height (height_at table l.index) e₃.0 in
      record {
        reached = height_reached (flow_of o) table p.least l.index l.height (ltb-true _ _ e₁.0) (sym same) (omega arith);
        stack = all_each o (take l.height l.places) e₄.0;
        mark = leb-true _ _ e₄.1;
      }

  pub lent_right : RightLent o l → right52 o table l ≡ true
  unfolding right52 flow_of
  lent_right r =
      let h = reached_height (flow_of o) table p.least l.index l.height r.reached in
      let same = h.1.0 in
      let low = h.1.1 in
      and_true (lt-ltb _ _ h.0)
      (and_true (le-leb (height_at table l.index) limits.stack (omega arith))
      (and_true (eq-eqb _ _ (sym same)) (and_true (each_all o (take l.height l.places) r.stack) (le-leb _ _ r.mark))))

-- ---- and back

pub stands_50 : {o : Object} {table : List ℕ} (t : State) → Stands o table t → right50 o t.store ≡ true
unfolding right50
stands_50 t s = le-leb _ _ s.long

pub stands_51 : {o : Object} {table : List ℕ} (t : State) → Stands o table t → right51 o t.store ≡ true
unfolding right51
stands_51 {o} t s = each_all o (take o.cells t.store) (cells_each o o.cells t.store s.store)

places_taken : (t : State) → take (length t.stack) (given t).places ≡ reverse t.stack
unfolding given
places_taken t = take_at (reverse t.stack) _ (length t.stack) (length-reverse t.stack)

pub stands_52 : {o : Object} {table : List ℕ} (t : State) → Stands o table t → right52 o table (given t) ≡ true
unfolding right52 given
stands_52 {o} {table} t s =
    let h = s.height in
    let l = s.low in
    and_true (lt-ltb _ _ s.inside)
    (and_true (le-leb (height_at table t.index) limits.stack (omega arith))
    (and_true (eq-eqb _ _ (sym h))
    (and_true (ap (all (fits (rule_of o))) (places_taken t) ∙ each_all o (reverse t.stack) (each_reverse o t.stack s.stack)) (le-leb _ _ s.mark))))

-- what is given back is taken as it was
pub taken_given : (t : State) → taken (given t) t.store t.devices ≡ t
unfolding taken given
taken_given t = ap (λ s. with_stack s t) (ap reverse (places_taken t) ∙ reverse-reverse t.stack)

-- forty places, 0 above the height
pub given_forty : (t : State) → length t.stack ≤ limits.stack → length (given t).places ≡ limits.stack
unfolding given
given_forty t l =
    let n = length-append (reverse t.stack) (replicate (limits.stack - length t.stack) (pos 0)) in
    omega (arith, length-reverse t.stack, length-replicate {A = ℤ} (limits.stack - length t.stack) (pos 0))

pub given_above : (t : State) → drop (given t).height (given t).places ≡ replicate (limits.stack - (given t).height) (pos 0)
unfolding given
given_above t = drop_at (reverse t.stack) _ (length t.stack) (length-reverse t.stack)
