-- The tests of what is lent for a run: 50, 51 and 52, as the book asks them.
-- Assumes nothing.
use mathlib.Core.Path.{◌≡◌, refl, sym, ap, ◌∙◌}
use mathlib.Core.Bool.{Bool, true, false, ◌&&◌}
use mathlib.Core.List.{List, [], ◌∷◌}
use Rattle.std.specs.List.{list_all}
use Rattle.std.specs.Prelude.{Result, Ok, Err, IsErr, IsErrAnd}
use Rattle.refusals.specs.declared.Reason.{Reason}
use mathlib.Core.Option.{Option, none, some}
use Prim.Native.Nat.{ℕ, zero, suc, ◌-◌, ◌≤◌, ◌<◌, min}
use native.Mathlib.Omega.{arith}
use lib.Dec.{ltb, leb}
use lib.ListN.{length, get_or, take, replicate, length-take, length-replicate, get_or-replicate, get_or-eq_default}
use lib.Seq.{get_or-take, ext_get_or}
use lib.IntN.{ℤ, pos}
use borrow.Author.Tests.{lt-ltb, le-ltb, le-leb, lt-leb, eq-eqb, ne_eqb}
use Rattle.number.specs.Number.{Rule, fits}
use Rattle.rules_object.specs.Object.{Object, rule_of}
use Rattle.rules_object.specs.Machine.{cell}
use Rattle.rules_object.specs.Flow.{height_at}
use Rattle.rules_shared.specs.Refusals.{Refusal, refusal, or_else, unless}
use Rattle.rules_shared.specs.Lists.{all}
use Rattle.rules_object.specs.Calls.{right50, right51, right52, Lent, refused50to52}
use Rattle.rules_object.proofs.Passed.{some_none, or_none}
use Rattle.object_contents.specs.declared.Layout.{Layout}
use Rattle.object_contents.specs.Layout.{object_at}
use Rattle.object_contents.proofs.Entries.{code_length}
use Rattle.run_lent.specs.Lending.{lent, refused_store, Cleared}

-- ---- numbers that fit

all_same : {A : Type 0} (test : A → Bool) (l : List A) → list_all test l ≡ all test l
all_same test [] = refl
all_same test (a ∷ l) = ap (λ b. test a && b) (all_same test l)

-- by another name of the rule
pub fit_same : (l : List ℤ) {k k' : Rule} {b : Bool} → b ≡ list_all (fits k) l → k ≡ k' → b ≡ all (fits k') l
fit_same l e q = e ∙ ap (λ k. list_all (fits k) l) q ∙ all_same _ l

-- ---- 50 and 51

cells_are : (e : Layout) (s : List ℕ) → (object_at e s).cells ≡ e.cells
unfolding object_at
cells_are e s = refl

module _ (e : Layout) (s : List ℕ) (store : List ℤ) where
  pub store_short : length store < e.cells → some (refusal 50 0 0) ≡ refused_store (object_at e s) store
  unfolding refused_store right50
  store_short h = rw (cells_are e s, lt-leb e.cells (length store) h)

  pub store_fits : (n : ℕ) → e.cells ≤ length store → n ≡ e.cells → (b : Bool) → b ≡ all (fits (rule_of (object_at e s))) (take n store) → refused_store (object_at e s) store ≡ unless b 51
  unfolding refused_store right50 right51
  store_fits n h m b q =
      rw (cells_are e s, le-leb e.cells (length store) h) (ap (λ (c : Bool). unless c 51) (ap (λ (k : ℕ). all (fits (rule_of (object_at e s))) (take k store)) (sym m) ∙ sym q))

-- ---- 52

module _ (e : Layout) (s table : List ℕ) (i h m : ℕ) (places : List ℤ) where
  abbrev O : Object
  O = object_at e s

  abbrev T : List ℕ
  T = take e.code_count table

  abbrev W : Bool
  W = right52 O T (lent i h m places)

  pub outside : e.code_count ≤ i → false ≡ W
  unfolding right52
  outside l = rw (le-ltb i (length O.code) (omega (arith, code_length e s)))

  module _ (inside : i < e.code_count) where
    here : height_at T i ≡ get_or table i 0
    here = get_or-take e.code_count table i 0 inside

    in_code : ltb i (length O.code) ≡ true
    in_code = lt-ltb i (length O.code) (omega (arith, code_length e s))

    pub too_high : 40 < get_or table i 0 → false ≡ W
    unfolding right52
    too_high l = rw (in_code, here, lt-leb (get_or table i 0) 40 l)

    module _ (low : get_or table i 0 ≤ 40) where
      pub other_height : (h ≡ get_or table i 0 → ⊥) → false ≡ W
      unfolding right52
      other_height l = rw (in_code, here, le-leb (get_or table i 0) 40 low, ne_eqb h (get_or table i 0) l)

      pub at_height : h ≡ get_or table i 0 → (b : Bool) (n : ℕ) → n ≡ h → b ≡ all (fits (rule_of O)) (take n places) → W ≡ (b && leb m e.code_count)
      unfolding right52
      at_height l b n k q =
          rw (in_code, here, le-leb (get_or table i 0) 40 low, eq-eqb h (get_or table i 0) l, code_length e s)
          (ap (λ (c : Bool). c && leb m e.code_count) (ap (λ (j : ℕ). all (fits (rule_of O)) (take j places)) (sym k) ∙ sym q))

-- ---- 50 to 52 together

pub passed_on : (r : Result Unit Reason) (x : Reason) → IsErr r → IsErrAnd r (λ y. y ≡ x) → r ≡ Err x
passed_on (Ok u) x e f = absurd cc
passed_on (Err y) x e f = ap Err f

module _ (o : Object) (table : List ℕ) (store : List ℤ) (l : Lent) where
  pub first_store : (r : Refusal) → some r ≡ refused_store o store → some r ≡ refused50to52 o table store l
  unfolding refused_store
  first_store r q = by (unless (right50 o store) 50) (unless (right51 o store) 51) q
    where
      by : (a b : Option Refusal) → some r ≡ or_else a b → some r ≡ or_else a (or_else b (unless (right52 o table l) 52))
      by none none q = absurd (some_none q)
      by none (some r) q = q
      by (some r) b q = q

  pub then_state : none ≡ refused_store o store → refused50to52 o table store l ≡ unless (right52 o table l) 52
  unfolding refused_store
  then_state q =
      let f = or_none (unless (right50 o store) 50) _ (sym q) in
      rw (f.0, f.1)

-- ---- places made 0

pub cleared_above : (a b : List ℤ) (h : ℕ) → length a ≡ 40 → Cleared a b h → (i : ℕ) → h ≤ i → cell b i ≡ pos 0
cleared_above a b h forty c i k = by (40 - i) refl
  where
    by : (d : ℕ) → d ≡ 40 - i → cell b i ≡ pos 0
    by zero q = get_or-eq_default b (pos 0) {n = i} (omega (arith, c.long))
    by (suc d) q = c.zeros i k (omega arith)

-- below the height all is as it was
pub cleared_take : (a b : List ℤ) (h : ℕ) → Cleared a b h → take h b ≡ take h a
cleared_take a b h c =
    ext_get_or (pos 0) (take h b) (take h a) (length-take h b ∙ ap (min h) c.long ∙ sym (length-take h a))
    (λ i l. let k : i < h = omega (arith, length-take h b) in get_or-take h b i (pos 0) k ∙ c.below i k ∙ sym (get_or-take h a i (pos 0) k))

pub cleared_all : (a b : List ℤ) → length a ≡ 40 → Cleared a b 0 → b ≡ replicate 40 (pos 0)
cleared_all a b forty c =
    ext_get_or (pos 0) b (replicate 40 (pos 0)) (c.long ∙ forty ∙ sym (length-replicate {A = ℤ} 40 (pos 0)))
    (λ i l. c.zeros i (omega arith) (omega (arith, c.long)) ∙ sym (get_or-replicate 40 i (pos 0) (pos 0) (omega (arith, c.long))))
