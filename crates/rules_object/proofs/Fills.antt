-- The steps of filling a table, over lists and numbers: each keeps what is held, or shows that paths do not agree.
-- Assumes nothing.
use mathlib.Core.Path.{◌≡◌, refl, sym, ap, ◌∙◌, subst}
use mathlib.Core.Logic.{◌⊎◌, inl, inr}
use mathlib.Core.List.{List, [], ◌∷◌}
use Prim.Native.Nat.{ℕ, zero, suc, ◌+◌, ◌-◌, ◌≤◌, ◌<◌}
use native.Mathlib.Decide.{dec_lt, ℕ_discrete}
use native.Mathlib.Omega.{arith}
use lib.ListN.{length, set, replicate, length-set, length-replicate, get_or-replicate}
use lib.Seq.{get_or-set_same, get_or-set_other}
use borrow.Author.Tests.{eq-eqb, ne_eqb}
use Rattle.rules_shared.specs.Limits.{limits}
use Rattle.rules_object.specs.Flow.{Flow, never, height_at, after, Lead, Fine, Valid, Below, Reached, first, onward, PathsAgree, Least, NoTable}
use Rattle.rules_object.specs.Heights.{waiting}
use Rattle.rules_object.specs.Filling.{nevers, Blank, Waits, Filling, Visiting, Went}

-- ---- tables and paths

-- what a path comes with is in every table
pub reached : {F : Flow} {a h : ℕ} → Reached F a h → (U : List ℕ) → Valid F U → (a < F.n) × ((h ≤ limits.stack) × (height_at U a ≡ h))
reached first U u = (u.begins.0, (omega arith, u.begins.1))
reached (onward {a} {h} k r l) U u =
    let i = reached r U u in
    let e = i.1.1 in
    let b = i.1.0 in
    let d = (u.each a i.0 (omega arith)).leads k l in
    let d₁ = d.low in
    let d₂ = d.is in
    (d.inside, (omega arith, omega arith))

pub table_agrees : (F : Flow) (U : List ℕ) → Valid F U → PathsAgree F
table_agrees F U u =
    record {
      starts = u.begins.0;
      inside = λ r. (reached r U u).0;
      covers = λ {a} r. let i = (reached r U u).1 in let e = i.1 in let l = i.0 in let d = (u.each a (reached r U u).0 (omega arith)).room in omega arith;
      within = λ r. (reached r U u).1.0;
      agree = λ r s. sym (reached r U u).1.1 ∙ (reached s U u).1.1;
    }

pub disagree_none : (F : Flow) → (PathsAgree F → ⊥) → NoTable F
disagree_none F d = record { none = λ U u. d (table_agrees F U u) }

-- ---- counting

pub nevers_set : (H : List ℕ) (t v : ℕ) → t < length H → height_at H t ≡ never → v ≤ limits.stack → nevers H ≡ nevers (set H t v) + 1
unfolding nevers
nevers_set [] t v l e b = absurd (omega arith)
nevers_set (x ∷ H) zero v l e b =
    let no : v ≡ never → ⊥ = λ q. omega arith in
    simp (eq-eqb x never e, ne_eqb v never no) (omega arith)
nevers_set (x ∷ H) (suc t) v l e b = let k = nevers_set H t v (omega arith) e b in omega arith

pub nevers_some : (H : List ℕ) (t : ℕ) → t < length H → height_at H t ≡ never → 0 < nevers H
nevers_some H t l e = omega (arith, nevers_set H t 0 l e (omega arith))

nevers_all : (n : ℕ) → nevers (replicate n never) ≡ n
unfolding nevers
nevers_all zero = refl
nevers_all (suc n) = let k = nevers_all n in omega arith

pub blank : (n : ℕ) → Blank (replicate n never)
blank n = record { all = λ a l. get_or-replicate n a never 0 (subst (λ (m : ℕ). a < m) (length-replicate {A = ℕ} n never) l); count = nevers_all n ∙ sym (length-replicate {A = ℕ} n never) }

-- ---- a height set

module _ (H : List ℕ) (t v : ℕ) (l : t < length H) (e : height_at H t ≡ never) where
  pub set_other : (b : ℕ) → height_at H b ≤ limits.stack → height_at (set H t v) b ≡ height_at H b
  set_other b h = get_or-set_other H t b v 0 (λ q. absurd (let k : height_at H b ≡ never = ap (height_at H) q ∙ e in omega arith))

lead_on : {F : Flow} {H U : List ℕ} {a k : ℕ} → Below F H U → a < F.n → height_at H a ≤ limits.stack → Lead F H a k → Lead F U a k
lead_on {F} {H} {U} {a} {k} b i h d =
    let ea : height_at U a ≡ height_at H a = b.has a i h in
    let en : height_at U (F.next a k) ≡ height_at H (F.next a k) = b.has (F.next a k) d.inside (let q = d.is in let z = d.low in omega arith) in
    record { inside = d.inside; low = let z = d.low in rw ea z; is = en ∙ d.is ∙ ap (λ (x : ℕ). x - F.takes a + F.gives a) (sym ea) }

pub fine_on : {F : Flow} {H U : List ℕ} {a : ℕ} → Below F H U → a < F.n → height_at H a ≤ limits.stack → Fine F H a → Fine F U a
fine_on {F} {H} {U} {a} b i h f =
    let ea : height_at U a ≡ height_at H a = b.has a i h in
    record { room = let z = f.room in omega arith; leads = λ k l. lead_on b i h (f.leads k l) }

below_refl : {F : Flow} {H : List ℕ} → Below F H H
below_refl = record { has = λ a i h. refl }

-- ---- the height v = after F H a comes to the kth successor t of a

module _ (F : Flow) (H W : List ℕ) (top a k t v : ℕ) (et : F.next a k ≡ t) (ev : after F H a ≡ v) (kw : k < F.width a) (vis : Visiting F H W top a k) where
  comes : Reached F t v
  comes =
      let r : Reached F (F.next a k) (after F H a) = onward k (vis.held.reach a vis.here vis.high) kw in
      subst (λ (x : ℕ). Reached F x v) et (subst (λ (y : ℕ). Reached F (F.next a k) y) ev r)

  pub past : F.n ≤ t → PathsAgree F → ⊥
  past l p = let i = p.inside comes in omega arith

  pub over : limits.stack < v → PathsAgree F → ⊥
  over l p = let i = p.within comes in omega arith

  -- a height that is not never is one
  has_height : t < F.n → (height_at H t ≡ never → ⊥) → height_at H t ≤ limits.stack
  has_height i ne = go (vis.held.low t i)
    where
      go : (height_at H t ≤ limits.stack) ⊎ (height_at H t ≡ never) → height_at H t ≤ limits.stack
      go (inl l) = l
      go (inr e) = absurd (ne e)

  pub clash : t < F.n → (height_at H t ≡ never → ⊥) → (height_at H t ≡ v → ⊥) → PathsAgree F → ⊥
  clash i ne nv p = nv (p.agree (vis.held.reach t i (has_height i ne)) comes)

  -- one more successor is done
  more : {K : List ℕ} → Below F H K → Lead F K a k → (j : ℕ) → j < k + 1 → Lead F K a j
  more {K} b d j l = go (dec_lt j k)
    where
      go : Dec (j < k) → Lead F K a j
      go (yes q) = lead_on b vis.here vis.high (vis.part j q)
      go (no q) = let e : k ≡ j = omega arith in subst (λ (x : ℕ). Lead F K a x) e d

  pub same : t < F.n → (height_at H t ≡ never → ⊥) → height_at H t ≡ v → Went F H W (nevers H + top) v a (k + 1) top
  same i ne e =
      let l = has_height i ne in
      let lead : Lead F H a k = record { inside = omega arith; low = omega arith; is = ap (height_at H) et ∙ e ∙ sym ev } in
      record { stays = ev; count = refl; visiting = record { held = vis.held; here = vis.here; high = vis.high; room = vis.room; part = more below_refl lead; done = vis.done } }

  module _ (i : t < F.n) (e : height_at H t ≡ never) (small : v ≤ limits.stack) where
    abbrev H' : List ℕ
    H' = set H t v

    abbrev W' : List ℕ
    W' = set W top t

    l : t < length H
    l = let s = vis.held.sized in omega arith

    falls : nevers H ≡ nevers H' + 1
    falls = nevers_set H t v l e small

    free : top < length W
    free = let s = vis.held.space in let f = falls in omega arith

    now_t : height_at H' t ≡ v
    now_t = get_or-set_same H t v 0 l

    below : Below F H H'
    below = record { has = λ b j h. set_other H t v l e b h }

    -- b is t, or has in H' what it has in H
    either : (b : ℕ) {P : Type 0} → (b ≡ t → P) → ((b ≡ t → ⊥) → height_at H' b ≡ height_at H b → P) → P
    either b {P} f g = go (ℕ_discrete b t)
      where
        go : Dec (b ≡ t) → P
        go (yes q) = f q
        go (no q) = g q (get_or-set_other H t b v 0 q)

    at_t : (b : ℕ) → b ≡ t → height_at H' b ≡ v
    at_t b q = ap (height_at H') q ∙ now_t

    reach : (b : ℕ) → b < F.n → height_at H' b ≤ limits.stack → Reached F b (height_at H' b)
    reach b j h = either b
        (λ q. subst (λ (y : ℕ). Reached F b y) (sym (at_t b q)) (subst (λ (x : ℕ). Reached F x v) (sym q) comes))
        (λ n q. subst (λ (y : ℕ). Reached F b y) (sym q) (vis.held.reach b j (omega arith)))

    inside : (j : ℕ) → j < top + 1 → (waiting W' j < F.n) × (height_at H' (waiting W' j) ≤ limits.stack)
    inside j lj = go (ℕ_discrete j top)
      where
        go : Dec (j ≡ top) → (waiting W' j < F.n) × (height_at H' (waiting W' j) ≤ limits.stack)
        go (yes q) =
            let w : waiting W' j ≡ t = ap (waiting W') q ∙ get_or-set_same W top t 0 free in
            let z = at_t (waiting W' j) w in
            (omega arith, omega arith)
        go (no q) =
            let w : waiting W' j ≡ waiting W j = get_or-set_other W top j t 0 q in
            let o = vis.held.inside j (omega arith) in
            let z : height_at H' (waiting W' j) ≡ height_at H (waiting W j) = ap (height_at H') w ∙ set_other H t v l e (waiting W j) o.1 in
            (omega arith, omega arith)

    waits : (b : ℕ) → Waits W top b → Waits W' (top + 1) b
    waits b w =
        let p = w.below in
        record { place = w.place; below = omega arith; is = get_or-set_other W top w.place t 0 (λ q. omega arith) ∙ w.is }

    go_on_lem : Visiting F H' W' (top + 1) a (k + 1)
    go_on_lem =
        let ea : height_at H' a ≡ height_at H a = below.has a vis.here vis.high in
        let hi = vis.high in
        let ro = vis.room in
        let s = vis.held.sized in
        let b0 = vis.held.begins in
        record {
          held = record {
            sized = omega (arith, length-set H t v);
            begins = (b0.0, set_other H t v l e 0 (omega arith) ∙ b0.1);
            low = λ b j. either b (λ q. inl (let z = at_t b q in omega arith)) (λ n q. subst (λ (x : ℕ). (x ≤ limits.stack) ⊎ (x ≡ never)) (sym q) (vis.held.low b j));
            reach = reach;
            inside = inside;
            space = let z = vis.held.space in let f = falls in omega (arith, length-set W top t);
          };
          here = vis.here;
          high = omega arith;
          room = omega arith;
          part = more below (record { inside = omega arith; low = omega arith; is = ap (height_at H') et ∙ now_t ∙ sym ev ∙ ap (λ (x : ℕ). x - F.takes a + F.gives a) (sym ea) });
          done = λ b j h. either b
              (λ q. inl (inl (record { place = top; below = omega arith; is = get_or-set_same W top t 0 free ∙ sym q })))
              (λ n q. old b j (omega arith) (vis.done b j (omega arith)));
        }
      where
        old : (b : ℕ) → b < F.n → height_at H b ≤ limits.stack → (Waits W top b ⊎ Fine F H b) ⊎ (b ≡ a) → (Waits W' (top + 1) b ⊎ Fine F H' b) ⊎ (b ≡ a)
        old b j h (inl (inl w)) = inl (inl (waits b w))
        old b j h (inl (inr f)) = inl (inr (fine_on below j h f))
        old b j h (inr q) = inr q

    pub new : Went F H' W' (nevers H + top) v a (k + 1) (top + 1)
    new =
        record {
          visiting = go_on_lem;
          stays = ap (λ (x : ℕ). x - F.takes a + F.gives a) (below.has a vis.here vis.high) ∙ ev;
          count = let f = falls in omega arith;
        }

-- ---- a visit begins and ends

module _ (F : Flow) (H W : List ℕ) (s a : ℕ) (is : waiting W s ≡ a) (fil : Filling F H W (s + 1)) where
  pub there : (a < F.n) × (height_at H a ≤ limits.stack)
  there = subst (λ (x : ℕ). (x < F.n) × (height_at H x ≤ limits.stack)) is (fil.held.inside s (omega arith))

  pub short : height_at H a < F.takes a → PathsAgree F → ⊥
  short l p = let c = p.covers (fil.held.reach a there.0 there.1) in omega arith

  pub begin : F.takes a ≤ height_at H a → Visiting F H W s a 0
  begin r =
      let g = fil.held in
      let sp = g.space in
      record {
        held = record { sized = g.sized; begins = g.begins; low = g.low; reach = g.reach; inside = λ j l. g.inside j (omega arith); space = omega arith };
        here = there.0;
        high = there.1;
        room = r;
        part = λ j l. absurd (omega arith);
        done = λ b j h. go b (fil.done b j h);
      }
    where
      go : (b : ℕ) → Waits W (s + 1) b ⊎ Fine F H b → (Waits W s b ⊎ Fine F H b) ⊎ (b ≡ a)
      go b (inr f) = inl (inr f)
      go b (inl w) = pick (ℕ_discrete w.place s)
        where
          pick : Dec (w.place ≡ s) → (Waits W s b ⊎ Fine F H b) ⊎ (b ≡ a)
          pick (yes q) = inr (sym w.is ∙ ap (waiting W) q ∙ is)
          pick (no q) = let p = w.below in inl (inl (record { place = w.place; below = omega arith; is = w.is }))

pub finish : {F : Flow} {H W : List ℕ} {top a k : ℕ} → Visiting F H W top a k → F.width a ≤ k → Filling F H W top
finish {F} {H} {W} {top} {a} {k} vis l = record { held = vis.held; done = λ b j h. go b (vis.done b j h) }
  where
    go : (b : ℕ) → (Waits W top b ⊎ Fine F H b) ⊎ (b ≡ a) → Waits W top b ⊎ Fine F H b
    go b (inl d) = d
    go b (inr q) = inr (subst (λ (x : ℕ). Fine F H x) (sym q) (record { room = vis.room; leads = λ j i. vis.part j (omega arith) }))

-- ---- the start and the end

-- instruction 0 has 0, and waits
pub start : (F : Flow) (H W : List ℕ) → Blank H → 0 < F.n → F.n ≤ length H → length H ≤ length W → waiting W 0 ≡ 0 → Filling F (set H 0 0) W 1
start F H W blank some fits space first-waits =
    record {
      held = record {
        sized = omega (arith, length-set H 0 0);
        begins = (some, zero_now);
        low = λ b i. either b (λ q. inl (let z = ap (height_at H') q ∙ zero_now in omega arith)) (λ e. inr (e i));
        reach = λ b i h. either b (λ q. let z = ap (height_at H') q ∙ zero_now in subst (λ (y : ℕ). Reached F b y) (sym z) (subst (λ (x : ℕ). Reached F x 0) (sym q) first)) (λ e. absurd (let z = e i in omega arith));
        inside = λ j l.
            let w : waiting W j ≡ 0 = let q : j ≡ 0 = omega arith in ap (waiting W) q ∙ first-waits in
            let z : height_at H' (waiting W j) ≡ 0 = ap (height_at H') w ∙ zero_now in
            (omega arith, omega arith);
        space = let f = nevers_set H 0 0 (omega arith) (blank.all 0 (omega arith)) (omega arith) in let n = blank.count in omega arith;
      };
      done = λ b i h. either b (λ q. inl (record { place = 0; below = omega arith; is = first-waits ∙ sym q })) (λ e. absurd (let z = e i in omega arith));
    }
  where
    H' : List ℕ
    H' = set H 0 0

    zero_now : height_at H' 0 ≡ 0
    zero_now = get_or-set_same H 0 0 0 (omega arith)

    either : (b : ℕ) {P : Type 0} → (b ≡ 0 → P) → ((b < F.n → height_at H' b ≡ never) → P) → P
    either b {P} f g = go (ℕ_discrete b 0)
      where
        go : Dec (b ≡ 0) → P
        go (yes q) = f q
        go (no q) = g (λ i. get_or-set_other H 0 b 0 0 q ∙ blank.all b (omega arith))

-- nothing waits: every instruction with a height is fine
pub ends : {F : Flow} {H W : List ℕ} → Filling F H W 0 → Least F H
ends {F} {H} {W} fil =
    record {
      valid = record { sized = fil.held.sized; begins = fil.held.begins; low = fil.held.low; each = λ a i h. go a (fil.done a i h) };
      least = λ U u. record { has = λ b i h. (reached (fil.held.reach b i h) U u).1.1 };
      reach = fil.held.reach;
    }
  where
    go : (a : ℕ) → Waits W 0 a ⊎ Fine F H a → Fine F H a
    go a (inr f) = f
    go a (inl w) = absurd (let p = w.below in omega arith)
