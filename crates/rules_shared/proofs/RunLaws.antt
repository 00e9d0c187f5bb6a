-- Runs of any step function: a then b is a + b, what a halt's steps are, and runs that go alike.
-- Assumes nothing.
use mathlib.Core.Path.{◌≡◌, refl, sym, ap, ◌∙◌, subst}
use Prim.Native.Nat.{ℕ, zero, suc, ◌+◌, ◌-◌, ◌≤◌, ◌<◌}
use native.Mathlib.Nat.{suc-add, zero-add, lt_of_not-le}
use native.Mathlib.Decide.{dec_le}
use native.Mathlib.Omega.{arith}
use Rattle.rules_shared.specs.Runs.{Outcome, go, halt, then, run, steps_from, steps}

-- ---- one outcome is not another

pub not_halt : {H S : Type 0} {s t : S} {h : H} → go s ≡ halt h t → ⊥
not_halt e = let z : ◌≡◌ {A = ℕ} 0 1 = cc in omega arith

pub go_same : {H S : Type 0} {s t : S} → ◌≡◌ {A = Outcome H S} (go s) (go t) → s ≡ t
go_same e = cc

pub halt_same : {H S : Type 0} {s t : S} {h i : H} → ◌≡◌ {A = Outcome H S} (halt h s) (halt i t) → (h ≡ i) × (s ≡ t)
halt_same {s = s} {t = t} {h = h} {i = i} e = let p : h ≡ i = cc in let q : s ≡ t = cc in (p, q)

-- ---- a then b is a + b

then_then : {H S : Type 0} (o : Outcome H S) (f g h : S → Outcome H S) → ((t : S) → f t ≡ then (g t) h) → then o f ≡ then (then o g) h
then_then (go t) f g h e = e t
then_then (halt x t) f g h e = refl

pub run_add : {H S : Type 0} (f : S → Outcome H S) (a b : ℕ) (s : S) → run f (a + b) s ≡ then (run f a s) (λ t. run f b t)
run_add f zero b s = rw zero-add
run_add f (suc a) b s = rw suc-add (then_then (f s) _ _ _ (λ t. run_add f a b t))

steps_then : {H S : Type 0} (o : Outcome H S) (f g : S → ℕ) (h : S → Outcome H S) (b : S → ℕ) → ((t : S) → f t ≡ g t + steps_from (h t) b) → steps_from o f ≡ steps_from o g + steps_from (then o h) b
steps_then (go t) f g h b e = e t
steps_then (halt x t) f g h b e = refl

pub steps_add : {H S : Type 0} (f : S → Outcome H S) (a b : ℕ) (s : S) → steps f (a + b) s ≡ steps f a s + steps_from (run f a s) (λ t. steps f b t)
steps_add f zero b s = rw (zero-add b, zero-add (steps f b s))
steps_add f (suc a) b s = rw (suc-add a b, suc-add) (ap suc (steps_then (f s) _ _ _ _ (λ t. steps_add f a b t)))

-- ---- n steps from s come to an outcome; a record, so that a use can leave f, n, s and the outcome out

pub record Steps {H S : Type 0} (f : S → Outcome H S) (n : ℕ) (s : S) (o : Outcome H S) : Type 0 where
  pub eq : run f n s ≡ o

module _ {H S : Type 0} {f : S → Outcome H S} where
  pub rest : {s : S} → Steps f zero s (go s)
  rest = record { eq = refl }

  pub seq : {a b : ℕ} {s t : S} {o : Outcome H S} → Steps f a s (go t) → Steps f b t o → Steps f (a + b) s o
  seq {a} {b} {s} h k = record { eq = run_add f a b s ∙ ap (λ x. then x (λ t. run f b t)) h.eq ∙ k.eq }

  pub one : {b : ℕ} {s t : S} {o : Outcome H S} → f s ≡ go t → Steps f b t o → Steps f (suc b) s o
  one {b} h k = record { eq = ap (λ x. then x (λ t. run f b t)) h ∙ k.eq }

  pub last : {s t : S} {h : H} → f s ≡ halt h t → Steps f 1 s (halt h t)
  last h = record { eq = ap (λ x. then x (λ t. go t)) h }

  -- a run that has halted stays halted
  pub more : {a : ℕ} (b : ℕ) {s t : S} {h : H} → Steps f a s (halt h t) → Steps f (a + b) s (halt h t)
  more {a} b {s} e = record { eq = run_add f a b s ∙ ap (λ x. then x (λ t. run f b t)) e.eq }

  -- and has one outcome
  pub same_halt : {a b : ℕ} {s t t' : S} {h h' : H} → Steps f a s (halt h t) → Steps f b s (halt h' t') → ◌≡◌ {A = Outcome H S} (halt h t) (halt h' t')
  same_halt {a} {b} {s} p q =
      let e : a + b ≡ b + a = omega arith in
      sym (more b p).eq ∙ ap (λ n. run f n s) e ∙ (more a q).eq

  -- a run that halts after N steps and is at t after n halts from t
  pub onward : {n N : ℕ} {s t t' : S} {h : H} → Steps f n s (go t) → Steps f N s (halt h t') → (r : ℕ) × (N ≡ n + r) × Steps f r t (halt h t')
  onward {n} {N} {s} {t} {t'} {h} p q = by (dec_le n N)
    where
      by : Dec (n ≤ N) → (r : ℕ) × (N ≡ n + r) × Steps f r t (halt h t')
      by (yes l) =
          let e : n + (N - n) ≡ N = omega arith in
          (N - n, omega arith, record { eq = ap (λ o. then o (λ t. run f (N - n) t)) (sym p.eq) ∙ sym (run_add f n (N - n) s) ∙ ap (λ n. run f n s) e ∙ q.eq })
      by (no l) =
          let g : N < n = lt_of_not-le l in
          let e : n ≡ N + (n - N) = omega arith in
          absurd (not_halt (sym p.eq ∙ ap (λ n. run f n s) e ∙ (more (n - N) q).eq))

-- ---- the steps of a run

-- a run that goes on took its whole allowance
pub steps_go : {H S : Type 0} (f : S → Outcome H S) (n : ℕ) (s t : S) → run f n s ≡ go t → steps f n s ≡ n
steps_go f zero s t e = refl
steps_go {H} {S} f (suc n) s t e = by (f s) e (λ u. steps_go f n u t)
  where
    by : (o : Outcome H S) → then o (λ u. run f n u) ≡ go t → ((u : S) → run f n u ≡ go t → steps f n u ≡ n) → suc (steps_from o (λ u. steps f n u)) ≡ suc n
    by (go u) q ih = ap suc (ih u q)
    by (halt h u) q ih = absurd (not_halt (sym q))

-- A halted run went on for some steps, to a state from which one more step halts.
pub record Halted {H S : Type 0} (f : S → Outcome H S) (n : ℕ) (s : S) (h : H) (t : S) : Type 0 where
  pub before : ℕ
  pub at : S
  pub below : before < n
  pub goes : run f before s ≡ go at
  pub halts : f at ≡ halt h t
  pub count : steps f n s ≡ suc before

pub halted : {H S : Type 0} (f : S → Outcome H S) (n : ℕ) (s t : S) (h : H) → run f n s ≡ halt h t → Halted f n s h t
halted f zero s t h e = absurd (not_halt e)
halted {H} {S} f (suc n) s t h e = by (f s) refl e (λ u. halted f n u t h)
  where
    by : (o : Outcome H S) → f s ≡ o → then o (λ u. run f n u) ≡ halt h t → ((u : S) → run f n u ≡ halt h t → Halted f n u h t) → Halted f (suc n) s h t
    by (go u) q e ih =
        let x = ih u e in
        let l = x.below in
        record {
          before = suc x.before;
          at = x.at;
          below = omega arith;
          goes = ap (λ o. then o (λ u. run f x.before u)) q ∙ x.goes;
          halts = x.halts;
          count = ap suc (ap (λ o. steps_from o (λ u. steps f n u)) q ∙ x.count);
        }
    by (halt i u) q e ih = record { before = 0; at = s; below = omega arith; goes = refl; halts = q ∙ e; count = ap suc (ap (λ o. steps_from o (λ u. steps f n u)) q) }

-- the same at any larger allowance, in as many steps
pub halts_more : {H S : Type 0} (f : S → Outcome H S) (n b : ℕ) (s t : S) (h : H) → run f n s ≡ halt h t → run f (n + b) s ≡ halt h t
halts_more f n b s t h e = let x : Steps f n s (halt h t) = record { eq = e } in (more b x).eq

pub steps_more : {H S : Type 0} (f : S → Outcome H S) (n b : ℕ) (s t : S) (h : H) → run f n s ≡ halt h t → steps f (n + b) s ≡ steps f n s
steps_more f n b s t h e = let z : steps_from (run f n s) (λ t. steps f b t) ≡ 0 = ap (λ o. steps_from o (λ t. steps f b t)) e in omega (arith, steps_add f n b s)

module _ {H S : Type 0} (f : S → Outcome H S) (n : ℕ) (s t : S) (h : H) (e : run f n s ≡ halt h t) where
  pub steps_some : 1 ≤ steps f n s
  steps_some = let c = (halted f n s t h e).count in omega arith

  pub steps_most : steps f n s ≤ n
  steps_most = let x = halted f n s t h e in let c = x.count in let l = x.below in omega arith

  -- the same at the allowance of those steps
  pub halts_at : run f (steps f n s) s ≡ halt h t
  halts_at =
      let x = halted f n s t h e in
      let c = x.count in
      let one_more : steps f n s ≡ x.before + 1 = omega arith in
      ap (λ m. run f m s) one_more ∙ run_add f x.before 1 s ∙ ap (λ o. then o (λ t. run f 1 t)) x.goes ∙ ap (λ o. then o (λ t. go t)) x.halts

  pub steps_at_lem : steps f (steps f n s) s ≡ steps f n s
  steps_at_lem =
      let l = steps_most in
      let q : steps f n s + (n - steps f n s) ≡ n = omega arith in
      sym (steps_more f (steps f n s) (n - steps f n s) s t h halts_at) ∙ ap (λ m. steps f m s) q

  -- it goes on at one less
  pub goes_before : (u : S) × ((run f (steps f n s - 1) s ≡ go u) × (f u ≡ halt h t))
  goes_before =
      let x = halted f n s t h e in
      let c = x.count in
      let less : steps f n s - 1 ≡ x.before = omega arith in
      (x.at, (ap (λ m. run f m s) less ∙ x.goes, x.halts))

-- ---- what every step keeps, a run keeps; and runs that go alike

abbrev pub map_out : {H S T : Type 0} → (S → T) → Outcome H S → Outcome H T
map_out m (go s) = go (m s)
map_out m (halt h s) = halt h (m s)

module _ {H S : Type 0} (P : S → Type 0) (f : S → Outcome H S) (keeps : (s t : S) → P s → f s ≡ go t → P t) where
  pub run_keeps : (n : ℕ) (s t : S) → P s → run f n s ≡ go t → P t
  run_keeps zero s t p e = subst P (go_same e) p
  run_keeps (suc n) s t p e = by (f s) refl e (λ u q. run_keeps n u t q)
    where
      by : (o : Outcome H S) → f s ≡ o → then o (λ u. run f n u) ≡ go t → ((u : S) → P u → run f n u ≡ go t → P t) → P t
      by (go u) q e ih = ih u (keeps s u p q) e
      by (halt h u) q e ih = absurd (not_halt (sym e))

  module _ {T : Type 0} (m : S → T) (g : T → Outcome H T) (alike : (s : S) → P s → g (m s) ≡ map_out m (f s)) where
    pub run_map : (n : ℕ) (s : S) → P s → run g n (m s) ≡ map_out m (run f n s)
    run_map zero s p = refl
    run_map (suc n) s p = ap (λ o. then o (λ u. run g n u)) (alike s p) ∙ by (f s) refl (run_map n)
      where
        by : (o : Outcome H S) → f s ≡ o → ((u : S) → P u → run g n (m u) ≡ map_out m (run f n u)) → then (map_out m o) (λ u. run g n u) ≡ map_out m (then o (λ u. run f n u))
        by (go u) q ih = ih u (keeps s u p q)
        by (halt h u) q ih = refl

    pub steps_map : (n : ℕ) (s : S) → P s → steps g n (m s) ≡ steps f n s
    steps_map zero s p = refl
    steps_map (suc n) s p = ap suc (ap (λ o. steps_from o (λ u. steps g n u)) (alike s p) ∙ by (f s) refl (steps_map n))
      where
        by : (o : Outcome H S) → f s ≡ o → ((u : S) → P u → steps g n (m u) ≡ steps f n u) → steps_from (map_out m o) (λ u. steps g n u) ≡ steps_from o (λ u. steps f n u)
        by (go u) q ih = ih u (keeps s u p q)
        by (halt h u) q ih = refl

map_id : {H S : Type 0} (o : Outcome H S) → map_out (λ s. s) o ≡ o
map_id (go s) = refl
map_id (halt h s) = refl

module _ {H S : Type 0} (P : S → Type 0) (f g : S → Outcome H S) (keeps : (s t : S) → P s → f s ≡ go t → P t) (alike : (s : S) → P s → g s ≡ f s) where
  pub run_same : (n : ℕ) (s : S) → P s → run g n s ≡ run f n s
  run_same n s p = run_map P f keeps (λ s. s) g (λ s p. alike s p ∙ sym (map_id (f s))) n s p ∙ map_id (run f n s)

  pub steps_same : (n : ℕ) (s : S) → P s → steps g n s ≡ steps f n s
  steps_same n s p = steps_map P f keeps (λ s. s) g (λ s p. alike s p ∙ sym (map_id (f s))) n s p
