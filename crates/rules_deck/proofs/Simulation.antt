-- Whole runs, both ways: the machine that runs the translated deck does what the deck means.
-- Assumes nothing.
use mathlib.Core.Path.{◌≡◌, refl, sym, ap, ◌∙◌, subst}
use mathlib.Core.Logic.{◌⊎◌, inl, inr}
use Prim.Native.Nat.{ℕ, zero, suc, ◌+◌, ◌*◌, ◌-◌, ◌≤◌, ◌<◌}
use native.Mathlib.Nat.{add-zero, mul-le-mul_right}
use native.Mathlib.Omega.{arith}
use mathlib.Core.Bool.{true, false≢true}
use mathlib.Core.List.{List, [], ◌∷◌}
use mathlib.Core.Option.{some}
use lib.ListN.{length, get_elem?}
use lib.IntN.{ℤ}
use Rattle.rules_shared.specs.House.{House}
use Rattle.rules_shared.specs.Runs.{Outcome, go, halt, then, run, steps_from, steps}
use Rattle.rules_formats.specs.Walk.{Devices, no_trays, devices_of}
use Rattle.rules_object.specs.Halts.{Halt, Out}
use Rattle.rules_shared.specs.Choose.{positive}
use Rattle.rules_object.specs.Machine.{State, fresh, step}
use Rattle.rules_object.proofs.States.{state}
use Rattle.rules_shared.proofs.RunLaws.{halt_same, Steps, one, last, more, same_halt, onward, steps_more, steps_some, steps_most}
use Rattle.rules_text.specs.Trees.{Statement}
use Rattle.rules_deck.specs.Deck.{Do, endings}
use Rattle.rules_deck.specs.Meaning.{Cause, Values, Bounds, not_entered, bounds, Standing, begin, meaning_step, meaning}
use Rattle.rules_deck.specs.Cost.{meaning_steps}
use Rattle.rules_deck.specs.Translation.{held_of, address_at, translate}
use Rattle.rules_deck.specs.Whole.{ends_well, last_of}
use Rattle.rules_deck.specs.Cells.{Holds, SameMark, unmarked}
use Rattle.rules_deck.specs.Lawful.{Lawful}
use Rattle.rules_deck.specs.Accepted.{Among}
use Rattle.rules_deck.specs.Sound.{Sound}
use Rattle.rules_deck.specs.Seen.{halt_of, InStatement}
use Rattle.rules_deck.proofs.DoLaws.{among_endings}
use Rattle.rules_deck.proofs.Addresses.{address_zero}
use Rattle.rules_deck.proofs.MachineRuns.{ruled, own_rule, Runs, stay, and_then}
use Rattle.rules_deck.proofs.Standings.{standing, Inside, Stands}
use Rattle.rules_deck.proofs.EndSim.{Sim, goes, halts}
use Rattle.rules_deck.proofs.StatementSim.{step_sim}

-- ---- forward

-- n steps of the machine from t come to what the meaning comes to
data Comes (house : House) (deck : List Statement) (t : State) (n : ℕ) : Outcome Cause Standing → Type 0 where
  going : {j lost m : ℕ} {env : Values} {inside : ℕ → Bounds} {c : List ℤ} {devices : Devices} → Runs house deck n t (go (state (address_at deck j) [] c m devices)) → Stands deck j env inside lost c m
      → Comes house deck t n (go (standing j env inside lost))
  ended : {h : Cause} {j lost p m : ℕ} {env : Values} {inside : ℕ → Bounds} {s c : List ℤ} {devices : Devices} → Runs house deck n t (halt (halt_of h) (state p s c m devices)) → address_at deck j ≤ p → p < address_at deck (suc j) → Holds (held_of deck) env c → SameMark deck lost m
      → Comes house deck t n (halt h (standing j env inside lost))

module _ {house : House} {deck : List Statement} where
  after_run_lem : {a b : ℕ} {s t : State} {o : Outcome Cause Standing} → Runs house deck a s (go t) → Comes house deck t b o → Comes house deck s (a + b) o
  after_run_lem r (going p st) = going (and_then r p) st
  after_run_lem r (ended p l u h m) = ended (and_then r p) l u h m

  some_steps : {n : ℕ} {s t : State} {h : Halt} → Runs house deck n s (halt h t) → 1 ≤ n
  some_steps {n} {s} {t} {h} r = omega (arith, r.took, steps_some (step (translate house deck)) n s t h r.is.eq)

  then_comes : {j n : ℕ} {t : State} {o : Outcome Cause Standing} (f : Standing → Outcome Cause Standing) (g : Standing → ℕ) → t.index ≡ address_at deck j → Sim house deck j t n o
      → ((j lost m : ℕ) (env : Values) (inside : ℕ → Bounds) (c : List ℤ) (devices : Devices) → Stands deck j env inside lost c m
      → Comes house deck (state (address_at deck j) [] c m devices) (g (standing j env inside lost)) (f (standing j env inside lost)))
      → Comes house deck t (n + steps_from o g) (then o f)
  then_comes f g e (goes r l st p) h = after_run_lem r (h _ _ _ _ _ _ _ st)
  then_comes {j} {n} {t} f g e (halts {h = i} {lost} {env = env} {inside} r l p h m) w =
      let z = some_steps r in
      subst (λ a. Comes house deck t a (halt i (standing j env inside lost))) (sym (add-zero n)) (ended r (omega arith) (omega arith) h m)

comes : (house : House) {deck : List Statement} → Sound deck → (n j lost m : ℕ) (env : Values) (inside : ℕ → Bounds) (c : List ℤ) (devices : Devices) → Stands deck j env inside lost c m
    → Comes house deck (state (address_at deck j) [] c m devices) (meaning_steps (ruled house) deck n (standing j env inside lost)) (run (meaning_step (ruled house) deck) n (standing j env inside lost))
comes house sound zero j lost m env inside c devices st = going stay st
comes house {deck} sound (suc n) j lost m env inside c devices st =
    then_comes (λ t. run (meaning_step (ruled house) deck) n t) (λ t. meaning_steps (ruled house) deck n t) refl (step_sim house sound st) (comes house sound n)

-- ---- backward: if the machine halts, so does the meaning

record Halts (house : House) (deck : List Statement) (s : Standing) : Type 0 where
  count : ℕ
  how : Cause
  at : Standing
  is : Steps (meaning_step (ruled house) deck) count s (halt how at)

-- a statement takes machine steps, or is followed by the next one
fewer₁ : (L N n r j j' F : ℕ) → N ≡ n + r → zero < n → N * suc L + (L - j) < suc F → r * suc L + (L - j') < F
fewer₁ L N n r j j' F e p b = omega (arith, mul-le-mul_right L p, ap (λ x. x * suc L) e)

fewer₂ : (L N n r j j' F : ℕ) → N ≡ n + r → j' ≡ suc j → j < L → N * suc L + (L - j) < suc F → r * suc L + (L - j') < F
fewer₂ L N n r j j' F e p l b = omega (arith, ap (λ x. x * suc L) e)

module _ {house : House} {deck : List Statement} where
  back_step : {j N F lost n : ℕ} {env : Values} {inside : ℕ → Bounds} {t t' : State} {h : Halt} {o : Outcome Cause Standing} → meaning_step (ruled house) deck (standing j env inside lost) ≡ o → j < length deck
      → N * suc (length deck) + (length deck - j) < suc F → Steps (step (translate house deck)) N t (halt h t') → Sim house deck j t n o
      → ((j N lost m : ℕ) (env : Values) (inside : ℕ → Bounds) (c : List ℤ) (devices : Devices) → Stands deck j env inside lost c m → N * suc (length deck) + (length deck - j) < F
      → Steps (step (translate house deck)) N (state (address_at deck j) [] c m devices) (halt h t') → Halts house deck (standing j env inside lost)) → Halts house deck (standing j env inside lost)
  back_step e l b r (halts p w q h m) g = record { count = 1; how = _; at = _; is = last e }
  back_step {j} {N} {F} {n = n} e l b r (goes {j = j'} p w st c) g =
      let (i, q, r') = onward p.is r in
      let x = g j' i _ _ _ _ _ _ st (by_count i q c) r' in
      record { count = suc x.count; how = x.how; at = x.at; is = one e x.is }
    where
      by_count : (i : ℕ) → N ≡ n + i → (zero < n) ⊎ (j' ≡ suc j) → i * suc (length deck) + (length deck - j') < F
      by_count i q (inl z) = fewer₁ (length deck) N n i j j' F q z b
      by_count i q (inr z) = fewer₂ (length deck) N n i j j' F q z l b

  back : Sound deck → (F j N lost m : ℕ) (env : Values) (inside : ℕ → Bounds) (c : List ℤ) (devices : Devices) {h : Halt} {t' : State} → Stands deck j env inside lost c m
      → N * suc (length deck) + (length deck - j) < F → Steps (step (translate house deck)) N (state (address_at deck j) [] c m devices) (halt h t') → Halts house deck (standing j env inside lost)
  back sound zero j N lost m env inside c devices st b r = absurd (omega arith)
  back sound (suc F) j N lost m env inside c devices {h} {t'} st b r =
      back_step refl st.here b r (step_sim house sound st) (λ j N lost m env inside c devices. back sound F j N lost m env inside c devices {h = h} {t' = t'})

-- ---- the theorems, for a store that holds the values at the start

-- After `count` steps the machine is at the statement that the standing has, its store holds the values, its mark means the loss.
pub record Stood (house : House) (deck : List Statement) (store : List ℤ) (devices : Devices) (m : Standing) (count : ℕ) : Type 0 where
  pub at : State
  pub goes : run (step (translate house deck)) count (fresh store devices) ≡ go at
  pub index : at.index ≡ address_at deck m.at
  pub stack : at.stack ≡ []
  pub values : Holds (held_of deck) m.values at.store
  pub mark : SameMark deck m.lost at.mark
  pub around : Inside deck m.entered at.store m.at

-- After `count` steps, not before, and after any more, the machine has halted for the same cause, its store holds the values, its mark means the loss.
pub record Alike (house : House) (deck : List Statement) (store : List ℤ) (devices : Devices) (h : Cause) (m : Standing) (count : ℕ) : Type 0 where
  pub at : State
  pub halted : (n : ℕ) → count ≤ n → run (step (translate house deck)) n (fresh store devices) ≡ halt (halt_of h) at
  pub took : (n : ℕ) → count ≤ n → steps (step (translate house deck)) n (fresh store devices) ≡ count
  pub before : (n : ℕ) → n < count → (t : State) × (run (step (translate house deck)) n (fresh store devices) ≡ go t)
  pub among : InStatement deck m.at at.index
  pub values : Holds (held_of deck) m.values at.store
  pub mark : SameMark deck m.lost at.mark

-- The meaning halts, for a cause that h tells, after `count` statements, with the values that the state's store holds and a loss that its mark means; they took so many steps.
pub record Meant (house : House) (deck : List Statement) (env : Values) (h : Halt) (t : State) (taken : ℕ) : Type 0 where
  pub count : ℕ
  pub how : Cause
  pub at : Standing
  pub halted : meaning house.rule deck env count ≡ halt how at
  pub told : halt_of how ≡ h
  pub took : taken ≡ meaning_steps house.rule deck count (begin env)
  pub among : InStatement deck at.at t.index
  pub values : Holds (held_of deck) at.values t.store
  pub mark : SameMark deck at.lost t.mark

-- a run that halts in no fewer than n steps
module _ {house : House} {deck : List Statement} {s t : State} {n : ℕ} {h : Halt} (r : Runs house deck n s (halt h t)) (N : ℕ) where
  enough : n ≤ N → run (step (translate house deck)) N s ≡ halt h t
  enough l = let e : N ≡ n + (N - n) = omega arith in ap (λ i. run (step (translate house deck)) i s) e ∙ (more (N - n) r.is).eq

  taken : n ≤ N → steps (step (translate house deck)) N s ≡ n
  taken l = let e : N ≡ n + (N - n) = omega arith in ap (λ i. steps (step (translate house deck)) i s) e ∙ steps_more (step (translate house deck)) n (N - n) s t h r.is.eq ∙ r.took

  early : N < n → (u : State) × (run (step (translate house deck)) N s ≡ go u)
  early l = by (run (step (translate house deck)) N s) refl
    where
      by : (o : Out State) → run (step (translate house deck)) N s ≡ o → (u : State) × (run (step (translate house deck)) N s ≡ go u)
      by (go u) e = (u, e)
      by (halt i u) e =
          let f = step (translate house deck) in
          let q : n ≡ N + (n - N) = omega arith in
          let z : steps f n s ≡ steps f N s = ap (λ i. steps f i s) q ∙ steps_more f N (n - N) s u i e in
          absurd (omega (arith, r.took, steps_most f N s u i e))

alike : {house : House} {deck : List Statement} {store : List ℤ} {devices : Devices} {h : Cause} {m : Standing} {n : ℕ} → Comes house deck (fresh store devices) n (halt h m) → Alike house deck store devices h m n
alike (ended r l u v m) = record { at = _; halted = enough r; took = taken r; before = early r; among = (l, u); values = v; mark = m }

stood : {house : House} {deck : List Statement} {store : List ℤ} {devices : Devices} {m : Standing} {n : ℕ} → Comes house deck (fresh store devices) n (go m) → Stood house deck store devices m n
stood (going r st) = record { at = _; goes = r.is.eq; index = refl; stack = refl; values = st.holds; mark = st.mark; around = st.around }

not_empty : (deck : List Statement) → ends_well deck ≡ true → 0 < length deck
not_empty [] e = absurd (false≢true e)
not_empty (s ∷ deck) e = omega arith

module _ (house : House) (lawful : Lawful house) (deck : List Statement) (sound : Sound deck) (env : Values) (store : List ℤ) (start : Holds (held_of deck) env store) (devices : Devices) where
  stands : Stands deck 0 env (λ q. not_entered) 0 store 0
  stands =
      record {
        holds = start;
        mark = unmarked refl refl;
        around = record { bound = λ d a r. let z = r.after in absurd (omega arith) };
        here = not_empty deck sound.ends;
      }

  start_comes : (n : ℕ) → Comes house deck (fresh store devices) (meaning_steps house.rule deck n (begin env)) (meaning house.rule deck env n)
  unfolding meaning
  start_comes n =
      subst (λ p. Comes house deck (state p [] store 0 devices) (meaning_steps house.rule deck n (begin env)) (run (meaning_step house.rule deck) n (begin env))) (address_zero deck)
      (subst (λ r. Comes house deck (state (address_at deck 0) [] store 0 devices) (meaning_steps r deck n (begin env)) (run (meaning_step r deck) n (begin env))) (own_rule lawful deck)
      (comes house sound n 0 0 0 env (λ q. not_entered) store devices stands))

  -- as long as the meaning goes on, so does the machine
  pub goes_alike : (n : ℕ) (m : Standing) → meaning house.rule deck env n ≡ go m → Stood house deck store devices m (meaning_steps house.rule deck n (begin env))
  goes_alike n m e = stood (subst (λ o. Comes house deck (fresh store devices) (meaning_steps house.rule deck n (begin env)) o) e (start_comes n))

  -- if the meaning halts, the machine halts alike
  pub halts_alike : (n : ℕ) (h : Cause) (m : Standing) → meaning house.rule deck env n ≡ halt h m → Alike house deck store devices h m (meaning_steps house.rule deck n (begin env))
  halts_alike n h m e = alike (subst (λ o. Comes house deck (fresh store devices) (meaning_steps house.rule deck n (begin env)) o) e (start_comes n))

  halts_back : (n : ℕ) (h : Halt) (t : State) → run (step (translate house deck)) n (fresh store devices) ≡ halt h t → Halts house deck (begin env)
  halts_back n h t e =
      back sound (suc (n * suc (length deck) + (length deck - 0))) 0 n 0 0 env (λ q. not_entered) store devices stands (omega arith)
      (subst (λ p. Steps (step (translate house deck)) n (state p [] store 0 devices) (halt h t)) (sym (address_zero deck)) (record { eq = e }))

  -- if the machine halts, the meaning halts alike
  pub halts_meant : (n : ℕ) (h : Halt) (t : State) → run (step (translate house deck)) n (fresh store devices) ≡ halt h t
      → Meant house deck env h t (steps (step (translate house deck)) n (fresh store devices))
  unfolding meaning
  halts_meant n h t e =
      let f = step (translate house deck) in
      let x = halts_back n h t e in
      let is = subst (λ r. run (meaning_step r deck) x.count (begin env) ≡ halt x.how x.at) (own_rule lawful deck) x.is.eq in
      let count = meaning_steps house.rule deck x.count (begin env) in
      let y = halts_alike x.count x.how x.at is in
      let w = y.halted count (omega arith) in
      let a : Steps f count (fresh store devices) (halt (halt_of x.how) y.at) = record { eq = w } in
      let b : Steps f n (fresh store devices) (halt h t) = record { eq = e } in
      let q = halt_same (same_halt a b) in
      let sum : count + n ≡ n + count = omega arith in
      record {
        count = x.count;
        how = x.how;
        at = x.at;
        halted = is;
        told = q.0;
        took = sym (steps_more f n count (fresh store devices) t h e) ∙ y.took (n + count) (omega arith);
        among = subst (λ (u : State). InStatement deck x.at.at u.index) q.1 y.among;
        values = subst (λ (u : State). Holds (held_of deck) x.at.values u.store) q.1 y.values;
        mark = subst (λ (u : State). SameMark deck x.at.lost u.mark) q.1 y.mark;
      }

  -- if the meaning never halts, every run of the machine goes on
  pub never_halts : ((n : ℕ) (h : Cause) (m : Standing) → ¬ (meaning house.rule deck env n ≡ halt h m)) → (n : ℕ) → (t : State) × (run (step (translate house deck)) n (fresh store devices) ≡ go t)
  never_halts no-halt n = by (run (step (translate house deck)) n (fresh store devices)) refl
    where
      by : (o : Out State) → run (step (translate house deck)) n (fresh store devices) ≡ o → (t : State) × (run (step (translate house deck)) n (fresh store devices) ≡ go t)
      by (go t) e = (t, e)
      by (halt h t) e = let x = halts_meant n h t e in absurd (no-halt x.count x.how x.at x.halted)

-- A DO's end is reached only after its DO: it has been entered, with a step above 0.
pub ends_entered : (house : House) → Lawful house → (deck : List Statement) (sound : Sound deck) (env : Values) (store : List ℤ) (start : Holds (held_of deck) env store) (n : ℕ) (m : Standing)
    → meaning house.rule deck env n ≡ go m → (s : Statement) → get_elem? deck m.at ≡ some s → (d : Do) → Among d (endings deck s.number)
    → (limit : ℤ) × ((step : ℤ) × ((m.entered d.position ≡ bounds limit step) × (positive step ≡ true)))
ends_entered house lawful deck sound env store start n m e s at d among =
    let a = (among_endings deck s.number d among).0 in
    let l : last_of deck d ≡ m.at = sound.nested.last m.at s at d among in
    let after = sound.nested.after d a in
    let b = (goes_alike house lawful deck sound env store start (devices_of no_trays) n m e).around.bound d a (record { after = omega arith; through = omega arith }) in
    (b.limit, (b.step, (b.is, b.exceeds)))
