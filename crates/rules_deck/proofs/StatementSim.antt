-- One statement of the meaning is some machine steps: one at least, or none and the next statement is reached; or both halt alike.
-- Assumes nothing.
use mathlib.Core.Path.{◌≡◌, refl, sym, ap, subst}
use mathlib.Core.Logic.{inl}
use Prim.Native.Nat.{ℕ, zero, suc, ◌+◌, ◌≤◌, ◌<◌}
use native.Mathlib.Omega.{arith}
use mathlib.Core.List.{List, [], ◌∷◌, ◌++◌, map}
use mathlib.Core.Option.{Option, none, some}
use lib.ListN.{length, get_elem?, length-append, length-map}
use lib.IntN.{ℤ}
use Rattle.rules_shared.specs.House.{House}
use Rattle.rules_shared.specs.Runs.{Outcome, go}
use Rattle.rules_shared.specs.Choose.{exit}
use Rattle.rules_formats.specs.Walk.{Devices, no_trays, devices_of}
use Rattle.rules_object.specs.Operations.{DOI, DOE}
use Rattle.rules_object.specs.Machine.{State}
use Rattle.rules_object.proofs.States.{state}
use Rattle.rules_text.specs.Trees.{value_of, subscripts_names, Expr, cell, element, written, Form, assign, go_to, computed, ifs, loop, continue, stop, end, dimension, Statement, form_exits}
use Rattle.rules_deck.specs.Deck.{Do, endings, dims_of}
use Rattle.rules_deck.specs.Meaning.{Cause, plain, Values, Bounds, Standing, third, exec, exec_at, meaning_step}
use Rattle.rules_deck.specs.Cost.{form_steps, steps_at, statement_steps}
use Rattle.rules_deck.specs.Translation.{Held, held_of, expr_plain, form_plain, expr_code, form_code, address_at, address_of, do_instr, enter_code, statement_code, code_of}
use Rattle.rules_deck.specs.Accepted.{here}
use Rattle.rules_deck.specs.Sound.{Sound}
use Rattle.rules_deck.proofs.Addresses.{At, at_head, at_tail, at_left, at_right, at_last, statement_at_lem, address_suc, words_code}
use Rattle.rules_deck.proofs.DoLaws.{is_do, among_dos}
use Rattle.rules_deck.proofs.MachineRuns.{ruled, stay, on, out}
use Rattle.rules_deck.proofs.ExprSim.{Known, known_left, known_right, expr_sim}
use Rattle.rules_deck.proofs.Standings.{standing, Stands}
use Rattle.rules_deck.proofs.EndSim.{Sim, goes, halts, ends_sim}
use Rattle.rules_deck.proofs.PartSim.{stated, known, ending, ready, jumped, assign_cell, assign_element, tested_sim, chosen_sim, read_sim}

third_known : {held : List Held} (r : Option Expr) → Known held (written expr_plain r) → Known held (expr_plain (third r))
third_known none h = h
third_known (some e) h = h

module _ (house : House) {deck : List Statement} (sound : Sound deck) {j lost m : ℕ} {env : Values} {inside : ℕ → Bounds} {c : List ℤ} {devices : Devices} (st : Stands deck j env inside lost c m) where
  pub exec_sim : (number : ℕ) (f : Form) → get_elem? deck j ≡ some (stated number f)
      → At (code_of deck) (address_at deck j) (form_code (held_of deck) (dims_of deck) (address_of deck) (enter_code deck j f) f ++ map (do_instr deck DOE) (endings deck number))
      → address_at deck j + length (form_code (held_of deck) (dims_of deck) (address_of deck) (enter_code deck j f) f) + length (endings deck number) ≡ address_at deck (suc j)
      → Sim house deck j (state (address_at deck j) [] c m devices) (form_steps (ruled house) deck (endings deck number) j env inside f) (exec (ruled house) deck (endings deck number) (standing j env inside lost) f)
  unfolding form_plain form_exits
  exec_sim number (assign (cell v) e) at a l =
      let code = expr_code (held_of deck) (dims_of deck) e in
      let (aE, aS, a_d) = at_last code _ _ a in
      let l' : suc (address_at deck j + length code) + length (endings deck number) ≡ address_at deck (suc j) = omega (arith, simp length-append at l) in
      let n = known house sound st at in
      assign_cell house sound st at v refl refl (n.has v here) (expr_sim sound.fitting st.holds e (known_right (v ∷ []) n) _ aE [] m) aS a_d l'
  exec_sim number (assign (element v ss) e) at a l =
      let code = expr_code (held_of deck) (dims_of deck) e in
      let (aE, aS, a_d) = at_last code _ _ a in
      let l' : suc (address_at deck j + length code) + length (endings deck number) ≡ address_at deck (suc j) = omega (arith, simp length-append at l) in
      let n = known house sound st at in
      assign_element house sound st at v ss refl refl (known_left (expr_plain e) n) (expr_sim sound.fitting st.holds e (known_right (subscripts_names ss) n) _ aE [] m) aS a_d l'
  exec_sim number (go_to n) at a l = goes (on sound.fitting (at_head a) refl stay) (omega arith) (jumped house sound st at n here st.mark) (inl (omega arith))
  exec_sim number (computed ns v) at a l =
      let h = (known house sound st at).has v here in
      chosen_sim house sound st at ns (env (plain v)) (exit ns (env (plain v))) (λ n x. x) refl
      (on sound.fitting (at_head a) (ap (λ x. go (state (suc (address_at deck j)) (x ∷ []) c m devices)) (st.holds.same (plain v) h)) stay) (at_head (at_tail a)) (omega arith)
  exec_sim number (ifs e n₁ n₂ n₃) at a l =
      let code = expr_code (held_of deck) (dims_of deck) e in
      let (aE, aS, a_d) = at_last code _ _ a in
      let l' : suc (address_at deck j + length code) + length (endings deck number) ≡ address_at deck (suc j) = omega (arith, simp length-append at l) in
      tested_sim house sound st at n₁ n₂ n₃ (λ n x. x) (expr_sim sound.fitting st.holds e (known house sound st at) _ aE [] m) aS (omega arith)
  exec_sim number (loop n v p₁ p₂ p₃) at a l =
      let x = address_at deck j in
      let d : Do = record { position = j; last = value_of n; variable = v } in
      let c₁ = expr_code (held_of deck) (dims_of deck) p₁ in
      let c₂ = expr_code (held_of deck) (dims_of deck) p₂ in
      let c₃ = expr_code (held_of deck) (dims_of deck) (third p₃) in
      let i = do_instr deck DOI d in
      let whole = c₁ ++ (c₂ ++ (c₃ ++ (i ∷ []))) in
      let a₁ = at_left whole (map (do_instr deck DOE) (endings deck number)) a in
      let a₂ = at_right c₁ a₁ in
      let a₃ = at_right c₂ a₂ in
      let a₄ = at_right c₃ a₃ in
      let z : x + length whole ≡ suc (((x + length c₁) + length c₂) + length c₃) = simp length-append (omega arith) in
      let a_d : At (code_of deck) (suc (((x + length c₁) + length c₂) + length c₃)) (map (do_instr deck DOE) (endings deck number)) =
      subst (λ p. At (code_of deck) p (map (do_instr deck DOE) (endings deck number))) z (at_right whole a) in
      let n₁ = known_right (v ∷ []) (known house sound st at) in
      let n₂ = known_right (expr_plain p₁) n₁ in
      let n₃ = known_right (expr_plain p₂) n₂ in
      read_sim house sound st at (value_of n) v (among_dos deck j (stated number (loop n v p₁ p₂ p₃)) at d (is_do refl)) refl (omega arith) (omega arith) (omega arith) (at_head a₄) a_d (omega arith)
      (expr_sim sound.fitting st.holds p₁ (known_left _ n₁) x (at_left c₁ _ a₁) [] m)
      (λ u m'. expr_sim sound.fitting st.holds p₂ (known_left _ n₂) _ (at_left c₂ _ a₂) (u ∷ []) m')
      (λ u w m'. expr_sim sound.fitting st.holds (third p₃) (third_known p₃ n₃) _ (at_left c₃ _ a₃) (w ∷ u ∷ []) m')
  exec_sim number continue at a l =
      ends_sim house sound (ready house sound st at refl refl st.holds st.mark st.around) (endings deck number) (ending house sound st at) a (omega arith)
  exec_sim number stop at a l = halts {p = address_at deck j} (out sound.fitting (at_head a) refl) (omega arith) (omega arith) st.holds st.mark
  exec_sim number end at a l = halts {p = address_at deck j} (out sound.fitting (at_head a) refl) (omega arith) (omega arith) st.holds st.mark
  exec_sim number (dimension arrays) at a l =
      ends_sim house sound (ready house sound st at refl refl st.holds st.mark st.around) (endings deck number) (ending house sound st at) a (omega arith)

  at_sim : (s : Statement) → get_elem? deck j ≡ some s → Sim house deck j (state (address_at deck j) [] c m devices) (steps_at (ruled house) deck (some s) (standing j env inside lost)) (exec_at (ruled house) deck (some s) (standing j env inside lost))
  at_sim s e =
      let w : length (statement_code deck j s) ≡ length (form_code (held_of deck) (dims_of deck) (address_of deck) (enter_code deck j s.form) s.form) + length (endings deck s.number) =
      simp (length-append, length-map) in
      let x = words_code deck (address_of deck) (enter_code deck j s.form) s in
      exec_sim s.number s.form e (statement_at_lem deck j s e) (omega (arith, address_suc deck j s e))

  -- one statement
  pub step_sim : Sim house deck j (state (address_at deck j) [] c m devices) (statement_steps (ruled house) deck (standing j env inside lost)) (meaning_step (ruled house) deck (standing j env inside lost))
  unfolding meaning_step statement_steps
  step_sim = by (get_elem? deck j) refl
    where
      by : (o : Option Statement) → get_elem? deck j ≡ o → Sim house deck j (state (address_at deck j) [] c m devices) (steps_at (ruled house) deck (get_elem? deck j) (standing j env inside lost)) (exec_at (ruled house) deck (get_elem? deck j) (standing j env inside lost))
      by none e = absurd (missing deck j st.here e)
        where
          missing : (l : List Statement) (i : ℕ) → i < length l → get_elem? l i ≡ none → ⊥
          missing [] i l e = omega arith
          missing (x ∷ l) zero h e = let z : ◌≡◌ {A = ℕ} 0 1 = cc in omega arith
          missing (x ∷ l) (suc i) h e = missing l i (omega arith) e
      by (some s) e = subst (λ o. Sim house deck j (state (address_at deck j) [] c m devices) (steps_at (ruled house) deck o (standing j env inside lost)) (exec_at (ruled house) deck o (standing j env inside lost))) (sym e) (at_sim s e)

within : {house : House} {deck : List Statement} {j n : ℕ} {t : State} {o : Outcome Cause Standing} → Sim house deck j t n o → t.index + n ≤ address_at deck (suc j)
within (goes r l st p) = l
within (halts r l p h m) = l

-- no more steps than the statement has words
pub steps_most : (house : House) {deck : List Statement} → Sound deck → {j lost m : ℕ} {env : Values} {inside : ℕ → Bounds} {c : List ℤ} → Stands deck j env inside lost c m
    → address_at deck j + statement_steps (ruled house) deck (standing j env inside lost) ≤ address_at deck (suc j)
steps_most house sound st = within (step_sim house sound {devices = devices_of no_trays} st)
