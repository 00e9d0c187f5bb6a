-- The machine goes alike with the meaning through the DOs that end with a statement.
-- Assumes nothing.
use mathlib.Core.Path.{◌≡◌, refl, sym, ap, ◌∙◌, subst}
use mathlib.Core.Logic.{◌⊎◌, inl, inr}
use Prim.Native.Nat.{ℕ, zero, suc, ◌+◌, ◌≤◌, ◌<◌}
use native.Mathlib.Omega.{arith}
use mathlib.Core.List.{List, [], ◌∷◌, map}
use mathlib.Core.Option.{some}
use lib.ListN.{length, get_elem?}
use lib.IntN.{ℤ}
use Rattle.rules_shared.specs.House.{House}
use Rattle.rules_shared.specs.Runs.{Outcome, go, halt}
use Rattle.rules_shared.specs.Choose.{positive, Turn, again, over, turn}
use Rattle.rules_formats.specs.Walk.{Devices}
use Rattle.rules_object.specs.Operations.{DOE}
use Rattle.rules_object.specs.Machine.{State}
use Rattle.rules_object.proofs.States.{state}
use Rattle.rules_object.specs.Machine
use Rattle.rules_text.specs.Trees.{cell, Statement}
use Rattle.rules_deck.specs.Deck.{Do, dos_of}
use Rattle.rules_deck.specs.Meaning.{Cause, plain, Values, Bounds, Standing, turned, end_of, finish}
use Rattle.rules_deck.specs.Cost.{turned_steps, end_steps, finish_steps}
use Rattle.rules_deck.specs.Translation.{held_of, address_at, loop_entry, do_instr, code_of}
use Rattle.rules_deck.specs.Whole.{last_of}
use Rattle.rules_deck.specs.Accepted.{Among, here, there}
use Rattle.rules_deck.specs.Cells.{key, limit, Has, Holds, SameMark}
use Rattle.rules_deck.specs.Sound.{Sound}
use Rattle.rules_deck.specs.Seen.{halt_of}
use Rattle.rules_deck.proofs.CellLaws.{holds_put}
use Rattle.rules_deck.proofs.DeckCells.{variable_has}
use Rattle.rules_deck.proofs.Addresses.{At, at_head, at_tail}
use Rattle.rules_deck.proofs.Ranges.{range_last}
use Rattle.rules_deck.proofs.MachineRuns.{ruled, Runs, stay, and_then, on}
use Rattle.rules_deck.proofs.Standings.{standing, Bound, Inside, Stands, inside_put, inside_body}

-- From machine state t, inside the statement at j₀, the machine comes to what the meaning comes to, in n steps, which are no more than the statement has words from there; a halt is at that statement and at the last word reached.
pub data Sim (house : House) (deck : List Statement) (j₀ : ℕ) (t : State) (n : ℕ) : Outcome Cause Standing → Type 0 where
  goes : {j lost m : ℕ} {env : Values} {inside : ℕ → Bounds} {c : List ℤ} {devices : Devices} → Runs house deck n t (go (state (address_at deck j) [] c m devices)) → t.index + n ≤ address_at deck (suc j₀)
      → Stands deck j env inside lost c m → (zero < n) ⊎ (j ≡ suc j₀) → Sim house deck j₀ t n (go (standing j env inside lost))
  halts : {h : Cause} {lost p m : ℕ} {env : Values} {inside : ℕ → Bounds} {s c : List ℤ} {devices : Devices} → Runs house deck n t (halt (halt_of h) (state p s c m devices)) → t.index + n ≤ address_at deck (suc j₀)
      → suc p ≡ t.index + n → Holds (held_of deck) env c → SameMark deck lost m → Sim house deck j₀ t n (halt h (standing j₀ env inside lost))

-- some steps first
pub first : {house : House} {deck : List Statement} {j n n₂ : ℕ} {s t : State} {o : Outcome Cause Standing} → Runs house deck n s (go t) → s.index + n ≡ t.index → Sim house deck j t n₂ o → Sim house deck j s (n + n₂) o
first r e (goes r' l st (inl z)) = goes (and_then r r') (omega arith) st (inl (omega arith))
first r e (goes r' l st (inr q)) = goes (and_then r r') (omega arith) st (inr q)
first r e (halts {p = i} r' l p h m) = halts {p = i} (and_then r r') (omega arith) (omega arith) h m

-- ---- the statement's main part is done, the DOs that end with it follow

pub record Ending (deck : List Statement) (j : ℕ) (d : Do) : Type 0 where
  pub among : Among d (dos_of deck)
  pub last : last_of deck d ≡ j

pub record Ready (deck : List Statement) (j : ℕ) (env : Values) (inside : ℕ → Bounds) (lost : ℕ) (c : List ℤ) (m : ℕ) : Type 0 where
  pub holds : Holds (held_of deck) env c
  pub mark : SameMark deck lost m
  pub now : Inside deck inside c j
  pub next : Inside deck inside c (suc j)
  pub more : suc j < length deck

module _ (house : House) {deck : List Statement} (sound : Sound deck) {j lost m : ℕ} {env : Values} {inside : ℕ → Bounds} {c : List ℤ} (r : Ready deck j env inside lost c m) where
  turn_sim : (d : Do) (u : Turn) {p n : ℕ} {devices : Devices} {o : Outcome Cause Standing} → Ending deck j d → get_elem? (code_of deck) p ≡ some (do_instr deck DOE d) → p < address_at deck (suc j)
      → Machine.act (ruled house) (do_instr deck DOE d) (state p [] c m devices) ≡ Machine.turned u (loop_entry deck d) (state p [] c m devices)
      → Sim house deck j (state (suc p) [] c m devices) n o → Sim house deck j (state p [] c m devices) (turned_steps u n) (turned u d (standing j env inside lost) o)
  turn_sim d (again i) {p} w a l e o =
      let v = variable_has deck d w.among in
      let f = sound.nested.after d w.among in
      let q = w.last in
      let g = r.more in
      goes (on sound.fitting a e stay) (omega arith)
      (record {
        holds = holds_put r.holds (plain d.variable) i v;
        mark = r.mark;
        around = inside_put (inside_body sound.nested w.among w.last r.now) (plain d.variable) i v;
        here = omega arith;
      }) (inl (omega arith))
  turn_sim d over {p} w a l e o = first (on sound.fitting a e stay) (omega arith) o

  doe_acts : (d : Do) (p : ℕ) (devices : Devices) → Has (held_of deck) (key (plain d.variable)) → (b : Bound (held_of deck) inside c d.position)
      → Machine.act (ruled house) (do_instr deck DOE d) (state p [] c m devices) ≡ Machine.turned (turn (env (plain d.variable)) b.limit b.step) (loop_entry deck d) (state p [] c m devices)
  doe_acts d p devices v b =
      let D = loop_entry deck d in
      let t = state p [] c m devices in
      let x = r.holds.same (plain d.variable) v in
      ap (λ e. Machine.ended e D t) (ap positive b.step_cell ∙ b.exceeds)
      ∙ ap (λ a. Machine.turned (turn a (Machine.cell c D.limit) (Machine.cell c D.step)) D t) x
      ∙ ap (λ a. Machine.turned (turn (env (plain d.variable)) a (Machine.cell c D.step)) D t) b.limit_cell
      ∙ ap (λ a. Machine.turned (turn (env (plain d.variable)) b.limit a) D t) b.step_cell

  pub ends_sim : (es : List Do) {p : ℕ} {devices : Devices} → ((d : Do) → Among d es → Ending deck j d) → At (code_of deck) p (map (do_instr deck DOE) es) → p + length es ≡ address_at deck (suc j)
      → Sim house deck j (state p [] c m devices) (finish_steps es env inside) (finish es (standing j env inside lost))
  ends_sim [] {p} f a e =
      let e' : p ≡ address_at deck (suc j) = omega arith in
      rw e' (goes stay (omega arith) (record { holds = r.holds; mark = r.mark; around = r.next; here = r.more }) (inr refl))
  ends_sim (d ∷ es) {p} {devices} f a e =
      let w = f d here in
      let b = r.now.bound d w.among (range_last sound.nested w.among w.last) in
      subst (λ z. Sim house deck j (state p [] c m devices) (end_steps z d env (finish_steps es env inside)) (end_of z d (standing j env inside lost) (finish es (standing j env inside lost)))) (sym b.is)
      (turn_sim d (turn (env (plain d.variable)) b.limit b.step) w (at_head a) (omega arith) (doe_acts d p devices (variable_has deck d w.among) b)
      (ends_sim es (λ d x. f d (there x)) (at_tail a) (omega arith)))
