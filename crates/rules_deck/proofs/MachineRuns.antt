-- Runs of the machine that has a deck's object: an instruction of the deck's code does what `act` says.
-- Assumes nothing.
use mathlib.Core.Path.{◌≡◌, refl, sym, ap, ◌∙◌}
use Prim.Native.Nat.{ℕ, zero, suc, ◌+◌}
use native.Mathlib.Omega.{arith}
use mathlib.Core.List.{List}
use mathlib.Core.Option.{some}
use lib.ListN.{get_elem?}
use lib.IntN.{ℤ}
use Rattle.number.specs.Number.{Rule}
use Rattle.rules_shared.specs.House.{House, house1401}
use Rattle.rules_shared.specs.Runs.{go, halt, steps_from, steps}
use Rattle.rules_formats.specs.Walk.{Devices}
use Rattle.rules_object.specs.Halts.{Halt, Out}
use Rattle.rules_object.specs.Object.{rule_of}
use Rattle.rules_object.specs.Operations.{Instr}
use Rattle.rules_object.specs.Machine.{State, act, step}
use Rattle.rules_object.proofs.States.{state}
use Rattle.rules_shared.proofs.RunLaws.{steps_add, Steps, rest, seq, one, last}
use Rattle.rules_text.specs.Trees.{Statement}
use Rattle.rules_deck.specs.Translation.{code_of, translate}
use Rattle.rules_deck.specs.Lawful.{Lawful}
use Rattle.rules_deck.specs.Accepted.{Fitting}
use Rattle.rules_deck.proofs.Emitted.{fetched}

-- the rule that an object with its digits has
abbrev pub ruled : House → Rule
ruled house = (house1401 house.digits).rule

rule_is : (house : House) (deck : List Statement) → rule_of (translate house deck) ≡ ruled house
unfolding translate
rule_is house deck = refl

-- of a lawful house its own
pub own_rule : {house : House} → Lawful house → (deck : List Statement) → ruled house ≡ house.rule
unfolding translate
own_rule {house} lawful deck = sym (rule_is house deck) ∙ lawful.rule (translate house deck) refl

step_at_lem : (house : House) {deck : List Statement} {i : Instr} → Fitting deck → (t : State) → get_elem? (code_of deck) t.index ≡ some i → step (translate house deck) t ≡ act (ruled house) i t
unfolding step
step_at_lem house {deck} {i} f t e = ap (λ i. act (rule_of (translate house deck)) i t) (fetched house deck f t.index i e) ∙ ap (λ r. act r i t) (rule_is house deck)

-- n steps come to an outcome, and no fewer do: each is taken. A record, so that a use can leave all arguments out.
pub record Runs (house : House) (deck : List Statement) (n : ℕ) (s : State) (o : Out State) : Type 0 where
  pub is : Steps (step (translate house deck)) n s o
  pub took : steps (step (translate house deck)) n s ≡ n

module _ {house : House} {deck : List Statement} where
  pub stay : {s : State} → Runs house deck zero s (go s)
  stay = record { is = rest; took = refl }

  pub and_then : {a b : ℕ} {s t : State} {o : Out State} → Runs house deck a s (go t) → Runs house deck b t o → Runs house deck (a + b) s o
  and_then {a} {b} {s} {t} p q =
      let f = step (translate house deck) in
      let e : steps f (a + b) s ≡ steps f a s + steps f b t = steps_add f a b s ∙ ap (λ o. steps f a s + steps_from o (λ u. steps f b u)) p.is.eq in
      record { is = seq p.is q.is; took = omega (arith, p.took, q.took) }

  module _ (f : Fitting deck) {i : Instr} {pc m : ℕ} {s c : List ℤ} {devices : Devices} where
    pub on : {n : ℕ} {t : State} {o : Out State} → get_elem? (code_of deck) pc ≡ some i → act (ruled house) i (state pc s c m devices) ≡ go t → Runs house deck n t o
        → Runs house deck (suc n) (state pc s c m devices) o
    on {n} e a r =
        let g = step_at_lem house f (state pc s c m devices) e ∙ a in
        record { is = one g r.is; took = ap suc (ap (λ o. steps_from o (λ u. steps (step (translate house deck)) n u)) g ∙ r.took) }

    pub out : {t : State} {h : Halt} → get_elem? (code_of deck) pc ≡ some i → act (ruled house) i (state pc s c m devices) ≡ halt h t → Runs house deck 1 (state pc s c m devices) (halt h t)
    out e a =
        let g = step_at_lem house f (state pc s c m devices) e ∙ a in
        record { is = last g; took = ap suc (ap (λ o. steps_from o (λ u. 0)) g) }
