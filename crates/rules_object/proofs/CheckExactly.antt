-- The check accepts exactly the bytes that are an object which passes 41 to 43 and has a table of heights; it refuses by 44 where there is no table.
-- Assumes nothing.
use mathlib.Core.Path.{◌≡◌, refl, sym, ap, ◌∙◌}
use mathlib.Core.Logic.{◌↔◌}
use mathlib.Core.Bool.{Bool, true, cond}
use mathlib.Core.List.{List, [], ◌∷◌}
use mathlib.Core.Option.{Option, none, some}
use Prim.Native.Nat.{ℕ, zero, suc, ◌+◌, ◌≤◌, ◌<◌}
use native.Mathlib.Omega.{arith}
use lib.ListN.{length}
use Rattle.rules_object.specs.Object.{Object}
use Rattle.rules_object.specs.Check.{right41, right_constant, right_element, right_loop, right_line, right_named, right_format, right_item, right_transfer}
use Rattle.rules_object.specs.Operations.{right43, flow_of}
use Rattle.rules_shared.specs.Lists.{Each, each_more, first_bad, first_from}
use Rattle.rules_object.specs.Flow.{Valid, NoTable}
use Rattle.rules_object.specs.Heights.{heights}
use Rattle.rules_shared.specs.Refusals.{refusal, accepted, or_else, unless}
use Rattle.rules_object.specs.Calls.{refused42, refused43, judged44, judged, checked_object, checked, verdict, checking}
use Rattle.rules_object.specs.Promised.{Judged}
use Rattle.rules_shared.proofs.EachLaws.{each_map}
use Rattle.rules_object.proofs.HeightsExact.{heights_some, heights_none}
use Rattle.rules_object.proofs.OneTable.{no_table_is}
use Rattle.rules_object.proofs.Passed.{passed_judged}
use Rattle.rules_object.proofs.Accepts.{checks}

-- ---- each is right: none is bad

none_bad : {A : Type 0} (test : A → Bool) (l : List A) (n : ℕ) → Each (λ a. test a ≡ true) l → first_bad test l n ≡ none
none_bad test [] n h = refl
none_bad test (a ∷ more) n (each_more p ps) = ap (λ b. cond b (first_bad test more (suc n)) (some n)) p ∙ none_bad test more (suc n) ps

none_from : (test : ℕ → Bool) (n i : ℕ) → ((j : ℕ) → i ≤ j → j < i + n → test j ≡ true) → first_from test n i ≡ none
none_from test zero i h = refl
none_from test (suc n) i h = ap (λ b. cond b (first_from test n (suc i)) (some i)) (h i (omega arith) (omega arith)) ∙ none_from test n (suc i) (λ j l m. h j (omega arith) (omega arith))

judged_none : {bytes : List ℕ} {o : Object} → Judged bytes o → or_else (unless (right41 o) 41) (or_else (refused42 o) (refused43 o)) ≡ none
unfolding refused42 refused43
judged_none {o = o} j =
    let e₁ = none_bad (right_constant o) o.constants 0 j.constants in
    let e₂ = none_bad (right_element o) o.elements 0 j.elements in
    let e₄ = none_bad (right_loop o) o.dos 0 j.dos in
    let e₆ = none_bad (right_line o) o.lines 0 j.lines in
    let e₇ = none_bad (right_named o) o.names 0 j.names in
    let e₈ = none_from (right_format o) (length o.formats) 0 (λ i l m. j.formats i (omega arith)) in
    let e₉ = none_bad (right_item o) o.items 0 j.items in
    let e₁₀ = none_bad (right_transfer o) o.transfers 0 j.transfers in
    let e₅ = none_bad (right43 o) o.code 0 (each_map (λ w r. r.operand) j.code) in
    rw (j.limits, e₁, e₂, e₄, e₆, e₇, e₈, e₉, e₁₀, e₅) refl

-- ---- what is left is 44

module _ {bytes : List ℕ} {o : Object} (j : Judged bytes o) where
  answers : (h : Option (List ℕ)) → heights (flow_of o) ≡ h → checking bytes ≡ verdict (judged44 o h)
  unfolding checking checked
  answers h e = ap verdict (ap checked_object j.reads ∙ ap (judged o) (judged_none j) ∙ ap (judged44 o) e)

  accepted_44 : accepted ≡ refusal 44 0 0 → ⊥
  accepted_44 e = let z : ◌≡◌ {A = ℕ} 0 44 = ap (λ r. r.number) e in omega arith

  accepts_table : checking bytes ≡ accepted → (H : List ℕ) × Valid (flow_of o) H
  accepts_table e = by (heights (flow_of o)) refl
    where
      by : (h : Option (List ℕ)) → heights (flow_of o) ≡ h → (H : List ℕ) × Valid (flow_of o) H
      by none q = absurd (accepted_44 (sym e ∙ answers none q))
      by (some H) q = (H, (heights_some (flow_of o) H q).0.valid)

  table_accepts : (H : List ℕ) × Valid (flow_of o) H → checking bytes ≡ accepted
  table_accepts t = by (heights (flow_of o)) refl
    where
      by : (h : Option (List ℕ)) → heights (flow_of o) ≡ h → checking bytes ≡ accepted
      by none q = absurd ((heights_none (flow_of o) q).0.none t.0 t.1)
      by (some H) q = answers (some H) q

  refused_none : checking bytes ≡ refusal 44 0 0 → NoTable (flow_of o)
  refused_none e = by (heights (flow_of o)) refl
    where
      by : (h : Option (List ℕ)) → heights (flow_of o) ≡ h → NoTable (flow_of o)
      by none q = (heights_none (flow_of o) q).0
      by (some H) q = absurd (accepted_44 (sym (answers (some H) q) ∙ e))

  pub accepted_iff : (checking bytes ≡ accepted) ↔ ((H : List ℕ) × Valid (flow_of o) H)
  accepted_iff = (accepts_table, table_accepts)

  pub refused_iff : (checking bytes ≡ refusal 44 0 0) ↔ NoTable (flow_of o)
  refused_iff = (refused_none, λ n. answers none (no_table_is (flow_of o) n))

-- ---- the whole check

pub check_exactly : (bytes : List ℕ) → (checking bytes ≡ accepted) ↔ ((o : Object) × (Judged bytes o × ((H : List ℕ) × Valid (flow_of o) H)))
check_exactly bytes = (there, λ x. (accepted_iff x.1.0).1 x.1.1)
  where
    there : checking bytes ≡ accepted → (o : Object) × (Judged bytes o × ((H : List ℕ) × Valid (flow_of o) H))
    there e =
        let x = checks bytes (ap (λ r. r.number) e) in
        let j = (passed_judged bytes x.object x.table x.is).0 in
        (x.object, (j, (accepted_iff j).0 e))
