-- What a passed check tells of the object: every entry is right, every word, and there is the least table of heights.
-- Assumes nothing.
use mathlib.Core.Path.{◌≡◌, refl, sym, ap, ◌∙◌, subst}
use mathlib.Core.Bool.{Bool, true, false, ◌&&◌, cond}
use mathlib.Core.List.{List, [], ◌∷◌}
use mathlib.Core.Option.{Option, none, some}
use Prim.Native.Nat.{ℕ, zero, suc, ◌+◌, ◌≤◌, ◌<◌}
use native.Mathlib.Decide.{dec_lt}
use native.Mathlib.Omega.{arith}
use lib.ListN.{length, get_or, get_or-eq_default}
use Rattle.rules_object.specs.Object.{Object}
use Rattle.rules_object.specs.Check.{right41, right_constant, right_element, right_loop, right_line, right_named, right_format, right_item, right_transfer}
use Rattle.rules_object.specs.Operations.{no_element, no_loop, no_transfer, operation_of, operand_of, right43, flow_of, operations, unknown}
use Rattle.rules_object.specs.Heights.{heights}
use Rattle.rules_shared.specs.Refusals.{Refusal, at_entry, or_else, unless}
use Rattle.rules_shared.specs.Lists.{first_bad, first_from, Each, each_none, each_more}
use Rattle.rules_object.specs.Calls.{refused42, refused43, refused, passed, judged44, judged, checked_object, checked}
use Rattle.rules_object.specs.Bytes.{read_object}
use Rattle.rules_object.specs.Passed.{Passed}
use Rattle.rules_object.specs.Promised.{RightWord, Judged}
use Rattle.rules_shared.proofs.EachLaws.{each_map}
use Rattle.rules_object.proofs.HeightsExact.{heights_some}

-- ---- answers that are none

pub some_none : {A : Type 0} {a : A} → some a ≡ none → ⊥
some_none e = let z : ◌≡◌ {A = ℕ} 0 1 = cc in omega arith

pub or_none : {A : Type 0} (a b : Option A) → or_else a b ≡ none → (a ≡ none) × (b ≡ none)
or_none none b e = (refl, e)
or_none (some a) b e = absurd (some_none e)

pub unless_none : (b : Bool) (n : ℕ) → unless b n ≡ none → b ≡ true
unless_none true n e = refl
unless_none false n e = absurd (some_none e)

entry_none : (number kind : ℕ) (o : Option ℕ) → at_entry number kind o ≡ none → o ≡ none
entry_none number kind none e = refl
entry_none number kind (some n) e = absurd (some_none e)

-- none is bad: each is right
each_right : {A : Type 0} (test : A → Bool) (l : List A) (n : ℕ) → first_bad test l n ≡ none → Each (λ a. test a ≡ true) l
each_right test [] n e = each_none
each_right test (a ∷ more) n e = by (test a) refl e (each_right test more (suc n))
  where
    by : (b : Bool) → test a ≡ b → cond b (first_bad test more (suc n)) (some n) ≡ none → (first_bad test more (suc n) ≡ none → Each (λ a. test a ≡ true) more) → Each (λ a. test a ≡ true) (a ∷ more)
    by true q e ih = each_more q (ih e)
    by false q e ih = absurd (some_none e)

each_at : {A : Type 0} (test : A → Bool) (l : List A) (d : A) → Each (λ a. test a ≡ true) l → (i : ℕ) → i < length l → test (get_or l i d) ≡ true
each_at test [] d h i l = absurd (omega arith)
each_at test (a ∷ more) d (each_more p ps) zero l = p
each_at test (a ∷ more) d (each_more p ps) (suc i) l = each_at test more d ps i (omega arith)

-- the same of places
from_right : (test : ℕ → Bool) (n i : ℕ) → first_from test n i ≡ none → (j : ℕ) → i ≤ j → j < i + n → test j ≡ true
from_right test zero i e j l m = absurd (omega arith)
from_right test (suc n) i e j l m = by (test i) refl e (dec_lt i j) (from_right test n (suc i))
  where
    by : (b : Bool) → test i ≡ b → cond b (first_from test n (suc i)) (some i) ≡ none → Dec (i < j)
        → (first_from test n (suc i) ≡ none → (j : ℕ) → suc i ≤ j → j < suc i + n → test j ≡ true) → test j ≡ true
    by false q e d ih = absurd (some_none e)
    by true q e (yes d) ih = ih e j (omega arith) (omega arith)
    by true q e (no d) ih = let h : i ≡ j = omega arith in subst (λ k. test k ≡ true) h q

-- ---- 40 to 43 passed

-- an operation that there is not is refused, wherever it stands
right_word : (o : Object) (word : ℕ) → right43 o word ≡ true → RightWord o word
unfolding right43
right_word o word e = record { known = by (dec_lt (operation_of word) 18); operand = e }
  where
    by : Dec (operation_of word < 18) → operation_of word < 18
    by (yes l) = l
    by (no l) =
        let q = ap (λ p. p.operand_right o (operand_of word)) (get_or-eq_default operations unknown {n = operation_of word} (omega arith)) in
        let t : true ≡ false = sym e ∙ q in
        absurd (let z : ◌≡◌ {A = ℕ} 0 1 = cc in omega arith)

none_judged : {bytes : List ℕ} {o : Object} → read_object bytes ≡ some o → or_else (unless (right41 o) 41) (or_else (refused42 o) (refused43 o)) ≡ none → Judged bytes o
unfolding refused42 refused43
none_judged {o = o} r e =
    let n₁ = or_none (unless (right41 o) 41) _ e in
    let n₂ = or_none (refused42 o) _ n₁.1 in
    let c = or_none (at_entry 42 1 (first_bad (right_constant o) o.constants 0)) _ n₂.0 in
    let l = or_none (at_entry 42 2 (first_bad (right_element o) o.elements 0)) _ c.1 in
    let d = or_none (at_entry 42 4 (first_bad (right_loop o) o.dos 0)) _ l.1 in
    let s = or_none (at_entry 42 6 (first_bad (right_line o) o.lines 0)) _ d.1 in
    let m = or_none (at_entry 42 7 (first_bad (right_named o) o.names 0)) _ s.1 in
    let f = or_none (at_entry 42 8 (first_from (right_format o) (length o.formats) 0)) _ m.1 in
    let i = or_none (at_entry 42 9 (first_bad (right_item o) o.items 0)) _ f.1 in
    record {
      reads = r;
      limits = unless_none _ _ n₁.0;
      constants = each_right (right_constant o) o.constants 0 (entry_none _ _ _ c.0);
      elements = each_right (right_element o) o.elements 0 (entry_none _ _ _ l.0);
      dos = each_right (right_loop o) o.dos 0 (entry_none _ _ _ d.0);
      lines = each_right (right_line o) o.lines 0 (entry_none _ _ _ s.0);
      names = each_right (right_named o) o.names 0 (entry_none _ _ _ m.0);
      formats = λ j l. from_right (right_format o) (length o.formats) 0 (entry_none _ _ _ f.0) j (omega arith) (omega arith);
      items = each_right (right_item o) o.items 0 (entry_none _ _ _ i.0);
      transfers = each_right (right_transfer o) o.transfers 0 (entry_none _ _ _ i.1);
      code = each_map (right_word o) (each_right (right43 o) o.code 0 (entry_none _ _ _ n₂.1));
    }

-- ---- the check passed

pub both : (a b : Bool) → (a && b) ≡ true → (a ≡ true) × (b ≡ true)
both true true e = (refl, refl)
both true false e = absurd (let z : ◌≡◌ {A = ℕ} 0 1 = cc in omega arith)
both false b e = absurd (let z : ◌≡◌ {A = ℕ} 0 1 = cc in omega arith)

refused_passed : {r : Refusal} {o : Object} {table : List ℕ} → refused r ≡ passed o table → ⊥
refused_passed e = let z : ◌≡◌ {A = ℕ} 0 1 = cc in omega arith

pub passed_judged : (bytes : List ℕ) (o : Object) (table : List ℕ) → checked bytes ≡ passed o table → Judged bytes o × (heights (flow_of o) ≡ some table)
unfolding checked
passed_judged bytes o table e = read (read_object bytes) refl e
  where
    Told : Type 0
    Told = Judged bytes o × (heights (flow_of o) ≡ some table)

    all : (p : Object) → read_object bytes ≡ some p → or_else (unless (right41 p) 41) (or_else (refused42 p) (refused43 p)) ≡ none → (h : Option (List ℕ)) → heights (flow_of p) ≡ h → judged44 p h ≡ passed o table → Told
    all p r n none q e = absurd (refused_passed e)
    all p r n (some H) q e =
        let ep : p ≡ o = cc in
        let e_h : H ≡ table = cc in
        subst (λ x. Judged bytes x × (heights (flow_of x) ≡ some table)) ep (none_judged r n, q ∙ ap some e_h)

    judge : (p : Object) → read_object bytes ≡ some p → (r : Option Refusal) → or_else (unless (right41 p) 41) (or_else (refused42 p) (refused43 p)) ≡ r → judged p r ≡ passed o table → Told
    judge p q (some r) n e = absurd (refused_passed e)
    judge p q none n e = all p q n (heights (flow_of p)) refl e

    read : (p : Option Object) → read_object bytes ≡ p → checked_object p ≡ passed o table → Told
    read none q e = absurd (refused_passed e)
    read (some p) q e = judge p q _ refl e

pub check_passed : (bytes : List ℕ) (o : Object) (table : List ℕ) → checked bytes ≡ passed o table → Passed bytes o table
unfolding flow_of
check_passed bytes o table e =
    let x = passed_judged bytes o table e in
    let j = x.0 in
    let h = heights_some (flow_of o) table x.1 in
    record {
      reads = j.reads;
      right = j.limits;
      constants = each_at (right_constant o) o.constants 0 j.constants;
      elements = each_at (right_element o) o.elements no_element j.elements;
      dos = each_at (right_loop o) o.dos no_loop j.dos;
      formats = j.formats;
      items = j.items;
      transfers = each_at (right_transfer o) o.transfers no_transfer j.transfers;
      words = each_at (right43 o) o.code 0 (each_map (λ w r. r.operand) j.code);
      least = h.0;
      sized = h.1;
    }
