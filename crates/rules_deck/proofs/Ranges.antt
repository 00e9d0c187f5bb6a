-- Ranges of a deck's DOs: at the next statement, at a DO's last statement, and where its body starts.
-- Assumes nothing.
use mathlib.Core.Path.{◌≡◌, sym, ap, ◌∙◌, subst}
use mathlib.Core.Logic.{◌⊎◌, inl, inr}
use Prim.Native.Nat.{ℕ, suc, ◌≤◌}
use native.Mathlib.Nat.{lt_of_not-le}
use native.Mathlib.Decide.{dec_le}
use native.Mathlib.Omega.{arith}
use mathlib.Core.List.{List, []}
use mathlib.Core.Option.{some}
use lib.ListN.{get_elem?}
use Rattle.rules_text.specs.Trees.{Form, Statement}
use Rattle.rules_deck.specs.Deck.{Do, do_of, dos_of}
use Rattle.rules_deck.specs.Whole.{last_of}
use Rattle.rules_deck.specs.Accepted.{Among, InRange, Nested}
use Rattle.rules_deck.proofs.DoLaws.{IsDo, is_do, do_at_lem}

some_same : {A : Type 0} {x y : A} → some x ≡ some y → x ≡ y
some_same e = cc

-- where a DO stands, the statement is it
at_position : {d : Do} {s : Statement} {j : ℕ} (deck : List Statement) → get_elem? deck j ≡ some s → Among d (dos_of deck) → d.position ≡ j → IsDo j d s.form
at_position {d} {s} {j} deck e a p =
    let x = do_at_lem deck d a in
    let q : x.statement ≡ s = some_same (sym x.at ∙ ap (get_elem? deck) p ∙ e) in
    subst (λ (t : Statement). IsDo j d t.form) q (subst (λ i. IsDo i d x.statement.form) p x.is)

same_do : {q : ℕ} {d e : Do} {f : Form} → IsDo q d f → IsDo q e f → d ≡ e
same_do (is_do p) (is_do q) = p ∙ sym q

-- one DO at a position
one_do : {d e : Do} (deck : List Statement) → Among d (dos_of deck) → Among e (dos_of deck) → d.position ≡ e.position → d ≡ e
one_do {d} {e} deck a b p = let x = do_at_lem deck e b in same_do (at_position deck x.at a p) x.is

no_do_lem : {q : ℕ} {d : Do} {f : Form} → IsDo q d f → do_of q f ≡ [] → ⊥
no_do_lem (is_do p) e = let z : ◌≡◌ {A = ℕ} 0 1 = cc in omega arith

-- no DO stands where the statement is none
pub not_do : {d : Do} {s : Statement} {j : ℕ} (deck : List Statement) → get_elem? deck j ≡ some s → do_of j s.form ≡ [] → Among d (dos_of deck) → d.position ≡ j → ⊥
not_do deck e z a p = no_do_lem (at_position deck e a p) z

-- in range at the next statement: the DO itself, or in range here
pub range_next : {deck : List Statement} {d : Do} {j : ℕ} → InRange deck d (suc j) → (d.position ≡ j) ⊎ InRange deck d j
range_next {deck} {d} {j} r = by (dec_le j d.position)
  where
    by : Dec (j ≤ d.position) → (d.position ≡ j) ⊎ InRange deck d j
    by (yes l) = let u = r.after in inl (omega arith)
    by (no l) = let u = r.through in inr (record { after = lt_of_not-le l; through = omega arith })

-- a DO whose last statement is at j is in range there
pub range_last : {deck : List Statement} {d : Do} {j : ℕ} → Nested deck → Among d (dos_of deck) → last_of deck d ≡ j → InRange deck d j
range_last {deck} {d} n a e = let l = n.after d a in record { after = omega arith; through = omega arith }

-- in range where its body starts: in range at its last statement
pub range_body : {deck : List Statement} {d e : Do} {j : ℕ} → Nested deck → Among d (dos_of deck) → Among e (dos_of deck) → last_of deck d ≡ j → InRange deck e (suc d.position) → InRange deck e j
range_body {deck} {d} {e} {j} n a b l r = by (range_next r)
  where
    by : (e.position ≡ d.position) ⊎ InRange deck e d.position → InRange deck e j
    by (inl p) = range_last n b (ap (last_of deck) (one_do deck b a p) ∙ l)
    by (inr i) =
        let u = n.inner d e a b i in
        let v = n.after d a in
        let w = i.after in
        record { after = omega arith; through = omega arith }
