-- An accepted deck passes 20 to 25: each test at each position, and each DO's.
-- Assumes nothing.
use mathlib.Core.Path.{◌≡◌}
use Prim.Native.Nat.{ℕ, suc}
use mathlib.Core.Bool.{true, ◌||◌, not}
use mathlib.Core.List.{List, ◌∷◌, []}
use mathlib.Core.Option.{none, some}
use lib.Dec.{eqb}
use lib.ListN.{length, get_elem?}
use Rattle.rules_shared.specs.House.{House}
use Rattle.rules_text.specs.Trees.{Statement}
use Rattle.rules_deck.specs.Deck.{Do, dos_of}
use Rattle.rules_deck.specs.Whole.{first_wrong, is_end, ends_well, refused20, right21, right22, right_do, first_wrong_do, right24, right25, refused_at, judge_deck}
use Rattle.rules_deck.specs.Accepted.{Among, here, there, Accepted}
use Rattle.rules_deck.proofs.TestLaws.{else_both, not_refused, cond_none, each_right}

-- the tests of the whole deck, in their order
record Passes (deck : List Statement) : Type 0 where
  is20 : refused20 deck ≡ none
  is21 : first_wrong (right21 deck) 0 deck ≡ none
  is22 : first_wrong (right22 deck) 0 deck ≡ none
  is23 : first_wrong_do deck (dos_of deck) ≡ none
  is24 : first_wrong (right24 deck) 0 deck ≡ none
  is25 : first_wrong (right25 deck) 0 deck ≡ none

passes : {house : House} {deck : List Statement} → Accepted house deck → Passes deck
unfolding judge_deck
passes {house} {deck} h =
    let a = else_both (refused_at 20 (refused20 deck)) _ h.whole in
    let b = else_both (refused_at 21 (first_wrong (right21 deck) 0 deck)) _ a.1 in
    let c = else_both (refused_at 22 (first_wrong (right22 deck) 0 deck)) _ b.1 in
    let d = else_both (refused_at 23 (first_wrong_do deck (dos_of deck))) _ c.1 in
    let e = else_both (refused_at 24 (first_wrong (right24 deck) 0 deck)) _ d.1 in
    record {
      is20 = not_refused 20 _ a.0;
      is21 = not_refused 21 _ b.0;
      is22 = not_refused 22 _ c.0;
      is23 = not_refused 23 _ d.0;
      is24 = not_refused 24 _ e.0;
      is25 = not_refused 25 _ e.1;
    }

each_do : (deck : List Statement) (ds : List Do) → first_wrong_do deck ds ≡ none → {d : Do} → Among d ds → right_do deck d ≡ true
each_do deck (x ∷ ds) e here = (cond_none (right_do deck x) (first_wrong_do deck ds) (suc x.position) e).0
each_do deck (x ∷ ds) e (there a) = each_do deck ds (cond_none (right_do deck x) (first_wrong_do deck ds) (suc x.position) e).1 a
each_do deck [] e {d = d} x'' = elim x'' [ ]

module _ {house : House} {deck : List Statement} (accepted : Accepted house deck) where
  pub passes20 : (j : ℕ) (s : Statement) → get_elem? deck j ≡ some s → (not (is_end s.form) || eqb (suc j) (length deck)) ≡ true
  unfolding refused20
  passes20 = each_right (λ q s. not (is_end s.form) || eqb (suc q) (length deck)) deck (else_both _ _ (passes accepted).is20).0

  pub ends_well_lem : ends_well deck ≡ true
  unfolding refused20
  ends_well_lem =
      let e = (else_both (first_wrong (λ q s. not (is_end s.form) || eqb (suc q) (length deck)) 0 deck) _ (passes accepted).is20).1 in
      (cond_none (ends_well deck) none (length deck) e).0

  pub passes21 : (j : ℕ) (s : Statement) → get_elem? deck j ≡ some s → right21 deck j s ≡ true
  passes21 = each_right (right21 deck) deck (passes accepted).is21

  pub passes22 : (j : ℕ) (s : Statement) → get_elem? deck j ≡ some s → right22 deck j s ≡ true
  passes22 = each_right (right22 deck) deck (passes accepted).is22

  pub passes23 : (d : Do) → Among d (dos_of deck) → right_do deck d ≡ true
  passes23 d a = each_do deck (dos_of deck) (passes accepted).is23 a

  pub passes24 : (j : ℕ) (s : Statement) → get_elem? deck j ≡ some s → right24 deck j s ≡ true
  passes24 = each_right (right24 deck) deck (passes accepted).is24

  pub passes25 : (j : ℕ) (s : Statement) → get_elem? deck j ≡ some s → right25 deck j s ≡ true
  passes25 = each_right (right25 deck) deck (passes accepted).is25
