-- An accepted deck's numbers, ends and ranges: 13 and 20 to 25 as propositions; its DOs lie one in another.
-- Assumes nothing.
use mathlib.Core.Path.{◌≡◌, sym, ap, ◌∙◌, subst}
use Prim.Native.Nat.{ℕ, zero, suc, ◌≤◌, ◌<◌}
use native.Mathlib.Omega.{arith}
use mathlib.Core.Bool.{true, false, ◌&&◌, not, false≢true}
use mathlib.Core.List.{List, [], ◌∷◌, ◌++◌}
use mathlib.Core.Option.{Option, some}
use lib.Dec.{leb, ltb, eqb}
use lib.ListN.{length, get_elem?}
use borrow.Author.Tests.{leb-true, ltb-true, eqb-true, lt-ltb, le-leb, ne_eqb, ltb-false, not-true}
use Rattle.rules_shared.specs.Limits.{limits}
use Rattle.rules_shared.specs.House.{House}
use Rattle.rules_shared.specs.Lists.{all}
use Rattle.rules_text.specs.Trees.{Name, Digits, value_of, Statement, form_exits, form_last}
use Rattle.rules_deck.specs.Deck.{same_name, position_of, Do, dos_of, endings}
use Rattle.rules_deck.specs.Judge.{number_within}
use Rattle.rules_deck.specs.Whole.{is_end, ends_well, is_dimension, right21, defined, right22, last_of, in_range, may_end, may_end_at, crosses, depth, stays_out, right24, form_sets, right25}
use Rattle.rules_deck.specs.Accepted.{Among, Accepted, InRange, Nested}
use Rattle.rules_text.proofs.CardsLaws.{and_both}
use Rattle.rules_deck.proofs.Houses.{right13_all}
use Rattle.rules_deck.proofs.TestLaws.{or_right, implies, not_both, both, all_among, among_left, among_right, at_before}
use Rattle.rules_deck.proofs.DoLaws.{do_at_lem, do_last, among_endings}
use Rattle.rules_deck.proofs.PassedDeck.{passes20, ends_well_lem, passes21, passes22, passes23, passes24, passes25}

-- ---- ranges as tests and as propositions

pub in_range_lem : (deck : List Statement) (d : Do) (j : ℕ) → in_range deck d j ≡ true → InRange deck d j
in_range_lem deck d j e =
    let h = and_both (ltb d.position j) (leb j (last_of deck d)) e in
    record { after = ltb-true d.position j h.0; through = leb-true j (last_of deck d) h.1 }

pub range_in : {deck : List Statement} {d : Do} {j : ℕ} → InRange deck d j → in_range deck d j ≡ true
range_in {deck} {d} {j} h = both (ltb d.position j) (leb j (last_of deck d)) (lt-ltb d.position j h.after) (le-leb j (last_of deck d) h.through)

-- ---- the end of a deck

some_statement : (deck : List Statement) → ends_well deck ≡ true → 0 < length deck
some_statement [] e = absurd (false≢true e)
some_statement (s ∷ deck) e = omega arith

last_statement : (deck : List Statement) → ends_well deck ≡ true → (j : ℕ) (s : Statement) → get_elem? deck j ≡ some s → suc j ≡ length deck → is_end s.form ≡ true
last_statement [] e j s h n = absurd (false≢true e)
last_statement (x ∷ []) e zero s h n = let same : x ≡ s = cc in rw (← same) e
last_statement (x ∷ []) e (suc j) s h n = let i = at_before [] j h in absurd (omega arith)
last_statement (x ∷ y ∷ deck) e zero s h n = absurd (omega arith)
last_statement (x ∷ y ∷ deck) e (suc j) s h n = last_statement (y ∷ deck) e j s h (omega arith)

module _ {house : House} {deck : List Statement} (accepted : Accepted house deck) where
  pub not_empty : 0 < length deck
  not_empty = some_statement deck (ends_well_lem accepted)

  -- 20: END is the last statement, and no other
  pub end_last : (j : ℕ) (s : Statement) → get_elem? deck j ≡ some s → is_end s.form ≡ true → suc j ≡ length deck
  end_last j s e h = eqb-true (suc j) (length deck) (implies (is_end s.form) (eqb (suc j) (length deck)) (passes20 accepted j s e) h)

  pub last_end : (j : ℕ) (s : Statement) → get_elem? deck j ≡ some s → suc j ≡ length deck → is_end s.form ≡ true
  last_end = last_statement deck (ends_well_lem accepted)

  -- ---- numbers

  -- 13
  pub small_number : (j : ℕ) (s : Statement) → get_elem? deck j ≡ some s → (n : Digits) → Among n (form_exits s.form ++ form_last s.form) →
      (0 < value_of n) × (value_of n ≤ limits.statement_number)
  small_number j s e n a =
      let passes = sym (right13_all accepted.lawful s.form) ∙ (accepted.judged j s e).passes13 in
      let h = and_both (leb 1 (value_of n)) (leb (value_of n) limits.statement_number) (all_among (number_within false) passes a) in
      (leb-true 1 (value_of n) h.0, leb-true (value_of n) limits.statement_number h.1)

  -- 21: a number other than 0 is defined once, and on no DIMENSION or END
  defines : (j : ℕ) (s : Statement) → get_elem? deck j ≡ some s → 0 < s.number →
      (eqb (position_of deck s.number) j && (not (is_dimension s.form) && not (is_end s.form))) ≡ true
  unfolding right21
  defines j s e n = or_right (eqb s.number 0) _ (passes21 accepted j s e) (ne_eqb s.number 0 (λ z. omega arith))

  pub number_at : (j : ℕ) (s : Statement) → get_elem? deck j ≡ some s → 0 < s.number → position_of deck s.number ≡ j
  number_at j s e n = eqb-true (position_of deck s.number) j (and_both (eqb (position_of deck s.number) j) _ (defines j s e n)).0

  pub number_on : (j : ℕ) (s : Statement) → get_elem? deck j ≡ some s → 0 < s.number → (is_dimension s.form ≡ false) × (is_end s.form ≡ false)
  number_on j s e n =
      let h = and_both (not (is_dimension s.form)) (not (is_end s.form)) (and_both (eqb (position_of deck s.number) j) _ (defines j s e n)).1 in
      (not-true (is_dimension s.form) h.0, not-true (is_end s.form) h.1)

  -- 22: a number used is defined
  used : (j : ℕ) (s : Statement) → get_elem? deck j ≡ some s → (n : Digits) → Among n (form_exits s.form ++ form_last s.form) → position_of deck (value_of n) < length deck
  unfolding right22
  used j s e n a = ltb-true (position_of deck (value_of n)) (length deck) (all_among (defined deck) (passes22 accepted j s e) a)

  pub targets : (j : ℕ) (s : Statement) → get_elem? deck j ≡ some s → (n : Digits) → Among n (form_exits s.form) → position_of deck (value_of n) < length deck
  targets j s e n a = used j s e n (among_left (form_last s.form) a)

  pub lasts : (j : ℕ) (s : Statement) → get_elem? deck j ≡ some s → (n : Digits) → Among n (form_last s.form) → position_of deck (value_of n) < length deck
  lasts j s e n a = used j s e n (among_right (form_exits s.form) a)

  -- ---- a DO's last statement

  pub last_number : (d : Do) → Among d (dos_of deck) → 0 < d.last
  last_number d a =
      let h = do_at_lem deck d a in
      let l = do_last h.is in
      let n = (small_number d.position h.statement h.at l.0 (among_right (form_exits h.statement.form) l.2)).0 in
      rw l.1 n

  pub last_defined : (d : Do) → Among d (dos_of deck) → last_of deck d < length deck
  last_defined d a =
      let h = do_at_lem deck d a in
      let l = do_last h.is in
      rw l.1 (lasts d.position h.statement h.at l.0 l.2)

  -- 23
  pub last_after : (d : Do) → Among d (dos_of deck) → d.position < last_of deck d
  last_after d a = ltb-true d.position (last_of deck d) (and_both (ltb d.position (last_of deck d)) _ (passes23 accepted d a)).0

  pub last_may : (d : Do) → Among d (dos_of deck) → (s : Statement) → get_elem? deck (last_of deck d) ≡ some s → may_end s.form ≡ true
  last_may d a s e =
      let h = (and_both (ltb d.position (last_of deck d)) _ (passes23 accepted d a)).1 in
      let m = (and_both (may_end_at (get_elem? deck (last_of deck d))) _ h).0 in
      subst (λ (o : Option Statement). may_end_at o ≡ true) e m

  rest23 : (d : Do) → Among d (dos_of deck) →
      (all (λ outer. not (crosses deck d outer)) (dos_of deck) && ltb (depth deck (dos_of deck) d.position) limits.nesting) ≡ true
  rest23 d a = (and_both (may_end_at (get_elem? deck (last_of deck d))) _ (and_both (ltb d.position (last_of deck d)) _ (passes23 accepted d a)).1).1

  pub not_deep : (d : Do) → Among d (dos_of deck) → depth deck (dos_of deck) d.position < limits.nesting
  not_deep d a =
      ltb-true (depth deck (dos_of deck) d.position) limits.nesting (and_both (all (λ outer. not (crosses deck d outer)) (dos_of deck)) _ (rest23 d a)).1

  pub no_cross : (d outer : Do) → Among d (dos_of deck) → Among outer (dos_of deck) → InRange deck outer d.position → last_of deck d ≤ last_of deck outer
  no_cross d outer a b r =
      let h = (and_both (all (λ outer. not (crosses deck d outer)) (dos_of deck)) _ (rest23 d a)).0 in
      let c = all_among (λ outer. not (crosses deck d outer)) h b in
      ltb-false (last_of deck outer) (last_of deck d) (not_both (in_range deck outer d.position) (ltb (last_of deck outer) (last_of deck d)) c (range_in r))

  -- 24
  pub no_jump_in : (j : ℕ) (s : Statement) → get_elem? deck j ≡ some s → (n : Digits) → Among n (form_exits s.form) → (d : Do) → Among d (dos_of deck) →
      InRange deck d (position_of deck (value_of n)) → InRange deck d j
  unfolding right24
  no_jump_in j s e n a d b r =
      let h = all_among (λ n. all (stays_out deck j n) (dos_of deck)) (passes24 accepted j s e) a in
      let o = all_among (stays_out deck j n) h b in
      in_range_lem deck d j (implies (in_range deck d (position_of deck (value_of n))) (in_range deck d j) o (range_in r))

  -- 25: no statement in a DO's range sets its variable
  pub not_set : (j : ℕ) (s : Statement) → get_elem? deck j ≡ some s → (v : Name) → Among v (form_sets s.form) → (d : Do) → Among d (dos_of deck) →
      InRange deck d j → same_name d.variable v ≡ false
  unfolding right25
  not_set j s e v a d b r =
      let h = all_among (λ v. all (λ d. not (in_range deck d j && same_name d.variable v)) (dos_of deck)) (passes25 accepted j s e) a in
      let o = all_among (λ d. not (in_range deck d j && same_name d.variable v)) h b in
      not_both (in_range deck d j) (same_name d.variable v) o (range_in r)

  -- ---- all of it

  ends_at : (j : ℕ) (s : Statement) → get_elem? deck j ≡ some s → (d : Do) → Among d (endings deck s.number) → last_of deck d ≡ j
  ends_at j s e d a =
      let h = among_endings deck s.number d a in
      let z = last_number d h.0 in
      let n = h.1 in
      ap (position_of deck) n ∙ number_at j s e (omega arith)

  pub nested : Nested deck
  nested = record { last = ends_at; after = last_after; inner = no_cross; jumps = no_jump_in }
