-- The laws of one statement taken from a deck that is not refused.
-- Assumes nothing.
use Prim.Native.Nat.{ℕ, zero, suc, ◌+◌, ◌-◌, ◌≤◌}
use mathlib.Core.Path.{◌≡◌, refl, sym, ap, ◌∙◌, subst}
use mathlib.Core.Bool.{Bool, true, false, cond}
use mathlib.Core.List.{List, [], ◌∷◌, ◌++◌}
use native.Mathlib.Omega.{arith}
use lib.Dec.{leb, eqb}
use lib.ListN.{length, take, drop, length-drop}
use lib.Seq.{drop-nil, drop-drop}
use borrow.Author.Tests.{eqb-true}
use Rattle.rules_shared.specs.Limits.{limits}
use Rattle.rules_shared.specs.House.{House, house1401}
use Rattle.rules_shared.specs.Lists.{Each}
use Rattle.rules_shared.proofs.EachLaws.{each_head, each_tail}
use Rattle.rules_text.specs.Cards.{cards_of, text_columns, comment, first_card, Punched, number_of, right_number, Reading, nothing_read, wrong_card, after_card, Carded, cards_refused, statements, card_by_card, right_digits, right_length, counted, carded, following, grouped}
use Rattle.rules_text.proofs.CardsLaws.{RightStatement, Stands, as_comment, as_first, as_continuation, stands, statements_right}
use Rattle.rules_text.proofs.CardsGroups.{statements_grouped}
use Rattle.std.specs.Prelude.{Some, None}
use Rattle.read_cards.specs.declared.Number.{Number}
use Rattle.read_cards.specs.Columns.{punched_of}
use Rattle.read_texts.specs.Taking.{Accepted, over, begins, skipped, joined, passed, punched_raw, first_of, first_content, Takes, Put}
use Rattle.read_texts.proofs.TakeLaws.{skipped_within}
use Rattle.std.proofs.lemmas.List.{take_all}
use Rattle.read_texts.proofs.TextLaws.{over_none}

-- ---- cards that start no statement change no statement after them

pub group_first : (card : List ℕ) (cards : List (List ℕ)) → begins card ≡ true → grouped (card ∷ cards) ≡ record { number = number_of card; raw = text_columns card ++ following cards } ∷ grouped cards
unfolding begins
group_first card cards b = go (comment card) (first_card card) b
  where
    go : (c f : Bool) → cond c false f ≡ true → cond c (grouped cards) (cond f (record { number = number_of card; raw = text_columns card ++ following cards } ∷ grouped cards) (grouped cards)) ≡ record { number = number_of card; raw = text_columns card ++ following cards } ∷ grouped cards
    go true f h = cc
    go false true h = refl
    go false false h = cc

group_other : (card : List ℕ) (cards : List (List ℕ)) → begins card ≡ false → grouped (card ∷ cards) ≡ grouped cards
unfolding begins
group_other card cards b = go (comment card) (first_card card) b
  where
    go : (c f : Bool) → cond c false f ≡ false → cond c (grouped cards) (cond f (record { number = number_of card; raw = text_columns card ++ following cards } ∷ grouped cards) (grouped cards)) ≡ grouped cards
    go true f h = refl
    go false true h = cc
    go false false h = refl

pub group_skip : (cards : List (List ℕ)) → grouped cards ≡ grouped (drop (skipped cards) cards)
group_skip [] = refl
group_skip (card ∷ cards) = go (begins card) refl (group_skip cards)
  where
    go : (b : Bool) → begins card ≡ b → grouped cards ≡ grouped (drop (skipped cards) cards) → grouped (card ∷ cards) ≡ grouped (drop (cond b 0 (suc (skipped cards))) (card ∷ cards))
    go true b h = refl
    go false b h = group_other card cards b ∙ h

pub skip_stops : (cards : List (List ℕ)) (card : List ℕ) (rest : List (List ℕ)) → drop (skipped cards) cards ≡ card ∷ rest → begins card ≡ true
skip_stops [] card rest e = cc
skip_stops (first ∷ cards) card rest e = go (begins first) refl (skip_stops cards card rest) e
  where
    go : (b : Bool) → begins first ≡ b → (drop (skipped cards) cards ≡ card ∷ rest → begins card ≡ true) → drop (cond b 0 (suc (skipped cards))) (first ∷ cards) ≡ card ∷ rest → begins card ≡ true
    go true b h e = let s : card ≡ first = cc in ap begins s ∙ b
    go false b h e = h e

-- ---- every card of a deck that is not refused is right

record Fine (card : List ℕ) : Type 0 where
  room : ℕ
  is : Stands room card

each_stands : (house : House) (place : ℕ) (r : Reading) (cards : List (List ℕ)) (ps : List Punched) → card_by_card house place r cards ≡ statements ps → (i : ℕ) (card : List ℕ) (rest : List (List ℕ)) → drop i cards ≡ card ∷ rest → Fine card
each_stands house place r [] ps e i card rest d = let z : ◌≡◌ {A = List (List ℕ)} [] (card ∷ rest) = sym (drop-nil i) ∙ d in let y : ◌≡◌ {A = ℕ} 0 1 = cc in absurd (omega arith)
each_stands house place r (first ∷ cards) ps e zero card rest d = let s : first ≡ card = cc in subst Fine s (record { room = r.room; is = stands r.room first (eqb-true _ _ (go (eqb (wrong_card r.room first) 0) e)) })
  where
    go : (b : Bool) → cond b (card_by_card house (suc place) (after_card house r first) cards) (cards_refused (wrong_card r.room first) place) ≡ statements ps → b ≡ true
    go true h = refl
    go false h = cc
each_stands house place r (first ∷ cards) ps e (suc i) card rest d = each_stands house (suc place) (after_card house r first) cards ps (go (eqb (wrong_card r.room first) 0) e) i card rest d
  where
    go : (b : Bool) → cond b (card_by_card house (suc place) (after_card house r first) cards) (cards_refused (wrong_card r.room first) place) ≡ statements ps → card_by_card house (suc place) (after_card house r first) cards ≡ statements ps
    go true h = h
    go false h = cc

uncounted : (o : Carded) (ps : List Punched) → counted o ≡ statements ps → o ≡ statements ps
uncounted (cards_refused n p) ps h = h
uncounted (statements qs) ps h = go (leb (length qs) limits.statements) h
  where
    go : (b : Bool) → cond b (statements qs) (cards_refused 7 0) ≡ statements ps → statements qs ≡ statements ps
    go true h = h
    go false h = cc

by_cards : (deck : List ℕ) (a : Accepted deck) → card_by_card (house1401 a.digits) 1 nothing_read (cards_of deck) ≡ statements a.all
unfolding carded
by_cards deck a = uncounted _ _ (go (right_digits (house1401 a.digits)) (right_length deck) a.is)
  where
    go : (k l : Bool) → cond k (cond l (counted (card_by_card (house1401 a.digits) 1 nothing_read (cards_of deck))) (cards_refused 2 0)) (cards_refused 1 0) ≡ statements a.all → counted (card_by_card (house1401 a.digits) 1 nothing_read (cards_of deck)) ≡ statements a.all
    go true true h = h
    go true false h = cc
    go false l h = cc

right_number_lem : (card : List ℕ) → Fine card → begins card ≡ true → right_number card ≡ true
unfolding begins
right_number_lem card f b = go f.is b
  where
    go : {room : ℕ} → Stands room card → cond (comment card) false (first_card card) ≡ true → right_number card ≡ true
    go (as_comment c) h = let z : false ≡ true = simp c at h in cc
    go (as_first c g a n) h = n
    go (as_continuation c g a bl r) h = let z : false ≡ true = simp (c, g) at h in cc

-- ---- and every statement short

pub each_from : {P : Punched → Type 0} (i : ℕ) (cards : List (List ℕ)) → Each P (grouped cards) → Each P (grouped (drop i cards))
each_from zero cards h = h
each_from (suc i) [] h = h
each_from {P = P} (suc i) (card ∷ cards) h = each_from i cards (go (begins card) refl)
  where
    go : (b : Bool) → begins card ≡ b → Each P (grouped cards)
    go true b = each_tail (subst (Each P) (group_first card cards b) h)
    go false b = subst (Each P) (group_other card cards b) h

pub all_right : (deck : List ℕ) (a : Accepted deck) → Each (RightStatement (house1401 a.digits)) (grouped (cards_of deck))
all_right deck a = subst (Each (RightStatement (house1401 a.digits))) (statements_grouped (house1401 a.digits) deck a.all a.is) (statements_right (house1401 a.digits) deck a.all a.is)

-- ---- the statement taken

-- what the cards before the next that starts a statement add to it
joined_following : (cards : List (List ℕ)) → joined (take (skipped cards) cards) ≡ following cards
unfolding begins
joined_following [] = refl
joined_following (card ∷ cards) = go (comment card) refl (first_card card) (joined_following cards)
  where
    go : (c : Bool) → comment card ≡ c → (f : Bool) → joined (take (skipped cards) cards) ≡ following cards
        → joined (take (cond (cond c false f) 0 (suc (skipped cards))) (card ∷ cards)) ≡ cond c (following cards) (cond f [] (text_columns card ++ following cards))
    go true c f e = simp c e
    go false c true e = refl
    go false c false e = simp c (ap (λ (l : List ℕ). text_columns card ++ l) e)

joined_first : (first : List ℕ) (more : List (List ℕ)) → begins first ≡ true → joined (take (suc (skipped more)) (first ∷ more)) ≡ text_columns first ++ following more
unfolding begins
joined_first first more b = go (comment first) b ∙ ap (λ (l : List ℕ). text_columns first ++ l) (joined_following more)
  where
    go : (c : Bool) → cond c false (first_card first) ≡ true → cond c (joined (take (skipped more) more)) (text_columns first ++ joined (take (skipped more) more)) ≡ text_columns first ++ joined (take (skipped more) more)
    go true h = cc
    go false h = refl

none_long : (cards : List (List ℕ)) → length cards ≡ 0 → cards ≡ []
none_long [] z = refl
none_long (card ∷ cards) z = absurd (omega arith)

-- the card that starts it, those after it, and what is known of them
pub record First (cards : List (List ℕ)) (start : ℕ) (first : List ℕ) (more : List (List ℕ)) : Type 0 where
  pub place : start ≡ skipped cards
  pub stands : drop start cards ≡ first ∷ more
  pub group : grouped cards ≡ record { number = number_of first; raw = text_columns first ++ following more } ∷ grouped more
  pub starts : begins first ≡ true
  pub right : right_number first ≡ true
  pub short : length (text_columns first ++ following more) ≤ 660

rest_all : (n : ℕ) (cards : List (List ℕ)) → take (length cards - n) (drop n cards) ≡ drop n cards
rest_all n cards = take_all (length cards - n) (drop n cards) (omega (arith, length-drop n cards))

-- the cards from one on
pub rest_is : {all rest : List (List ℕ)} (deck : List ℕ) (card : ℕ) → rest ≡ take (length all - card) (drop card all) → all ≡ cards_of deck → rest ≡ drop card (cards_of deck)
rest_is {all} {rest} deck card r a = r ∙ rest_all card all ∙ ap (drop card) a

module _ (deck : List ℕ) (card : ℕ) {cards : List (List ℕ)} (e : cards ≡ drop card (cards_of deck)) where
  pub none : (raw : List ℕ) → grouped cards ≡ [] → Takes punched_raw deck card raw raw None
  none raw g =
      let h : grouped (drop card (cards_of deck)) ≡ [] = ap grouped (sym e) ∙ g in
      record {
        says = sym (ap (λ (ps : List Punched). first_of punched_raw ps (card + passed (drop card (cards_of deck)))) h);
        put = sym (ap (λ (ps : List Punched). over 0 (first_content punched_raw ps) raw) h ∙ over_none 0 raw);
      }

  pub takes_none : (raw : List ℕ) (start : ℕ) → start ≡ skipped cards → length (take (length cards - start) (drop start cards)) ≡ 0 → Takes punched_raw deck card raw raw None
  takes_none raw start s z =
      none raw (group_skip cards ∙ ap grouped (ap (λ (n : ℕ). drop n cards) (sym s) ∙ sym (rest_all start cards) ∙ none_long _ z))

  pub first_is : Accepted deck → (start : ℕ) (first : List ℕ) (more : List (List ℕ)) → start ≡ skipped cards → take (length cards - start) (drop start cards) ≡ first ∷ more → First cards start first more
  first_is acc start first more s t =
      let a : drop start cards ≡ first ∷ more = sym (rest_all start cards) ∙ t in
      let d : drop (skipped cards) cards ≡ first ∷ more = ap (λ (n : ℕ). drop n cards) (sym s) ∙ a in
      let b : begins first ≡ true = skip_stops cards first more d in
      let g : grouped cards ≡ record { number = number_of first; raw = text_columns first ++ following more } ∷ grouped more = group_skip cards ∙ ap grouped d ∙ group_first first more b in
      let r : RightStatement (house1401 acc.digits) (record { number = number_of first; raw = text_columns first ++ following more }) = each_head (subst (Each (RightStatement (house1401 acc.digits))) (ap grouped (sym e) ∙ g) (each_from card (cards_of deck) (all_right deck acc))) in
      let w : drop (card + start) (cards_of deck) ≡ first ∷ more = sym (drop-drop start card (cards_of deck)) ∙ ap (drop start) (sym e) ∙ a in
      record {
        place = s;
        stands = a;
        group = g;
        starts = b;
        right = right_number_lem first (each_stands (house1401 acc.digits) 1 nothing_read (cards_of deck) acc.all (by_cards deck acc) (card + start) first more w) b;
        short = r.raw_short;
      }

module _ {cards : List (List ℕ)} {start : ℕ} {first : List ℕ} {more : List (List ℕ)} (f : First cards start first more) where
  pub never_wrong : punched_of first ≡ None → ⊥
  unfolding punched_of
  never_wrong n =
      let w : Some (record { 0 = number_of first }) ≡ None = simp f.right at n in
      let z : ◌≡◌ {A = ℕ} 0 1 = cc in
      omega arith

  number_is : (n : Number) → punched_of first ≡ Some n → record { 0 = number_of first } ≡ n
  unfolding punched_of
  number_is n h = let w : Some (record { 0 = number_of first }) ≡ Some n = simp f.right at h in cc

  pub within : (k : ℕ) → k ≡ skipped more → start + 1 + k ≤ length cards
  within k h =
      let z = ap (length {A = List ℕ}) f.stands in
      omega (arith, length-drop start cards, skipped_within more)

  pub columns_are : (k : ℕ) → k ≡ skipped more → joined (take (start + 1 + k - start) (drop start cards)) ≡ text_columns first ++ following more
  columns_are k h =
      let m : start + 1 + k - start ≡ suc (skipped more) = omega arith in
      ap joined (ap (λ (n : ℕ). take n (drop start cards)) m ∙ ap (take (suc (skipped more))) f.stands) ∙ joined_first first more f.starts

  pub takes_some : (deck : List ℕ) (card : ℕ) {number : Number} {raw raw' : List ℕ} (n k : ℕ) → cards ≡ drop card (cards_of deck) → punched_of first ≡ Some number → k ≡ skipped more
      → Put (joined (take (start + 1 + k - start) (drop start cards))) raw raw' n → Takes punched_raw deck card raw raw' (Some (record { number = number; length = n; next = card + (start + 1 + k) }))
  unfolding passed
  takes_some deck card {number} {raw} {raw'} n k e h q p =
      let v : suc (skipped cards) ≡ start + 1 = omega (arith, f.place) in
      let d : drop (suc (skipped cards)) cards ≡ more = ap (λ (n : ℕ). drop n cards) v ∙ sym (drop-drop 1 start cards) ∙ ap (drop 1) f.stands in
      let l = ap skipped d in
      let p₀ = f.place in
      let m : card + (start + 1 + k) ≡ card + passed cards = omega arith in
      let t = columns_are k q in
      let g : grouped (drop card (cards_of deck)) ≡ record { number = number_of first; raw = text_columns first ++ following more } ∷ grouped more = ap grouped (sym e) ∙ f.group in
      record {
        says =
            (λ i. Some (record { number = sym (number_is number h) i; length = (p.count ∙ ap length t) i; next = (m ∙ ap (λ (l : List (List ℕ)). card + passed l) e) i }))
            ∙ sym (ap (λ (ps : List Punched). first_of punched_raw ps (card + passed (drop card (cards_of deck)))) g);
        put = p.put ∙ ap (λ (l : List ℕ). over 0 l raw) t ∙ sym (ap (λ (ps : List Punched). over 0 (first_content punched_raw ps) raw) g);
      }
