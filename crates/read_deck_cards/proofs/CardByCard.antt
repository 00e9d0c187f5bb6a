-- The laws of going through a deck card by card.
-- Assumes nothing.
use Prim.Native.Nat.{ℕ, suc, ◌+◌, ◌-◌, ◌≤◌, ◌<◌}
use mathlib.Core.Path.{◌≡◌, refl, sym, ap, ◌∙◌}
use mathlib.Core.Bool.{Bool, true, false, cond}
use mathlib.Core.List.{List, [], ◌∷◌}
use native.Mathlib.Omega.{arith}
use lib.Dec.{eqb}
use native.Mathlib.Numerals.{add-one}
use lib.ListN.{length, get_or, drop, length-append, drop_of_length-le}
use lib.Seq.{drop-cons}
use Rattle.std.specs.Prelude.{Some, None, Ok, Err}
use Rattle.std.specs.Option.{is_some}
use Rattle.refusals.specs.declared.Reason.{Reason}
use Rattle.refusals.specs.declared.Reason.TheVariants.{Character, NumberColumns, Continuation}
use Rattle.refusals.specs.Numbers.{number_of}
use borrow.Author.Tests.{ne_eqb}
use Rattle.rules_shared.specs.House.{house1401}
use Rattle.rules_object.specs.Check.{blanks}
use Rattle.rules_text.specs.Cards.{columns_read, number_columns, text_columns, comment, first_card, characters, Punched, right_number, Reading, nothing_read, wrong_card, started, extended, continued, after_card, cards_refused, card_by_card}
use Rattle.read_cards.specs.declared.Number.{Number}
use Rattle.read_cards.specs.Columns.{punched_of}
use Rattle.read_deck_cards.specs.declared.Begun.{Begun}
use Rattle.read_deck_cards.specs.Judging.{Judges, begun_of, after_of, After}

-- ---- one card

module _ (k : ℕ) (b : Begun) (card : List ℕ) where
  pub after_comment : comment card ≡ true → After (house1401 k) b card (Ok (record { place = b.place + 1; statements = b.statements; room = b.room }))
  unfolding wrong_card after_of
  after_comment c = (simp c, simp c)

  pub no_characters : comment card ≡ false → characters (columns_read card) ≡ false → After (house1401 k) b card (Err Character)
  unfolding wrong_card
  no_characters c a = (simp (c, a), λ h. cc)

  module _ (c : comment card ≡ false) (a : characters (columns_read card) ≡ true) where
    pub no_first : first_card card ≡ true → is_some (punched_of card) ≡ false → After (house1401 k) b card (Err NumberColumns)
    unfolding wrong_card punched_of
    no_first f n = (simp (c, a, f) (go (right_number card) _ n), λ h. cc)
      where
        go : (r : Bool) (m : Number) → is_some (cond r (Some m) None) ≡ false → ◌≡◌ {A = ℕ} (cond r 0 4) 4
        go true m n = cc
        go false m n = refl

    pub after_first : first_card card ≡ true → is_some (punched_of card) ≡ true → After (house1401 k) b card (Ok (record { place = b.place + 1; statements = b.statements + 1; room = 9 }))
    unfolding wrong_card punched_of after_of
    after_first f n = (simp (c, a, f) (go (right_number card) _ n), simp (c, f))
      where
        go : (r : Bool) (m : Number) → is_some (cond r (Some m) None) ≡ true → ◌≡◌ {A = ℕ} (cond r 0 4) 0
        go true m n = refl
        go false m n = cc

    -- a continuation: the check finds these three for `after_card` by itself, and they stand for who cites them
    module _ (f : first_card card ≡ false) where
      pub no_blanks : blanks (number_columns card) ≡ false → After (house1401 k) b card (Err NumberColumns)
      unfolding wrong_card
      no_blanks n = (simp (c, a, f, n), λ h. cc)

      pub no_room : blanks (number_columns card) ≡ true → b.room ≡ 0 → After (house1401 k) b card (Err Continuation)
      unfolding wrong_card
      no_room n z = (simp (c, a, f, n, z), λ h. cc)

      pub after_continuation : blanks (number_columns card) ≡ true → (b.room ≡ 0 → ⊥) → After (house1401 k) b card (Ok (record { place = b.place + 1; statements = b.statements; room = b.room - 1 }))
      unfolding wrong_card after_of
      after_continuation n z = (simp (c, a, f, n, ne_eqb b.room 0 z), simp (c, f))

length_extended : (ps : List Punched) (t : List ℕ) → length (extended ps t) ≡ length ps
length_extended [] t = refl
length_extended (p ∷ []) t = refl
length_extended (p ∷ q ∷ ps) t = ap suc (length_extended (q ∷ ps) t)

after_is : (k : ℕ) (place : ℕ) (r : Reading) (card : List ℕ) → begun_of (place + 1) (after_card (house1401 k) r card) ≡ after_of (house1401 k) (begun_of place r) card
unfolding after_card after_of
after_is k place r card = go (comment card) (first_card card)
  where
    go : (c f : Bool) → begun_of (place + 1) (cond c r (cond f (started (house1401 k) r card) (continued r card))) ≡
        cond c (record { place = place + 1; statements = length r.begun; room = r.room })
        (cond f (record { place = place + 1; statements = length r.begun + 1; room = 9 }) (record { place = place + 1; statements = length r.begun; room = r.room - 1 }))
    go true f = refl
    go false true = ap (λ (n : ℕ). record { place = place + 1; statements = n; room = 9 }) (length-append r.begun _)
    go false false = ap (λ (n : ℕ). record { place = place + 1; statements = n; room = r.room - 1 }) (length_extended r.begun (text_columns card))

one_of : (P : Begun → Type 0) (c f : Bool) (x y z : Begun) → P x → P y → P z → P (cond c x (cond f y z))
one_of P true f x y z p q r = p
one_of P false true x y z p q r = q
one_of P false false x y z p q r = r

one_more : (k : ℕ) (b : Begun) (card : List ℕ) → ((after_of (house1401 k) b card).place ≡ b.place + 1) × ((after_of (house1401 k) b card).statements ≤ b.statements + 1)
unfolding after_of
one_more k b card =
    one_of (λ (x : Begun). (x.place ≡ b.place + 1) × (x.statements ≤ b.statements + 1)) (comment card) (first_card card) _ _ _
    (refl, omega arith) (refl, omega arith) (refl, omega arith)

-- ---- the loop

-- the cards before i are read and none is refused
pub record Going (k : ℕ) (cards : List (List ℕ)) (b : Begun) (i : ℕ) : Type 0 where
  pub reading : Reading
  pub same : card_by_card (house1401 k) 1 nothing_read cards ≡ card_by_card (house1401 k) b.place reading (drop i cards)
  pub told : begun_of b.place reading ≡ b
  pub placed : b.place ≡ i + 1
  pub few : b.statements ≤ i

pub going_start : (k : ℕ) (cards : List (List ℕ)) → Going k cards (record { place = 1; statements = 0; room = 0 }) 0
going_start k cards = record { reading = nothing_read; same = refl; told = refl; placed = omega arith; few = omega arith }

module _ (k : ℕ) (cards : List (List ℕ)) (b : Begun) (i : ℕ) (g : Going k cards b i) where
  module _ (h : i < length cards) where
    abbrev card : List ℕ
    card = get_or cards i []

    abbrev rest : List (List ℕ)
    rest = drop (i + 1) cards

    at_card : drop i cards ≡ card ∷ rest
    at_card = drop-cons cards i [] h ∙ ap (λ (n : ℕ). card ∷ drop n cards) (sym (add-one i))

    step : card_by_card (house1401 k) 1 nothing_read cards ≡ cond (eqb (wrong_card b.room card) 0) (card_by_card (house1401 k) (suc b.place) (after_card (house1401 k) g.reading card) rest) (cards_refused (wrong_card b.room card) b.place)
    step =
        g.same ∙ ap (card_by_card (house1401 k) b.place g.reading) at_card
        ∙ ap (λ (n : ℕ). cond (eqb (wrong_card n card) 0) (card_by_card (house1401 k) (suc b.place) (after_card (house1401 k) g.reading card) rest) (cards_refused (wrong_card n card) b.place)) (ap (λ (x : Begun). x.room) g.told)

    pub going_refused : (reason : Reason) → After (house1401 k) b card (Err reason) → Judges (card_by_card (house1401 k) 1 nothing_read cards) (Err (record { reason = reason; place = b.place; kind = 0 }))
    going_refused reason e = (step ∙ simp (e.0, ne_eqb (number_of reason) 0 e.1), refl)

    pub going_on : (after : Begun) → After (house1401 k) b card (Ok after) → Going k cards after (i + 1)
    going_on after e =
        let m = one_more k b card in
        let p = ap (λ (x : Begun). x.place) e.1 in
        let q = ap (λ (x : Begun). x.statements) e.1 in
        let s : suc b.place ≡ after.place = omega arith in
        let z = e.0 in
        let r : card_by_card (house1401 k) 1 nothing_read cards ≡ card_by_card (house1401 k) (suc b.place) (after_card (house1401 k) g.reading card) rest = step ∙ simp z in
        record {
          reading = after_card (house1401 k) g.reading card;
          same = r ∙ ap (λ (n : ℕ). card_by_card (house1401 k) n (after_card (house1401 k) g.reading card) rest) s;
          told = ap (λ (n : ℕ). begun_of n (after_card (house1401 k) g.reading card)) (p ∙ m.0) ∙ after_is k b.place g.reading card ∙ ap (λ (x : Begun). after_of (house1401 k) x card) g.told ∙ sym e.1;
          placed = omega (arith, g.placed);
          few = omega (arith, g.few);
        }

  pub going_end : length cards ≤ i → Judges (card_by_card (house1401 k) 1 nothing_read cards) (Ok (record { 0 = b.statements }))
  going_end h =
      (g.reading.begun, g.same ∙ ap (card_by_card (house1401 k) b.place g.reading) (drop_of_length-le cards h), sym (ap (λ (x : Begun). x.statements) g.told))
