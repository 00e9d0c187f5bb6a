-- A refused deck is refused by a number from 1 to 25, and by 10 only for a statement's form.
-- Assumes nothing.
use mathlib.Core.Path.{◌≡◌, refl}
use Prim.Native.Nat.{ℕ, zero, suc, ◌≤◌}
use native.Mathlib.Omega.{arith}
use mathlib.Core.Bool.{Bool, true, false, cond}
use mathlib.Core.List.{List, [], ◌∷◌}
use mathlib.Core.Option.{Option, none, some}
use lib.Dec.{eqb, leb}
use lib.ListN.{length}
use borrow.Author.Tests.{eqb-false}
use Rattle.rules_shared.specs.Limits.{limits}
use Rattle.rules_shared.specs.House.{House}
use Rattle.rules_object.specs.Check.{blanks}
use Rattle.rules_shared.specs.Refusals.{Refusal, or_else}
use Rattle.rules_text.specs.Trees.{Form, Statement}
use Rattle.rules_text.specs.Cards.{Punched, text_of, comment, first_card, characters, columns_read, number_columns, right_number, Reading, nothing_read, wrong_first, wrong_continuation, wrong_characters, wrong_card, after_card, Carded, cards_refused, statements, card_by_card, right_digits, right_length, cards_of, counted, carded}
use Rattle.rules_text.specs.Grammar.{form_of}
use Rattle.rules_deck.specs.Judge.{Taken, nothing_taken, takes, wrong, right11, right12, right13, right14, right15, right16, right18, judge_form}
use Rattle.rules_deck.specs.Whole.{first_wrong, first_wrong_do, refused20, right21, right22, right24, right25, refused_at, judge_deck}
use Rattle.rules_deck.specs.Deck.{dos_of}
use Rattle.rules_deck.specs.Compile.{Read, not_read, read, with_statement, after_judging, after_reading, read_text, read_from, read_carded, or_refuse, judge_read, deck_of}
use Rattle.rules_text.proofs.CardsLaws.{cases}

-- the numbers that are given for anything but a form
abbrev pub Other : ℕ → Type 0
Other n = (1 ≤ n) × (n ≤ 25) × (n ≡ 10 → ⊥)

abbrev pub NumberOther : Option ℕ → Type 0
NumberOther none = Unit {0}
NumberOther (some n) = Other n

abbrev pub RefusalOther : Option Refusal → Type 0
RefusalOther none = Unit {0}
RefusalOther (some r) = Other r.number

abbrev pub CardedOther : Carded → Type 0
CardedOther (cards_refused number place) = Other number
CardedOther (statements ps) = Unit {0}

abbrev pub ReadNumbered : Read → Type 0
ReadNumbered (not_read r) = (1 ≤ r.number) × (r.number ≤ 25)
ReadNumbered (read deck) = Unit {0}

-- ---- cards

either_small : (b : Bool) (x y : ℕ) → x ≤ 5 → y ≤ 5 → cond b x y ≤ 5
either_small true x y p q = p
either_small false x y p q = q

-- a card is refused by 3 to 5
card_small : (room : ℕ) (card : List ℕ) → wrong_card room card ≤ 5
unfolding wrong_card
card_small room card =
    either_small (comment card) 0 (wrong_characters room card) (omega arith)
    (either_small (characters (columns_read card)) (cond (first_card card) (wrong_first card) (wrong_continuation room card)) 3
    (either_small (first_card card) (wrong_first card) (wrong_continuation room card)
    (either_small (right_number card) 0 4 (omega arith) (omega arith))
    (either_small (blanks (number_columns card)) (cond (eqb room 0) 5 0) 4 (either_small (eqb room 0) 5 0 (omega arith) (omega arith)) (omega arith)))
    (omega arith))

card_other : (house : House) (place : ℕ) (r : Reading) (cards : List (List ℕ)) → CardedOther (card_by_card house place r cards)
card_other house place r [] = tt
card_other house place r (card ∷ cards) =
    cases CardedOther (eqb (wrong_card r.room card) 0) (card_by_card house (suc place) (after_card house r card) cards) (cards_refused (wrong_card r.room card) place)
    (λ e. card_other house (suc place) (after_card house r card) cards)
    (λ e. other (wrong_card r.room card) (eqb-false (wrong_card r.room card) 0 e) (card_small r.room card))
  where
    other : (n : ℕ) → (n ≡ 0 → ⊥) → n ≤ 5 → Other n
    other zero f l = absurd (f refl)
    other (suc n) f l = omega arith

counted_other : (c : Carded) → CardedOther c → CardedOther (counted c)
counted_other (cards_refused number place) h = h
counted_other (statements ps) h =
    cases CardedOther (leb (length ps) limits.statements) (statements ps) (cards_refused 7 0) (λ e. tt) (λ e. omega arith)

pub carded_other : (house : House) (bytes : List ℕ) → CardedOther (carded house bytes)
unfolding carded
carded_other house bytes =
    cases CardedOther (right_digits house) (cond (right_length bytes) (counted (card_by_card house 1 nothing_read (cards_of bytes))) (cards_refused 2 0)) (cards_refused 1 0)
    (λ e. cases CardedOther (right_length bytes) (counted (card_by_card house 1 nothing_read (cards_of bytes))) (cards_refused 2 0) (λ f. counted_other (card_by_card house 1 nothing_read (cards_of bytes)) (card_other house 1 nothing_read (cards_of bytes))) (λ f. omega arith))
    (λ e. omega arith)

-- ---- statements

wrong_other : (b : Bool) (n : ℕ) → Other n → NumberOther (wrong b n)
wrong_other true n h = tt
wrong_other false n h = h

or_other : (a b : Option ℕ) → NumberOther a → NumberOther b → NumberOther (or_else a b)
or_other none b p q = q
or_other (some n) b p q = p

pub judge_other : (house : House) (q : ℕ) (f : Form) (t : Taken) → NumberOther (judge_form house q f t)
unfolding judge_form
judge_other house q f t =
    or_other (wrong (right11 house f) 11) _ (wrong_other (right11 house f) 11 (omega arith))
    (or_other (wrong (right12 house f) 12) _ (wrong_other (right12 house f) 12 (omega arith))
    (or_other (wrong (right13 house f) 13) _ (wrong_other (right13 house f) 13 (omega arith))
    (or_other (wrong (right14 f) 14) _ (wrong_other (right14 f) 14 (omega arith))
    (or_other (wrong (right15 house t.held f) 15) _ (wrong_other (right15 house t.held f) 15 (omega arith))
    (or_other (wrong (right16 t.held f) 16) _ (wrong_other (right16 t.held f) 16 (omega arith)) (wrong_other (right18 (takes q f t)) 18 (omega arith)))))))

with_numbered : (s : Statement) (r : Read) → ReadNumbered r → ReadNumbered (with_statement s r)
with_numbered s (not_read r) h = h
with_numbered s (read deck) h = tt

judging_numbered : (q : ℕ) (s : Statement) (rest : Read) (o : Option ℕ) → NumberOther o → ReadNumbered rest → ReadNumbered (after_judging q s rest o)
judging_numbered q s rest none h r = with_numbered s rest r
judging_numbered q s rest (some n) h r = (h.0, h.1)

reading_numbered : (house : House) (q number : ℕ) (t : Taken) (rest : Taken → Read) (o : Option Form) → ((u : Taken) → ReadNumbered (rest u)) → ReadNumbered (after_reading house q number t rest o)
reading_numbered house q number t rest none r = omega arith
reading_numbered house q number t rest (some f) r = judging_numbered q _ _ (judge_form house q f t) (judge_other house q f t) (r (takes q f t))

text_numbered : (house : House) (q number : ℕ) (t : Taken) (rest : Taken → Read) (text : List ℕ) → ((u : Taken) → ReadNumbered (rest u)) → ReadNumbered (read_text house q number t rest text)
text_numbered house q number t rest [] r = omega arith
text_numbered house q number t rest (c ∷ text) r = reading_numbered house q number t rest (form_of (c ∷ text)) r

from_numbered : (house : House) (q : ℕ) (t : Taken) (ps : List Punched) → ReadNumbered (read_from house q t ps)
from_numbered house q t [] = tt
from_numbered house q t (p ∷ more) = text_numbered house q p.number t (λ u. read_from house (suc q) u more) (text_of p.raw) (λ u. from_numbered house (suc q) u more)

read_numbered : (house : House) (c : Carded) → CardedOther c → ReadNumbered (read_carded house c)
read_numbered house (cards_refused number place) h = (h.0, h.1)
read_numbered house (statements ps) h = from_numbered house 0 nothing_taken ps

-- ---- the deck

at_other : (n : ℕ) (o : Option ℕ) → Other n → RefusalOther (refused_at n o)
at_other n none h = tt
at_other n (some p) h = h

else_other : (a b : Option Refusal) → RefusalOther a → RefusalOther b → RefusalOther (or_else a b)
else_other none b p q = q
else_other (some r) b p q = p

pub deck_other : (deck : List Statement) → RefusalOther (judge_deck deck)
unfolding judge_deck
deck_other deck =
    else_other (refused_at 20 (refused20 deck)) _ (at_other 20 (refused20 deck) (omega arith))
    (else_other (refused_at 21 (first_wrong (right21 deck) 0 deck)) _ (at_other 21 (first_wrong (right21 deck) 0 deck) (omega arith))
    (else_other (refused_at 22 (first_wrong (right22 deck) 0 deck)) _ (at_other 22 (first_wrong (right22 deck) 0 deck) (omega arith))
    (else_other (refused_at 23 (first_wrong_do deck (dos_of deck))) _ (at_other 23 (first_wrong_do deck (dos_of deck)) (omega arith))
    (else_other (refused_at 24 (first_wrong (right24 deck) 0 deck)) _ (at_other 24 (first_wrong (right24 deck) 0 deck) (omega arith))
    (at_other 25 (first_wrong (right25 deck) 0 deck) (omega arith))))))

refuse_numbered : (deck : List Statement) (o : Option Refusal) → RefusalOther o → ReadNumbered (or_refuse deck o)
refuse_numbered deck none h = tt
refuse_numbered deck (some r) h = (h.0, h.1)

judged_numbered : (r : Read) → ReadNumbered r → ReadNumbered (judge_read r)
judged_numbered (not_read r) h = h
judged_numbered (read deck) h = refuse_numbered deck (judge_deck deck) (deck_other deck)

pub refused_numbered : (house : House) (bytes : List ℕ) → ReadNumbered (deck_of house bytes)
unfolding deck_of
refused_numbered house bytes = judged_numbered (read_carded house (carded house bytes)) (read_numbered house (carded house bytes) (carded_other house bytes))
