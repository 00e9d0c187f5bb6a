-- What the statements of a deck hold (length and characters of a text, number, count), and that columns 73-80 are never read.
-- Assumes nothing.
use Prim.Native.Nat.{ℕ, zero, suc, ◌+◌, ◌-◌, ◌*◌, ◌≤◌, ◌<◌}
use mathlib.Core.Path.{◌≡◌, refl, sym, ap, ◌∙◌, subst}
use mathlib.Core.Bool.{Bool, true, false, ◌&&◌, ◌||◌, cond, false≢true}
use mathlib.Core.List.{List, [], ◌∷◌, ◌++◌, map}
use native.Mathlib.Omega.{arith}
use lib.Dec.{leb, eqb}
use lib.ListN.{length, take, drop, length-append, length-take, length-map}
use native.Mathlib.Nat.{zero-add, suc-add}
use lib.Seq.{take-nil, take-add, take-take, get_or-take}
use borrow.Author.Tests.{leb-true, eqb-true, eqb-false}
use Rattle.rules_shared.specs.Limits.{limits}
use Rattle.rules_shared.specs.House.{House}
use Rattle.rules_object.specs.Check.{blanks, character}
use Rattle.rules_shared.specs.Lists.{Each, each_none, each_more}
use Rattle.rules_shared.proofs.EachLaws.{each_append, each_right}
use Rattle.rules_text.specs.Trees.{value_of}
use Rattle.rules_text.specs.Cards.{cards_of, columns_read, number_columns, text_length, text_columns, comment, first_card, characters, all_digits, without_blanks, read_as, text_of, Punched, number_of, right_number, Reading, nothing_read, wrong_first, wrong_continuation, wrong_characters, wrong_card, started, extended, continued, after_card, Carded, cards_refused, statements, card_by_card, right_digits, right_length, counted, carded}

each_mapped : {A B : Type 0} {P : A → Type 0} {Q : B → Type 0} (f : A → B) → ((a : A) → P a → Q (f a)) → {s : List A} → Each P s → Each Q (map f s)
each_mapped f g each_none = each_none
each_mapped f g (each_more p h) = each_more (g _ p) (each_mapped f g h)

pub cases : {A : Type 0} (P : A → Type 0) (b : Bool) (x y : A) → (b ≡ true → P x) → (b ≡ false → P y) → P (cond b x y)
cases P true x y f g = f refl
cases P false x y f g = g refl

pub and_both : (a b : Bool) → (a && b) ≡ true → (a ≡ true) × (b ≡ true)
and_both true b e = (refl, e)
and_both false b e = absurd (false≢true e)

-- ---- characters

-- one of 01's characters
pub record Character (c : ℕ) : Type 0 where
  pub is : character c ≡ true

-- one of 01's characters other than blank and `$`
pub record TextCharacter (c : ℕ) : Type 0 where
  pub is : character c ≡ true
  pub no_blank : c ≡ 32 → ⊥
  pub no_dollar : c ≡ 36 → ⊥

each_character : (s : List ℕ) → characters s ≡ true → Each Character s
each_character [] e = each_none
each_character (c ∷ s) e = let b = and_both (character c) (characters s) e in each_more (record { is = b.0 }) (each_character s b.1)

-- one of them and no blank
record Solid (c : ℕ) : Type 0 where
  is : character c ≡ true
  no_blank : c ≡ 32 → ⊥

solid : {s : List ℕ} → Each Character s → Each Solid (without_blanks s)
solid each_none = each_none
solid (each_more {x = c} {xs = s} p h) =
    cases (λ (l : List ℕ). Each Solid l) (eqb c 32) (without_blanks s) (c ∷ without_blanks s) (λ e. solid h)
    (λ e. each_more (record { is = p.is; no_blank = eqb-false c 32 e }) (solid h))

read_as_lem : (c : ℕ) → Solid c → TextCharacter (read_as c)
unfolding character
read_as_lem c p =
    cases TextCharacter (eqb c 36) 42 c (λ e. record { is = refl; no_blank = λ z. omega arith; no_dollar = λ z. omega arith })
    (λ e. record { is = p.is; no_blank = p.no_blank; no_dollar = eqb-false c 36 e })

-- every byte of a text, where what is punched are characters
pub text_characters : {raw : List ℕ} → Each Character raw → Each TextCharacter (text_of raw)
unfolding text_of
text_characters h = each_mapped read_as read_as_lem (solid h)

length_solid : (s : List ℕ) → length (without_blanks s) ≤ length s
length_solid [] = omega arith
length_solid (c ∷ s) =
    let r = length_solid s in
    cases (λ (l : List ℕ). length l ≤ suc (length s)) (eqb c 32) (without_blanks s) (c ∷ without_blanks s) (λ e. omega arith) (λ e. omega arith)

-- a text is not longer than what is punched
pub text_length_lem : (raw : List ℕ) → length (text_of raw) ≤ length raw
unfolding text_of
text_length_lem raw = omega (arith, length_solid raw, length-map (without_blanks raw) read_as)

-- ---- a card that is not refused

pub data Stands (room : ℕ) (card : List ℕ) : Type 0 where
  as_comment : comment card ≡ true → Stands room card
  as_first : comment card ≡ false → first_card card ≡ true → characters (columns_read card) ≡ true → right_number card ≡ true → Stands room card
  as_continuation : comment card ≡ false → first_card card ≡ false → characters (columns_read card) ≡ true → blanks (number_columns card) ≡ true → zero < room → Stands room card

pub stands : (room : ℕ) (card : List ℕ) → wrong_card room card ≡ 0 → Stands room card
unfolding wrong_card
stands room card =
    cases P (comment card) 0 (wrong_characters room card) (λ c e. as_comment c)
    (λ c. cases P (characters (columns_read card)) (cond (first_card card) (wrong_first card) (wrong_continuation room card)) 3
    (λ a. cases P (first_card card) (wrong_first card) (wrong_continuation room card)
    (λ f. cases P (right_number card) 0 4 (λ n e. as_first c f a n) (λ n e. absurd (omega arith)))
    (λ f. cases P (blanks (number_columns card)) (cond (eqb room 0) 5 0) 4
    (λ b. cases P (eqb room 0) 5 0 (λ z e. absurd (omega arith)) (λ z e. as_continuation c f a b (above (eqb-false room 0 z))))
    (λ b e. absurd (omega arith))))
    (λ a e. absurd (omega arith)))
  where
    P : ℕ → Type 0
    P n = n ≡ 0 → Stands room card

    above : (room ≡ 0 → ⊥) → zero < room
    above h = omega arith

-- columns 7-72 of it
pub text_columns_lem : (card : List ℕ) → characters (columns_read card) ≡ true → Each Character (text_columns card)
text_columns_lem card e = each_right (take 6 card) (take 66 (drop 6 card)) (subst (λ (s : List ℕ). Each Character s) (take-add 6 66 card) (each_character (take 72 card) e))

text_columns_length : (card : List ℕ) → length (text_columns card) ≤ text_length
text_columns_length card = omega (arith, length-take 66 (drop 6 card))

no_number_lem : (s : List ℕ) → blanks s ≡ true → without_blanks s ≡ []
no_number_lem [] e = refl
no_number_lem (c ∷ s) e =
    let b = and_both (eqb c 32) (blanks s) e in
    ap (λ (t : Bool). cond t (without_blanks s) (c ∷ without_blanks s)) b.0 ∙ no_number_lem s b.1

pub number_small : (card : List ℕ) → right_number card ≡ true → number_of card ≤ limits.statement_number
unfolding right_number number_of value_of
number_small card e = go (blanks (number_columns card)) refl e
  where
    rest : Bool
    rest = all_digits (without_blanks (number_columns card)) && (leb 1 (number_of card) && leb (number_of card) limits.statement_number)

    go : (b : Bool) → blanks (number_columns card) ≡ b → (b || rest) ≡ true → number_of card ≤ limits.statement_number
    go true b h = subst (λ (s : List ℕ). value_of s ≤ limits.statement_number) (sym (no_number_lem (number_columns card) b)) (omega arith)
    go false b h =
        leb-true (number_of card) limits.statement_number
        (and_both (leb 1 (number_of card)) (leb (number_of card) limits.statement_number) (and_both (all_digits (without_blanks (number_columns card))) _ h).1).1

-- ---- the statements

-- the bytes of a first card and its continuations
abbrev pub text_limit : House → ℕ
text_limit house = (1 + house.continuations) * text_length

pub record RightStatement (house : House) (p : Punched) : Type 0 where
  pub number_small : p.number ≤ limits.statement_number
  pub raw_short : length p.raw ≤ text_limit house
  pub raw_characters : Each Character p.raw
  pub text_short : length (text_of p.raw) ≤ text_limit house
  pub text_characters : Each TextCharacter (text_of p.raw)

right : (house : House) (p : Punched) → p.number ≤ limits.statement_number → length p.raw ≤ text_limit house → Each Character p.raw → RightStatement house p
right house p n s c =
    record {
      number_small = n;
      raw_short = s;
      raw_characters = c;
      text_short = omega (arith, text_length_lem p.raw);
      text_characters = text_characters c;
    }

-- the last statement leaves place for as many continuations as there is room for
data Begun (house : House) (room : ℕ) : List Punched → Type 0 where
  nothing : Begun house room []
  last : {p : Punched} → RightStatement house p → length p.raw + room * text_length ≤ text_limit house → Begun house room (p ∷ [])
  before : {p q : Punched} {ps : List Punched} → RightStatement house p → Begun house room (q ∷ ps) → Begun house room (p ∷ q ∷ ps)

each_begun : {house : House} {room : ℕ} {ps : List Punched} → Begun house room ps → Each (RightStatement house) ps
each_begun nothing = each_none
each_begun (last f h) = each_more f each_none
each_begun (before f b) = each_more f (each_begun b)

one_more : {house : House} {room more : ℕ} {p : Punched} {ps : List Punched} → Begun house room ps → RightStatement house p → length p.raw + more * text_length ≤ text_limit house → Begun house more (ps ++ (p ∷ []))
one_more nothing f h = last f h
one_more (last g i) f h = before g (last f h)
one_more (before g b) f h = before g (one_more b f h)

longer : {house : House} {room : ℕ} {ps : List Punched} (text : List ℕ) → length text ≤ text_length → Each Character text → zero < room → Begun house room ps → Begun house (room - 1) (extended ps text)
longer text l c z nothing = nothing
longer {house} {room} text l c z (last {p = p} f h) =
    let n = length-append p.raw text in
    last (right house (record { number = p.number; raw = p.raw ++ text }) f.number_small (omega arith) (each_append f.raw_characters c)) (omega arith)
longer text l c z (before {ps = []} g b) = before g (longer text l c z b)
longer text l c z (before {ps = r ∷ ps} g b) = before g (longer text l c z b)

-- ---- card by card

record On (house : House) (r : Reading) : Type 0 where
  is : Begun house r.room r.begun

on_start : (house : House) (r : Reading) (card : List ℕ) → On house r → characters (columns_read card) ≡ true → right_number card ≡ true → On house (started house r card)
on_start house r card o c n =
    let l = text_columns_length card in
    record { is = one_more o.is (right house _ (number_small card n) (omega arith) (text_columns_lem card c)) (omega arith) }

on_continue : (house : House) (r : Reading) (card : List ℕ) → On house r → characters (columns_read card) ≡ true → zero < r.room → On house (continued r card)
on_continue house r card o c z = record { is = longer (text_columns card) (text_columns_length card) (text_columns_lem card c) z o.is }

on_after : (house : House) (r : Reading) (card : List ℕ) → On house r → Stands r.room card → On house (after_card house r card)
unfolding after_card
on_after house r card o (as_comment c) = subst (On house) (sym (ap (λ (b : Bool). cond b r (cond (first_card card) (started house r card) (continued r card))) c)) o
on_after house r card o (as_first c f a n) =
    subst (On house) (sym (ap (λ (b : Bool). cond b r (cond (first_card card) (started house r card) (continued r card))) c ∙ ap (λ (b : Bool). cond b (started house r card) (continued r card)) f))
    (on_start house r card o a n)
on_after house r card o (as_continuation c f a b z) =
    subst (On house) (sym (ap (λ (b : Bool). cond b r (cond (first_card card) (started house r card) (continued r card))) c ∙ ap (λ (b : Bool). cond b (started house r card) (continued r card)) f))
    (on_continue house r card o a z)

data Good (house : House) : Carded → Type 0 where
  refused : {number place : ℕ} → Good house (cards_refused number place)
  good : {ps : List Punched} → Each (RightStatement house) ps → Good house (statements ps)

good_cards : (house : House) (place : ℕ) (r : Reading) (cards : List (List ℕ)) → On house r → Good house (card_by_card house place r cards)
good_cards house place r [] o = good (each_begun o.is)
good_cards house place r (card ∷ cards) o =
    cases (Good house) (eqb (wrong_card r.room card) 0) (card_by_card house (suc place) (after_card house r card) cards) (cards_refused (wrong_card r.room card) place)
    (λ e. good_cards house (suc place) (after_card house r card) cards (on_after house r card o (stands r.room card (eqb-true (wrong_card r.room card) 0 e)))) (λ e. refused)

-- ---- the whole deck

data Whole (house : House) : Carded → Type 0 where
  refused : {number place : ℕ} → Whole house (cards_refused number place)
  whole : {ps : List Punched} → Each (RightStatement house) ps → length ps ≤ limits.statements → Whole house (statements ps)

whole_counted : {house : House} {o : Carded} → Good house o → Whole house (counted o)
whole_counted refused = refused
whole_counted {house} (good {ps = ps} h) =
    cases (Whole house) (leb (length ps) limits.statements) (statements ps) (cards_refused 7 0) (λ e. whole h (leb-true (length ps) limits.statements e)) (λ e. refused)

whole_carded : (house : House) (deck : List ℕ) → Whole house (carded house deck)
unfolding carded
whole_carded house deck =
    cases (Whole house) (right_digits house) (cond (right_length deck) (counted (card_by_card house 1 nothing_read (cards_of deck))) (cards_refused 2 0)) (cards_refused 1 0)
    (λ d. cases (Whole house) (right_length deck) (counted (card_by_card house 1 nothing_read (cards_of deck))) (cards_refused 2 0)
    (λ l. whole_counted (good_cards house 1 nothing_read (cards_of deck) (record { is = nothing }))) (λ l. refused))
    (λ d. refused)

whole_each : {house : House} {ps : List Punched} → Whole house (statements ps) → Each (RightStatement house) ps
whole_each (whole h n) = h

whole_few : {house : House} {ps : List Punched} → Whole house (statements ps) → length ps ≤ limits.statements
whole_few (whole h n) = n

-- Of a deck that is not refused: every statement's number is small, its text short and of 01's characters without blank and `$`.
pub statements_right : (house : House) (deck : List ℕ) (ps : List Punched) → carded house deck ≡ statements ps → Each (RightStatement house) ps
statements_right house deck ps e = whole_each (subst (Whole house) e (whole_carded house deck))

-- There are at most 400 of them.
pub statements_few : (house : House) (deck : List ℕ) (ps : List Punched) → carded house deck ≡ statements ps → length ps ≤ limits.statements
statements_few house deck ps e = whole_few (subst (Whole house) e (whole_carded house deck))

-- ---- columns 73-80 are never read

part : {A : Type 0} (m n : ℕ) (l : List A) → drop m (take (m + n) l) ≡ take n (drop m l)
part zero n l = ap (λ (k : ℕ). take k l) (zero-add n)
part (suc m) n [] = ap (drop (suc m)) (take-nil (suc m + n)) ∙ sym (take-nil n)
part (suc m) n (x ∷ l) = ap (λ (k : ℕ). drop (suc m) (take k (x ∷ l))) (suc-add m n) ∙ part m n l

comment_read : (card : List ℕ) → comment (columns_read card) ≡ comment card
unfolding comment
comment_read card = ap (λ (c : ℕ). eqb c 67) (get_or-take 72 card 0 32 (omega arith))

first_read : (card : List ℕ) → first_card (columns_read card) ≡ first_card card
unfolding first_card
first_read card = ap (λ (c : ℕ). eqb c 32 || eqb c 48) (get_or-take 72 card 5 32 (omega arith))

numbers_read : (card : List ℕ) → number_columns (columns_read card) ≡ number_columns card
numbers_read card = take-take 5 72 card (omega arith)

all_read : (card : List ℕ) → columns_read (columns_read card) ≡ columns_read card
all_read card = take-take 72 72 card (omega arith)

text_read : (card : List ℕ) → text_columns (columns_read card) ≡ text_columns card
text_read card = ap (take 66) (part 6 66 card) ∙ take-take 66 66 (drop 6 card) (omega arith)

number_read : (card : List ℕ) → number_of (columns_read card) ≡ number_of card
unfolding number_of
number_read card = ap (λ (s : List ℕ). value_of (without_blanks s)) (numbers_read card)

right_read : (card : List ℕ) → right_number (columns_read card) ≡ right_number card
unfolding right_number
right_read card = simp (numbers_read card, number_read card)

wrong_read : (room : ℕ) (card : List ℕ) → wrong_card room (columns_read card) ≡ wrong_card room card
unfolding wrong_card
wrong_read room card = simp (comment_read card, first_read card, numbers_read card, all_read card, right_read card)

after_read : (house : House) (r : Reading) (card : List ℕ) → after_card house r (columns_read card) ≡ after_card house r card
unfolding after_card
after_read house r card = simp (comment_read card, first_read card, text_read card, number_read card)

-- The outcome is that of the cards with columns 1-72 alone.
pub never_read : (house : House) (place : ℕ) (r : Reading) (cards : List (List ℕ)) → card_by_card house place r (map columns_read cards) ≡ card_by_card house place r cards
never_read house place r [] = refl
never_read house place r (card ∷ cards) =
    simp (wrong_read r.room card, after_read house r card, never_read house (suc place) (after_card house r card) cards)

-- Decks of one length that agree in columns 1-72 of every card have one outcome.
pub columns_73_80 : (house : House) (deck deck' : List ℕ) → length deck ≡ length deck' → map columns_read (cards_of deck) ≡ map columns_read (cards_of deck') → carded house deck ≡ carded house deck'
unfolding carded right_length
columns_73_80 house deck deck' l e =
    let c : card_by_card house 1 nothing_read (cards_of deck) ≡ card_by_card house 1 nothing_read (cards_of deck') =
    sym (never_read house 1 nothing_read (cards_of deck)) ∙ ap (card_by_card house 1 nothing_read) e ∙ never_read house 1 nothing_read (cards_of deck') in
    simp (l, c)
