-- A deck that compiling reads is accepted: each statement passed 10 to 18 at its position, and the whole 20 to 25.
-- Assumes nothing.
use mathlib.Core.Path.{◌≡◌, refl, sym, ap, subst}
use Prim.Native.Nat.{ℕ, zero, suc, ◌+◌, ◌≤◌}
use native.Mathlib.Nat.{zero-add, add-zero}
use native.Mathlib.Omega.{arith}
use mathlib.Core.Bool.{Bool, true, false, cond}
use mathlib.Core.List.{List, [], ◌∷◌}
use mathlib.Core.Option.{Option, none, some}
use lib.ListN.{length, get_elem?, take}
use Rattle.rules_shared.specs.Limits.{limits}
use Rattle.rules_shared.specs.House.{House}
use Rattle.rules_shared.specs.Refusals.{Refusal}
use Rattle.rules_shared.specs.Lists.{Each, each_none, each_more}
use Rattle.rules_text.specs.Trees.{Form, Statement}
use Rattle.rules_text.specs.Cards.{characters, Punched, text_of, Carded, cards_refused, statements, carded, right_digits}
use Rattle.rules_deck.specs.Lawful.{Lawful}
use Rattle.rules_text.specs.Grammar.{form_of}
use Rattle.rules_deck.specs.Judge.{Taken, nothing_taken, takes, wrong, right11, right12, right13, right14, right15, right16, right18, judge_form}
use Rattle.rules_deck.specs.Whole.{judge_deck}
use Rattle.rules_deck.specs.Compile.{Read, not_read, read, with_statement, after_judging, after_reading, read_text, read_from, read_carded, or_refuse, judge_read, deck_of}
use Rattle.rules_deck.specs.Accepted.{taken_from, taken_before, JudgedAt, Accepted}
use Rattle.rules_text.proofs.CardsLaws.{TextCharacter, text_limit, RightStatement, statements_right, statements_few}
use Rattle.rules_deck.proofs.TestLaws.{clash, else_both, not_wrong}
use Rattle.rules_deck.proofs.TakenLaws.{before_next}

-- ---- one statement, with what those before it had taken

record Passed (house : House) (q : ℕ) (t : Taken) (s : Statement) : Type 0 where
  text : List ℕ
  short : length text ≤ text_limit house
  written : characters text ≡ true
  form : form_of text ≡ some s.form
  judged : judge_form house q s.form t ≡ none
  number : s.number ≤ limits.statement_number

data From (house : House) : ℕ → Taken → List Statement → Type 0 where
  nothing : {q : ℕ} {t : Taken} → From house q t []
  passed : {q : ℕ} {t : Taken} {s : Statement} {deck : List Statement} → Passed house q t s → From house (suc q) (takes q s.form t) deck → From house q t (s ∷ deck)

data FromRead (house : House) (q : ℕ) (t : Taken) (n : ℕ) : Read → Type 0 where
  refused : {r : Refusal} → FromRead house q t n (not_read r)
  is : {deck : List Statement} → From house q t deck → length deck ≡ n → FromRead house q t n (read deck)

all_characters : {s : List ℕ} → Each TextCharacter s → characters s ≡ true
all_characters each_none = refl
all_characters (each_more p h) = rw p.is (all_characters h)

module _ (house : House) (q : ℕ) (t : Taken) (p : Punched) (right : RightStatement house p) (n : ℕ) where
  with_statement_lem : (f : Form) → form_of (text_of p.raw) ≡ some f → judge_form house q f t ≡ none → (rest : Read) → FromRead house (suc q) (takes q f t) n rest →
      FromRead house q t (suc n) (with_statement (record { number = p.number; form = f }) rest)
  with_statement_lem f e j (not_read r) refused = refused
  with_statement_lem f e j (read deck) (is h l) =
      is (passed (record { text = text_of p.raw; short = right.text_short; written = all_characters right.text_characters; form = e; judged = j; number = right.number_small }) h)
      (ap suc l)

  after_judging_lem : (f : Form) → form_of (text_of p.raw) ≡ some f → (rest : Read) → FromRead house (suc q) (takes q f t) n rest → (o : Option ℕ) → judge_form house q f t ≡ o →
      FromRead house q t (suc n) (after_judging q (record { number = p.number; form = f }) rest o)
  after_judging_lem f e rest h (some number) j = refused
  after_judging_lem f e rest h none j = with_statement_lem f e j rest h

  after_reading_lem : (rest : Taken → Read) → ((u : Taken) → FromRead house (suc q) u n (rest u)) → (o : Option Form) → form_of (text_of p.raw) ≡ o →
      FromRead house q t (suc n) (after_reading house q p.number t rest o)
  after_reading_lem rest h none e = refused
  after_reading_lem rest h (some f) e = after_judging_lem f e (rest (takes q f t)) (h (takes q f t)) (judge_form house q f t) refl

  read_text_lem : (rest : Taken → Read) → ((u : Taken) → FromRead house (suc q) u n (rest u)) → (text : List ℕ) → text_of p.raw ≡ text →
      FromRead house q t (suc n) (read_text house q p.number t rest text)
  read_text_lem rest h [] e = refused
  read_text_lem rest h (c ∷ text) e = after_reading_lem rest h (form_of (c ∷ text)) (ap form_of e)

read_from_lem : (house : House) (q : ℕ) (t : Taken) (ps : List Punched) → Each (RightStatement house) ps → FromRead house q t (length ps) (read_from house q t ps)
read_from_lem house q t [] each_none = is nothing refl
read_from_lem house q t (p ∷ ps) (each_more r h) = read_text_lem house q t p r (length ps) _ (λ u. read_from_lem house (suc q) u ps h) (text_of p.raw) refl

passed_at : {house : House} {q : ℕ} {t : Taken} (deck : List Statement) → From house q t deck → (j : ℕ) (s : Statement) → get_elem? deck j ≡ some s →
    Passed house (q + j) (taken_from q (take j deck) t) s
passed_at [] nothing j s e = absurd (clash (sym e))
passed_at {house} {q} {t} (x ∷ deck) (passed p h) zero s e =
    let same : x ≡ s = cc in
    rw (add-zero q, ← same) p
passed_at {house} {q} {t} (x ∷ deck) (passed p h) (suc j) s e =
    let n : q + suc j ≡ suc q + j = omega arith in
    rw n (passed_at {q = suc q} {t = takes q x.form t} deck h j s e)

judged_at : {house : House} {deck : List Statement} (q : ℕ) (s : Statement) → get_elem? deck q ≡ some s → Passed house q (taken_before deck q) s → JudgedAt house deck q s
unfolding judge_form
judged_at {house} {deck} q s e p =
    let f = s.form in
    let t = taken_before deck q in
    let a = else_both (wrong (right11 house f) 11) _ p.judged in
    let b = else_both (wrong (right12 house f) 12) _ a.1 in
    let c = else_both (wrong (right13 house f) 13) _ b.1 in
    let d = else_both (wrong (right14 f) 14) _ c.1 in
    let g = else_both (wrong (right15 house t.held f) 15) _ d.1 in
    let h = else_both (wrong (right16 t.held f) 16) _ g.1 in
    record {
      text = p.text;
      short = p.short;
      written = p.written;
      form = p.form;
      passes11 = not_wrong (right11 house f) 11 a.0;
      passes12 = not_wrong (right12 house f) 12 b.0;
      passes13 = not_wrong (right13 house f) 13 c.0;
      passes14 = not_wrong (right14 f) 14 d.0;
      passes15 = not_wrong (right15 house t.held f) 15 g.0;
      passes16 = not_wrong (right16 t.held f) 16 h.0;
      passes18 = subst (λ (u : Taken). right18 u ≡ true) (sym (before_next deck q s e)) (not_wrong (right18 (takes q f t)) 18 h.1);
      number = p.number;
    }

-- ---- the stages

data Digited (house : House) : Carded → Type 0 where
  refused : {number place : ℕ} → Digited house (cards_refused number place)
  digited : {ps : List Punched} → right_digits house ≡ true → Digited house (statements ps)

digited_any : (house : House) → right_digits house ≡ true → (c : Carded) → Digited house c
digited_any house e (cards_refused number place) = refused
digited_any house e (statements ps) = digited e

digited_carded : (house : House) (bytes : List ℕ) → Digited house (carded house bytes)
unfolding carded
digited_carded house bytes = go (right_digits house) refl _
  where
    go : (b : Bool) → right_digits house ≡ b → (c : Carded) → Digited house (cond b c (cards_refused 1 0))
    go true e c = digited_any house e c
    go false e c = refused

data AcceptedRead (house : House) : Read → Type 0 where
  refused : {r : Refusal} → AcceptedRead house (not_read r)
  whole : {deck : List Statement} → Accepted house deck → AcceptedRead house (read deck)

accepted_judged : (house : House) (n : ℕ) → Lawful house → right_digits house ≡ true → n ≤ limits.statements → (r : Read) → FromRead house 0 nothing_taken n r → AcceptedRead house (judge_read r)
unfolding taken_before
accepted_judged house n w d few (not_read r) refused = refused
accepted_judged house n w d few (read deck) (is h l) = go (judge_deck deck) refl
  where
    go : (o : Option Refusal) → judge_deck deck ≡ o → AcceptedRead house (or_refuse deck o)
    go (some r) e = refused
    go none e =
        whole {deck = deck} (record {
          lawful = w;
          digits = d;
          count = omega arith;
          judged = λ q s a. judged_at q s a (subst (λ (m : ℕ). Passed house m (taken_before deck q) s) (zero-add q) (passed_at deck h q s a));
          whole = e;
        })

accepted_read : (house : House) → Lawful house → (bytes : List ℕ) (c : Carded) → carded house bytes ≡ c → Digited house c → AcceptedRead house (judge_read (read_carded house c))
accepted_read house w bytes (cards_refused number place) e refused = refused
accepted_read house w bytes (statements ps) e (digited d) =
    accepted_judged house (length ps) w d (statements_few house bytes ps e) (read_from house 0 nothing_taken ps) (read_from_lem house 0 nothing_taken ps (statements_right house bytes ps e))

is_accepted : {house : House} {deck : List Statement} → AcceptedRead house (read deck) → Accepted house deck
is_accepted (whole a) = a

pub accepted : (house : House) → Lawful house → (bytes : List ℕ) (deck : List Statement) → deck_of house bytes ≡ read deck → Accepted house deck
unfolding deck_of
accepted house w bytes deck e = is_accepted (subst (AcceptedRead house) e (accepted_read house w bytes (carded house bytes) refl (digited_carded house bytes)))
