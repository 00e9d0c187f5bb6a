-- 10 is given exactly where a statement's text spells no form.
-- Assumes nothing.
use mathlib.Core.Path.{◌≡◌, refl, sym, ap, ◌∙◌, subst}
use mathlib.Core.Logic.{◌↔◌}
use Prim.Native.Nat.{ℕ, suc, ◌+◌}
use native.Mathlib.Omega.{arith}
use mathlib.Core.Bool.{Bool, true, false}
use mathlib.Core.List.{List, [], ◌∷◌, ◌++◌}
use mathlib.Core.Option.{Option, none, some}
use lib.Dec.{leb}
use lib.ListN.{length}
use Rattle.rules_shared.specs.House.{House}
use Rattle.rules_object.specs.Bytes.{object_bytes}
use Rattle.rules_shared.specs.Refusals.{Refusal, refusal, no_room}
use Rattle.rules_shared.specs.Output.{written_if, write}
use Rattle.rules_text.specs.Trees.{Form, Statement}
use Rattle.rules_text.specs.Cards.{Punched, text_of, Carded, cards_refused, statements, carded}
use Rattle.rules_text.specs.Grammar.{form_of}
use Rattle.rules_deck.specs.Judge.{Taken, nothing_taken, takes, judge_form}
use Rattle.rules_deck.specs.Translation.{translate}
use Rattle.rules_deck.specs.Whole.{judge_deck}
use Rattle.rules_deck.specs.Compile.{Read, not_read, read, with_statement, after_judging, after_reading, read_text, read_from, read_carded, or_refuse, judge_read, deck_of, write_read, compiling}
use Rattle.rules_text.specs.Spelling.{Spells}
use Rattle.rules_deck.specs.Unspelled.{NoForm}
use Rattle.rules_deck.proofs.RefusedDeck.{NumberOther, RefusalOther, CardedOther, carded_other, judge_other, deck_other}
use Rattle.rules_text.proofs.Spellings.{none_spelled, none_read}

-- ---- where 10 is given, the text spells none

-- of the statements ps, the first at position q with t taken before it, the one whose sequence number is the place
record NoneAt (house : House) (q : ℕ) (t : Taken) (ps : List Punched) (place : ℕ) : Type 0 where
  before : List Punched
  statement : Punched
  after : List Punched
  are : ps ≡ before ++ statement ∷ after
  there : place ≡ suc (q + length before)
  passed : List Statement
  passes : read_from house q t before ≡ read passed
  written : text_of statement.raw ≡ [] → ⊥
  spelled : (f : Form) → Spells (text_of statement.raw) f → ⊥

abbrev Ten : House → ℕ → Taken → List Punched → Read → Type 0
Ten house q t ps (not_read r) = r.number ≡ 10 → NoneAt house q t ps r.place
Ten house q t ps (read deck) = Unit {0}

some_text : {c : ℕ} {text : List ℕ} → c ∷ text ≡ [] → ⊥
some_text e = let clash : ◌≡◌ {A = ℕ} 0 1 = cc in omega arith

-- a statement that passes leaves 10 to those after it
module _ (house : House) (q : ℕ) (t : Taken) (p : Punched) (ps : List Punched) (c : ℕ) (text : List ℕ) (is : text_of p.raw ≡ c ∷ text) where
  module _ (f : Form) (reads : form_of (c ∷ text) ≡ some f) where
    abbrev s : Statement
    s = record { number = p.number; form = f }

    later : (x : Read) → judge_form house q f t ≡ none → Ten house (suc q) (takes q f t) ps x → Ten house q t (p ∷ ps) (with_statement s x)
    later (read deck) j h = tt
    later (not_read r) j h = λ e.
        let n = h e in
        let rest : Taken → Read = λ u. read_from house (suc q) u n.before in
        let there = n.there in
        record {
          before = p ∷ n.before;
          statement = n.statement;
          after = n.after;
          are = ap (λ (l : List Punched). p ∷ l) n.are;
          there = omega arith;
          passed = s ∷ n.passed;
          passes = ap (read_text house q p.number t rest) is
              ∙ ap (after_reading house q p.number t rest) reads
              ∙ ap (after_judging q s (rest (takes q f t))) j
              ∙ ap (with_statement s) n.passes;
          written = n.written;
          spelled = n.spelled;
        }

    judging_ten : (o : Option ℕ) → judge_form house q f t ≡ o → NumberOther o → Ten house (suc q) (takes q f t) ps (read_from house (suc q) (takes q f t) ps)
        → Ten house q t (p ∷ ps) (after_judging q s (read_from house (suc q) (takes q f t) ps) o)
    judging_ten none j n h = later (read_from house (suc q) (takes q f t) ps) j h
    judging_ten (some number) j n h = λ e. absurd (n.2 e)

  reading_ten : (o : Option Form) → form_of (c ∷ text) ≡ o → ((u : Taken) → Ten house (suc q) u ps (read_from house (suc q) u ps))
      → Ten house q t (p ∷ ps) (after_reading house q p.number t (λ u. read_from house (suc q) u ps) o)
  reading_ten none e h = λ x.
      record {
        before = [];
        statement = p;
        after = ps;
        are = refl;
        there = omega arith;
        passed = [];
        passes = refl;
        written = λ w. some_text (sym is ∙ w);
        spelled = λ f s. none_spelled (c ∷ text) e f (subst (λ (w : List ℕ). Spells w f) is s);
      }
  reading_ten (some f) e h = judging_ten f e (judge_form house q f t) refl (judge_other house q f t) (h (takes q f t))

from_ten : (house : House) (q : ℕ) (t : Taken) (ps : List Punched) → Ten house q t ps (read_from house q t ps)
from_ten house q t [] = tt
from_ten house q t (p ∷ ps) = by (text_of p.raw) refl (λ u. from_ten house (suc q) u ps)
  where
    by : (text : List ℕ) → text_of p.raw ≡ text → ((u : Taken) → Ten house (suc q) u ps (read_from house (suc q) u ps))
        → Ten house q t (p ∷ ps) (read_text house q p.number t (λ u. read_from house (suc q) u ps) text)
    by [] e h = λ x. absurd (omega arith)
    by (c ∷ text) e h = reading_ten house q t p ps c text e (form_of (c ∷ text)) refl h

refused_ten : (house : House) (deck : List ℕ) (q : ℕ) → deck_of house deck ≡ not_read (refusal 10 (suc q) 0) → NoForm house deck q
unfolding deck_of
refused_ten house deck q e = by_cards (carded house deck) refl (carded_other house deck) e
  where
    by_deck : (ss : List Statement) (o : Option Refusal) → RefusalOther o → or_refuse ss o ≡ not_read (refusal 10 (suc q) 0) → ⊥
    by_deck ss none h f = let clash : ◌≡◌ {A = ℕ} 0 1 = cc in omega arith
    by_deck ss (some x) h f = let same : x ≡ refusal 10 (suc q) 0 = cc in h.2 (ap (λ (y : Refusal). y.number) same)

    by_read : (ps : List Punched) → carded house deck ≡ statements ps → (x : Read) → Ten house 0 nothing_taken ps x → judge_read x ≡ not_read (refusal 10 (suc q) 0) → NoForm house deck q
    by_read ps is (not_read x) h f =
        let same : x ≡ refusal 10 (suc q) 0 = cc in
        let number : x.number ≡ 10 = ap (λ (y : Refusal). y.number) same in
        let place : x.place ≡ suc q = ap (λ (y : Refusal). y.place) same in
        let n = h number in
        let there = n.there in
        record {
          before = n.before;
          statement = n.statement;
          after = n.after;
          cards = is ∙ ap statements n.are;
          position = omega arith;
          passed = n.passed;
          passes = n.passes;
          written = n.written;
          spelled = n.spelled;
        }
    by_read ps is (read ss) h f = absurd (by_deck ss (judge_deck ss) (deck_other ss) f)

    by_cards : (c : Carded) → carded house deck ≡ c → CardedOther c → judge_read (read_carded house c) ≡ not_read (refusal 10 (suc q) 0) → NoForm house deck q
    by_cards (cards_refused number place) is h f =
        let same : refusal number place 0 ≡ refusal 10 (suc q) 0 = cc in
        absurd (h.2 (ap (λ (y : Refusal). y.number) same))
    by_cards (statements ps) is h f = by_read ps is (read_from house 0 nothing_taken ps) (from_ten house 0 nothing_taken ps) f

-- ---- where the text spells none, 10 is given

not_both : {r : Refusal} {deck : List Statement} → not_read r ≡ read deck → ⊥
not_both e =
    let clash : ◌≡◌ {A = ℕ} 0 1 = cc in
    omega arith

-- a statement that passes leaves the answer to those after it
module _ (house : House) (q number : ℕ) (t : Taken) (rest rest' : Taken → Read) (r : Refusal) (h : (u : Taken) (deck : List Statement) → rest u ≡ read deck → rest' u ≡ not_read r) where
  passed : (s : Statement) (u : Taken) (x : Read) (deck : List Statement) → rest u ≡ x → with_statement s x ≡ read deck → with_statement s (rest' u) ≡ not_read r
  passed s u (not_read y) deck is e = absurd (not_both e)
  passed s u (read d) deck is e = ap (with_statement s) (h u d is)

  judged : (s : Statement) (u : Taken) (o : Option ℕ) (deck : List Statement) → after_judging q s (rest u) o ≡ read deck → after_judging q s (rest' u) o ≡ not_read r
  judged s u none deck e = passed s u (rest u) deck refl e
  judged s u (some n) deck e = absurd (not_both e)

  formed : (o : Option Form) (deck : List Statement) → after_reading house q number t rest o ≡ read deck → after_reading house q number t rest' o ≡ not_read r
  formed none deck e = absurd (not_both e)
  formed (some f) deck e = judged _ (takes q f t) (judge_form house q f t) deck e

  texted : (text : List ℕ) (deck : List Statement) → read_text house q number t rest text ≡ read deck → read_text house q number t rest' text ≡ not_read r
  texted [] deck e = absurd (not_both e)
  texted (c ∷ text) deck e = formed (form_of (c ∷ text)) deck e

module _ (house : House) (p : Punched) (after : List Punched) (written : text_of p.raw ≡ [] → ⊥) (spelled : (f : Form) → Spells (text_of p.raw) f → ⊥) where
  -- a text that spells no form is refused 10, whatever stands before and after it
  text_refused : (q number : ℕ) (t : Taken) (rest : Taken → Read) → read_text house q number t rest (text_of p.raw) ≡ not_read (refusal 10 (suc q) 0)
  text_refused q number t rest = by (text_of p.raw) written spelled
    where
      by : (text : List ℕ) → (text ≡ [] → ⊥) → ((f : Form) → Spells text f → ⊥) → read_text house q number t rest text ≡ not_read (refusal 10 (suc q) 0)
      by [] w s = absurd (w refl)
      by (c ∷ text) w s = ap (after_reading house q number t rest) (none_read (c ∷ text) s)

  given_ten : (q : ℕ) (t : Taken) (before : List Punched) (deck : List Statement) → read_from house q t before ≡ read deck
      → read_from house q t (before ++ p ∷ after) ≡ not_read (refusal 10 (suc (q + length before)) 0)
  given_ten q t [] deck e =
      let here : q ≡ q + 0 = omega arith in
      text_refused q p.number t (λ u. read_from house (suc q) u after) ∙ ap (λ (n : ℕ). not_read (refusal 10 (suc n) 0)) here
  given_ten q t (b ∷ before) deck e =
      let here : suc q + length before ≡ q + suc (length before) = omega arith in
      texted house q b.number t (λ u. read_from house (suc q) u before) (λ u. read_from house (suc q) u (before ++ p ∷ after)) _
      (λ u d f. given_ten (suc q) u before d f) (text_of b.raw) deck e
      ∙ ap (λ (n : ℕ). not_read (refusal 10 (suc n) 0)) here

gives_ten : (house : House) (deck : List ℕ) (q : ℕ) → NoForm house deck q → deck_of house deck ≡ not_read (refusal 10 (suc q) 0)
unfolding deck_of
gives_ten house deck q n =
    let here : 0 + length n.before ≡ q = omega (arith, n.position) in
    ap (λ (x : Carded). judge_read (read_carded house x)) n.cards
    ∙ ap judge_read (given_ten house n.statement n.after n.written n.spelled 0 nothing_taken n.before n.passed n.passes)
    ∙ ap (λ (m : ℕ). not_read (refusal 10 (suc m) 0)) here

-- ---- the call

-- A DECK IS REFUSED 10 EXACTLY AT A STATEMENT WHOSE TEXT SPELLS NO FORM
pub ten_exactly : (house : House) (deck output : List ℕ) (q : ℕ) → ((compiling house deck output).refusal ≡ refusal 10 (suc q) 0) ↔ NoForm house deck q
unfolding compiling write
ten_exactly house deck output q = (λ e. refused_ten house deck q (unread (deck_of house deck) refl e), λ n. ap (λ (x : Read). (write_read house output x).refusal) (gives_ten house deck q n))
  where
    not_written_lem : (b : Bool) (bytes : List ℕ) → (written_if no_room b bytes output).refusal ≡ refusal 10 (suc q) 0 → ⊥
    not_written_lem true bytes e = let number : ◌≡◌ {A = ℕ} 0 10 = ap (λ (y : Refusal). y.number) e in omega arith
    not_written_lem false bytes e = let number : ◌≡◌ {A = ℕ} 30 10 = ap (λ (y : Refusal). y.number) e in omega arith

    unread : (x : Read) → deck_of house deck ≡ x → (write_read house output x).refusal ≡ refusal 10 (suc q) 0 → deck_of house deck ≡ not_read (refusal 10 (suc q) 0)
    unread (not_read r) is e = is ∙ ap not_read e
    unread (read ss) is e = absurd (not_written_lem (leb (length (object_bytes (translate house ss))) (length output)) (object_bytes (translate house ss)) e)
