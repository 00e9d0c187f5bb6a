-- Every statement that is read has a number of five digits at most.
-- Assumes nothing.
use mathlib.Core.Path.{◌≡◌, refl, subst}
use Prim.Native.Nat.{ℕ, suc, ◌≤◌}
use mathlib.Core.List.{List, [], ◌∷◌}
use mathlib.Core.Option.{Option, none, some}
use Rattle.rules_shared.specs.Limits.{limits}
use Rattle.rules_shared.specs.House.{House}
use Rattle.rules_shared.specs.Refusals.{Refusal}
use Rattle.rules_text.specs.Trees.{Form, Statement}
use Rattle.rules_text.specs.Cards.{Punched, text_of, Carded, cards_refused, statements, carded}
use Rattle.rules_text.specs.Grammar.{form_of}
use Rattle.rules_deck.specs.Judge.{Taken, nothing_taken, takes, judge_form}
use Rattle.rules_deck.specs.Compile.{Read, not_read, read, with_statement, after_judging, after_reading, read_text, read_from, read_carded}
use Rattle.rules_text.proofs.CardsLaws.{RightStatement, statements_right}
use Rattle.rules_shared.specs.Lists.{Each, each_none, each_more}
use Rattle.whole_deck.specs.Whole.{LowNumber}

data Low : Read → Type 0 where
  refused : {r : Refusal} → Low (not_read r)
  low : {deck : List Statement} → Each LowNumber deck → Low (read deck)

with_statement_lem : (s : Statement) → LowNumber s → (rest : Read) → Low rest → Low (with_statement s rest)
with_statement_lem s n (not_read r) refused = refused
with_statement_lem s n (read deck) (low a) = low (each_more n a)

module _ (house : House) (q number : ℕ) (t : Taken) (n : number ≤ limits.statement_number) (rest : Taken → Read) (h : (u : Taken) → Low (rest u)) where
  after_judging_lem : (f : Form) (o : Option ℕ) → Low (after_judging q (record { number = number; form = f }) (rest (takes q f t)) o)
  after_judging_lem f (some refusal) = refused
  after_judging_lem f none = with_statement_lem (record { number = number; form = f }) n (rest (takes q f t)) (h (takes q f t))

  after_reading_lem : (o : Option Form) → Low (after_reading house q number t rest o)
  after_reading_lem none = refused
  after_reading_lem (some f) = after_judging_lem f (judge_form house q f t)

  read_text_lem : (text : List ℕ) → Low (read_text house q number t rest text)
  read_text_lem [] = refused
  read_text_lem (c ∷ text) = after_reading_lem (form_of (c ∷ text))

read_from_lem : (house : House) (q : ℕ) (t : Taken) (ps : List Punched) → Each (RightStatement house) ps → Low (read_from house q t ps)
read_from_lem house q t [] each_none = low each_none
read_from_lem house q t (p ∷ ps) (each_more r h) = read_text_lem house q p.number t r.number_small (λ u. read_from house (suc q) u ps) (λ u. read_from_lem house (suc q) u ps h) (text_of p.raw)

read_carded_lem : (house : House) (bytes : List ℕ) (c : Carded) → carded house bytes ≡ c → Low (read_carded house c)
read_carded_lem house bytes (cards_refused number place) e = refused
read_carded_lem house bytes (statements ps) e = read_from_lem house 0 nothing_taken ps (statements_right house bytes ps e)

all_low : {deck : List Statement} → Low (read deck) → Each LowNumber deck
all_low (low a) = a

pub numbered : (house : House) (bytes : List ℕ) (deck : List Statement) → read_carded house (carded house bytes) ≡ read deck → Each LowNumber deck
numbered house bytes deck e = all_low (subst Low e (read_carded_lem house bytes (carded house bytes) refl))
