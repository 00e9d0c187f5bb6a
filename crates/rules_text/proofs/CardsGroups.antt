-- The statements are their cards grouped: a first card's text, then that of the continuations up to the next first card.
-- Assumes nothing.
use Prim.Native.Nat.{ℕ, suc}
use mathlib.Core.Path.{◌≡◌, refl, sym, ap, ◌∙◌, subst}
use mathlib.Core.Bool.{cond}
use mathlib.Core.List.{List, [], ◌∷◌, ◌++◌, append-nil, append_assoc}
use lib.Dec.{leb, eqb}
use lib.ListN.{length}
use lib.Seq.{append_snoc}
use borrow.Author.Tests.{eqb-true}
use Rattle.rules_shared.specs.Limits.{limits}
use Rattle.rules_shared.specs.House.{House}
use Rattle.rules_text.specs.Cards.{cards_of, text_columns, Punched, number_of, Reading, nothing_read, wrong_card, started, extended, after_card, Carded, cards_refused, statements, card_by_card, right_digits, right_length, counted, carded, following, grouped}
use Rattle.rules_text.proofs.CardsLaws.{Stands, as_comment, as_first, as_continuation, stands, cases}

-- ---- putting text after the last statement

extended_nil : (ps : List Punched) → extended ps [] ≡ ps
extended_nil [] = refl
extended_nil (p ∷ []) = ap (λ (t : List ℕ). record { number = p.number; raw = t } ∷ []) (append-nil p.raw)
extended_nil (p ∷ q ∷ ps) = ap (λ (l : List Punched). p ∷ l) (extended_nil (q ∷ ps))

extended_last : (ps : List Punched) (p : Punched) (t : List ℕ) → extended (ps ++ (p ∷ [])) t ≡ ps ++ (record { number = p.number; raw = p.raw ++ t } ∷ [])
extended_last [] p t = refl
extended_last (q ∷ []) p t = refl
extended_last (q ∷ r ∷ ps) p t = ap (λ (l : List Punched). q ∷ l) (extended_last (r ∷ ps) p t)

extended_twice : (ps : List Punched) (t u : List ℕ) → extended (extended ps t) u ≡ extended ps (t ++ u)
extended_twice [] t u = refl
extended_twice (p ∷ []) t u = ap (λ (s : List ℕ). record { number = p.number; raw = s } ∷ []) (append_assoc p.raw t u)
extended_twice (p ∷ q ∷ []) t u = ap (λ (l : List Punched). p ∷ l) (extended_twice (q ∷ []) t u)
extended_twice (p ∷ q ∷ r ∷ ps) t u = ap (λ (l : List Punched). p ∷ l) (extended_twice (q ∷ r ∷ ps) t u)

-- ---- card by card

-- what the cards still to come make of what is read
abbrev made : Reading → List (List ℕ) → List Punched
made r cards = extended r.begun (following cards) ++ grouped cards

made_first : (house : House) (r : Reading) (card : List ℕ) (cards : List (List ℕ)) → made (started house r card) cards ≡ extended r.begun [] ++ (record { number = number_of card; raw = text_columns card ++ following cards } ∷ grouped cards)
made_first house r card cards =
    let p : Punched = record { number = number_of card; raw = text_columns card } in
    let q : Punched = record { number = number_of card; raw = text_columns card ++ following cards } in
    ap (λ (l : List Punched). l ++ grouped cards) (extended_last r.begun p (following cards))
    ∙ append_snoc r.begun q (grouped cards) ∙ ap (λ (l : List Punched). l ++ (q ∷ grouped cards)) (sym (extended_nil r.begun))

made_after : (house : House) (r : Reading) (card : List ℕ) (cards : List (List ℕ)) → Stands r.room card → made (after_card house r card) cards ≡ made r (card ∷ cards)
unfolding after_card
made_after house r card cards (as_comment c) = simp c
made_after house r card cards (as_first c f a n) = simp (c, f, made_first house r card cards)
made_after house r card cards (as_continuation c f a b z) = simp (c, f, extended_twice r.begun (text_columns card) (following cards))

data Makes (ps : List Punched) : Carded → Type 0 where
  refused : {number place : ℕ} → Makes ps (cards_refused number place)
  same : {qs : List Punched} → qs ≡ ps → Makes ps (statements qs)

makes : (house : House) (place : ℕ) (r : Reading) (cards : List (List ℕ)) → Makes (made r cards) (card_by_card house place r cards)
makes house place r [] = same (sym (append-nil (extended r.begun []) ∙ extended_nil r.begun))
makes house place r (card ∷ cards) =
    cases (Makes (made r (card ∷ cards))) (eqb (wrong_card r.room card) 0) (card_by_card house (suc place) (after_card house r card) cards) (cards_refused (wrong_card r.room card) place)
    (λ e. subst (λ (ps : List Punched). Makes ps (card_by_card house (suc place) (after_card house r card) cards)) (made_after house r card cards (stands r.room card (eqb-true (wrong_card r.room card) 0 e)))
    (makes house (suc place) (after_card house r card) cards))
    (λ e. refused)

-- ---- the whole deck

makes_counted : {ps : List Punched} {o : Carded} → Makes ps o → Makes ps (counted o)
makes_counted refused = refused
makes_counted (same {qs = qs} e) = cases (Makes _) (leb (length qs) limits.statements) (statements qs) (cards_refused 7 0) (λ l. same e) (λ l. refused)

makes_deck : (house : House) (deck : List ℕ) → Makes (grouped (cards_of deck)) (carded house deck)
unfolding carded
makes_deck house deck =
    cases (Makes (grouped (cards_of deck))) (right_digits house) (cond (right_length deck) (counted (card_by_card house 1 nothing_read (cards_of deck))) (cards_refused 2 0)) (cards_refused 1 0)
    (λ d. cases (Makes (grouped (cards_of deck))) (right_length deck) (counted (card_by_card house 1 nothing_read (cards_of deck))) (cards_refused 2 0)
    (λ l. makes_counted (makes house 1 nothing_read (cards_of deck))) (λ l. refused))
    (λ d. refused)

made_same : {ps qs : List Punched} → Makes ps (statements qs) → qs ≡ ps
made_same (same e) = e

-- Of a deck that is not refused, the statements are its cards grouped.
pub statements_grouped : (house : House) (deck : List ℕ) (ps : List Punched) → carded house deck ≡ statements ps → ps ≡ grouped (cards_of deck)
statements_grouped house deck ps e = made_same (subst (Makes (grouped (cards_of deck))) e (makes_deck house deck))
