-- The lines of a deck, one statement more.
-- Assumes nothing.
use mathlib.Core.Path.{◌≡◌, refl, sym, ap, ◌∙◌}
use Prim.Native.Nat.{ℕ, suc, ◌+◌, ◌*◌, ◌≤◌, ◌<◌, ◌^◌}
use native.Mathlib.Omega.{arith}
use native.Mathlib.Nat.{zero-add, add-zero}
use native.Mathlib.Numerals.{add-one}
use mathlib.Core.Bool.{Bool, true, false, not, cond}
use mathlib.Core.List.{List, [], ◌∷◌, ◌++◌, map}
use mathlib.Core.Option.{some}
use lib.Dec.{eqb}
use lib.ListN.{length, take, get_or, get_elem?}
use lib.Seq.{length-take-le, take-length}
use Rattle.rules_shared.specs.House.{House}
use Rattle.rules_object.specs.Object.{Line}
use Rattle.rules_object.specs.Bytes.{concat, line_words}
use Rattle.rules_text.specs.Trees.{Form, assign, go_to, computed, ifs, loop, continue, stop, end, dimension, Statement}
use Rattle.rules_deck.specs.Translation.{address_at, executable, lines_from}
use Rattle.rules_deck.proofs.TestLaws.{at_before}
use Rattle.rules_deck.proofs.Addresses.{at_some}
use Rattle.take_draft.specs.Draft.{kind_of}
use Rattle.read_items.specs.Parsed.{Put}
use Rattle.final_entries.specs.Lines.{line_of}
use Rattle.final_addresses.specs.Given.{Rows, Starts, Holds}
use Rattle.final_addresses.proofs.Told.{row_number, row_kind}
use Rattle.final_addresses.proofs.Lasts.{take_more}
use Rattle.final_addresses.proofs.Holding.{holds_more, holds_as, concat_append, map_append}

-- DIMENSION alone is no line
executable_kind : (f : Form) → executable f ≡ not (eqb (kind_of f) 8)
executable_kind (assign t e) = refl
executable_kind (go_to n) = refl
executable_kind (computed ns v) = refl
executable_kind (ifs e a b c) = refl
executable_kind (loop n v p₁ p₂ p₃) = refl
executable_kind continue = refl
executable_kind stop = refl
executable_kind end = refl
executable_kind (dimension arrays) = refl

lines_append : (deck : List Statement) (q : ℕ) (a b : List Statement) → lines_from deck q (a ++ b) ≡ lines_from deck q a ++ lines_from deck (q + length a) b
lines_append deck q [] b = ap (λ (p : ℕ). lines_from deck p b) (sym (add-zero q))
lines_append deck q (s ∷ a) b =
    let n : suc q + length a ≡ q + suc (length a) = omega arith in
    go (executable s.form) (lines_append deck (suc q) a b ∙ ap (λ (p : ℕ). lines_from deck (suc q) a ++ lines_from deck p b) n)
  where
    go : (t : Bool) → lines_from deck (suc q) (a ++ b) ≡ lines_from deck (suc q) a ++ lines_from deck (q + suc (length a)) b
        → cond t (record { sequence = suc q; number = s.number; address = address_at deck q } ∷ lines_from deck (suc q) (a ++ b)) (lines_from deck (suc q) (a ++ b))
        ≡ cond t (record { sequence = suc q; number = s.number; address = address_at deck q } ∷ lines_from deck (suc q) a) (lines_from deck (suc q) a) ++ lines_from deck (q + suc (length a)) b
    go true h = ap (λ (l : List Line). record { sequence = suc q; number = s.number; address = address_at deck q } ∷ l) h
    go false h = h

-- the words of the lines of the first i statements
abbrev pub lines_to : List Statement → ℕ → List ℕ
lines_to deck i = concat (map line_words (lines_from deck 0 (take i deck)))

module _ {house : House} {deck : List Statement} {rows : List ℕ} {count : ℕ} (told : Rows house deck rows count) where
  pub number_small : (i : ℕ) → i < count → get_or rows (5 * i) 0 < 2 ^ 32
  number_small i h =
      let s = at_some deck i (omega (arith, told.counted)) in
      omega (arith, row_number told i s.0 s.1, (told.accepted.judged i s.0 s.1).number)

module _ {house : House} {deck : List Statement} {rows : List ℕ} {count : ℕ} {starts : List ℕ} (told : Rows house deck rows count) (at : Starts deck starts) where
  lines_more : (i : ℕ) (s : Statement) → get_elem? deck i ≡ some s
      → lines_to deck (i + 1) ≡ lines_to deck i ++ concat (map line_words (lines_from deck i (s ∷ [])))
  lines_more i s e =
      let l : length (take i deck) ≡ i = length-take-le i deck (omega (arith, at_before deck i e)) in
      ap (λ (n : ℕ). lines_to deck n) (add-one i)
      ∙ ap (λ (d : List Statement). concat (map line_words (lines_from deck 0 d))) (take_more deck i s e)
      ∙ ap (λ (ls : List Line). concat (map line_words ls)) (lines_append deck 0 (take i deck) (s ∷ []) ∙ ap (λ (n : ℕ). lines_from deck 0 (take i deck) ++ lines_from deck n (s ∷ [])) (zero-add (length (take i deck)) ∙ l))
      ∙ ap concat (map_append line_words (lines_from deck 0 (take i deck)) (lines_from deck i (s ∷ [])))
      ∙ concat_append (map line_words (lines_from deck 0 (take i deck))) (map line_words (lines_from deck i (s ∷ [])))

  one_line : (i : ℕ) (s : Statement) → get_elem? deck i ≡ some s → {number : ℕ} → number ≡ get_or rows (5 * i) 0
      → line_of (get_or rows (5 * i + 1) 0) (i + 1) number (get_or starts i 0) ≡ concat (map line_words (lines_from deck i (s ∷ [])))
  one_line i s e {number} is =
      let l = at_before deck i e in
      let ad = at.at i (omega arith) in
      let nu = is ∙ row_number told i s e in
      rw (row_kind told i s e, executable_kind s.form, ad, nu, add-one i) (go (eqb (kind_of s.form) 8))
    where
      go : (b : Bool) → cond b [] (suc i ∷ s.number ∷ address_at deck i ∷ [])
          ≡ concat (map line_words (cond (not b) (record { sequence = suc i; number = s.number; address = address_at deck i } ∷ []) []))
      go true = refl
      go false = refl

  -- one statement more
  pub lines_put : {a b : List ℕ} {n r number : ℕ} (i : ℕ) → i < count → number ≡ get_or rows (5 * i) 0
      → Put a b n (line_of (get_or rows (5 * i + 1) 0) (i + 1) number (get_or starts i 0)) r → Holds a n (lines_to deck i) → Holds b r (lines_to deck (i + 1))
  lines_put {a} {b} {n} {r} {number} i h is p held =
      let s = at_some deck i (omega (arith, told.counted)) in
      holds_as (ap (λ (l : List ℕ). lines_to deck i ++ l) (one_line i s.0 s.1 is) ∙ sym (lines_more i s.0 s.1)) (holds_more held p)

  pub lines_all : {a : List ℕ} {n : ℕ} (i : ℕ) → i ≡ count → Holds a n (lines_to deck i) → Holds a n (concat (map line_words (lines_from deck 0 deck)))
  lines_all i h held =
      holds_as (ap (λ (m : ℕ). lines_to deck m) (h ∙ told.counted) ∙ ap (λ (d : List Statement). concat (map line_words (lines_from deck 0 d))) (take-length deck)) held

pub line_short : (kind sequence number address : ℕ) → length (line_of kind sequence number address) ≤ 3
line_short kind sequence number address = go (eqb kind 8)
  where
    go : (b : Bool) → length (cond b [] (sequence ∷ number ∷ address ∷ [])) ≤ 3
    go true = omega arith
    go false = omega arith
