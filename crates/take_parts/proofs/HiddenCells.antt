-- A DO's hidden cells are the last of what its statement brings.
-- Assumes nothing.
use mathlib.Core.Path.{◌≡◌, refl, sym, ap, ◌∙◌}
use Prim.Native.Nat.{ℕ, suc, ◌+◌, ◌<◌}
use native.Mathlib.Omega.{arith}
use mathlib.Core.Bool.{Bool, true, false, ◌||◌, cond, false≢true}
use mathlib.Core.List.{List, [], ◌∷◌, ◌++◌, map}
use lib.Dec.{eqb}
use lib.ListN.{length}
use borrow.Author.Tests.{eq-eqb, ne_eqb}
use Rattle.rules_text.specs.Trees.{Name, Form, assign, go_to, computed, ifs, loop, continue, stop, end, dimension, Statement, Array}
use Rattle.rules_deck.specs.Deck.{declare, arrays_in}
use Rattle.rules_deck.specs.Translation.{Held, name, array, hidden, size, cell_count, is_the_name, is_hidden, first_cell, limit_of, holds, appear, form_plain, hidden_in}
use Rattle.take_draft.specs.Draft.{Draft, drafts, no_draft, draft_from, draft_of}
use Rattle.take_parts.specs.Fresh.{Fresh}

pub holds_both : (test : Held → Bool) (a b : List Held) → holds test (a ++ b) ≡ (holds test a || holds test b)
holds_both test [] b = refl
holds_both test (h ∷ a) b = go (test h) (holds_both test a b)
  where
    go : (t : Bool) → holds test (a ++ b) ≡ (holds test a || holds test b) → (t || holds test (a ++ b)) ≡ ((t || holds test a) || holds test b)
    go true e = refl
    go false e = e

neither : (test : Held → Bool) (a b : List Held) → holds test a ≡ false → holds test b ≡ false → holds test (a ++ b) ≡ false
neither test a b x y = holds_both test a b ∙ ap (λ (t : Bool). t || holds test b) x ∙ y

pub appear_fresh : (q : ℕ) (vs : List Name) (held : List Held) → holds (is_hidden q) held ≡ false → holds (is_hidden q) (appear held vs) ≡ false
appear_fresh q [] held e = e
appear_fresh q (v ∷ vs) held e = appear_fresh q vs (cond (holds (is_the_name v) held) held (held ++ (name v ∷ []))) (go (holds (is_the_name v) held))
  where
    go : (b : Bool) → holds (is_hidden q) (cond b held (held ++ (name v ∷ []))) ≡ false
    go true = e
    go false = neither (is_hidden q) held (name v ∷ []) e refl

pub limit_last : (q : ℕ) (held : List Held) → holds (is_hidden q) held ≡ false → limit_of (held ++ (hidden q ∷ [])) q ≡ cell_count held
unfolding limit_of
limit_last q [] e = let s : eqb q q ≡ true = eq-eqb q q refl in rw s
limit_last q (h ∷ held) e = go (is_hidden q h) refl (limit_last q held)
  where
    go : (b : Bool) → is_hidden q h ≡ b → (holds (is_hidden q) held ≡ false → first_cell (is_hidden q) (held ++ (hidden q ∷ [])) ≡ cell_count held)
        → cond (is_hidden q h) 0 (size h + first_cell (is_hidden q) (held ++ (hidden q ∷ []))) ≡ size h + cell_count held
    go true s r = absurd (false≢true (sym e ∙ ap (λ (t : Bool). t || holds (is_hidden q) held) s))
    go false s r =
        let rest : holds (is_hidden q) held ≡ false = ap (λ (t : Bool). t || holds (is_hidden q) held) (sym s) ∙ e in
        let i = r rest in
        rw s (ap (λ (n : ℕ). size h + n) i)

-- ---- fresh positions

arrays_fresh : (q : ℕ) (l : List Array) → holds (is_hidden q) (map (λ a. array (declare a)) l) ≡ false
arrays_fresh q [] = refl
arrays_fresh q (a ∷ l) = arrays_fresh q l

hidden_fresh : (p q : ℕ) (f : Form) → p < q → holds (is_hidden q) (hidden_in p f) ≡ false
hidden_fresh p q (assign t e) h = refl
hidden_fresh p q (go_to n) h = refl
hidden_fresh p q (computed ns v) h = refl
hidden_fresh p q (ifs e a b c) h = refl
hidden_fresh p q (loop n v i j k) h = let s : eqb p q ≡ false = ne_eqb p q (λ e. omega arith) in rw s
hidden_fresh p q continue h = refl
hidden_fresh p q stop h = refl
hidden_fresh p q end h = refl
hidden_fresh p q (dimension arrays) h = refl

pub fresh_none : Fresh 0 no_draft
fresh_none p h = refl

pub fresh_next : (q : ℕ) (s : Statement) (D : Draft) → Fresh q D → Fresh (suc q) (drafts q s D)
unfolding drafts
fresh_next q s D h p l =
    neither (is_hidden p) (appear D.held (form_plain s.form)) (hidden_in q s.form ++ map (λ a. array (declare a)) (arrays_in s.form))
    (appear_fresh p (form_plain s.form) D.held (h p (omega arith)))
    (neither (is_hidden p) (hidden_in q s.form) (map (λ a. array (declare a)) (arrays_in s.form)) (hidden_fresh q p s.form (omega arith)) (arrays_fresh p (arrays_in s.form)))

-- after a deck, its length is fresh
pub fresh_from : (q : ℕ) (deck : List Statement) (D : Draft) → Fresh q D → Fresh (q + length deck) (draft_from q deck D)
fresh_from q [] D h p l = h p (omega arith)
fresh_from q (s ∷ deck) D h p l = fresh_from (suc q) deck (drafts q s D) (fresh_next q s D h) p (omega arith)

pub fresh_deck : (deck : List Statement) → Fresh (length deck) (draft_of deck)
unfolding draft_of
fresh_deck deck p l = fresh_from 0 deck no_draft fresh_none p (omega arith)
