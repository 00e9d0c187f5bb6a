-- The draft of a deck, as functions of the deck: rows, jumps, DOs' places and what has cells.
-- Assumes nothing.
use mathlib.Core.Path.{◌≡◌, refl, sym, ap, ◌∙◌}
use Prim.Native.Nat.{ℕ, suc, ◌+◌, ◌*◌}
use native.Mathlib.Nat.{zero-add, add-zero}
use native.Mathlib.Omega.{arith}
use mathlib.Core.List.{List, [], ◌∷◌, ◌++◌, append-nil, append_assoc}
use lib.ListN.{length, length-append}
use Rattle.rules_text.specs.Trees.{Statement}
use Rattle.rules_deck.specs.Translation.{held_from, held_of}
use Rattle.take_draft.specs.Draft.{jump_words, row_words, loop_words, Draft, no_draft, drafts, draft_from, draft_of}
use Rattle.take_draft.specs.Sketch.{deck_rows, deck_jumps, loops_from}

-- ---- statement after statement

pub draft_append : (q : ℕ) (a b : List Statement) (D : Draft) → draft_from q (a ++ b) D ≡ draft_from (q + length a) b (draft_from q a D)
draft_append q [] b D = ap (λ (n : ℕ). draft_from n b D) (sym (add-zero q))
draft_append q (s ∷ a) b D =
    let n : suc q + length a ≡ q + suc (length a) = omega arith in
    draft_append (suc q) a b (drafts q s D) ∙ ap (λ (m : ℕ). draft_from m b (draft_from (suc q) a (drafts q s D))) n

pub draft_last : (q : ℕ) (deck : List Statement) (s : Statement) (D : Draft) → draft_from q (deck ++ (s ∷ [])) D ≡ drafts (q + length deck) s (draft_from q deck D)
draft_last q deck s D = draft_append q deck (s ∷ []) D

pub draft_next : (deck : List Statement) (s : Statement) → draft_of (deck ++ (s ∷ [])) ≡ drafts (length deck) s (draft_of deck)
unfolding draft_of
draft_next deck s = draft_last 0 deck s no_draft ∙ ap (λ (n : ℕ). drafts n s (draft_from 0 deck no_draft)) (zero-add (length deck))

-- ---- its parts

rows_from : (q : ℕ) (deck : List Statement) (D : Draft) → (draft_from q deck D).rows ≡ D.rows ++ deck_rows deck
unfolding drafts
rows_from q [] D = sym (append-nil D.rows)
rows_from q (s ∷ deck) D = rows_from (suc q) deck (drafts q s D) ∙ append_assoc D.rows (row_words s) (deck_rows deck)

pub draft_rows : (deck : List Statement) → (draft_of deck).rows ≡ deck_rows deck
unfolding draft_of
draft_rows deck = rows_from 0 deck no_draft

jumps_from : (q : ℕ) (deck : List Statement) (D : Draft) → (draft_from q deck D).jumps ≡ D.jumps ++ deck_jumps deck
unfolding drafts
jumps_from q [] D = sym (append-nil D.jumps)
jumps_from q (s ∷ deck) D = jumps_from (suc q) deck (drafts q s D) ∙ append_assoc D.jumps (jump_words s.form) (deck_jumps deck)

pub draft_jumps : (deck : List Statement) → (draft_of deck).jumps ≡ deck_jumps deck
unfolding draft_of
draft_jumps deck = jumps_from 0 deck no_draft

loops_from_lem : (q : ℕ) (deck : List Statement) (D : Draft) → (draft_from q deck D).loops ≡ D.loops ++ loops_from q (length D.jumps) deck
unfolding drafts
loops_from_lem q [] D = sym (append-nil D.loops)
loops_from_lem q (s ∷ deck) D =
    let j = length-append D.jumps (jump_words s.form) in
    let w = loop_words q (length D.jumps) s.form in
    loops_from_lem (suc q) deck (drafts q s D) ∙ ap (λ (n : ℕ). (D.loops ++ w) ++ loops_from (suc q) n deck) j ∙
    append_assoc D.loops w (loops_from (suc q) (length D.jumps + length (jump_words s.form)) deck)

pub draft_loops : (deck : List Statement) → (draft_of deck).loops ≡ loops_from 0 0 deck
unfolding draft_of
draft_loops deck = loops_from_lem 0 deck no_draft

held_from_lem : (q : ℕ) (deck : List Statement) (D : Draft) → (draft_from q deck D).held ≡ held_from q deck D.held
unfolding drafts
held_from_lem q [] D = refl
held_from_lem q (s ∷ deck) D = held_from_lem (suc q) deck (drafts q s D)

pub draft_held : (deck : List Statement) → (draft_of deck).held ≡ held_of deck
unfolding draft_of held_of
draft_held deck = held_from_lem 0 deck no_draft

-- ---- how many

pub rows_count : (deck : List Statement) → length (deck_rows deck) ≡ 5 * length deck
rows_count [] = refl
rows_count (s ∷ deck) = let h = rows_count deck in omega arith
