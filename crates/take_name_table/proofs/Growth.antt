-- What is held grows at its end: the table of names with it, and what is over a limit stays over it.
-- Assumes nothing.
use mathlib.Core.Path.{◌≡◌, refl, sym, ap, ◌∙◌, subst}
use Prim.Native.Nat.{ℕ, suc, ◌+◌, ◌*◌, ◌≤◌, ◌<◌}
use native.Mathlib.Omega.{arith}
use mathlib.Core.Logic.{◌⊎◌, inl, inr}
use mathlib.Core.Bool.{Bool, true, false, ◌&&◌, cond}
use mathlib.Core.List.{List, [], ◌∷◌, ◌++◌, append-nil}
use lib.Dec.{leb}
use lib.ListN.{take}
use borrow.Author.Tests.{leb-false, lt-leb}
use Rattle.rules_shared.specs.Limits.{limits}
use Rattle.rules_shared.specs.Lists.{Each, each_none}
use Rattle.rules_shared.proofs.EachLaws.{each_append}
use Rattle.rules_text.specs.Trees.{Name}
use Rattle.rules_deck.specs.Deck.{Declared}
use Rattle.rules_deck.specs.Translation.{Held, name, array, hidden, array_size, cell_count, is_the_name, holds, appear}
use Rattle.rules_deck.specs.Judge.{name_count}
use Rattle.rules_text.proofs.CardsLaws.{cases}
use Rattle.rules_deck.specs.Cells.{names_held, arrays_held}
use Rattle.rules_deck.proofs.MapNames.{names_append}
use Rattle.take_draft.specs.Names.{entry_words, held_words, Told, SomeRows, Lists, names_fit}
use Rattle.take_name_table.proofs.Tests.{and_false}

-- ---- counts, words and arrays of two lists

pub cells_append : (a b : List Held) → cell_count (a ++ b) ≡ cell_count a + cell_count b
cells_append [] b = omega arith
cells_append (h ∷ a) b = let e = cells_append a b in omega (arith, e)

pub count_append : (a b : List Held) → name_count (a ++ b) ≡ name_count a + name_count b
count_append [] b = omega arith
count_append (name v ∷ a) b = let e = count_append a b in omega (arith, e)
count_append (array x ∷ a) b = let e = count_append a b in omega (arith, e)
count_append (hidden q ∷ a) b = count_append a b

words_from : (b : List Held) (at at' : ℕ) → at ≡ at' → held_words at b ≡ held_words at' b
words_from b at at' e = ap (λ (x : ℕ). held_words x b) e

pub words_append : (a b : List Held) (at : ℕ) → held_words at (a ++ b) ≡ held_words at a ++ held_words (at + cell_count a) b
words_append [] b at = words_from b at (at + 0) (omega arith)
words_append (name v ∷ a) b at =
    ap (λ (l : List ℕ). entry_words v at 0 0 ++ l)
    (words_append a b (suc at) ∙ ap (λ (l : List ℕ). held_words (suc at) a ++ l) (words_from b (suc at + cell_count a) (at + (1 + cell_count a)) (omega arith)))
words_append (array x ∷ a) b at =
    ap (λ (l : List ℕ). entry_words x.name at x.dims.rows x.dims.columns ++ l)
    (words_append a b (at + array_size x.dims)
    ∙ ap (λ (l : List ℕ). held_words (at + array_size x.dims) a ++ l) (words_from b (at + array_size x.dims + cell_count a) (at + (array_size x.dims + cell_count a)) (omega arith)))
words_append (hidden q ∷ a) b at =
    words_append a b (at + 2)
    ∙ ap (λ (l : List ℕ). held_words (at + 2) a ++ l) (words_from b (at + 2 + cell_count a) (at + (2 + cell_count a)) (omega arith))

pub arrays_append : (a b : List Held) → arrays_held (a ++ b) ≡ arrays_held a ++ arrays_held b
arrays_append [] b = refl
arrays_append (name v ∷ a) b = arrays_append a b
arrays_append (array x ∷ a) b = ap (λ (l : List Declared). x ∷ l) (arrays_append a b)
arrays_append (hidden q ∷ a) b = arrays_append a b

-- ---- the table grows

pub lists_more : {held : List Held} {t t' : List ℕ} {n n' cells cells' : ℕ} (more : List Held) → Lists held t n cells → take (7 * n') t' ≡ take (7 * n) t ++ held_words cells more
    → n' ≡ n + name_count more → cells' ≡ cells + cell_count more → n' ≤ limits.names → cells' ≤ limits.cells → Each Told (names_held more) → Each SomeRows (arrays_held more)
    → Lists (held ++ more) t' n' cells'
lists_more {held} {t} {t'} {n} {n'} {cells} {cells'} more l w en ec fn fc told rows =
    record {
      words =
          w ∙ ap (λ (x : List ℕ). x ++ held_words cells more) l.words
          ∙ ap (λ (x : List ℕ). held_words 0 held ++ x) (words_from more cells (0 + cell_count held) (let e = l.cells_are in omega (arith, e)))
          ∙ sym (words_append held more 0);
      names_are = let a = l.names_are in let b = count_append held more in omega (arith, a, b, en);
      cells_are = let a = l.cells_are in let b = cells_append held more in omega (arith, a, b, ec);
      names_fit = fn;
      cells_fit = fc;
      told = subst (λ (x : List Name). Each Told x) (sym (names_append held more)) (each_append l.told told);
      rows = subst (λ (x : List Declared). Each SomeRows x) (sym (arrays_append held more)) (each_append l.rows rows);
    }

-- a DO's hidden cells only count
pub lists_hidden : {held : List Held} {t : List ℕ} {n cells : ℕ} (q : ℕ) → Lists held t n cells → cells + 2 ≤ 4096 → Lists (held ++ (hidden q ∷ [])) t n (cells + 2)
lists_hidden {held} {t} {n} {cells} q l h =
    lists_more (hidden q ∷ []) l (sym (append-nil (take (7 * n) t))) (omega arith) (omega arith) l.names_fit h each_none each_none

-- ---- over a limit

pub over_names : (held : List Held) → 100 < name_count held → names_fit held ≡ false
over_names held h = ap (λ (b : Bool). b && leb (cell_count held) 4096) (lt-leb (name_count held) 100 h)

pub over_cells : (held : List Held) → 4096 < cell_count held → names_fit held ≡ false
over_cells held h = ap (λ (b : Bool). leb (name_count held) 100 && b) (lt-leb (cell_count held) 4096 h) ∙ and_false (leb (name_count held) 100) false refl

which : (held : List Held) → names_fit held ≡ false → (100 < name_count held) ⊎ (4096 < cell_count held)
which held e = go (leb (name_count held) 100) refl e
  where
    go : (b : Bool) → leb (name_count held) 100 ≡ b → (b && leb (cell_count held) 4096) ≡ false → (100 < name_count held) ⊎ (4096 < cell_count held)
    go true p q = inr (leb-false (cell_count held) 4096 q)
    go false p q = inl (leb-false (name_count held) 100 p)

pub over_more : (held more : List Held) → names_fit held ≡ false → names_fit (held ++ more) ≡ false
over_more held more e = go (which held e)
  where
    go : (100 < name_count held) ⊎ (4096 < cell_count held) → names_fit (held ++ more) ≡ false
    go (inl h) = over_names (held ++ more) (let c = count_append held more in omega (arith, c, h))
    go (inr h) = over_cells (held ++ more) (let c = cells_append held more in omega (arith, c, h))

pub over_appear : (vs : List Name) (held : List Held) → names_fit held ≡ false → names_fit (appear held vs) ≡ false
over_appear [] held e = e
over_appear (v ∷ vs) held e =
    over_appear vs (cond (holds (is_the_name v) held) held (held ++ (name v ∷ [])))
    (cases (λ (l : List Held). names_fit l ≡ false) (holds (is_the_name v) held) held (held ++ (name v ∷ [])) (λ p. e) (λ p. over_more held (name v ∷ []) e))

pub appear_append : (xs ys : List Name) (held : List Held) → appear held (xs ++ ys) ≡ appear (appear held xs) ys
appear_append [] ys held = refl
appear_append (v ∷ xs) ys held = appear_append xs ys (cond (holds (is_the_name v) held) held (held ++ (name v ∷ [])))
