-- The DOs of an accepted deck as the tables tell them: where each stands and ends, and which end with a statement.
-- Assumes nothing.
use mathlib.Core.Path.{◌≡◌, refl, sym, ap, ◌∙◌}
use Prim.Native.Nat.{ℕ, zero, suc, ◌+◌, ◌*◌, ◌<◌}
use native.Mathlib.Omega.{arith}
use native.Mathlib.Nat.{add-zero}
use mathlib.Core.List.{List, [], ◌∷◌, ◌++◌, map, reverse, reverse_aux}
use mathlib.Core.Option.{some}
use lib.ListN.{length, take, get_or, get_elem?, length-append}
use lib.Seq.{get_or-append-add}
use Rattle.rules_text.specs.Trees.{value_of, Form, assign, go_to, computed, ifs, loop, continue, stop, end, dimension, Statement, form_exits, form_last}
use Rattle.rules_deck.specs.Deck.{Do, do_of, dos_from}
use Rattle.rules_deck.specs.Accepted.{Among, here, there}
use Rattle.rules_deck.proofs.TestLaws.{clash}
use Rattle.take_draft.specs.Draft.{jump_words, loop_words}
use Rattle.take_draft.specs.Sketch.{deck_jumps, loops_from}

-- ---- lists

pub reverse_last : {A : Type 0} (l : List A) (x : A) → reverse (l ++ (x ∷ [])) ≡ x ∷ reverse l
reverse_last l x = go l []
  where
    go : (l r : List _) → reverse_aux (l ++ (x ∷ [])) r ≡ x ∷ reverse_aux l r
    go [] r = refl
    go (y ∷ l) r = go l (y ∷ r)

pub take_more : {A : Type 0} (l : List A) (i : ℕ) (x : A) → get_elem? l i ≡ some x → take (suc i) l ≡ take i l ++ (x ∷ [])
take_more [] i x e = absurd (clash (sym e))
take_more (y ∷ l) zero x e = let same : y ≡ x = cc in ap (λ z. z ∷ []) same
take_more (y ∷ l) (suc i) x e = ap (λ m. y ∷ m) (take_more l i x e)

pub among_at : {A : Type 0} (l : List A) (i : ℕ) (x : A) → get_elem? l i ≡ some x → Among x l
among_at [] i x e = absurd (clash (sym e))
among_at (y ∷ l) zero x e = let same : y ≡ x = cc in rw same here
among_at (y ∷ l) (suc i) x e = there (among_at l i x e)

pub map_get : (f : ℕ → ℕ) (l : List ℕ) (i : ℕ) → i < length l → get_or (map f l) i 0 ≡ f (get_or l i 0)
map_get f [] i h = absurd (omega arith)
map_get f (x ∷ l) zero h = refl
map_get f (x ∷ l) (suc i) h = map_get f l i (omega arith)

-- ---- the two words of each DO

-- the m-th DO of some statements, the first at position q with j jumps before it
pub record DoTold (q j : ℕ) (more : List Statement) (m : ℕ) (x : Do) : Type 0 where
  pub stands : get_or (loops_from q j more) (2 * m) 0 ≡ x.position
  pub place : ℕ
  pub at : get_or (loops_from q j more) (2 * m + 1) 0 ≡ j + place
  pub inside : place < length (deck_jumps more)
  pub last : get_or (deck_jumps more) place 0 ≡ x.last

-- a form brings no DO, or one
data Brings (q j : ℕ) (f : Form) : Type 0 where
  no_do_lem : do_of q f ≡ [] → loop_words q j f ≡ [] → Brings q j f
  a_do_lem : (d : Do) → do_of q f ≡ d ∷ [] → loop_words q j f ≡ q ∷ j ∷ [] → jump_words f ≡ d.last ∷ [] → d.position ≡ q → Brings q j f

brings : (q j : ℕ) (f : Form) → Brings q j f
unfolding form_exits form_last
brings q j (assign t e) = no_do_lem refl refl
brings q j (go_to n) = no_do_lem refl refl
brings q j (computed ns v) = no_do_lem refl refl
brings q j (ifs e a b c) = no_do_lem refl refl
brings q j (loop n v p₁ p₂ p₃) = a_do_lem (record { position = q; last = value_of n; variable = v }) refl refl refl refl
brings q j continue = no_do_lem refl refl
brings q j stop = no_do_lem refl refl
brings q j end = no_do_lem refl refl
brings q j (dimension arrays) = no_do_lem refl refl

pub do_told : (q j : ℕ) (more : List Statement) (m : ℕ) (x : Do) → get_elem? (dos_from q more) m ≡ some x → DoTold q j more m x
do_told q j [] m x e = absurd (clash (sym e))
do_told q j (s ∷ more) m x e = go (brings q j s.form) (do_told (suc q) (j + length (jump_words s.form)) more) m e
  where
    -- a DO of the statements after it
    later : (w : List ℕ) (p m : ℕ) → loop_words q j s.form ≡ w → 2 * p ≡ length w + 2 * m → DoTold (suc q) (j + length (jump_words s.form)) more m x → DoTold q j (s ∷ more) p x
    later w p m is l h =
        let rest = loops_from (suc q) (j + length (jump_words s.form)) more in
        let same = ap (λ (l : List ℕ). l ++ rest) is in
        let l' : 2 * p + 1 ≡ length w + (2 * m + 1) = omega arith in
        let long = length-append (jump_words s.form) (deck_jumps more) in
        record {
          stands = ap (λ (l : List ℕ). get_or l (2 * p) 0) same ∙ ap (λ (i : ℕ). get_or (w ++ rest) i 0) l ∙ get_or-append-add w rest (2 * m) 0 ∙ h.stands;
          place = length (jump_words s.form) + h.place;
          at = ap (λ (l : List ℕ). get_or l (2 * p + 1) 0) same ∙ ap (λ (i : ℕ). get_or (w ++ rest) i 0) l' ∙ get_or-append-add w rest (2 * m + 1) 0 ∙ h.at ∙ omega arith;
          inside = omega (arith, h.inside);
          last = get_or-append-add (jump_words s.form) (deck_jumps more) h.place 0 ∙ h.last;
        }

    first : (d : Do) → loop_words q j s.form ≡ q ∷ j ∷ [] → jump_words s.form ≡ d.last ∷ [] → d.position ≡ q → d ≡ x → DoTold q j (s ∷ more) 0 x
    first d w jw p is =
        let rest = loops_from (suc q) (j + length (jump_words s.form)) more in
        let same = ap (λ (l : List ℕ). l ++ rest) w in
        let js = ap (λ (l : List ℕ). l ++ deck_jumps more) jw in
        record {
          stands = ap (λ (l : List ℕ). get_or l 0 0) same ∙ sym p ∙ ap (λ (d : Do). d.position) is;
          place = 0;
          at = ap (λ (l : List ℕ). get_or l 1 0) same ∙ sym (add-zero j);
          inside = omega (arith, ap length js);
          last = ap (λ (l : List ℕ). get_or l 0 0) js ∙ ap (λ (d : Do). d.last) is;
        }

    go : Brings q j s.form → ((m : ℕ) (x : Do) → get_elem? (dos_from (suc q) more) m ≡ some x → DoTold (suc q) (j + length (jump_words s.form)) more m x)
        → (m : ℕ) → get_elem? (do_of q s.form ++ dos_from (suc q) more) m ≡ some x → DoTold q j (s ∷ more) m x
    go (no_do_lem d w) rest m e = later [] m m w (omega arith) (rest m x (rw d at e))
    go (a_do_lem d is w jw p) rest zero e = let f = rw is at e in let same : d ≡ x = cc in first d w jw p same
    go (a_do_lem d is w jw p) rest (suc m) e = later (q ∷ j ∷ []) (suc m) m w (omega arith) (rest m x (rw is at e))

pub loops_length : (q j : ℕ) (more : List Statement) → length (loops_from q j more) ≡ 2 * length (dos_from q more)
loops_length q j [] = refl
loops_length q j (s ∷ more) = go (brings q j s.form) (loops_length (suc q) (j + length (jump_words s.form)) more)
  where
    go : Brings q j s.form → length (loops_from (suc q) (j + length (jump_words s.form)) more) ≡ 2 * length (dos_from (suc q) more)
        → length (loops_from q j (s ∷ more)) ≡ 2 * length (dos_from q (s ∷ more))
    go (no_do_lem d w) h = rw (d, w) h
    go (a_do_lem d is w jw p) h = rw (is, w) (omega arith)
