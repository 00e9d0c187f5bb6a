-- A DO's number is the place of its entry: the DOs of a deck stand in the order of their positions.
-- Assumes nothing.
use mathlib.Core.Path.{◌≡◌, refl, sym, ap}
use Prim.Native.Nat.{ℕ, zero, suc, ◌≤◌}
use native.Mathlib.Omega.{arith}
use mathlib.Core.List.{List, [], ◌∷◌, ◌++◌, map}
use mathlib.Core.Option.{some}
use lib.ListN.{get_elem?}
use borrow.Author.Tests.{lt-ltb, le-ltb}
use Rattle.rules_text.specs.Trees.{Form, assign, go_to, computed, ifs, loop, continue, stop, end, dimension, Statement}
use Rattle.rules_deck.specs.Deck.{Do, do_of, dos_from, dos_of}
use Rattle.rules_deck.specs.Translation.{do_number, loop_entry}
use Rattle.rules_deck.specs.Accepted.{Among, here, there}
use Rattle.rules_deck.proofs.TestLaws.{clash}

-- ---- positions rise

-- each position is past the one before, and the first at least q
pub data Rising : ℕ → List Do → Type 0 where
  no_more : {q : ℕ} → Rising q []
  next : {q : ℕ} {d : Do} {ds : List Do} → q ≤ d.position → Rising (suc d.position) ds → Rising q (d ∷ ds)

rising_less : {p q : ℕ} (ds : List Do) → p ≤ q → Rising q ds → Rising p ds
rising_less [] l h = no_more
rising_less {p} (d ∷ ds) l (next k h) = let m : p ≤ d.position = omega arith in next m h

rising_form : (q : ℕ) (f : Form) (ds : List Do) → Rising (suc q) ds → Rising q (do_of q f ++ ds)
rising_form q (assign t e) ds h = rising_less ds (omega arith) h
rising_form q (go_to n) ds h = rising_less ds (omega arith) h
rising_form q (computed ns v) ds h = rising_less ds (omega arith) h
rising_form q (ifs e a b c) ds h = rising_less ds (omega arith) h
rising_form q (loop n v p₁ p₂ p₃) ds h = let l : q ≤ q = omega arith in next l h
rising_form q continue ds h = rising_less ds (omega arith) h
rising_form q stop ds h = rising_less ds (omega arith) h
rising_form q end ds h = rising_less ds (omega arith) h
rising_form q (dimension arrays) ds h = rising_less ds (omega arith) h

rising_from : (q : ℕ) (more : List Statement) → Rising q (dos_from q more)
rising_from q [] = no_more
rising_from q (s ∷ more) = rising_form q s.form (dos_from (suc q) more) (rising_from (suc q) more)

pub rising : (deck : List Statement) → Rising 0 (dos_of deck)
unfolding dos_of
rising deck = rising_from 0 deck

pub rising_least : {q : ℕ} {d : Do} {ds : List Do} → Rising q ds → Among d ds → q ≤ d.position
rising_least (next k h) here = k
rising_least (next k h) (there a) = omega (arith, rising_least h a)
rising_least {d = d} (no_more {q = q}) x4 = elim x4 [ ]

-- ---- numbers

pub number_none : {q : ℕ} (ds : List Do) (p : ℕ) → Rising q ds → p ≤ q → do_number ds p ≡ 0
number_none [] p h l = refl
number_none (d ∷ ds) p (next k h) l = rw (le-ltb d.position p (omega arith)) (number_none ds p h (omega arith))

number_row : {q : ℕ} (ds : List Do) (d : Do) → Rising q ds → Among d ds → get_elem? ds (do_number ds d.position) ≡ some d
number_row (c ∷ ds) d (next k h) here = rw (le-ltb c.position c.position (omega arith), number_none ds c.position h (omega arith))
number_row (c ∷ ds) d (next k h) (there a) = rw (lt-ltb c.position d.position (rising_least h a)) (number_row ds d h a)
number_row {q = q} [] d _ x3 = elim x3 [ ]

pub map_at : {A B : Type 0} (f : A → B) (l : List A) (a : ℕ) (x : A) → get_elem? l a ≡ some x → get_elem? (map f l) a ≡ some (f x)
map_at f [] a x e = absurd (clash (sym e))
map_at f (y ∷ l) zero x e = let same : y ≡ x = cc in ap (λ z. some (f z)) same
map_at f (y ∷ l) (suc a) x e = map_at f l a x e

-- the entry at a DO's number is its own
pub do_row : (deck : List Statement) (d : Do) → Among d (dos_of deck) → get_elem? (map (loop_entry deck) (dos_of deck)) (do_number (dos_of deck) d.position) ≡ some (loop_entry deck d)
do_row deck d h = map_at (loop_entry deck) (dos_of deck) _ d (number_row (dos_of deck) d (rising deck) h)
