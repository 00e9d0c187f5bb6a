-- The DOs of a deck: each stands at its position, and which DOs end with a number.
-- Assumes nothing.
use mathlib.Core.Path.{◌≡◌, refl, sym, ap, ◌∙◌, subst}
use Prim.Native.Nat.{ℕ, zero, suc, ◌+◌}
use native.Mathlib.Nat.{zero-add, add-zero}
use native.Mathlib.Omega.{arith}
use mathlib.Core.Logic.{◌⊎◌, inl, inr}
use mathlib.Core.Bool.{Bool, true, false, cond}
use mathlib.Core.List.{List, [], ◌∷◌}
use mathlib.Core.Option.{Option, some}
use lib.Dec.{eqb}
use lib.ListN.{get_elem?}
use borrow.Author.Tests.{eqb-true}
use Rattle.rules_text.specs.Trees.{Name, Digits, value_of, Expr, Form, loop, Statement, form_last, assign, go_to, computed, ifs, continue, stop, end, dimension}
use Rattle.rules_deck.specs.Deck.{Do, do_of, dos_from, dos_of, ending_with, endings}
use Rattle.rules_deck.specs.Accepted.{Among, here, there}
use Rattle.rules_deck.proofs.TestLaws.{clash, only, among_left, among_right, among_append, among_reverse}

-- a DO statement with the DO that it is
pub data IsDo (q : ℕ) (d : Do) : Form → Type 0 where
  is_do : {n : Digits} {v : Name} {p₁ p₂ : Expr} {p₃ : Option Expr} → d ≡ record { position = q; last = value_of n; variable = v } → IsDo q d (loop n v p₁ p₂ p₃)

pub record DoAt (deck : List Statement) (d : Do) : Type 0 where
  pub statement : Statement
  pub at : get_elem? deck d.position ≡ some statement
  pub is : IsDo d.position d statement.form

is_do_of : {q : ℕ} {d : Do} (f : Form) → Among d (do_of q f) → IsDo q d f
is_do_of (loop n v p₁ p₂ p₃) a = is_do (only a)
is_do_of {q = q} {d = d} (assign _ _) a = elim a [ ]
is_do_of {q = q} {d = d} (go_to _) a = elim a [ ]
is_do_of {q = q} {d = d} (computed _ _) a = elim a [ ]
is_do_of {q = q} {d = d} (ifs _ _ _ _) a = elim a [ ]
is_do_of {q = q} {d = d} continue a = elim a [ ]
is_do_of {q = q} {d = d} stop a = elim a [ ]
is_do_of {q = q} {d = d} end a = elim a [ ]
is_do_of {q = q} {d = d} (dimension _) a = elim a [ ]

-- position j of what is left, counted from q
record DoFrom (q : ℕ) (deck : List Statement) (d : Do) : Type 0 where
  j : ℕ
  statement : Statement
  at : get_elem? deck j ≡ some statement
  is : IsDo (q + j) d statement.form

later : {q : ℕ} {s : Statement} {deck : List Statement} {d : Do} → DoFrom (suc q) deck d → DoFrom q (s ∷ deck) d
later {q} {s} {deck} {d} f =
    let n : suc q + f.j ≡ q + suc f.j = omega arith in
    record { j = suc f.j; statement = f.statement; at = f.at; is = subst (λ (m : ℕ). IsDo m d f.statement.form) n f.is }

do_from : (q : ℕ) (deck : List Statement) (d : Do) → Among d (dos_from q deck) → DoFrom q deck d
do_from q (s ∷ deck) d a = go (do_from (suc q) deck d) (among_append (do_of q s.form) (dos_from (suc q) deck) a)
  where
    go : (Among d (dos_from (suc q) deck) → DoFrom (suc q) deck d) → Among d (do_of q s.form) ⊎ Among d (dos_from (suc q) deck) → DoFrom q (s ∷ deck) d
    go rest (inl b) = record { j = 0; statement = s; at = refl; is = subst (λ (m : ℕ). IsDo m d s.form) (sym (add-zero q)) (is_do_of s.form b) }
    go rest (inr b) = later (rest b)
do_from q [] d a = elim a [ ]

do_position : {q : ℕ} {d : Do} {f : Form} → IsDo q d f → d.position ≡ q
do_position (is_do e) = ap (λ (d : Do). d.position) e

-- a DO stands at its position
pub do_at_lem : (deck : List Statement) (d : Do) → Among d (dos_of deck) → DoAt deck d
unfolding dos_of
do_at_lem deck d a = go (do_from 0 deck d a)
  where
    go : DoFrom 0 deck d → DoAt deck d
    go f =
        let p : d.position ≡ f.j = do_position f.is ∙ zero-add f.j in
        record {
          statement = f.statement;
          at = ap (get_elem? deck) p ∙ f.at;
          is = subst (λ (m : ℕ). IsDo m d f.statement.form) (sym (do_position f.is)) f.is;
        }

-- the number of its last statement stands in its text
pub do_last : {q : ℕ} {d : Do} {f : Form} → IsDo q d f → (n : Digits) × (d.last ≡ value_of n) × Among n (form_last f)
unfolding form_last
do_last (is_do {n} e) = (n, ap (λ (d : Do). d.last) e, here)

among_do : {q : ℕ} {d : Do} (f : Form) → IsDo q d f → Among d (do_of q f)
among_do (loop n v p₁ p₂ p₃) (is_do e) = rw e here
among_do {q = q} {d = d} (assign _ _) x3 = elim x3 [ ]
among_do {q = q} {d = d} (go_to _) x3 = elim x3 [ ]
among_do {q = q} {d = d} (computed _ _) x5 = elim x5 [ ]
among_do {q = q} {d = d} (ifs _ _ _ _) x8 = elim x8 [ ]
among_do {q = q} {d = d} continue x5 = elim x5 [ ]
among_do {q = q} {d = d} stop x6 = elim x6 [ ]
among_do {q = q} {d = d} end x7 = elim x7 [ ]
among_do {q = q} {d = d} (dimension _) x9 = elim x9 [ ]

among_from : (q : ℕ) (deck : List Statement) (j : ℕ) (s : Statement) → get_elem? deck j ≡ some s → (d : Do) → IsDo (q + j) d s.form → Among d (dos_from q deck)
among_from q [] j s e d h = absurd (clash (sym e))
among_from q (x ∷ deck) zero s e d h =
    let same : s ≡ x = cc in
    among_left (dos_from (suc q) deck) (subst (λ (y : Statement). Among d (do_of q y.form)) same (among_do s.form (subst (λ (m : ℕ). IsDo m d s.form) (add-zero q) h)))
among_from q (x ∷ deck) (suc j) s e d h =
    let n : q + suc j ≡ suc q + j = omega arith in
    among_right (do_of q x.form) (among_from (suc q) deck j s e d (subst (λ (m : ℕ). IsDo m d s.form) n h))

-- a DO statement's DO is among those of the deck
pub among_dos : (deck : List Statement) (j : ℕ) (s : Statement) → get_elem? deck j ≡ some s → (d : Do) → IsDo j d s.form → Among d (dos_of deck)
unfolding dos_of
among_dos deck j s e d h = among_from 0 deck j s e d (subst (λ (m : ℕ). IsDo m d s.form) (sym (zero-add j)) h)

-- ---- those that end with a number

ending : (n : ℕ) (ds : List Do) (d : Do) → Among d (ending_with n ds) → Among d ds × (d.last ≡ n)
ending n (x ∷ ds) d a = go (eqb x.last n) refl (ending n ds d) a
  where
    push : Among d ds × (d.last ≡ n) → Among d (x ∷ ds) × (d.last ≡ n)
    push r = (there r.0, r.1)

    first : x.last ≡ n → (Among d (ending_with n ds) → Among d ds × (d.last ≡ n)) → {l : List Do} → l ≡ x ∷ ending_with n ds → Among d l → Among d (x ∷ ds) × (d.last ≡ n)
    first e rest eq here = let same : d ≡ x = cc in rw same (here, e)
    first e rest eq (there {y} {xs} b) = push (rest (subst (Among d) (cc) b))

    go : (t : Bool) → eqb x.last n ≡ t → (Among d (ending_with n ds) → Among d ds × (d.last ≡ n)) → Among d (cond t (x ∷ ending_with n ds) (ending_with n ds)) →
        Among d (x ∷ ds) × (d.last ≡ n)
    go true e rest b = first (eqb-true x.last n e) rest refl b
    go false e rest b = push (rest b)
ending n [] d a = elim a [ ]

pub among_endings : (deck : List Statement) (n : ℕ) (d : Do) → Among d (endings deck n) → Among d (dos_of deck) × (d.last ≡ n)
unfolding endings
among_endings deck n d a = ending n (dos_of deck) d (among_reverse (ending_with n (dos_of deck)) a)
