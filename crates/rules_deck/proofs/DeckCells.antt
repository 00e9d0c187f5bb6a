-- The map of a deck: every plain name, DO and element that the deck speaks of has a cell.
-- Assumes nothing.
use Prim.Native.Nat.{ℕ, zero, suc}
use mathlib.Core.Path.{◌≡◌, refl, sym, ap, ◌∙◌, subst}
use mathlib.Core.Bool.{Bool, true, false, ◌||◌, cond}
use mathlib.Core.Logic.{◌⊎◌, inl, inr}
use mathlib.Core.List.{List, [], ◌∷◌, ◌++◌, append-nil, append_assoc}
use mathlib.Core.Option.{some}
use native.Mathlib.Omega.{arith}
use lib.ListN.{get_elem?}
use borrow.Author.Tests.{eq-eqb}
use Rattle.rules_shared.proofs.Places.{place_below}
use Rattle.rules_text.specs.Trees.{Name, Subscripts, one, two, Form, loop, Statement, assign, go_to, computed, ifs, continue, stop, end, dimension}
use Rattle.rules_deck.specs.Deck.{Do, do_of, dos_from, dos_of, dims_of, width}
use Rattle.rules_deck.specs.Meaning.{plain, element_at, Values, place_in}
use Rattle.rules_deck.specs.Translation.{Held, name, hidden, is_the_name, is_hidden, holds, appear, form_plain, brings, held_from, held_of}
use Rattle.rules_deck.specs.Accepted.{Among, here, there}
use Rattle.rules_deck.specs.Cells.{Slot, key, limit, Has}
use Rattle.rules_text.proofs.CardsLaws.{cases}
use Rattle.rules_deck.proofs.TestLaws.{among_append}
pub use Rattle.rules_deck.proofs.TestLaws.{among_left, among_right}
pub use Rattle.rules_deck.proofs.ArrayLaws.{size_held as size-dims}
use Rattle.rules_deck.proofs.Names.{name_same}
use Rattle.rules_deck.proofs.CellLaws.{holds_right, grow_has}

-- ---- a map only grows, at its end

pub record Grown (held later : List Held) : Type 0 where
  pub more : List Held
  pub is : later ≡ held ++ more

grown_by : (held more : List Held) → Grown held (held ++ more)
grown_by held more = record { more = more; is = refl }

pub grown_trans : {a b c : List Held} → Grown a b → Grown b c → Grown a c
grown_trans {a} g h = record { more = g.more ++ h.more; is = h.is ∙ ap (λ (l : List Held). l ++ h.more) g.is ∙ append_assoc a g.more h.more }

pub grown_same : (held : List Held) → Grown held held
grown_same held = record { more = []; is = sym (append-nil held) }

pub grown_appear : (vs : List Name) (held : List Held) → Grown held (appear held vs)
grown_appear [] held = grown_same held
grown_appear (v ∷ vs) held =
    grown_trans (cases (λ l. Grown held l) (holds (is_the_name v) held) held (held ++ (name v ∷ [])) (λ e. grown_same held) (λ e. grown_by held (name v ∷ [])))
    (grown_appear vs (cond (holds (is_the_name v) held) held (held ++ (name v ∷ []))))

pub grown_brings : (q : ℕ) (f : Form) (held : List Held) → Grown held (brings q f held)
grown_brings q f held = grown_trans (grown_appear (form_plain f) held) (grown_by _ _)

pub grown_held : (q : ℕ) (deck : List Statement) (held : List Held) → Grown held (held_from q deck held)
grown_held q [] held = grown_same held
grown_held q (s ∷ deck) held = grown_trans (grown_brings q s.form held) (grown_held (suc q) deck (brings q s.form held))

pub grown_has : {held later : List Held} → Grown held later → (s : Slot) → Has held s → Has later s
grown_has {held} g s h = subst (λ (l : List Held). Has l s) (sym g.is) (grow_has held g.more s h)

-- ---- plain names

holds_end : (test : Held → Bool) (held : List Held) (h : Held) → test h ≡ true → holds test (held ++ (h ∷ [])) ≡ true
holds_end test held h e = holds_right test held (h ∷ []) (ap (λ (b : Bool). b || false) e)

pub appear_has : (vs : List Name) (held : List Held) {v : Name} → Among v vs → Has (appear held vs) (key (plain v))
appear_has (v ∷ vs) held here =
    grown_has (grown_appear vs (cond (holds (is_the_name v) held) held (held ++ (name v ∷ [])))) (key (plain v))
    (cases (λ l. holds (is_the_name v) l ≡ true) (holds (is_the_name v) held) held (held ++ (name v ∷ [])) (λ e. e) (λ e. holds_end (is_the_name v) held (name v) (name_same v)))
appear_has (w ∷ vs) held (there a) = appear_has vs (cond (holds (is_the_name w) held) held (held ++ (name w ∷ []))) a
appear_has [] held {v = v} x' = elim x' [ ]

plain_from_lem : (q : ℕ) (deck : List Statement) (held : List Held) (j : ℕ) (s : Statement) (v : Name) → get_elem? deck j ≡ some s → Among v (form_plain s.form)
    → Has (held_from q deck held) (key (plain v))
plain_from_lem q [] held j s v e a = absurd (let z : ◌≡◌ {A = ℕ} 0 1 = cc in omega arith)
plain_from_lem q (t ∷ deck) held zero s v e a =
    let p : t ≡ s = cc in
    let b = subst (λ (x : Statement). Among v (form_plain x.form)) (sym p) a in
    grown_has (grown_trans (grown_by (appear held (form_plain t.form)) _) (grown_held (suc q) deck (brings q t.form held))) (key (plain v))
    (appear_has (form_plain t.form) held b)
plain_from_lem q (t ∷ deck) held (suc j) s v e a = plain_from_lem (suc q) deck (brings q t.form held) j s v e a

pub plain_has : (deck : List Statement) (j : ℕ) (s : Statement) (v : Name) → get_elem? deck j ≡ some s → Among v (form_plain s.form) → Has (held_of deck) (key (plain v))
unfolding held_of
plain_has deck j s v e a = plain_from_lem 0 deck [] j s v e a

-- ---- DOs

-- a DO's own form
loop_has : (q : ℕ) (f : Form) (held : List Held) (d : Do) → Among d (do_of q f) → Has (brings q f held) (limit d.position) × Among d.variable (form_plain f)
unfolding form_plain
loop_has q (loop n v p₁ p₂ p₃) held d here = (holds_end (is_hidden q) (appear held (form_plain (loop n v p₁ p₂ p₃))) (hidden q) (eq-eqb q q refl), here)
loop_has q (assign _ _) held d x3 = elim x3 [ ]
loop_has q (go_to _) held d x3 = elim x3 [ ]
loop_has q (computed _ _) held d x5 = elim x5 [ ]
loop_has q (ifs _ _ _ _) held d x8 = elim x8 [ ]
loop_has q (loop n v p₁ p₂ p₃) held d (there x8) = elim x8 [ ]
loop_has q continue held d x6 = elim x6 [ ]
loop_has q stop held d x7 = elim x7 [ ]
loop_has q end held d x8 = elim x8 [ ]
loop_has q (dimension _) held d x10 = elim x10 [ ]

do_from : (q : ℕ) (deck : List Statement) (held : List Held) (d : Do) → Among d (dos_from q deck)
    → Has (held_from q deck held) (limit d.position) × Has (held_from q deck held) (key (plain d.variable))
do_from q (s ∷ deck) held d a = go (among_append (do_of q s.form) (dos_from (suc q) deck) a) (do_from (suc q) deck (brings q s.form held) d)
  where
    R : Type 0
    R = Has (held_from (suc q) deck (brings q s.form held)) (limit d.position) × Has (held_from (suc q) deck (brings q s.form held)) (key (plain d.variable))

    go : Among d (do_of q s.form) ⊎ Among d (dos_from (suc q) deck) → (Among d (dos_from (suc q) deck) → R) → R
    go (inr b) f = f b
    go (inl b) f =
        let h = loop_has q s.form held d b in
        let g = grown_held (suc q) deck (brings q s.form held) in (
          grown_has g (limit d.position) h.0,
          plain_from_lem q (s ∷ deck) held 0 s d.variable refl h.1,
        )
do_from q [] held d a = elim a [ ]

pub hidden_has : (deck : List Statement) (d : Do) → Among d (dos_of deck) → Has (held_of deck) (limit d.position)
unfolding held_of dos_of
hidden_has deck d a = (do_from 0 deck [] d a).0

pub variable_has : (deck : List Statement) (d : Do) → Among d (dos_of deck) → Has (held_of deck) (key (plain d.variable))
unfolding held_of dos_of
variable_has deck d a = (do_from 0 deck [] d a).1

-- ---- an element's place

pub element_has : (deck : List Statement) (values : Values) (v : Name) (s : Subscripts) (p : ℕ) → place_in values (dims_of deck v) s ≡ some p
    → Has (held_of deck) (key (element_at v p))
element_has deck values v (one s) p e = omega (arith, size-dims deck v, place_below (dims_of deck v).rows (width (dims_of deck v).columns) _ _ p e)
element_has deck values v (two s t) p e = omega (arith, size-dims deck v, place_below (dims_of deck v).rows (width (dims_of deck v).columns) _ _ p e)
