-- The arrays and the names of a map: what a statement brings to them; the arrays of a deck's map are those that it declares.
-- Assumes nothing.
use mathlib.Core.Path.{◌≡◌, refl, sym, ap, ◌∙◌}
use Prim.Native.Nat.{ℕ, suc}
use mathlib.Core.Logic.{◌⊎◌, inl, inr}
use mathlib.Core.Bool.{Bool, true, false, ◌||◌, cond, false≢true}
use mathlib.Core.List.{List, [], ◌∷◌, ◌++◌, map, append-nil, append_assoc}
use Rattle.rules_text.specs.Trees.{Name, Array, Form, Statement, Range, parts_of}
use Rattle.rules_deck.specs.Deck.{same_name, Declared, declare, arrays_in, arrays_of, dims_in, dims_of}
use Rattle.rules_deck.specs.Translation.{Held, name, array, hidden, array_size, is_the_name, is_array, holds, appear, form_plain, hidden_in, brings, held_from, held_of}
use Rattle.rules_deck.specs.Judge.{Reference, right_count, right_reference}
use Rattle.rules_deck.specs.Cells.{arrays_held, size_of}
use Rattle.rules_deck.specs.Accepted.{Among, here, there}
use Rattle.rules_text.proofs.CardsLaws.{cases}
use Rattle.rules_deck.proofs.TestLaws.{or_neither, or_either, or_one, name_same}

-- ---- the arrays of a map

arrays_append : (a b : List Held) → arrays_held (a ++ b) ≡ arrays_held a ++ arrays_held b
arrays_append [] b = refl
arrays_append (name v ∷ a) b = arrays_append a b
arrays_append (array x ∷ a) b = ap (λ (l : List Declared). x ∷ l) (arrays_append a b)
arrays_append (hidden q ∷ a) b = arrays_append a b

arrays_appear : (held : List Held) (vs : List Name) → arrays_held (appear held vs) ≡ arrays_held held
arrays_appear held [] = refl
arrays_appear held (v ∷ vs) =
    arrays_appear (cond (holds (is_the_name v) held) held (held ++ (name v ∷ []))) vs ∙
    cases (λ (l : List Held). arrays_held l ≡ arrays_held held) (holds (is_the_name v) held) held (held ++ (name v ∷ [])) (λ e. refl) (λ e. arrays_append held (name v ∷ []) ∙ append-nil (arrays_held held))

arrays_declared : (arrays : List Array) → arrays_held (map (λ a. array (declare a)) arrays) ≡ map declare arrays
arrays_declared [] = refl
arrays_declared (a ∷ arrays) = ap (λ (l : List Declared). declare a ∷ l) (arrays_declared arrays)

arrays_hidden : (q : ℕ) (f : Form) (held : List Held) → arrays_held (hidden_in q f ++ held) ≡ arrays_held held
arrays_hidden q f held = go (parts_of f).opens
  where
    go : (ds : List Range) → arrays_held (map (λ (d : Range). hidden q) ds ++ held) ≡ arrays_held held
    go [] = refl
    go (d ∷ ds) = go ds

-- a statement brings the arrays that it declares
pub arrays_brings : (q : ℕ) (f : Form) (held : List Held) → arrays_held (brings q f held) ≡ arrays_held held ++ map declare (arrays_in f)
arrays_brings q f held =
    let new = map (λ a. array (declare a)) (arrays_in f) in
    let right : arrays_held (hidden_in q f ++ new) ≡ map declare (arrays_in f) = arrays_hidden q f new ∙ arrays_declared (arrays_in f) in
    arrays_append (appear held (form_plain f)) (hidden_in q f ++ new) ∙ ap (λ (l : List Declared). l ++ arrays_held (hidden_in q f ++ new)) (arrays_appear held (form_plain f)) ∙
    ap (λ (l : List Declared). arrays_held held ++ l) right

arrays_from : (q : ℕ) (deck : List Statement) (held : List Held) → arrays_held (held_from q deck held) ≡ arrays_held held ++ arrays_of deck
arrays_from q [] held = sym (append-nil (arrays_held held))
arrays_from q (s ∷ deck) held =
    arrays_from (suc q) deck (brings q s.form held) ∙ ap (λ (l : List Declared). l ++ arrays_of deck) (arrays_brings q s.form held) ∙
    append_assoc (arrays_held held) (map declare (arrays_in s.form)) (arrays_of deck)

pub arrays_held_lem : (deck : List Statement) → arrays_held (held_of deck) ≡ arrays_of deck
unfolding held_of
arrays_held_lem deck = arrays_from 0 deck []

-- ---- sizes

size_in : (held : List Held) (v : Name) → size_of held v ≡ array_size (dims_in (arrays_held held) v)
size_in [] v = refl
size_in (name w ∷ held) v = size_in held v
size_in (array a ∷ held) v = go (same_name a.name v) (size_in held v)
  where
    go : (t : Bool) → size_of held v ≡ array_size (dims_in (arrays_held held) v) →
        cond t (array_size a.dims) (size_of held v) ≡ array_size (cond t a.dims (dims_in (arrays_held held) v))
    go true h = refl
    go false h = h
size_in (hidden q ∷ held) v = size_in held v

-- the cells of an array in the map are those of its dimensions in the deck; none where the deck has no such array
pub size_held : (deck : List Statement) (v : Name) → size_of (held_of deck) v ≡ array_size (dims_of deck v)
unfolding dims_of
size_held deck v = size_in (held_of deck) v ∙ ap (λ (l : List Declared). array_size (dims_in l v)) (arrays_held_lem deck)

-- ---- which array a reference means

-- the array of the reference's name, whose dimensions are as many as its subscripts
pub record Means (arrays : List Declared) (e : Reference) : Type 0 where
  pub array : Declared
  pub among : Among array arrays
  pub named : same_name array.name e.name ≡ true
  pub dims : dims_in arrays e.name ≡ array.dims
  pub count : right_count array.dims e.subscripts ≡ true

-- the first array of a name stays the first
pub means_in : (held : List Held) (more : List Declared) (e : Reference) → right_reference held e ≡ true → Means (arrays_held held ++ more) e
means_in [] more e h = absurd (false≢true h)
means_in (name v ∷ held) more e h = means_in held more e h
means_in (array a ∷ held) more e h = go (same_name a.name e.name) refl (means_in held more e) h
  where
    later : same_name a.name e.name ≡ false → Means (arrays_held held ++ more) e → Means (a ∷ (arrays_held held ++ more)) e
    later s m =
        record {
          array = m.array;
          among = there m.among;
          named = m.named;
          dims = ap (λ (t : Bool). cond t a.dims (dims_in (arrays_held held ++ more) e.name)) s ∙ m.dims;
          count = m.count;
        }

    go : (t : Bool) → same_name a.name e.name ≡ t → (right_reference held e ≡ true → Means (arrays_held held ++ more) e) →
        cond t (right_count a.dims e.subscripts) (right_reference held e) ≡ true → Means (a ∷ (arrays_held held ++ more)) e
    go true s rest c =
        record { array = a; among = here; named = s; dims = ap (λ (t : Bool). cond t a.dims (dims_in (arrays_held held ++ more) e.name)) s; count = c }
    go false s rest c = later s (rest c)
means_in (hidden q ∷ held) more e h = means_in held more e h

-- ---- what a map holds

pub holds_left : (test : Held → Bool) (a b : List Held) → holds test a ≡ true → holds test (a ++ b) ≡ true
holds_left test [] b e = absurd (false≢true e)
holds_left test (h ∷ a) b e = go (or_one (test h) (holds test a) e) (holds_left test a b)
  where
    go : (test h ≡ true) ⊎ (holds test a ≡ true) → (holds test a ≡ true → holds test (a ++ b) ≡ true) → (test h || holds test (a ++ b)) ≡ true
    go (inl x) rest = or_either (test h) (holds test (a ++ b)) (inl x)
    go (inr x) rest = or_either (test h) (holds test (a ++ b)) (inr (rest x))

holds_last : (v : Name) (held : List Held) → holds (is_the_name v) (held ++ (name v ∷ [])) ≡ true
holds_last v [] = or_either (same_name v v) false (inl (name_same v))
holds_last v (h ∷ held) = or_either (is_the_name v h) (holds (is_the_name v) (held ++ (name v ∷ []))) (inr (holds_last v held))

appear_keeps : (test : Held → Bool) (held : List Held) (vs : List Name) → holds test held ≡ true → holds test (appear held vs) ≡ true
appear_keeps test held [] e = e
appear_keeps test held (v ∷ vs) e =
    appear_keeps test (cond (holds (is_the_name v) held) held (held ++ (name v ∷ []))) vs
    (cases (λ (l : List Held). holds test l ≡ true) (holds (is_the_name v) held) held (held ++ (name v ∷ [])) (λ x. e) (λ x. holds_left test held (name v ∷ []) e))

appear_holds : (held : List Held) (v : Name) (vs : List Name) → Among v vs → holds (is_the_name v) (appear held vs) ≡ true
appear_holds held v (w ∷ vs) here =
    appear_keeps (is_the_name v) (cond (holds (is_the_name v) held) held (held ++ (name v ∷ []))) vs
    (cases (λ (l : List Held). holds (is_the_name v) l ≡ true) (holds (is_the_name v) held) held (held ++ (name v ∷ [])) (λ x. x) (λ x. holds_last v held))
appear_holds held v (w ∷ vs) (there a) = appear_holds (cond (holds (is_the_name w) held) held (held ++ (name w ∷ []))) v vs a
appear_holds held v [] x' = elim x' [ ]

-- what is held stays held, and a statement's plain names are held after it
pub brings_keeps : (test : Held → Bool) (q : ℕ) (f : Form) (held : List Held) → holds test held ≡ true → holds test (brings q f held) ≡ true
brings_keeps test q f held e = holds_left test (appear held (form_plain f)) (hidden_in q f ++ map (λ a. array (declare a)) (arrays_in f)) (appear_keeps test held (form_plain f) e)

pub brings_names : (q : ℕ) (f : Form) (held : List Held) (v : Name) → Among v (form_plain f) → holds (is_the_name v) (brings q f held) ≡ true
brings_names q f held v a = holds_left (is_the_name v) (appear held (form_plain f)) (hidden_in q f ++ map (λ a. array (declare a)) (arrays_in f)) (appear_holds held v (form_plain f) a)

pub no_array : (v : Name) (held : List Held) → holds (is_array v) held ≡ false → (a : Declared) → Among a (arrays_held held) → same_name a.name v ≡ false
no_array v (name w ∷ held) e a h = no_array v held e a h
no_array v (array x ∷ held) e a here = (or_neither (same_name a.name v) (holds (is_array v) held) e).0
no_array v (array x ∷ held) e a (there h) = no_array v held (or_neither (same_name x.name v) (holds (is_array v) held) e).1 a h
no_array v (hidden q ∷ held) e a h = no_array v held e a h
no_array v [] e a h = elim h [ ]
