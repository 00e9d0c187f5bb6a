-- Where a statement's names stand: plainly, as an element's array, or declared.
-- Assumes nothing.
use mathlib.Core.Path.{◌≡◌, refl, ap}
use mathlib.Core.Logic.{◌⊎◌, inl, inr}
use mathlib.Core.List.{List, [], ◌∷◌, ◌++◌, map}
use mathlib.Core.Option.{Option, some, none}
use Rattle.rules_text.specs.Trees.{Name, Subscripts, subscripts_names, Expr, var, elm, neg, par, bin, expr_names, Target, cell, element, target_names, written, Array, array, array_names, Form, assign, computed, ifs, loop, dimension, form_names, con, go_to, continue, stop, end}
use Rattle.rules_deck.specs.Deck.{declare, arrays_in}
use Rattle.rules_deck.specs.Translation.{Held, expr_plain, target_plain, form_plain}
use Rattle.rules_deck.specs.Judge.{Reference, expr_references, target_references, form_references}
use Rattle.rules_deck.specs.Accepted.{Among, here, there}
use Rattle.rules_deck.proofs.TestLaws.{among_left, among_right, among_append}
use Rattle.rules_deck.specs.Cells.{names_held}

pub data Covered (plain : List Name) (references : List Reference) (v : Name) : Type 0 where
  plainly : Among v plain → Covered plain references v
  of_element : (r : Reference) → r.name ≡ v → Among r references → Covered plain references v

covered_left : {p : List Name} {r : List Reference} {v : Name} (q : List Name) (s : List Reference) → Covered p r v → Covered (p ++ q) (r ++ s) v
covered_left q s (plainly a) = plainly (among_left q a)
covered_left q s (of_element e i a) = of_element e i (among_left s a)

covered_right : {q : List Name} {s : List Reference} {v : Name} (p : List Name) (r : List Reference) → Covered q s v → Covered (p ++ q) (r ++ s) v
covered_right p r (plainly a) = plainly (among_right p a)
covered_right p r (of_element e i a) = of_element e i (among_right r a)

covered_later : {p : List Name} {r : List Reference} {v : Name} (w : Name) → Covered p r v → Covered (w ∷ p) r v
covered_later w (plainly a) = plainly (there a)
covered_later w (of_element e i a) = of_element e i a

covered_both : {v : Name} (n m p q : List Name) (r s : List Reference) → (Among v n → Covered p r v) → (Among v m → Covered q s v) → Among v (n ++ m)
    → Covered (p ++ q) (r ++ s) v
covered_both {v} n m p q r s f g a = go (among_append n m a)
  where
    go : Among v n ⊎ Among v m → Covered (p ++ q) (r ++ s) v
    go (inl b) = covered_left q s (f b)
    go (inr b) = covered_right p r (g b)

covered_element : {v : Name} (w : Name) (s : Subscripts) → Among v (w ∷ subscripts_names s)
    → Covered (subscripts_names s) (record { name = w; subscripts = s } ∷ []) v
covered_element w s here = of_element (record { name = w; subscripts = s }) refl here
covered_element w s (there a) = plainly a

expr_covered : {v : Name} (e : Expr) → Among v (expr_names e) → Covered (expr_plain e) (expr_references e) v
expr_covered (var w) a = plainly a
expr_covered (elm w s) a = covered_element w s a
expr_covered (neg e) a = expr_covered e a
expr_covered (par e) a = expr_covered e a
expr_covered (bin o x y) a =
    covered_both (expr_names x) (expr_names y) (expr_plain x) (expr_plain y) (expr_references x) (expr_references y) (expr_covered x) (expr_covered y) a
expr_covered {v = v} (con _) a = elim a [ ]

written_covered : {v : Name} (e : Option Expr) → Among v (written expr_names e) → Covered (written expr_plain e) (written expr_references e) v
written_covered (some e) a = expr_covered e a
written_covered {v = v} none a = elim a [ ]

target_covered : {v : Name} (t : Target) → Among v (target_names t) → Covered (target_plain t) (target_references t) v
target_covered (cell w) a = plainly a
target_covered (element w s) a = covered_element w s a

covered_assign : {v : Name} (t : Target) (e : Expr) → Among v (target_names t) ⊎ Among v (expr_names e)
    → Covered (target_plain t ++ expr_plain e) (target_references t ++ expr_references e) v
covered_assign t e (inl a) = go (target_covered t a)
  where
    go : {v : Name} → Covered (target_plain t) (target_references t) v → Covered (target_plain t ++ expr_plain e) (target_references t ++ expr_references e) v
    go (plainly b) = plainly (among_left (expr_plain e) b)
    go (of_element r i b) = of_element r i (among_left (expr_references e) b)
covered_assign t e (inr a) = go (expr_covered e a)
  where
    go : {v : Name} → Covered (expr_plain e) (expr_references e) v → Covered (target_plain t ++ expr_plain e) (target_references t ++ expr_references e) v
    go (plainly b) = plainly (among_right (target_plain t) b)
    go (of_element r i b) = of_element r i (among_right (target_references t) b)

-- every name of a statement
pub form_covered : {v : Name} (f : Form) → Among v (form_names f) → Covered (form_plain f) (form_references f) v ⊎ Among v (array_names (arrays_in f))
unfolding form_names form_plain form_references
form_covered (assign t e) a = inl (covered_assign t e (among_append (target_names t) (expr_names e) a))
form_covered (computed ns w) a = inl (plainly a)
form_covered (ifs e x y z) a = inl (expr_covered e a)
form_covered (loop n w p₁ p₂ p₃) here = inl (plainly here)
form_covered (loop n w p₁ p₂ p₃) (there a) =
    inl (covered_later w (covered_both (expr_names p₁) (expr_names p₂ ++ written expr_names p₃) (expr_plain p₁) (expr_plain p₂ ++ written expr_plain p₃) (expr_references p₁)
    (expr_references p₂ ++ written expr_references p₃) (expr_covered p₁)
    (covered_both (expr_names p₂) (written expr_names p₃) (expr_plain p₂) (written expr_plain p₃) (expr_references p₂) (written expr_references p₃) (expr_covered p₂)
    (written_covered p₃)) a))
form_covered (dimension arrays) a = inr a
form_covered {v = v} (go_to _) a = elim a [ ]
form_covered {v = v} continue a = elim a [ ]
form_covered {v = v} stop a = elim a [ ]
form_covered {v = v} end a = elim a [ ]

-- ---- a name that stands plainly is one of the statement's

both : {v : Name} (p q n m : List Name) → (Among v p → Among v n) → (Among v q → Among v m) → Among v (p ++ q) → Among v (n ++ m)
both {v} p q n m f g a = go (among_append p q a)
  where
    go : Among v p ⊎ Among v q → Among v (n ++ m)
    go (inl b) = among_left m (f b)
    go (inr b) = among_right n (g b)

expr_plain_lem : {v : Name} (e : Expr) → Among v (expr_plain e) → Among v (expr_names e)
expr_plain_lem (var w) a = a
expr_plain_lem (elm w s) a = there a
expr_plain_lem (neg e) a = expr_plain_lem e a
expr_plain_lem (par e) a = expr_plain_lem e a
expr_plain_lem (bin o x y) a = both (expr_plain x) (expr_plain y) (expr_names x) (expr_names y) (expr_plain_lem x) (expr_plain_lem y) a
expr_plain_lem {v = v} (con _) a = elim a [ ]

written_plain : {v : Name} (e : Option Expr) → Among v (written expr_plain e) → Among v (written expr_names e)
written_plain (some e) a = expr_plain_lem e a
written_plain {v = v} none a = elim a [ ]

target_plain_lem : {v : Name} (t : Target) → Among v (target_plain t) → Among v (target_names t)
target_plain_lem (cell w) a = a
target_plain_lem (element w s) a = there a

pub plain_names : {v : Name} (f : Form) → Among v (form_plain f) → Among v (form_names f)
unfolding form_names form_plain
plain_names (assign t e) a = both (target_plain t) (expr_plain e) (target_names t) (expr_names e) (target_plain_lem t) (expr_plain_lem e) a
plain_names (computed ns w) a = a
plain_names (ifs e x y z) a = expr_plain_lem e a
plain_names (loop n w p₁ p₂ p₃) here = here
plain_names (loop n w p₁ p₂ p₃) (there a) =
    there (both (expr_plain p₁) (expr_plain p₂ ++ written expr_plain p₃) (expr_names p₁) (expr_names p₂ ++ written expr_names p₃) (expr_plain_lem p₁)
    (both (expr_plain p₂) (written expr_plain p₃) (expr_names p₂) (written expr_names p₃) (expr_plain_lem p₂) (written_plain p₃)) a)
plain_names {v = v} (go_to _) a = elim a [ ]
plain_names {v = v} continue a = elim a [ ]
plain_names {v = v} stop a = elim a [ ]
plain_names {v = v} end a = elim a [ ]
plain_names {v = v} (dimension _) a = elim a [ ]

-- so is one that it declares
pub array_names_lem : {v : Name} (f : Form) → Among v (array_names (arrays_in f)) → Among v (form_names f)
unfolding form_names
array_names_lem (dimension arrays) a = a
array_names_lem {v = v} (assign _ _) a = elim a [ ]
array_names_lem {v = v} (go_to _) a = elim a [ ]
array_names_lem {v = v} (computed _ _) a = elim a [ ]
array_names_lem {v = v} (ifs _ _ _ _) a = elim a [ ]
array_names_lem {v = v} (loop _ _ _ _ _) a = elim a [ ]
array_names_lem {v = v} continue a = elim a [ ]
array_names_lem {v = v} stop a = elim a [ ]
array_names_lem {v = v} end a = elim a [ ]

pub declared_names : (arrays : List Array) → names_held (map (λ a. Held.array (declare a)) arrays) ≡ array_names arrays
declared_names [] = refl
declared_names (array v r c ∷ arrays) = ap (λ (l : List Name). v ∷ l) (declared_names arrays)
