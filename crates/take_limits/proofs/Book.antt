-- The tests of what the reader gave back are the book's 11 to 14.
-- Assumes nothing.
use mathlib.Core.Path.{◌≡◌, refl, sym, ap, ap₂, ◌∙◌, subst}
use mathlib.Core.Bool.{Bool, true, false, ◌&&◌}
use mathlib.Core.List.{List, [], ◌∷◌, map, append-nil}
use mathlib.Core.Option.{Option}
use Prim.Native.Nat.{ℕ, ◌≤◌, min}
use native.Mathlib.Omega.{arith}
use lib.Dec.{leb}
use lib.ListN.{length, take, length-take, length-map}
use Rattle.std.specs.List.{list_all}
use borrow.Author.Tests.{leb-true, leb-false, le-leb, lt-leb}
use Rattle.rules_shared.specs.House.{house1401}
use Rattle.rules_shared.specs.Lists.{all}
use Rattle.rules_text.specs.Trees.{Name, Expr, Digits, value_of, Form, assign, go_to, computed, ifs, loop, continue, stop, end, dimension, form_names, form_constants, form_exits, form_last, form_levels}
use Rattle.rules_deck.specs.Judge.{right11, right12, right13, right14}
use Rattle.rules_deck.proofs.Houses.{lawful1401, right13_all}
use Rattle.read_tokens.specs.Words.{capped}
use Rattle.read_forms.specs.Statements.{form_words, form_sizes, statement_of}
use Rattle.read_statement.proofs.Limits.{sizes_11, sizes_12, sizes_14}
use Rattle.take_limits.specs.Tests.{lowest, right_number, of_number, of_sizes, of_statement, exits_in}

-- ---- numbers

abbrev right_digits : Digits → Bool
right_digits n = leb 1 (value_of n) && leb (value_of n) 99999

least_kept : (v : ℕ) → leb 1 (min v 1000000000) ≡ leb 1 v
least_kept v = go (leb 1 v) refl
  where
    go : (b : Bool) → leb 1 v ≡ b → leb 1 (min v 1000000000) ≡ b
    go true e = let a = leb-true 1 v e in le-leb 1 (min v 1000000000) (omega arith)
    go false e = let a = leb-false 1 v e in lt-leb 1 (min v 1000000000) (omega arith)

most_kept : (v : ℕ) → leb (min v 1000000000) 99999 ≡ leb v 99999
most_kept v = go (leb v 99999) refl
  where
    go : (b : Bool) → leb v 99999 ≡ b → leb (min v 1000000000) 99999 ≡ b
    go true e = let a = leb-true v 99999 e in le-leb (min v 1000000000) 99999 (omega arith)
    go false e = let a = leb-false v 99999 e in lt-leb (min v 1000000000) 99999 (omega arith)

pub capped_right : (n : Digits) → right_number (capped n) ≡ right_digits n
unfolding right_number capped
capped_right n = ap₂ (λ (a b : Bool). a && b) (least_kept (value_of n)) (most_kept (value_of n))

pub all_capped : (ns : List Digits) → list_all right_number (map capped ns) ≡ all right_digits ns
all_capped [] = refl
all_capped (n ∷ ns) = ap₂ (λ (a b : Bool). a && b) (capped_right n) (all_capped ns)

and_true : (b : Bool) → (b && true) ≡ b
and_true true = refl
and_true false = refl

-- ---- a form

sizes_tell : (k : ℕ) (f : Form) (b : Bool) → b ≡ right13 (house1401 k) f → of_sizes k (form_sizes f) b ≡ lowest (right11 (house1401 k) f) (right12 (house1401 k) f) (right13 (house1401 k) f) (right14 f)
unfolding of_sizes
sizes_tell k f b e = rw (sizes_11 (house1401 k) f, sizes_12 (house1401 k) f, sizes_14 f, e)

number_tells : (k : ℕ) (n : Digits) → right_number (capped n) ≡ right13 (house1401 k) (go_to n)
unfolding form_exits form_last
number_tells k n = capped_right n ∙ sym (and_true (right_digits n)) ∙ sym (right13_all (lawful1401 k) (go_to n))

last_tells : (k : ℕ) (n : Digits) (v : Name) (p q : Expr) (r : Option Expr) → right_number (capped n) ≡ right13 (house1401 k) (loop n v p q r)
unfolding form_exits form_last
last_tells k n v p q r = capped_right n ∙ sym (and_true (right_digits n)) ∙ sym (right13_all (lawful1401 k) (loop n v p q r))

three_tell : (k : ℕ) (e : Expr) (a b c : Digits) → (right_number (capped a) && (right_number (capped b) && right_number (capped c))) ≡ right13 (house1401 k) (ifs e a b c)
unfolding form_exits form_last
three_tell k e a b c = rw (right13_all (lawful1401 k) (ifs e a b c), capped_right a, capped_right b, capped_right c, and_true (right_digits c))

list_tells : (k : ℕ) (ns : List Digits) (v : Name) → list_all right_number (map capped ns) ≡ right13 (house1401 k) (computed ns v)
unfolding form_exits form_last
list_tells k ns v = all_capped ns ∙ ap (all right_digits) (sym (append-nil ns)) ∙ sym (right13_all (lawful1401 k) (computed ns v))

go_to_alone : (k : ℕ) (n : Digits) → of_number (right_number (capped n)) ≡ lowest (right11 (house1401 k) (go_to n)) (right12 (house1401 k) (go_to n)) (right13 (house1401 k) (go_to n)) (right14 (go_to n))
unfolding right11 right12 right14 form_names form_constants form_levels
go_to_alone k n = ap of_number (number_tells k n)

computed_table : (ns : List Digits) (v : Name) (items : List ℕ) → take (length (form_words (computed ns v))) items ≡ form_words (computed ns v) → take (length ns) items ≡ map capped ns
unfolding form_words
computed_table ns v items h = subst (λ (n : ℕ). take n items ≡ map capped ns) (length-map ns capped) h

pub of_form : (k : ℕ) (f : Form) (items : List ℕ) → take (length (form_words f)) items ≡ form_words f
    → of_statement k items (statement_of f) ≡ lowest (right11 (house1401 k) f) (right12 (house1401 k) f) (right13 (house1401 k) f) (right14 f)
unfolding of_statement statement_of right11 right12 right13 right14 form_names form_constants form_levels form_exits form_last
of_form k (assign t e) items h = sizes_tell k (assign t e) true refl
of_form k (go_to n) items h = go_to_alone k n
of_form k (computed ns v) items h = sizes_tell k (computed ns v) (list_all right_number (take (length ns) items)) (ap (list_all right_number) (computed_table ns v items h) ∙ list_tells k ns v)
of_form k (ifs e a b c) items h = sizes_tell k (ifs e a b c) _ (three_tell k e a b c)
of_form k (loop n v p q r) items h = sizes_tell k (loop n v p q r) _ (last_tells k n v p q r)
of_form k continue items h = refl
of_form k stop items h = refl
of_form k end items h = refl
of_form k (dimension arrays) items h = sizes_tell k (dimension arrays) true refl

-- the numbers stand in the table
pub exits_fit : (f : Form) (items : List ℕ) → take (length (form_words f)) items ≡ form_words f → exits_in (statement_of f) ≤ length items
unfolding exits_in statement_of
exits_fit (assign t e) items h = omega arith
exits_fit (go_to n) items h = omega arith
exits_fit (computed ns v) items h =
    omega (arith, length-take (length ns) items, ap length (computed_table ns v items h), length-map ns capped)
exits_fit (ifs e a b c) items h = omega arith
exits_fit (loop n v p q r) items h = omega arith
exits_fit continue items h = omega arith
exits_fit stop items h = omega arith
exits_fit end items h = omega arith
exits_fit (dimension arrays) items h = omega arith
