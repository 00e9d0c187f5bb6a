-- What was read and passed 11 to 13: its names are told by their bytes, its constants and numbers are the values that the reader gives.
-- Assumes nothing.
use mathlib.Core.Path.{◌≡◌, refl, sym, ap, ◌∙◌}
use Prim.Native.Nat.{ℕ, ◌≤◌, ◌<◌, min}
use native.Mathlib.Omega.{arith}
use mathlib.Core.Bool.{Bool, true, false, ◌&&◌, ◌||◌}
use mathlib.Core.List.{List, [], ◌∷◌, ◌++◌, map}
use mathlib.Core.Option.{some}
use lib.Dec.{leb}
use lib.ListN.{length}
use borrow.Author.Tests.{leb-true, leb-false, le-leb, lt-leb}
use Rattle.rules_shared.specs.Limits.{limits}
use Rattle.rules_shared.specs.House.{House}
use Rattle.rules_shared.specs.Lists.{all, Each, each_none, each_more}
use Rattle.rules_object.specs.Check.{is_letter, is_digit}
use Rattle.rules_shared.proofs.EachLaws.{each_map}
use Rattle.rules_text.specs.Trees.{Name, Digits, value_of, Form, form_names, form_constants, form_exits, form_last}
use Rattle.rules_text.specs.Tokens.{is_letter_or_digit}
use Rattle.rules_text.specs.Cards.{right_digits}
use Rattle.rules_text.specs.Grammar.{form_of}
use Rattle.rules_deck.specs.Judge.{starts_integer, right11, right12, number_within, right13}
use Rattle.rules_deck.specs.Lawful.{Lawful}
use Rattle.rules_text.specs.Spelling.{IsDigits, IsName, is_name}
use Rattle.rules_deck.proofs.Houses.{right13_all}
use Rattle.rules_text.proofs.Readers.{both_true, digit_bounds, letter_bounds}
use Rattle.rules_text.proofs.ReadForms.{read_names, read_constants}
use Rattle.rules_deck.proofs.MapNames.{NoBlank}
use Rattle.rules_text.proofs.Values.{ten_most, value_within}
use Rattle.read_tokens.specs.Words.{most, capped}
use Rattle.take_draft.specs.Names.{Told, Exact}
use Rattle.take_draft.specs.Draft.{jump_words}

-- ---- names

solid_byte : (c : ℕ) → is_letter_or_digit c ≡ true → (48 ≤ c) × (c ≤ 90)
unfolding is_letter_or_digit
solid_byte c e = go (is_letter c) refl e
  where
    go : (b : Bool) → is_letter c ≡ b → (b || is_digit c) ≡ true → (48 ≤ c) × (c ≤ 90)
    go true p q = let l = letter_bounds c p in (omega arith, omega arith)
    go false p q = let d = digit_bounds c q in (omega arith, omega arith)

pub name_solid : {v : Name} → IsName v → NoBlank v
name_solid (is_name {c} p ps) =
    each_more (λ (z : c ≡ 32). omega (arith, letter_bounds c p)) (each_map (λ a e z. omega (arith, solid_byte a e)) ps)

pub name_bytes : {v : Name} → IsName v → Each (λ (c : ℕ). c < 256) v
name_bytes (is_name {c} p ps) = each_more {x = c} (omega (arith, letter_bounds c p)) (each_map (λ a e. omega (arith, solid_byte a e)) ps)

told_all : (n : ℕ) → n < 8 → {l : List Name} → Each IsName l → all (λ v. leb (length v) n && starts_integer v) l ≡ true → Each Told l
told_all n h each_none e = each_none
told_all n h (each_more {x = a} {xs = l} p ps) e =
    let two = both_true (leb (length a) n && starts_integer a) _ e in
    let s = both_true (leb (length a) n) (starts_integer a) two.0 in
    each_more {x = a} (record { short = let f = leb-true (length a) n s.0 in omega (arith, f, h); solid = name_solid p; bytes = name_bytes p }) (told_all n h ps two.1)

pub read_told : {house : House} → Lawful house → (text : List ℕ) (f : Form) → form_of text ≡ some f → right11 house f ≡ true → Each Told (form_names f)
unfolding right11
read_told {house} lawful text f r e = told_all house.name_length (omega (arith, lawful.names)) (read_names text f r) e

-- ---- constants

pub exact_capped : (c : Digits) → Exact c → capped c ≡ value_of c
unfolding capped
exact_capped c e = omega arith

exact_all : (k : ℕ) → k ≤ 9 → {l : List Digits} → Each IsDigits l → all (λ c. leb (length c) k) l ≡ true → Each Exact l
exact_all k h each_none e = each_none
exact_all k h (each_more {x = a} {xs = l} p ps) e =
    let two = both_true (leb (length a) k) _ e in
    let v = value_within k a p (leb-true (length a) k two.0) in
    let m = ten_most k h in
    each_more {x = a} (omega arith) (exact_all k h ps two.1)

pub read_exact : {house : House} → Lawful house → (text : List ℕ) (f : Form) → form_of text ≡ some f → right_digits house ≡ true → right12 house f ≡ true → Each Exact (form_constants f)
unfolding right12
read_exact {house} lawful text f r d e = exact_all house.digits (lawful.digits d).1 (read_constants text f r) e

-- ---- statement numbers

-- 1 to 99999
abbrev pub right_number : ℕ → Bool
right_number n = leb 1 n && leb n limits.statement_number

cap_right : (v : ℕ) → right_number v ≡ right_number (min v most)
cap_right v = go (leb v most) refl
  where
    go : (b : Bool) → leb v most ≡ b → right_number v ≡ right_number (min v most)
    go true e = let l = leb-true v most e in let s : min v most ≡ v = omega arith in ap right_number (sym s)
    go false e =
        let l = leb-false v most e in
        let s : min v most ≡ most = omega arith in
        let one = le-leb 1 v (omega arith) in
        let big = lt-leb v limits.statement_number (omega arith) in
        rw (one, big, s)

pub number_right_lem : (n : Digits) → right_number (value_of n) ≡ right_number (capped n)
unfolding capped
number_right_lem n = cap_right (value_of n)

pub number_exact : (n : Digits) → right_number (capped n) ≡ true → capped n ≡ value_of n
number_exact n e =
    let two = both_true (leb 1 (value_of n)) (leb (value_of n) limits.statement_number) (number_right_lem n ∙ e) in
    let l = leb-true (value_of n) limits.statement_number two.1 in
    exact_capped n (omega arith)

right_all : (ns : List Digits) → all (number_within false) ns ≡ all right_number (map capped ns)
right_all [] = refl
right_all (n ∷ ns) = rw (← number_right_lem n, right_all ns)

pub right13_capped : {house : House} → Lawful house → (f : Form) → right13 house f ≡ all right_number (map capped (form_exits f ++ form_last f))
right13_capped lawful f = right13_all lawful f ∙ right_all (form_exits f ++ form_last f)

pub exact_numbers : (ns : List Digits) → all right_number (map capped ns) ≡ true → map capped ns ≡ map value_of ns
exact_numbers [] e = refl
exact_numbers (n ∷ ns) e =
    let two = both_true (right_number (capped n)) (all right_number (map capped ns)) e in
    rw (number_exact n two.0, exact_numbers ns two.1)

pub numbers_exact : {house : House} → Lawful house → (f : Form) → right13 house f ≡ true → map capped (form_exits f ++ form_last f) ≡ jump_words f
numbers_exact lawful f e = exact_numbers (form_exits f ++ form_last f) (sym (right13_capped lawful f) ∙ e)
