-- A number printed in a field that can hold it reads back as the same number; a printed field has its width.
-- Assumes nothing.
use mathlib.Core.Path.{◌≡◌, refl, sym, ap, ◌∙◌}
use mathlib.Core.Bool.{Bool, true, false, ◌&&◌, cond}
use mathlib.Core.List.{List, [], ◌∷◌, ◌++◌, append-nil, append_assoc}
use mathlib.Core.Option.{Option, none, some}
use Prim.Native.Nat.{ℕ, zero, suc, ◌+◌, ◌-◌, ◌*◌, ◌/◌, ◌%◌, ◌^◌, ◌≤◌, ◌<◌}
use native.Mathlib.Omega.{arith}
use borrow.Author.Tests.{ltb-true, lt-ltb, leb-true, leb-false, le-leb, ne_eqb}
use lib.Dec.{leb, ltb, eqb}
use lib.ListN.{length, replicate, take, drop, length-append, length-replicate}
use lib.IntN.{ℤ, pos, negsuc, nat_abs}
use Rattle.rules_formats.specs.Fields.{blank, asterisk, digit, numeral_from, numeral, signed, justified, holds, printed, is_blank, is_digit, is_minus, is_plus, zeros, digits, magnitude, plus, minus, number, within, field_read}

-- ---- lengths

justified_length : (b : Bool) (w : ℕ) (cs : List ℕ) → leb (length cs) w ≡ b → length (justified b w cs) ≡ w
justified_length true w cs e =
    let h : length cs ≤ w = leb-true (length cs) w e in
    simp (length-append, length-replicate) (omega arith)
justified_length false w cs e = length-replicate w asterisk

-- a printed field has w columns, whatever the number
pub printed_length : (w : ℕ) (v : ℤ) → length (printed w v) ≡ w
unfolding printed holds
printed_length w v = justified_length (leb (length (signed v)) w) w (signed v) refl

-- ---- a numeral reads as its number

pub digit_is : (d : ℕ) → d < 10 → is_digit (digit d) ≡ true
digit_is d h = rw (le-leb 48 (digit d) (omega arith), le-leb (digit d) 57 (omega arith)) refl

one_digit : (d : ℕ) (cs : List ℕ) → d < 10 → magnitude (digit d ∷ cs) ≡ digits d cs
one_digit d cs h =
    ap (λ (b : Bool). cond b (digits (digit d - 48) cs) none) (digit_is d h) ∙ ap (λ (n : ℕ). digits n cs) less
  where
    less : digit d - 48 ≡ d
    less = omega arith

next_digit : (n d : ℕ) (cs : List ℕ) → d < 10 → digits n (digit d ∷ cs) ≡ digits (n * 10 + d) cs
next_digit n d cs h =
    ap (λ (b : Bool). cond b (digits (n * 10 + (digit d - 48)) cs) (zeros n (digit d ∷ cs))) (digit_is d h) ∙ ap (λ (m : ℕ). digits m cs) less
  where
    less : n * 10 + (digit d - 48) ≡ n * 10 + d
    less = omega arith

-- what follows the numeral goes on from its number
numeral_then : (more q n : ℕ) (cs : List ℕ) → n ≤ more → q ≡ n / 10 → magnitude (numeral_from more q n ++ cs) ≡ digits n cs
numeral_then zero q n cs h e = one_digit n cs (omega arith)
numeral_then (suc more) zero n cs h e = one_digit n cs (omega arith)
numeral_then (suc more) (suc q) n cs h e =
    ap magnitude (append_assoc (numeral_from more (suc q / 10) (suc q)) (digit (n % 10) ∷ []) cs)
    ∙ numeral_then more (suc q / 10) (suc q) (digit (n % 10) ∷ cs) (omega arith) refl
    ∙ next_digit (suc q) (n % 10) cs (omega arith)
    ∙ ap (λ (m : ℕ). digits m cs) all
  where
    all : suc q * 10 + n % 10 ≡ n
    all = omega arith

pub numeral_magnitude : (n : ℕ) → magnitude (numeral n) ≡ some n
unfolding numeral
numeral_magnitude n =
    ap magnitude (sym (append-nil (numeral_from n (n / 10) n))) ∙ numeral_then n (n / 10) n [] (omega arith) refl

-- ---- blanks, sign and digits

pub both : (a b : Bool) → a && b ≡ true → (a ≡ true) × (b ≡ true)
both true b e = (refl, e)
both false b e = let z : ◌≡◌ {A = ℕ} 0 1 = cc in absurd (omega arith)

-- a text that begins with a digit has neither blanks nor a sign before
unsigned : (cs : List ℕ) (n : ℕ) → magnitude cs ≡ some n → number cs ≡ some (pos n)
unsigned [] n e = let z : ◌≡◌ {A = ℕ} 0 1 = cc in absurd (omega arith)
unsigned (c ∷ cs) n e = go (is_digit c) refl e
  where
    go : (b : Bool) → is_digit c ≡ b → cond b (digits (c - 48) cs) none ≡ some n → number (c ∷ cs) ≡ some (pos n)
    go true d e' =
        let low : 48 ≤ c = leb-true 48 c (both (leb 48 c) (leb c 57) d).0 in
        let high : c ≤ 57 = leb-true c 57 (both (leb 48 c) (leb c 57) d).1 in
        rw (ne_eqb c 32 (λ z. omega arith), ne_eqb c 45 (λ z. omega arith), ne_eqb c 64 (λ z. omega arith), ne_eqb c 43 (λ z. omega arith), d) (ap plus e')
    go false d e' = let z : ◌≡◌ {A = ℕ} 0 1 = cc in absurd (omega arith)

pub signed_number : (v : ℤ) → number (signed v) ≡ some v
unfolding signed
signed_number (pos n) = unsigned (numeral n) n (numeral_magnitude n)
signed_number (negsuc n) = ap minus (numeral_magnitude (suc n))

pub blanks_skipped : (n : ℕ) (cs : List ℕ) → number (replicate n blank ++ cs) ≡ number cs
blanks_skipped zero cs = refl
blanks_skipped (suc n) cs = blanks_skipped n cs

-- ---- printed, and read back

justified_read : (b : Bool) (w : ℕ) (v : ℤ) → b ≡ true → number (justified b w (signed v)) ≡ some v
justified_read true w v e = blanks_skipped (w - length (signed v)) (signed v) ∙ signed_number v
justified_read false w v e = let z : ◌≡◌ {A = ℕ} 0 1 = cc in absurd (omega arith)

-- What a field can hold, printed and read back, is the same number, where it is below the ceiling that the reading has.
pub print_read : (ceiling w : ℕ) (v : ℤ) → holds w v ≡ true → nat_abs v < ceiling → field_read ceiling (printed w v) ≡ some v
unfolding field_read printed
print_read ceiling w v h b =
    ap (within ceiling) (justified_read (holds w v) w v h)
    ∙ ap (λ (t : Bool). cond t (some v) none) (lt-ltb (nat_abs v) ceiling b)

-- ---- a field cut from its line

cut_front : (n : ℕ) (xs ys : List ℕ) → length xs ≡ n → take n (xs ++ ys) ≡ xs
cut_front zero [] ys e = refl
cut_front (suc n) [] ys e = absurd (omega arith)
cut_front zero (x ∷ xs) ys e = absurd (omega arith)
cut_front (suc n) (x ∷ xs) ys e = ap (λ (l : List ℕ). x ∷ l) (cut_front n xs ys (omega arith))

drop_front : (xs ys : List ℕ) → drop (length xs) (xs ++ ys) ≡ ys
drop_front [] ys = refl
drop_front (x ∷ xs) ys = drop_front xs ys

-- the columns of a field, from the column where it was put, whatever was put after it
pub cut_out : (line : List ℕ) (w : ℕ) (v : ℤ) (after : List ℕ) → take w (drop (length line) ((line ++ printed w v) ++ after)) ≡ printed w v
cut_out line w v after =
    ap (λ (l : List ℕ). take w (drop (length line) l)) (append_assoc line (printed w v) after)
    ∙ ap (take w) (drop_front line (printed w v ++ after))
    ∙ cut_front w (printed w v) after (printed_length w v)

pub print_read_at : (ceiling : ℕ) (line : List ℕ) (w : ℕ) (v : ℤ) (after : List ℕ)
    → holds w v ≡ true
    → nat_abs v < ceiling
    → field_read ceiling (take w (drop (length line) ((line ++ printed w v) ++ after))) ≡ some v
print_read_at ceiling line w v after h b = ap (field_read ceiling) (cut_out line w v after) ∙ print_read ceiling w v h b

-- ---- what reading gives

within_below : (ceiling : ℕ) (o : Option ℤ) (v : ℤ) → within ceiling o ≡ some v → nat_abs v < ceiling
within_below ceiling none v e = let z : ◌≡◌ {A = ℕ} 0 1 = cc in absurd (omega arith)
within_below ceiling (some u) v e = go (ltb (nat_abs u) ceiling) refl e
  where
    go : (b : Bool) → ltb (nat_abs u) ceiling ≡ b → cond b (some u) none ≡ some v → nat_abs v < ceiling
    go true t e' =
        let same : nat_abs u ≡ nat_abs v = cc in
        omega (arith, ltb-true (nat_abs u) ceiling t)
    go false t e' = let z : ◌≡◌ {A = ℕ} 0 1 = cc in absurd (omega arith)

-- a field never reads as a number that does not fit
pub read_below : (ceiling : ℕ) (columns : List ℕ) (v : ℤ) → field_read ceiling columns ≡ some v → nat_abs v < ceiling
unfolding field_read
read_below ceiling columns v e = within_below ceiling (number columns) v e

-- all blank is 0
pub blank_field : (ceiling w : ℕ) → 0 < ceiling → field_read ceiling (replicate w blank) ≡ some (pos 0)
unfolding field_read
blank_field ceiling w h =
    ap (λ (l : List ℕ). within ceiling (number l)) (sym (append-nil (replicate w blank)))
    ∙ ap (within ceiling) (blanks_skipped w [])
    ∙ ap (λ (t : Bool). cond t (some (pos 0)) none) (lt-ltb 0 ceiling h)
