-- One number in its columns: as PRINT writes it and as READ takes it. 02 and 004.
-- Assumes nothing.
use Rattle.std.specs.Prelude.{ℕ, zero, suc, ◌+◌, ◌-◌, ◌*◌, ◌/◌, ◌%◌, Bool, true, false, ◌&&◌, ◌||◌, cond, List, [], ◌∷◌, ◌++◌, leb, ltb, eqb, length, replicate, ℤ, pos, negsuc, nat_abs, neg_ℤ}
use Rattle.std.proofs.Math.Option.{Option, none, some}

abbrev pub blank : ℕ
blank = 32

abbrev pub asterisk : ℕ
asterisk = 42

-- ---- printed

abbrev pub digit : ℕ → ℕ
digit d = 48 + d

-- the decimal numeral of n, q being n / 10; there are at most `more` digits before the last
abbrev pub numeral_from : ℕ → ℕ → ℕ → List ℕ
numeral_from zero q n = digit n ∷ []
numeral_from (suc more) zero n = digit n ∷ []
numeral_from (suc more) (suc q) n = numeral_from more (suc q / 10) (suc q) ++ (digit (n % 10) ∷ [])

unfoldable pub numeral : ℕ → List ℕ
numeral n = numeral_from n (n / 10) n

-- a minus just before the first digit, no plus
unfoldable pub signed : ℤ → List ℕ
signed (pos n) = numeral n
signed (negsuc n) = 45 ∷ numeral (suc n)

-- right-justified, or asterisks across the width
abbrev pub justified : Bool → ℕ → List ℕ → List ℕ
justified true width cs = replicate (width - length cs) blank ++ cs
justified false width cs = replicate width asterisk

-- digits and minus have room in the width
unfoldable pub holds : ℕ → ℤ → Bool
holds width v = leb (length (signed v)) width

unfoldable pub printed : ℕ → ℤ → List ℕ
printed width v = justified (holds width v) width (signed v)

-- ---- read

abbrev pub is_blank : ℕ → Bool
is_blank c = eqb c blank

abbrev pub is_digit : ℕ → Bool
is_digit c = leb 48 c && leb c 57

-- an 11-punch, or an 8-4 punch (004)
abbrev pub is_minus : ℕ → Bool
is_minus c = eqb c 45 || eqb c 64

abbrev pub is_plus : ℕ → Bool
is_plus c = eqb c 43

-- blanks to the field's end, each counting as a 0, after the number n
abbrev pub zeros : ℕ → List ℕ → Option ℕ
zeros n [] = some n
zeros n (c ∷ cs) = cond (is_blank c) (zeros (n * 10) cs) none

-- more digits after the number n, then blanks
abbrev pub digits : ℕ → List ℕ → Option ℕ
digits n [] = some n
digits n (c ∷ cs) = cond (is_digit c) (digits (n * 10 + (c - 48)) cs) (zeros n (c ∷ cs))

-- a digit at least
abbrev pub magnitude : List ℕ → Option ℕ
magnitude [] = none
magnitude (c ∷ cs) = cond (is_digit c) (digits (c - 48) cs) none

abbrev pub plus : Option ℕ → Option ℤ
plus none = none
plus (some n) = some (pos n)

abbrev pub minus : Option ℕ → Option ℤ
minus none = none
minus (some n) = some (neg_ℤ (pos n))

-- blanks, then a sign or none, then digits; all blank is 0
abbrev pub number : List ℕ → Option ℤ
number [] = some (pos 0)
number (c ∷ cs) =
    cond (is_blank c) (number cs) (cond (is_minus c) (minus (magnitude cs)) (cond (is_plus c) (plus (magnitude cs)) (plus (magnitude (c ∷ cs)))))

-- a number that fits is below the ceiling, by value: for k digits, 10^k
abbrev pub within : ℕ → Option ℤ → Option ℤ
within ceiling none = none
within ceiling (some v) = cond (ltb (nat_abs v) ceiling) (some v) none

unfoldable pub field_read : ℕ → List ℕ → Option ℤ
field_read ceiling columns = within ceiling (number columns)
