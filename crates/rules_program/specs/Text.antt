-- What the program prints of a run or a refusal: numerals, names and lines, in bytes. 01 "Worked examples".
-- Assumes nothing.
use Rattle.std.specs.Prelude.{ℕ, zero, suc, ◌+◌, ◌/◌, ◌%◌, List, [], ◌∷◌, ◌++◌, ℤ, pos, negsuc}
use Rattle.rules_object.specs.Object.{Named}
use Rattle.rules_object.specs.Check.{span}
use Rattle.rules_object.specs.Machine.{cell}
use Rattle.rules_text.specs.Cards.{without_blanks}
use Rattle.rules_text.specs.Punch.{bytes}

-- ---- numerals

abbrev pub digit : ℕ → ℕ
digit d = 48 + d

-- the decimal numeral of n, q being n / 10; there are at most `more` digits before the last
abbrev pub numeral_from : ℕ → ℕ → ℕ → List ℕ
numeral_from zero q n = digit n ∷ []
numeral_from (suc more) zero n = digit n ∷ []
numeral_from (suc more) (suc q) n = numeral_from more (suc q / 10) (suc q) ++ (digit (n % 10) ∷ [])

unfoldable pub numeral : ℕ → List ℕ
numeral n = numeral_from n (n / 10) n

-- a minus sign before the digits of a number below 0
unfoldable pub signed : ℤ → List ℕ
signed (pos n) = numeral n
signed (negsuc n) = 45 ∷ numeral (suc n)

-- ---- lines, each with its end

abbrev pub line_end : List ℕ
line_end = 10 ∷ []

-- a word or two, and a number
unfoldable pub stated : List ℕ → ℕ → List ℕ
stated words n = words ++ numeral n

-- halt, steps, and the sequence number of the first drop or 0
unfoldable pub halt_line : ℕ → ℕ → ℕ → List ℕ
halt_line h steps drop = stated (bytes "HALT ") h ++ (stated (bytes " STEPS ") steps ++ (stated (bytes " DROP ") drop ++ line_end))

-- number and place
unfoldable pub refused_line : ℕ → ℕ → List ℕ
refused_line number place = stated (bytes "REFUSED ") number ++ (stated (bytes " ") place ++ line_end)

-- the subscripts of the element that has i elements before it in storage order, which goes by columns; none of a plain name
unfoldable pub subscripts : ℕ → ℕ → ℕ → List ℕ
subscripts zero columns i = []
subscripts (suc r) zero i = stated (bytes "(") (suc i) ++ bytes ")"
subscripts (suc r) (suc c) i = stated (bytes "(") (suc (i % suc r)) ++ (stated (bytes ",") (suc (i / suc r)) ++ bytes ")")

-- name, subscripts and value
unfoldable pub value_line : Named → List ℤ → ℕ → List ℕ
value_line n store i =
    without_blanks n.name ++ (subscripts n.rows n.columns i ++ (bytes " " ++ (signed (cell store (n.first + i)) ++ line_end)))

-- so many values of a name, from the i-th on
abbrev pub value_lines : Named → List ℤ → ℕ → ℕ → List ℕ
value_lines n store zero i = []
value_lines n store (suc more) i = value_line n store i ++ value_lines n store more (suc i)

-- every name with all its values
abbrev pub name_lines : List Named → List ℤ → List ℕ
name_lines [] store = []
name_lines (n ∷ names) store = value_lines n store (span n.rows n.columns) 0 ++ name_lines names store
