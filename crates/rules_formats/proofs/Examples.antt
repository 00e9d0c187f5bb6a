-- Examples, computed: what is written out, printed and read. k is 5.
-- Assumes nothing.
use mathlib.Core.Path.{◌≡◌, refl}
use mathlib.Core.List.{List, [], ◌∷◌}
use mathlib.Core.Option.{Option, none, some}
use Prim.Native.Nat.{ℕ, ◌^◌}
use Prim.Native.String.{String}
use lib.IntN.{ℤ, pos, negsuc}
use Rattle.rules_formats.specs.Format.{Format, close, number, skip, text, slash, group, I, X, H, new_record, again, flat, new_scan}
use Rattle.rules_formats.specs.Words.{format_words}
use Rattle.rules_formats.specs.Fields.{numeral, signed, holds, printed, field_read}
use Rattle.rules_formats.specs.Walk.{Outcome, fine, trouble, bad_subscript, ran_out, bad_field, prints, reads}
use Rattle.rules_formats.specs.Small.{Item, cell, element, Store, bytes, lines_like, printing, reading}

-- I, so many times
abbrev I0 : ℕ → List Item
I0 ℕ.zero = []
I0 (ℕ.suc n) = cell 0 ∷ I0 n

-- I and J
abbrev IJ : List Item
IJ = cell 0 ∷ cell 1 ∷ []

-- with I set: PRINT of I so many times; the texts of the lines
abbrev prints_of : ℕ → ℤ → ℕ → Format → Outcome (List (List ℕ))
prints_of room v n f = printing room f (I0 n) (v ∷ [])

abbrev shows : List String → Outcome (List (List ℕ))
shows ss = fine (lines_like ss)

-- with I, J 0: READ of I and J
abbrev reads_IJ : List String → Format → Outcome (Store × ℕ)
reads_IJ cs f = reading cs f IJ (pos 0 ∷ pos 0 ∷ [])

-- READ of one I
abbrev reads_I : String → ℕ → Outcome (Store × ℕ)
reads_I c w = reading (c ∷ []) (number 1 w close) (cell 0 ∷ []) (pos 0 ∷ [])

-- an array L of three in cells 0 to 2, and K in cell 3: K, L(K)
abbrev KLK : List Item
KLK = cell 3 ∷ element 0 3 3 ∷ []

abbrev LK : List Item
LK = element 0 3 3 ∷ []

abbrev zeros : Store
zeros = pos 0 ∷ pos 0 ∷ pos 0 ∷ pos 0 ∷ []

-- ---- written out

-- (I2,2(1X,I1)/I4) and (2H A)
pub written : (flat (number 1 2 (group 2 (skip 1 (number 1 1 close)) (slash (number 1 4 close)))) ≡ record { fields = I 2 ∷ X 1 ∷ I 1 ∷ X 1 ∷ I 1 ∷ new_record ∷ I 4 ∷ []; again = 1 })
    × (flat (text (bytes " A") close) ≡ record { fields = H 32 ∷ H 65 ∷ []; again = 0 })
unfolding flat again
written = (refl, refl)

-- ---- columns

pub columns : (prints_of 1 (pos 12345) 1 (number 1 5 close) ≡ shows ("12345" ∷ []))
    × (prints_of 1 (pos 0) 1 (skip 130 (number 1 2 close)) ≡ shows ("                                                                                                                                   0" ∷ []))
    × (prints_of 1 (pos 0) 1 (skip 130 (number 1 3 close)) ≡ trouble bad_field)
unfolding prints flat again new_scan printed holds signed numeral
columns = (refl, refl, refl)

-- ---- when records end

-- (///I7///), (5H1HEAD//) with no list, (I1/I1), (I1,1X,1HA,I1)
pub records_put_out : (prints_of 9 (pos 0) 1 (slash (slash (slash (number 1 7 (slash (slash (slash close))))))) ≡ shows ("" ∷ "" ∷ "" ∷ "      0" ∷ "" ∷ "" ∷ "" ∷ []))
    × (prints_of 9 (pos 0) 0 (text (bytes "1HEAD") (slash (slash close))) ≡ shows ("1HEAD" ∷ "" ∷ "" ∷ []))
    × (prints_of 9 (pos 0) 1 (number 1 1 (slash (number 1 1 close))) ≡ shows ("0" ∷ "" ∷ []))
    × (prints_of 9 (pos 0) 1 (number 1 1 (skip 1 (text (bytes "A") (number 1 1 close)))) ≡ shows ("0 A" ∷ []))
unfolding prints flat again new_scan printed holds signed numeral
records_put_out = (refl, refl, refl, refl)

-- (I1/I1) takes two of three cards for one item, and then one is too few; (/) takes two with no list
pub records_taken : (reading ("7" ∷ "8" ∷ "9" ∷ []) (number 1 1 (slash (number 1 1 close))) (cell 0 ∷ []) (pos 0 ∷ []) ≡ fine (pos 7 ∷ [], 1))
    × (reading ("9" ∷ []) (number 1 1 (slash (number 1 1 close))) (cell 0 ∷ []) (pos 0 ∷ []) ≡ trouble ran_out)
    × (reading ("A" ∷ "B" ∷ "8" ∷ []) (slash close) [] (pos 0 ∷ []) ≡ fine (pos 0 ∷ [], 1))
unfolding reads flat again new_scan field_read
records_taken = (refl, refl, refl)

-- ---- new scans

-- (1HA,(I1,1HB),1HC), (1HA,2(I1),1HC,2I1) with four and five items, (I1,(1X))
pub scans : (prints_of 9 (pos 0) 3 (text (bytes "A") (group 1 (number 1 1 (text (bytes "B") close)) (text (bytes "C") close))) ≡ shows ("A0BC" ∷ "0BC" ∷ "0BC" ∷ []))
    × (prints_of 9 (pos 0) 4 (text (bytes "A") (group 2 (number 1 1 close) (text (bytes "C") (number 2 1 close)))) ≡ shows ("A00C00" ∷ []))
    × (prints_of 9 (pos 0) 5 (text (bytes "A") (group 2 (number 1 1 close) (text (bytes "C") (number 2 1 close)))) ≡ shows ("A00C00" ∷ "0" ∷ []))
    × (prints_of 9 (pos 0) 2 (number 1 1 (group 1 (skip 1 close) close)) ≡ trouble ran_out)
unfolding prints flat again new_scan printed holds signed numeral
scans = (refl, refl, refl, refl)

-- ---- the first trouble

-- a later item uses what was read; the second card is missing; the subscript goes before the columns, the first card before the subscript
pub order_of_reading : (reading (" 2 9" ∷ []) (number 2 2 close) KLK zeros ≡ fine (pos 0 ∷ pos 9 ∷ pos 0 ∷ pos 2 ∷ [], 0))
    × (reads_IJ (" 2" ∷ []) (number 1 2 close) ≡ trouble ran_out)
    × (reading (" 7" ∷ []) (number 1 99 close) LK zeros ≡ trouble bad_subscript)
    × (reading [] (number 1 99 close) LK zeros ≡ trouble ran_out)
    × (reading ("" ∷ []) (number 1 80 (skip 1 close)) (cell 0 ∷ []) (pos 0 ∷ []) ≡ trouble bad_field)
unfolding reads flat again new_scan field_read
order_of_reading = (refl, refl, refl, refl, refl)

-- columns before the line's room
pub order_of_printing : (prints_of 0 (pos 0) 1 (number 1 133 close) ≡ trouble bad_field) × (prints_of 0 (pos 0) 1 (number 1 132 close) ≡ trouble ran_out)
unfolding prints flat again new_scan printed holds signed numeral
order_of_printing = (refl, refl)

-- ---- fields printed

pub narrow : prints_of 9 (negsuc 11) 3 (number 1 4 (number 1 3 (number 1 2 close))) ≡ shows (" -12-12**" ∷ [])
unfolding prints flat again new_scan printed holds signed numeral
narrow = refl

-- ---- fields read

pub numbers : (reading ("12   -3   @4" ∷ []) (number 1 5 (number 1 4 (number 1 3 close))) (cell 0 ∷ cell 1 ∷ cell 2 ∷ []) zeros ≡ fine (pos 12000 ∷ negsuc 299 ∷ negsuc 3 ∷ pos 0 ∷ [], 0))
    × (reads_I "" 3 ≡ fine (pos 0 ∷ [], 0))
    × (reads_I " +7" 3 ≡ fine (pos 7 ∷ [], 0))
    × (reads_I "-0 " 3 ≡ fine (pos 0 ∷ [], 0))
    × (reads_I "0012345" 7 ≡ fine (pos 12345 ∷ [], 0))
unfolding reads flat again new_scan field_read
numbers = (refl, refl, refl, refl, refl)

pub no_numbers : (reads_I "1 2" 3 ≡ trouble bad_field)
    × (reads_I "- 2" 3 ≡ trouble bad_field)
    × (reads_I "  -" 3 ≡ trouble bad_field)
    × (reads_I "1A" 3 ≡ trouble bad_field)
    × (reads_I "--1" 3 ≡ trouble bad_field)
    × (reads_I "100000" 6 ≡ trouble bad_field)
unfolding reads flat again new_scan field_read
no_numbers = (refl, refl, refl, refl, refl, refl)

-- ---- a name twice

pub twice : reading (" 1 2" ∷ []) (number 2 2 close) (cell 0 ∷ cell 0 ∷ []) (pos 0 ∷ []) ≡ fine (pos 2 ∷ [], 0)
unfolding reads flat again new_scan field_read
twice = refl

-- ---- words

-- FORMAT(2I5,2(1X,(2HA ))/), at word 100
pub words_of : format_words 100 (flat (number 2 5 (group 2 (skip 1 (group 1 (text (bytes "A ") close) close)) (slash close))))
    ≡ 16777221 ∷ 16777221 ∷ 33554433 ∷ 50331713 ∷ 50331680 ∷ 33554433 ∷ 50331713 ∷ 50331680 ∷ 67108864 ∷ 83886182 ∷ []
unfolding format_words flat again
words_of = refl
