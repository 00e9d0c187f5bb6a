-- Examples, computed: which columns are of the forms of a FORMAT, and which are refused 17.
-- Assumes nothing.
use mathlib.Core.Path.{◌≡◌, refl}
use mathlib.Core.List.{◌++◌}
use mathlib.Core.Option.{Option, none, some}
use Prim.Native.String.{String}
use lib.ListN.{replicate}
use Rattle.rules_formats.specs.Format.{Format, close, number, skip, text, slash, group}
use Rattle.rules_formats.specs.Fields.{blank, numeral}
use Rattle.rules_formats.specs.Punched.{list, format_of}
use Rattle.rules_formats.specs.Spelled.{punch}
use Rattle.rules_formats.specs.Small.{bytes}

abbrev reads : String → Option Format
reads s = format_of (bytes s)

-- the word, and the parentheses
pub not_closed : (reads "FORMAT(I5" ≡ none) × (reads "FORMATI5" ≡ none) × (reads "FORMAT" ≡ none) × (reads "FORMAT(I5)" ≡ some (number 1 5 close)) × (reads "FORMAT(I5))" ≡ none) × (reads "FORMAT(I)=3" ≡ none) × (reads "FORMATI=5" ≡ none)
unfolding format_of list
not_closed = (refl, refl, refl, refl, refl, refl, refl)

-- fields, commas and slashes
pub parted : (reads "FORMAT(I5,/I6)" ≡ none)
    × (reads "FORMAT(I5/,I6)" ≡ none)
    × (reads "FORMAT(I5,,I6)" ≡ none)
    × (reads "FORMAT(I5,)" ≡ none)
    × (reads "FORMAT(,I5)" ≡ none)
    × (reads "FORMAT(I5I6)" ≡ none)
    × (reads "FORMAT(3XI5)" ≡ none)
    × (reads "FORMAT()" ≡ none)
    × (reads "FORMAT(I5,())" ≡ none)
    × (reads "FORMAT(X)" ≡ none)
    × (reads "FORMAT(HA)" ≡ none)
    × (reads "FORMAT(2 3X,2(1X))" ≡ some (skip 23 (group 2 (skip 1 close) close)))
    × (reads "FORMAT(/)" ≡ some (slash close))
    × (reads "FORMAT(3(/))" ≡ some (group 3 (slash close) close))
    × (reads "FORMAT(///I7///)" ≡ some (slash (slash (slash (number 1 7 (slash (slash (slash close))))))))
    × (reads "FORMAT(1HA,(I1,1HB),1HC)" ≡ some (text (bytes "A") (group 1 (number 1 1 (text (bytes "B") close)) (text (bytes "C") close))))
    × (reads "FORMAT(I2,2(1X,I1)/I4)" ≡ some (number 1 2 (group 2 (skip 1 (number 1 1 close)) (slash (number 1 4 close)))))
unfolding format_of list
parted = (refl, refl, refl, refl, refl, refl, refl, refl, refl, refl, refl, refl, refl, refl, refl, refl, refl)

-- groups in groups, and a parenthesis that is an H field's
pub nested : reads "FORMAT(2(2(2(I1))),1H),3(/I7,I9)//)"
    ≡ some (group 2 (group 2 (group 2 (number 1 1 close) close) close) (text (bytes ")") (group 3 (slash (number 1 7 (number 1 9 close))) (slash (slash close)))))
unfolding format_of list
nested = refl

-- numbers: 1 to 99999, by value
pub numbers : (reads "FORMAT(00010X)" ≡ some (skip 10 close))
    × (reads "FORMAT(I0)" ≡ none)
    × (reads "FORMAT(0I5)" ≡ none)
    × (reads "FORMAT(0(I5))" ≡ none)
    × (reads "FORMAT(I100000)" ≡ none)
    × (reads "FORMAT(I99999)" ≡ some (number 1 99999 close))
    × (reads "FORMAT(000000I5)" ≡ none)
    × (reads "FORMAT(99999(99999(99999(1X))))" ≡ some (group 99999 (group 99999 (group 99999 (skip 1 close) close) close) close))
unfolding format_of list
numbers = (refl, refl, refl, refl, refl, refl, refl, refl)

-- H fields: the columns as they are, over the end of a card too; elsewhere a $ is none of the forms
pub texts : (reads " F O R M A T ( 6 H A $ B, 1H$)  " ≡ some (text (bytes " A $ B") (text (bytes "$") close)))
    × (format_of (bytes "FORMAT(60HAB" ++ (replicate 54 blank ++ bytes "   C)")) ≡ some (text (bytes "AB" ++ (replicate 57 blank ++ bytes "C")) close))
    × (format_of (bytes "FORMAT(57H" ++ (replicate 56 blank ++ bytes "C)")) ≡ some (text (replicate 56 blank ++ bytes "C") close))
    × (reads "FORMAT(2H A)" ≡ some (text (bytes " A") close))
    × (reads "FORMAT(3HAB)" ≡ none)
    × (reads "FORMAT(I5$)" ≡ none)
    × (reads "FORMAT(1HA1X)" ≡ none)
unfolding format_of list
texts = (refl, refl, refl, refl, refl, refl, refl)

-- a FORMAT's own columns
pub own_columns : punch (number 1 2 (group 2 (skip 1 (number 3 1 close)) (slash (text (bytes " A") (number 1 10 close))))) ≡ bytes "FORMAT(1I2,2(1X,3I1)/2H A,1I10)"
unfolding punch numeral
own_columns = refl
