-- What statement texts read as: a table of examples, computed. None is refused 10.
-- Assumes nothing.
use mathlib.Core.Path.{◌≡◌, refl}
use Prim.Native.Nat.{ℕ}
use Prim.Native.Char.{code}
use Prim.Native.String.{String}
use Prim.Native.String
use mathlib.Core.List.{List, [], ◌∷◌}
use mathlib.Core.Option.{Option, none, some}
use Rattle.number.specs.Number.{sub, mul, div}
use Rattle.rules_text.specs.Trees.{nothing, plus, minus, constant, linear, one, two, con, var, elm, neg, par, bin, cell, element, array, Form, assign, go_to, computed, ifs, loop, continue, stop, end, dimension}
use Rattle.rules_text.specs.Tokens.{word_go_to, word_if, word_do, word_continue, word_stop, word_end, word_dimension, is_letter_or_digit, give, give_if, ahead, follow, and_then, after, after_word, choose, starts, starts_digit, all_of, whole, run, digit_run, name_run, taken, number, name, listed_up_to, listed}
use Rattle.rules_text.specs.Grammar.{addend, linear_of, subscript, subscripts, place, operand_of, operand, sign, signed, sum_op, product_op, joined, more, step, parse_in, enough, parse, expression, assignment, plain_go_to, right_exits, computed_go_to, arithmetic_if, parameter, do_loop, array_shape, dimensions, read_assignment, read_go_to, read_computed, read_if, read_do, read_continue, read_stop, read_end, read_dimension, present, readings, first_of, form_of}

abbrev ascii : String → List ℕ
ascii String.[] = []
ascii (String.◌∷◌ c s) = code c ∷ ascii s

-- the words of Tokens are these
pub words : (word_go_to ≡ ascii "GOTO") × (word_if ≡ ascii "IF") × (word_do ≡ ascii "DO") × (word_continue ≡ ascii "CONTINUE")
    × (word_stop ≡ ascii "STOP") × (word_end ≡ ascii "END") × (word_dimension ≡ ascii "DIMENSION")
words = (refl, refl, refl, refl, refl, refl, refl)

-- a text, and its form; none is refused 10
pub record Example : Type 0 where
  pub text : String
  pub form : Option Form

abbrev pub table : List Example
table =
    -- keywords are names where the text goes on as an assignment
    record { text = "ENDI=2"; form = some (assign (cell (ascii "ENDI")) (con (ascii "2"))) }
    ∷ record { text = "END=2"; form = some (assign (cell (ascii "END")) (con (ascii "2"))) }
    ∷ record { text = "GOTO5=3"; form = some (assign (cell (ascii "GOTO5")) (con (ascii "3"))) }
    ∷ record { text = "GOTOI"; form = none }
    ∷ record { text = "GOTO(1,2)=3"; form = some (assign (element (ascii "GOTO") (two (constant (ascii "1")) (constant (ascii "2")))) (con (ascii "3"))) }
    ∷ record { text = "DIMENSIONI(3)=4"; form = some (assign (element (ascii "DIMENSIONI") (one (constant (ascii "3")))) (con (ascii "4"))) }
    ∷ record { text = "DO=4"; form = some (assign (cell (ascii "DO")) (con (ascii "4"))) }
    -- DO against assignment
    ∷ record { text = "DO10I=1"; form = some (assign (cell (ascii "DO10I")) (con (ascii "1"))) }
    ∷ record { text = "DO10I=L(1,2)"; form = some (assign (cell (ascii "DO10I")) (elm (ascii "L") (two (constant (ascii "1")) (constant (ascii "2"))))) }
    ∷ record { text = "DO10I=1.5"; form = none }
    ∷ record { text = "DO10I=1,2"; form = some (loop (ascii "10") (ascii "I") (con (ascii "1")) (con (ascii "2")) none) }
    ∷ record { text = "DO10I=J,20,K"; form = some (loop (ascii "10") (ascii "I") (var (ascii "J")) (con (ascii "20")) (some (var (ascii "K")))) }
    ∷ record { text = "DO10I(2)=1,2"; form = none }
    ∷ record { text = "DO10I=1,2,3,4"; form = none }
    ∷ record { text = "DO10I=1,-2"; form = none }
    ∷ record { text = "DO10I=+1,2"; form = none }
    ∷ record { text = "DO10I=(1),2"; form = none }
    ∷ record { text = "DO10I=J+1,2"; form = none }
    ∷ record { text = "DO10I=1,L(2)"; form = none }
    -- IF
    ∷ record { text = "IF(I)=3"; form = some (assign (element (ascii "IF") (one (linear none (ascii "I") nothing))) (con (ascii "3"))) }
    ∷ record { text = "IF(I+J)=3"; form = none }
    ∷ record { text = "IF=3"; form = some (assign (cell (ascii "IF")) (con (ascii "3"))) }
    ∷ record { text = "IF(IF)7,8,9"; form = some (ifs (var (ascii "IF")) (ascii "7") (ascii "8") (ascii "9")) }
    ∷ record { text = "IF(I-1)7,8"; form = none }
    -- forms that 01 does not list
    ∷ record { text = "STOP333"; form = none }
    ∷ record { text = "END(1,0,0,0,0)"; form = none }
    ∷ record { text = "I=J**2"; form = none }
    ∷ record { text = "I=LOGF(2)"; form = some (assign (cell (ascii "I")) (elm (ascii "LOGF") (one (constant (ascii "2"))))) }
    ∷ record { text = "I=LOGF(J+K)"; form = none }
    ∷ record { text = "PAUSE"; form = none }
    -- computed GO TO: two to ten exits
    ∷ record { text = "GOTO(7),I"; form = none }
    ∷ record { text = "GOTO(7,8),I"; form = some (computed (ascii "7" ∷ ascii "8" ∷ []) (ascii "I")) }
    ∷ record { text = "GOTO(1,2,3,4,5,6,7,8,9,10),I"; form = some (computed (ascii "1" ∷ ascii "2" ∷ ascii "3" ∷ ascii "4" ∷ ascii "5" ∷ ascii "6" ∷ ascii "7" ∷ ascii "8" ∷ ascii "9" ∷ ascii "10" ∷ []) (ascii "I")) }
    ∷ record { text = "GOTO(7,7,7,7,7,7,7,7,7,7,7),I"; form = none }
    ∷ record { text = "GOTO(7,8)I"; form = none }
    -- subscripts
    ∷ record { text = "L(1+I)=1"; form = none }
    ∷ record { text = "L(I*2)=1"; form = none }
    ∷ record { text = "L(2*3)=1"; form = none }
    ∷ record { text = "L(+1)=1"; form = none }
    ∷ record { text = "L(L(1))=1"; form = none }
    ∷ record { text = "L(2*I-1)=1"; form = some (assign (element (ascii "L") (one (linear (some (ascii "2")) (ascii "I") (minus (ascii "1"))))) (con (ascii "1"))) }
    ∷ record { text = "L(I+1,3*J)=1"; form = some (assign (element (ascii "L") (two (linear none (ascii "I") (plus (ascii "1"))) (linear (some (ascii "3")) (ascii "J") nothing))) (con (ascii "1"))) }
    ∷ record { text = "L(1,2,3)=1"; form = none }
    -- signs, and joining to the left
    ∷ record { text = "I=2*-3"; form = none }
    ∷ record { text = "I=2*(-3)"; form = some (assign (cell (ascii "I")) (bin mul (con (ascii "2")) (par (neg (con (ascii "3")))))) }
    ∷ record { text = "I=+1"; form = some (assign (cell (ascii "I")) (con (ascii "1"))) }
    ∷ record { text = "I=-J*2-3"; form = some (assign (cell (ascii "I")) (bin sub (neg (bin mul (var (ascii "J")) (con (ascii "2")))) (con (ascii "3")))) }
    ∷ record { text = "I=1-J/K/2"; form = some (assign (cell (ascii "I")) (bin sub (con (ascii "1")) (bin div (bin div (var (ascii "J")) (var (ascii "K"))) (con (ascii "2"))))) }
    ∷ record { text = "I=--1"; form = none }
    ∷ record { text = "I=-7/2"; form = some (assign (cell (ascii "I")) (neg (bin div (con (ascii "7")) (con (ascii "2"))))) }
    ∷ record { text = "I=1+-2"; form = none }
    -- seventeen parentheses, never closed, and closed
    ∷ record { text = "I=(((((((((((((((((1"; form = none }
    ∷ record { text = "I=(((((((((((((((((1)))))))))))))))))"; form = some (assign (cell (ascii "I")) (par (par (par (par (par (par (par (par (par (par (par (par (par (par (par (par (par (con (ascii "1")))))))))))))))))))) }
    -- the other forms
    ∷ record { text = "GOTO00010"; form = some (go_to (ascii "00010")) }
    ∷ record { text = "CONTINUE"; form = some continue }
    ∷ record { text = "STOP"; form = some stop }
    ∷ record { text = "END"; form = some end }
    ∷ record { text = "DIMENSIONL(3),M12(4,5)"; form = some (dimension (array (ascii "L") (ascii "3") none ∷ array (ascii "M12") (ascii "4") (some (ascii "5")) ∷ [])) }
    ∷ record { text = "DIMENSIONL(I)"; form = none }
    ∷ record { text = "DIMENSION"; form = none }
    ∷ record { text = ""; form = none }
    ∷ []

abbrev pub Holds : List Example → Type 0
Holds [] = Unit {0}
Holds (x ∷ xs) = (form_of (ascii x.text) ≡ x.form) × Holds xs

pub examples : Holds table
unfolding is_letter_or_digit give give_if ahead follow and_then after after_word choose starts starts_digit all_of whole run digit_run name_run taken number name listed_up_to listed addend linear_of subscript subscripts place operand_of operand sign signed sum_op product_op joined more step parse_in enough parse expression assignment plain_go_to right_exits computed_go_to arithmetic_if parameter do_loop array_shape dimensions read_assignment read_go_to read_computed read_if read_do read_continue read_stop read_end read_dimension present readings first_of form_of
examples = (refl, (refl, (refl, (refl, (refl, (refl, (refl, (refl, (refl, (refl, (refl, (refl, (refl, (refl, (refl, (refl, (refl, (refl, (refl, (refl, (refl, (refl, (refl, (refl, (refl, (refl, (refl, (refl, (refl, (refl, (refl, (refl, (refl, (refl, (refl, (refl, (refl, (refl, (refl, (refl, (refl, (refl, (refl, (refl, (refl, (refl, (refl, (refl, (refl, (refl, (refl, (refl, (refl, (refl, (refl, (refl, (refl, (refl, (refl, (refl, (refl, tt)))))))))))))))))))))))))))))))))))))))))))))))))))))))))))))
