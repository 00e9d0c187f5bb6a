-- Decks from their bytes to the answer, computed: an example or two of each section of the readings, and 01's worked deck.
-- Assumes nothing.
use mathlib.Core.Path.{◌≡◌, refl}
use Prim.Native.Nat.{ℕ}
use Prim.Native.String.{String}
use mathlib.Core.List.{List, [], ◌∷◌}
use lib.ListN.{replicate}
use lib.IntN.{pos}
use Rattle.rules_shared.specs.House.{house1401}
use Rattle.rules_text.specs.Punch.{bytes, deck}
use Rattle.number.specs.Number.{digits_rule, fits, keep, drops, kept, divided, apply}
use Rattle.rules_object.specs.Halts.{halt_number}
use Rattle.rules_shared.specs.Choose.{place, turn}
use Rattle.rules_object.specs.Bytes.{signed_of, signed_word, object_words, object_bytes, read_object}
use Rattle.rules_object.specs.Check.{right41, right_constant, right_element, right_loop, right_line, right_named, character}
use Rattle.rules_object.specs.Operations.{operation_of, operand_of, decode, right43, flow_of, entry_right}
use Rattle.rules_object.specs.Machine.{step, bench_step}
use Rattle.rules_object.specs.Heights.{heights}
use Rattle.rules_shared.specs.Output.{write}
use Rattle.rules_object.specs.Calls.{refused42, refused43, checked, checking, taken, given, right50, right51, right52, sequence_of, running, benching, map_of, mapping}
use Rattle.rules_text.specs.Trees.{value_of, form_names, form_constants, form_exits, form_last, form_levels}
use Rattle.rules_text.specs.Cards.{cards_of, comment, first_card, text_of, number_of, right_number, wrong_card, after_card, right_digits, right_length, carded}
use Rattle.rules_text.specs.Tokens.{is_letter_or_digit, give, give_if, ahead, follow, and_then, after, after_word, choose, starts, starts_digit, all_of, whole, run, digit_run, name_run, taken as bytesTaken, number, name, listed_up_to, listed}
use Rattle.rules_text.specs.Grammar.{addend, linear_of, subscript, subscripts, place as targetRead, operand_of as operandRead, operand, sign, signed, sum_op, product_op, joined, more, step as grammarStep, parse_in, enough, parse, expression, assignment, plain_go_to, right_exits, computed_go_to, arithmetic_if, parameter, do_loop, array_shape, dimensions, read_assignment, read_go_to, read_computed, read_if, read_do, read_continue, read_stop, read_end, read_dimension, present, readings, first_of, form_of}
use Rattle.rules_deck.specs.Deck.{dos_of, endings, dims_of}
use Rattle.rules_deck.specs.Meaning.{Key, plain, element_at, meaning_step, meaning}
use Rattle.rules_deck.specs.Translation.{cell_of, base_of, limit_of, form_plain, held_of, words, address_at, code_of, word_of, translate}
use Rattle.rules_deck.specs.Judge.{right11, right12, right13, right14, right15, form_references, right16, form_pooled, form_words, form_exit_words, takes, right18, judge_form}
use Rattle.rules_deck.specs.Whole.{refused20, right21, right22, right24, form_sets, right25, judge_deck}
use Rattle.rules_deck.specs.Compile.{deck_of, compiling}
use Rattle.rules_object.specs.Promised.{right_store}
use Rattle.rules_deck.specs.Seen.{meaning_of, deck_names, deck_dims, deck_levels, object_in, named_cell, named_values, series}
use Rattle.rules_deck.specs.Answers.{Answer, refused, ran, answered, meant}

pub record Example : Type 0 where
  pub digits : ℕ
  pub room : ℕ
  pub cards : List String
  pub names : List Key
  pub answer : Answer

abbrev pub from : ℕ → ℕ → List String → List Key → Answer → Example
from k room cards names answer = record { digits = k; room = room; cards = cards; names = names; answer = answer }

abbrev pub table : List Example
table =
    -- A2: comments are not there at all
    from 5 500 ("      I=1" ∷ "C" ∷ "     X+1" ∷ "C" ∷ "     X+1" ∷ "      END" ∷ []) (plain (bytes "I") ∷ []) (ran 1 7 0 (pos 3 ∷ [])) ∷
    -- A12: blanks vanish, and a continuation goes on right after column 72
    from 5 500 ("      I=1" ∷ "     X2" ∷ "      E N" ∷ "     XD" ∷ []) (plain (bytes "I") ∷ []) (ran 1 3 0 (pos 12 ∷ [])) ∷
    -- B2: an assignment to the name DO10I
    from 5 500 ("      DO10I=1" ∷ "      END" ∷ []) ([]) (refused 11 1) ∷
    -- B8: of no form even with 14 set aside
    from 5 500 ("      I=(((((((((((((((((1" ∷ "      END" ∷ []) ([]) (refused 10 1) ∷
    -- C5: an array name bare
    from 5 500 ("      DIMENSIONL(2)" ∷ "      L=1" ∷ "      END" ∷ []) ([]) (refused 16 2) ∷
    -- C6: a size worked exactly
    from 9 500 ("      DIMENSIONL(65536,65536)" ∷ "      END" ∷ []) ([]) (refused 18 1) ∷
    -- D6: ranges cross
    from 5 500 ("      DO7I=1,1" ∷ "      DO8J=1,1" ∷ "    7 CONTINUE" ∷ "    8 CONTINUE" ∷ "      END" ∷ []) ([]) (refused 23 2) ∷
    -- D8: a shared last statement is in the inner range
    from 5 500 ("      DO7I=1,2" ∷ "      GOTO7" ∷ "      DO7J=1,2" ∷ "    7 CONTINUE" ∷ "      END" ∷ []) ([]) (refused 24 2) ∷
    -- E1: one turn, though the limit is below
    from 5 500 ("      DO7I=5,3" ∷ "    7 J=J+1" ∷ "      END" ∷ []) (plain (bytes "I") ∷ plain (bytes "J") ∷ []) (ran 1 10 0 (pos 5 ∷ pos 1 ∷ [])) ∷
    -- E4: a drop before a halt stands
    from 5 500 ("      I=99999+1+1/0" ∷ "      END" ∷ []) (plain (bytes "I") ∷ []) (ran 3 6 1 (pos 0 ∷ [])) ∷
    -- F2: a DO's hidden cells come after its names
    from 5 500 ("      DO7I=J,K,L" ∷ "    7 M=1" ∷ "      END" ∷ []) (plain (bytes "I") ∷ []) (ran 6 4 0 (pos 0 ∷ [])) ∷
    -- K3: all elements, by columns
    from 5 500 ("      DIMENSIONL(2,1)" ∷ "      L(2,1)=5" ∷ "      END" ∷ []) (element_at (bytes "L") 0 ∷ element_at (bytes "L") 1 ∷ []) (ran 1 3 0 (pos 0 ∷ pos 5 ∷ [])) ∷
    -- K5: an output of just the length is enough, one byte less is not
    from 5 232 ("      I=47" ∷ "      J=I*I*I" ∷ "      STOP" ∷ "      END" ∷ []) (plain (bytes "I") ∷ plain (bytes "J") ∷ []) (ran 0 9 2 (pos 47 ∷ pos 3823 ∷ [])) ∷
    from 5 231 ("      I=47" ∷ "      J=I*I*I" ∷ "      STOP" ∷ "      END" ∷ []) ([]) (refused 30 0) ∷
    -- 6: an empty statement
    from 5 500 ("      I=1" ∷ "" ∷ "      END" ∷ []) ([]) (refused 6 2) ∷
    -- 12: leading zeros count, in a dimension too
    from 5 500 ("      DIMENSIONL(000001)" ∷ "      END" ∷ []) ([]) (refused 12 1) ∷
    -- 13: numbers by value
    from 5 500 ("      GOTO100000" ∷ "      END" ∷ []) ([]) (refused 13 1) ∷
    -- 14: seventeen deep; sixteen are right
    from 5 500 ("      I=(((((((((((((((((1)))))))))))))))))" ∷ "      END" ∷ []) ([]) (refused 14 1) ∷
    from 5 500 ("      I=((((((((((((((((1))))))))))))))))" ∷ "      END" ∷ []) (plain (bytes "I") ∷ []) (ran 1 3 0 (pos 1 ∷ [])) ∷
    -- 15: a name seen as a subscript; a dimension of 0; an array that ends in F
    from 5 500 ("      DIMENSIONM(2)" ∷ "      M(L)=1" ∷ "      DIMENSIONL(2)" ∷ "      END" ∷ []) ([]) (refused 15 3) ∷
    from 5 500 ("      DIMENSIONL(2,00)" ∷ "      END" ∷ []) ([]) (refused 15 1) ∷
    from 5 500 ("      DIMENSIONIF(3)" ∷ "      END" ∷ []) ([]) (refused 15 1) ∷
    -- 16: a wrong subscript count
    from 5 500 ("      DIMENSIONL(2)" ∷ "      I=L(1,1)" ∷ "      END" ∷ []) ([]) (refused 16 2) ∷
    -- 16: an element of a DO variable's own name, which is no array; and an array as a DO variable
    from 5 500 ("      DO7I=1,2" ∷ "    7 I(1)=3" ∷ "      END" ∷ []) ([]) (refused 16 2) ∷
    from 5 500 ("      DIMENSIONI(2)" ∷ "      DO7I=1,2" ∷ "    7 I(1)=3" ∷ "      END" ∷ []) ([]) (refused 16 2) ∷
    -- 20: an early END; no END; no statement
    from 5 500 ("      I=1" ∷ "      END" ∷ "      END" ∷ []) ([]) (refused 20 2) ∷
    from 5 500 ("      I=1" ∷ "      J=1" ∷ []) ([]) (refused 20 2) ∷
    from 5 500 ("C" ∷ "C" ∷ []) ([]) (refused 20 0) ∷
    -- 21: before 22, at the second; a number on DIMENSION or END
    from 5 500 ("      GOTO5" ∷ "    7 I=1" ∷ "    7 I=2" ∷ "      END" ∷ []) ([]) (refused 21 3) ∷
    from 5 500 ("    7 DIMENSIONL(2)" ∷ "    7 I=1" ∷ "      END" ∷ []) ([]) (refused 21 1) ∷
    from 5 500 ("      I=1" ∷ "    7 END" ∷ []) ([]) (refused 21 2) ∷
    -- 22: the statement that uses the number
    from 5 500 ("      I=1" ∷ "      GOTO2" ∷ "      END" ∷ []) ([]) (refused 22 2) ∷
    -- 23: not after it; a computed GO TO, GO TO, IF, DO or STOP as last statement; the ninth of a nest
    from 5 500 ("    7 I=1" ∷ "      DO7J=1,2" ∷ "      END" ∷ []) ([]) (refused 23 2) ∷
    from 5 500 ("      DO7J=1,2" ∷ "    7 GOTO(8,8),I" ∷ "    8 CONTINUE" ∷ "      END" ∷ []) ([]) (refused 23 1) ∷
    from 5 500 ("      DO7J=1,2" ∷ "    7 GOTO8" ∷ "    8 CONTINUE" ∷ "      END" ∷ []) ([]) (refused 23 1) ∷
    from 5 500 ("      DO7J=1,2" ∷ "    7 IF(I)8,8,8" ∷ "    8 CONTINUE" ∷ "      END" ∷ []) ([]) (refused 23 1) ∷
    from 5 500 ("      DO7J=1,2" ∷ "    7 DO8I=1,2" ∷ "    8 CONTINUE" ∷ "      END" ∷ []) ([]) (refused 23 1) ∷
    from 5 500 ("      DO7J=1,2" ∷ "    7 STOP" ∷ "      END" ∷ []) ([]) (refused 23 1) ∷
    from 5 900 ("      DO7I=1,1" ∷ "      DO7J=1,1" ∷ "      DO7K=1,1" ∷ "      DO7L=1,1" ∷ "      DO7M=1,1" ∷ "      DO7N=1,1" ∷ "      DO7I1=1,1" ∷ "      DO7I2=1,1" ∷ "      DO7I3=1,1" ∷ "    7 CONTINUE" ∷ "      END" ∷ []) ([]) (refused 23 9) ∷
    -- 24: the jump is the place; a jump to the DO itself is right
    from 5 500 ("      J=1" ∷ "      DO7I=1,2" ∷ "    7 CONTINUE" ∷ "      GOTO7" ∷ "      END" ∷ []) ([]) (refused 24 4) ∷
    from 5 500 ("    9 DO7I=1,2" ∷ "      J=J+1" ∷ "      IF(J-1)7,9,7" ∷ "    7 CONTINUE" ∷ "      END" ∷ []) (plain (bytes "I") ∷ plain (bytes "J") ∷ []) (ran 1 35 0 (pos 2 ∷ pos 3 ∷ [])) ∷
    -- 25: the variable set, or taken by another DO
    from 5 500 ("      DO7I=1,2" ∷ "    7 I=3" ∷ "      END" ∷ []) ([]) (refused 25 2) ∷
    from 5 500 ("      DO7I=1,2" ∷ "      DO7I=1,2" ∷ "    7 CONTINUE" ∷ "      END" ∷ []) ([]) (refused 25 2) ∷
    -- halt 5: a computed exit not 1 to its count, and one that is
    from 5 500 ("      GOTO(7,7),I" ∷ "    7 CONTINUE" ∷ "      END" ∷ []) (plain (bytes "I") ∷ []) (ran 5 2 0 (pos 0 ∷ [])) ∷
    from 5 500 ("      I=2" ∷ "      GOTO(7,8),I" ∷ "    7 STOP" ∷ "    8 J=I" ∷ "      END" ∷ []) (plain (bytes "J") ∷ []) (ran 1 7 0 (pos 2 ∷ [])) ∷
    -- IF: below, at and above 0
    from 5 700 ("      I=-1" ∷ "    9 IF(I)6,7,8" ∷ "    6 J=J+1" ∷ "      I=I+1" ∷ "      GOTO9" ∷ "    7 J=J+10" ∷ "      I=I+1" ∷ "      GOTO9" ∷ "    8 J=J+100" ∷ "      END" ∷ []) (plain (bytes "I") ∷ plain (bytes "J") ∷ []) (ran 1 32 0 (pos 1 ∷ pos 111 ∷ [])) ∷
    -- columns: rows and columns that differ
    from 5 500 ("      DIMENSIONL(2,3)" ∷ "      L(2,1)=5" ∷ "      L(1,3)=7" ∷ "      END" ∷ []) (element_at (bytes "L") 1 ∷ element_at (bytes "L") 4 ∷ element_at (bytes "L") 2 ∷ []) (ran 1 5 0 (pos 5 ∷ pos 7 ∷ pos 0 ∷ [])) ∷
    -- halt 4: each subscript against its own dimension
    from 5 500 ("      DIMENSIONL(2,3)" ∷ "      L(3,1)=5" ∷ "      END" ∷ []) (element_at (bytes "L") 2 ∷ []) (ran 4 2 0 (pos 0 ∷ [])) ∷
    -- halt 6: each parameter must exceed 0
    from 5 500 ("      DO7I=0,2" ∷ "    7 CONTINUE" ∷ "      END" ∷ []) (plain (bytes "I") ∷ []) (ran 6 4 0 (pos 0 ∷ [])) ∷
    from 5 500 ("      DO7I=1,0" ∷ "    7 CONTINUE" ∷ "      END" ∷ []) (plain (bytes "I") ∷ []) (ran 6 4 0 (pos 0 ∷ [])) ∷
    from 5 500 ("      DO7I=1,2,0" ∷ "    7 CONTINUE" ∷ "      END" ∷ []) (plain (bytes "I") ∷ []) (ran 6 4 0 (pos 0 ∷ [])) ∷
    -- nested: a turn of the inner DO for each of the outer
    from 5 700 ("      DO7I=1,3" ∷ "      DO7J=1,I" ∷ "    7 K=K+1" ∷ "      END" ∷ []) (plain (bytes "I") ∷ plain (bytes "J") ∷ plain (bytes "K") ∷ []) (ran 1 50 0 (pos 3 ∷ pos 3 ∷ pos 6 ∷ [])) ∷
    []

abbrev pub AsAnswered : List Example → Type 0
AsAnswered [] = Unit {0}
AsAnswered (e ∷ more) = (answered (house1401 e.digits) (deck e.cards) e.room e.names ≡ e.answer) × AsAnswered more

pub examples : AsAnswered table
unfolding digits_rule fits keep drops kept divided apply halt_number place turn signed_of signed_word object_words object_bytes read_object operation_of operand_of decode step right41 right_constant right_element right_loop right_line right_named right43 flow_of entry_right bench_step heights refused42 refused43 checked checking taken given right50 right51 right52 sequence_of running benching write map_of mapping value_of form_names form_constants form_exits form_last form_levels cards_of comment first_card character text_of number_of right_number wrong_card after_card right_digits right_length carded is_letter_or_digit give give_if ahead follow and_then after after_word choose starts starts_digit all_of whole run digit_run name_run bytesTaken number name listed_up_to listed addend linear_of subscript subscripts targetRead operandRead operand sign signed sum_op product_op joined more grammarStep parse_in enough parse expression assignment plain_go_to right_exits computed_go_to arithmetic_if parameter do_loop array_shape dimensions read_assignment read_go_to read_computed read_if read_do read_continue read_stop read_end read_dimension present readings first_of form_of dos_of endings dims_of meaning_step meaning cell_of base_of limit_of form_plain held_of words address_at code_of word_of translate right11 right12 right13 right14 right15 form_references right16 form_pooled form_words form_exit_words takes right18 judge_form refused20 right21 right22 right24 form_sets right25 judge_deck deck_of compiling meaning_of deck_names deck_dims deck_levels object_in named_cell named_values right_store series answered meant
examples = (refl, (refl, (refl, (refl, (refl, (refl, (refl, (refl, (refl, (refl, (refl, (refl, (refl, (refl, (refl, (refl, (refl, (refl, (refl, (refl, (refl, (refl, (refl, (refl, (refl, (refl, (refl, (refl, (refl, (refl, (refl, (refl, (refl, (refl, (refl, (refl, (refl, (refl, (refl, (refl, (refl, (refl, (refl, (refl, (refl, (refl, (refl, (refl, (refl, (refl, (refl, (refl, tt))))))))))))))))))))))))))))))))))))))))))))))))))))

-- ---- the object's bytes

pub record Made : Type 0 where
  pub cards : List String
  pub object : List ℕ

abbrev pub made : List String → List ℕ → Made
made cards object = record { cards = cards; object = object }

abbrev pub objects : List Made
objects =
    -- the worked deck of 01
    made ("      I=47" ∷ "      J=I*I*I" ∷ "      STOP" ∷ "      END" ∷ []) (1 ∷ 0 ∷ 0 ∷ 0 ∷ 5 ∷ 0 ∷ 0 ∷ 0 ∷ 2 ∷ 0 ∷ 0 ∷ 0 ∷ 7 ∷ 0 ∷ 0 ∷ 0 ∷ 1 ∷ 0 ∷ 0 ∷ 0 ∷ 100 ∷ 0 ∷ 0 ∷ 0 ∷ 4 ∷ 0 ∷ 0 ∷ 0 ∷ 2 ∷ 0 ∷ 0 ∷ 0 ∷ 104 ∷ 0 ∷ 0 ∷ 0 ∷ 0 ∷ 0 ∷ 0 ∷ 0 ∷ 3 ∷ 0 ∷ 0 ∷ 0 ∷ 104 ∷ 0 ∷ 0 ∷ 0 ∷ 0 ∷ 0 ∷ 0 ∷ 0 ∷ 4 ∷ 0 ∷ 0 ∷ 0 ∷ 104 ∷ 0 ∷ 0 ∷ 0 ∷ 0 ∷ 0 ∷ 0 ∷ 0 ∷ 5 ∷ 0 ∷ 0 ∷ 0 ∷ 104 ∷ 0 ∷ 0 ∷ 0 ∷ 40 ∷ 0 ∷ 0 ∷ 0 ∷ 6 ∷ 0 ∷ 0 ∷ 0 ∷ 144 ∷ 0 ∷ 0 ∷ 0 ∷ 48 ∷ 0 ∷ 0 ∷ 0 ∷ 7 ∷ 0 ∷ 0 ∷ 0 ∷ 192 ∷ 0 ∷ 0 ∷ 0 ∷ 40 ∷ 0 ∷ 0 ∷ 0 ∷ 47 ∷ 0 ∷ 0 ∷ 0 ∷ 0 ∷ 0 ∷ 0 ∷ 1 ∷ 0 ∷ 0 ∷ 0 ∷ 3 ∷ 0 ∷ 0 ∷ 0 ∷ 2 ∷ 0 ∷ 0 ∷ 0 ∷ 2 ∷ 0 ∷ 0 ∷ 0 ∷ 8 ∷ 0 ∷ 0 ∷ 0 ∷ 2 ∷ 0 ∷ 0 ∷ 0 ∷ 8 ∷ 1 ∷ 0 ∷ 0 ∷ 3 ∷ 0 ∷ 0 ∷ 0 ∷ 0 ∷ 1 ∷ 0 ∷ 0 ∷ 0 ∷ 1 ∷ 0 ∷ 0 ∷ 0 ∷ 0 ∷ 0 ∷ 0 ∷ 0 ∷ 0 ∷ 0 ∷ 0 ∷ 0 ∷ 2 ∷ 0 ∷ 0 ∷ 0 ∷ 0 ∷ 0 ∷ 0 ∷ 0 ∷ 2 ∷ 0 ∷ 0 ∷ 0 ∷ 3 ∷ 0 ∷ 0 ∷ 0 ∷ 0 ∷ 0 ∷ 0 ∷ 0 ∷ 8 ∷ 0 ∷ 0 ∷ 0 ∷ 4 ∷ 0 ∷ 0 ∷ 0 ∷ 0 ∷ 0 ∷ 0 ∷ 0 ∷ 9 ∷ 0 ∷ 0 ∷ 0 ∷ 73 ∷ 32 ∷ 32 ∷ 32 ∷ 32 ∷ 32 ∷ 32 ∷ 32 ∷ 0 ∷ 0 ∷ 0 ∷ 0 ∷ 0 ∷ 0 ∷ 0 ∷ 0 ∷ 0 ∷ 0 ∷ 0 ∷ 0 ∷ 74 ∷ 32 ∷ 32 ∷ 32 ∷ 32 ∷ 32 ∷ 32 ∷ 32 ∷ 1 ∷ 0 ∷ 0 ∷ 0 ∷ 0 ∷ 0 ∷ 0 ∷ 0 ∷ 0 ∷ 0 ∷ 0 ∷ 0 ∷ []) ∷
    -- F1: cells by the text, elements by emission
    made ("      DIMENSIONL(2)" ∷ "      L(I)=J+L(K)*3" ∷ "      END" ∷ []) (1 ∷ 0 ∷ 0 ∷ 0 ∷ 5 ∷ 0 ∷ 0 ∷ 0 ∷ 5 ∷ 0 ∷ 0 ∷ 0 ∷ 7 ∷ 0 ∷ 0 ∷ 0 ∷ 1 ∷ 0 ∷ 0 ∷ 0 ∷ 100 ∷ 0 ∷ 0 ∷ 0 ∷ 4 ∷ 0 ∷ 0 ∷ 0 ∷ 2 ∷ 0 ∷ 0 ∷ 0 ∷ 104 ∷ 0 ∷ 0 ∷ 0 ∷ 72 ∷ 0 ∷ 0 ∷ 0 ∷ 3 ∷ 0 ∷ 0 ∷ 0 ∷ 176 ∷ 0 ∷ 0 ∷ 0 ∷ 0 ∷ 0 ∷ 0 ∷ 0 ∷ 4 ∷ 0 ∷ 0 ∷ 0 ∷ 176 ∷ 0 ∷ 0 ∷ 0 ∷ 0 ∷ 0 ∷ 0 ∷ 0 ∷ 5 ∷ 0 ∷ 0 ∷ 0 ∷ 176 ∷ 0 ∷ 0 ∷ 0 ∷ 28 ∷ 0 ∷ 0 ∷ 0 ∷ 6 ∷ 0 ∷ 0 ∷ 0 ∷ 204 ∷ 0 ∷ 0 ∷ 0 ∷ 24 ∷ 0 ∷ 0 ∷ 0 ∷ 7 ∷ 0 ∷ 0 ∷ 0 ∷ 228 ∷ 0 ∷ 0 ∷ 0 ∷ 80 ∷ 0 ∷ 0 ∷ 0 ∷ 3 ∷ 0 ∷ 0 ∷ 0 ∷ 0 ∷ 0 ∷ 0 ∷ 0 ∷ 2 ∷ 0 ∷ 0 ∷ 0 ∷ 1 ∷ 0 ∷ 0 ∷ 0 ∷ 1 ∷ 0 ∷ 0 ∷ 0 ∷ 4 ∷ 0 ∷ 0 ∷ 0 ∷ 0 ∷ 0 ∷ 0 ∷ 0 ∷ 0 ∷ 0 ∷ 0 ∷ 0 ∷ 0 ∷ 0 ∷ 0 ∷ 0 ∷ 1 ∷ 0 ∷ 0 ∷ 0 ∷ 0 ∷ 0 ∷ 0 ∷ 0 ∷ 2 ∷ 0 ∷ 0 ∷ 0 ∷ 1 ∷ 0 ∷ 0 ∷ 0 ∷ 1 ∷ 0 ∷ 0 ∷ 0 ∷ 2 ∷ 0 ∷ 0 ∷ 0 ∷ 0 ∷ 0 ∷ 0 ∷ 0 ∷ 0 ∷ 0 ∷ 0 ∷ 0 ∷ 0 ∷ 0 ∷ 0 ∷ 0 ∷ 1 ∷ 0 ∷ 0 ∷ 0 ∷ 3 ∷ 0 ∷ 0 ∷ 2 ∷ 0 ∷ 0 ∷ 0 ∷ 4 ∷ 0 ∷ 0 ∷ 0 ∷ 1 ∷ 0 ∷ 0 ∷ 0 ∷ 8 ∷ 0 ∷ 0 ∷ 0 ∷ 6 ∷ 1 ∷ 0 ∷ 0 ∷ 5 ∷ 1 ∷ 0 ∷ 0 ∷ 0 ∷ 2 ∷ 0 ∷ 0 ∷ 0 ∷ 0 ∷ 0 ∷ 0 ∷ 0 ∷ 0 ∷ 0 ∷ 0 ∷ 0 ∷ 3 ∷ 0 ∷ 0 ∷ 0 ∷ 0 ∷ 0 ∷ 0 ∷ 0 ∷ 6 ∷ 0 ∷ 0 ∷ 0 ∷ 76 ∷ 32 ∷ 32 ∷ 32 ∷ 32 ∷ 32 ∷ 32 ∷ 32 ∷ 0 ∷ 0 ∷ 0 ∷ 0 ∷ 2 ∷ 0 ∷ 0 ∷ 0 ∷ 0 ∷ 0 ∷ 0 ∷ 0 ∷ 73 ∷ 32 ∷ 32 ∷ 32 ∷ 32 ∷ 32 ∷ 32 ∷ 32 ∷ 2 ∷ 0 ∷ 0 ∷ 0 ∷ 0 ∷ 0 ∷ 0 ∷ 0 ∷ 0 ∷ 0 ∷ 0 ∷ 0 ∷ 74 ∷ 32 ∷ 32 ∷ 32 ∷ 32 ∷ 32 ∷ 32 ∷ 32 ∷ 3 ∷ 0 ∷ 0 ∷ 0 ∷ 0 ∷ 0 ∷ 0 ∷ 0 ∷ 0 ∷ 0 ∷ 0 ∷ 0 ∷ 75 ∷ 32 ∷ 32 ∷ 32 ∷ 32 ∷ 32 ∷ 32 ∷ 32 ∷ 4 ∷ 0 ∷ 0 ∷ 0 ∷ 0 ∷ 0 ∷ 0 ∷ 0 ∷ 0 ∷ 0 ∷ 0 ∷ 0 ∷ []) ∷
    -- F2: hidden cells after all names of the DO
    made ("      DO7I=J,K,L" ∷ "    7 M=1" ∷ "      END" ∷ []) (1 ∷ 0 ∷ 0 ∷ 0 ∷ 5 ∷ 0 ∷ 0 ∷ 0 ∷ 7 ∷ 0 ∷ 0 ∷ 0 ∷ 7 ∷ 0 ∷ 0 ∷ 0 ∷ 1 ∷ 0 ∷ 0 ∷ 0 ∷ 100 ∷ 0 ∷ 0 ∷ 0 ∷ 4 ∷ 0 ∷ 0 ∷ 0 ∷ 2 ∷ 0 ∷ 0 ∷ 0 ∷ 104 ∷ 0 ∷ 0 ∷ 0 ∷ 0 ∷ 0 ∷ 0 ∷ 0 ∷ 3 ∷ 0 ∷ 0 ∷ 0 ∷ 104 ∷ 0 ∷ 0 ∷ 0 ∷ 0 ∷ 0 ∷ 0 ∷ 0 ∷ 4 ∷ 0 ∷ 0 ∷ 0 ∷ 104 ∷ 0 ∷ 0 ∷ 0 ∷ 16 ∷ 0 ∷ 0 ∷ 0 ∷ 5 ∷ 0 ∷ 0 ∷ 0 ∷ 120 ∷ 0 ∷ 0 ∷ 0 ∷ 32 ∷ 0 ∷ 0 ∷ 0 ∷ 6 ∷ 0 ∷ 0 ∷ 0 ∷ 152 ∷ 0 ∷ 0 ∷ 0 ∷ 36 ∷ 0 ∷ 0 ∷ 0 ∷ 7 ∷ 0 ∷ 0 ∷ 0 ∷ 188 ∷ 0 ∷ 0 ∷ 0 ∷ 100 ∷ 0 ∷ 0 ∷ 0 ∷ 1 ∷ 0 ∷ 0 ∷ 0 ∷ 0 ∷ 0 ∷ 0 ∷ 0 ∷ 4 ∷ 0 ∷ 0 ∷ 0 ∷ 5 ∷ 0 ∷ 0 ∷ 0 ∷ 4 ∷ 0 ∷ 0 ∷ 0 ∷ 1 ∷ 0 ∷ 0 ∷ 2 ∷ 2 ∷ 0 ∷ 0 ∷ 2 ∷ 3 ∷ 0 ∷ 0 ∷ 2 ∷ 0 ∷ 0 ∷ 0 ∷ 14 ∷ 0 ∷ 0 ∷ 0 ∷ 1 ∷ 6 ∷ 0 ∷ 0 ∷ 3 ∷ 0 ∷ 0 ∷ 0 ∷ 15 ∷ 1 ∷ 0 ∷ 0 ∷ 0 ∷ 1 ∷ 0 ∷ 0 ∷ 0 ∷ 0 ∷ 0 ∷ 0 ∷ 0 ∷ 0 ∷ 0 ∷ 0 ∷ 0 ∷ 2 ∷ 0 ∷ 0 ∷ 0 ∷ 7 ∷ 0 ∷ 0 ∷ 0 ∷ 4 ∷ 0 ∷ 0 ∷ 0 ∷ 3 ∷ 0 ∷ 0 ∷ 0 ∷ 0 ∷ 0 ∷ 0 ∷ 0 ∷ 7 ∷ 0 ∷ 0 ∷ 0 ∷ 73 ∷ 32 ∷ 32 ∷ 32 ∷ 32 ∷ 32 ∷ 32 ∷ 32 ∷ 0 ∷ 0 ∷ 0 ∷ 0 ∷ 0 ∷ 0 ∷ 0 ∷ 0 ∷ 0 ∷ 0 ∷ 0 ∷ 0 ∷ 74 ∷ 32 ∷ 32 ∷ 32 ∷ 32 ∷ 32 ∷ 32 ∷ 32 ∷ 1 ∷ 0 ∷ 0 ∷ 0 ∷ 0 ∷ 0 ∷ 0 ∷ 0 ∷ 0 ∷ 0 ∷ 0 ∷ 0 ∷ 75 ∷ 32 ∷ 32 ∷ 32 ∷ 32 ∷ 32 ∷ 32 ∷ 32 ∷ 2 ∷ 0 ∷ 0 ∷ 0 ∷ 0 ∷ 0 ∷ 0 ∷ 0 ∷ 0 ∷ 0 ∷ 0 ∷ 0 ∷ 76 ∷ 32 ∷ 32 ∷ 32 ∷ 32 ∷ 32 ∷ 32 ∷ 32 ∷ 3 ∷ 0 ∷ 0 ∷ 0 ∷ 0 ∷ 0 ∷ 0 ∷ 0 ∷ 0 ∷ 0 ∷ 0 ∷ 0 ∷ 77 ∷ 32 ∷ 32 ∷ 32 ∷ 32 ∷ 32 ∷ 32 ∷ 32 ∷ 6 ∷ 0 ∷ 0 ∷ 0 ∷ 0 ∷ 0 ∷ 0 ∷ 0 ∷ 0 ∷ 0 ∷ 0 ∷ 0 ∷ []) ∷
    -- F3, F4: the missing step is a constant like another, pooled by value
    made ("      DO7I=2,3" ∷ "    7 J=1" ∷ "      END" ∷ []) (1 ∷ 0 ∷ 0 ∷ 0 ∷ 5 ∷ 0 ∷ 0 ∷ 0 ∷ 4 ∷ 0 ∷ 0 ∷ 0 ∷ 7 ∷ 0 ∷ 0 ∷ 0 ∷ 1 ∷ 0 ∷ 0 ∷ 0 ∷ 100 ∷ 0 ∷ 0 ∷ 0 ∷ 12 ∷ 0 ∷ 0 ∷ 0 ∷ 2 ∷ 0 ∷ 0 ∷ 0 ∷ 112 ∷ 0 ∷ 0 ∷ 0 ∷ 0 ∷ 0 ∷ 0 ∷ 0 ∷ 3 ∷ 0 ∷ 0 ∷ 0 ∷ 112 ∷ 0 ∷ 0 ∷ 0 ∷ 0 ∷ 0 ∷ 0 ∷ 0 ∷ 4 ∷ 0 ∷ 0 ∷ 0 ∷ 112 ∷ 0 ∷ 0 ∷ 0 ∷ 16 ∷ 0 ∷ 0 ∷ 0 ∷ 5 ∷ 0 ∷ 0 ∷ 0 ∷ 128 ∷ 0 ∷ 0 ∷ 0 ∷ 32 ∷ 0 ∷ 0 ∷ 0 ∷ 6 ∷ 0 ∷ 0 ∷ 0 ∷ 160 ∷ 0 ∷ 0 ∷ 0 ∷ 36 ∷ 0 ∷ 0 ∷ 0 ∷ 7 ∷ 0 ∷ 0 ∷ 0 ∷ 196 ∷ 0 ∷ 0 ∷ 0 ∷ 40 ∷ 0 ∷ 0 ∷ 0 ∷ 2 ∷ 0 ∷ 0 ∷ 0 ∷ 3 ∷ 0 ∷ 0 ∷ 0 ∷ 1 ∷ 0 ∷ 0 ∷ 0 ∷ 0 ∷ 0 ∷ 0 ∷ 0 ∷ 1 ∷ 0 ∷ 0 ∷ 0 ∷ 2 ∷ 0 ∷ 0 ∷ 0 ∷ 4 ∷ 0 ∷ 0 ∷ 0 ∷ 0 ∷ 0 ∷ 0 ∷ 1 ∷ 1 ∷ 0 ∷ 0 ∷ 1 ∷ 2 ∷ 0 ∷ 0 ∷ 1 ∷ 0 ∷ 0 ∷ 0 ∷ 14 ∷ 2 ∷ 0 ∷ 0 ∷ 1 ∷ 3 ∷ 0 ∷ 0 ∷ 3 ∷ 0 ∷ 0 ∷ 0 ∷ 15 ∷ 1 ∷ 0 ∷ 0 ∷ 0 ∷ 1 ∷ 0 ∷ 0 ∷ 0 ∷ 0 ∷ 0 ∷ 0 ∷ 0 ∷ 0 ∷ 0 ∷ 0 ∷ 0 ∷ 2 ∷ 0 ∷ 0 ∷ 0 ∷ 7 ∷ 0 ∷ 0 ∷ 0 ∷ 4 ∷ 0 ∷ 0 ∷ 0 ∷ 3 ∷ 0 ∷ 0 ∷ 0 ∷ 0 ∷ 0 ∷ 0 ∷ 0 ∷ 7 ∷ 0 ∷ 0 ∷ 0 ∷ 73 ∷ 32 ∷ 32 ∷ 32 ∷ 32 ∷ 32 ∷ 32 ∷ 32 ∷ 0 ∷ 0 ∷ 0 ∷ 0 ∷ 0 ∷ 0 ∷ 0 ∷ 0 ∷ 0 ∷ 0 ∷ 0 ∷ 0 ∷ 74 ∷ 32 ∷ 32 ∷ 32 ∷ 32 ∷ 32 ∷ 32 ∷ 32 ∷ 3 ∷ 0 ∷ 0 ∷ 0 ∷ 0 ∷ 0 ∷ 0 ∷ 0 ∷ 0 ∷ 0 ∷ 0 ∷ 0 ∷ []) ∷
    -- F5: subscript entries
    made ("      DIMENSIONL(3,3)" ∷ "      I=L(0*J+2,J-1)" ∷ "      END" ∷ []) (1 ∷ 0 ∷ 0 ∷ 0 ∷ 5 ∷ 0 ∷ 0 ∷ 0 ∷ 11 ∷ 0 ∷ 0 ∷ 0 ∷ 7 ∷ 0 ∷ 0 ∷ 0 ∷ 1 ∷ 0 ∷ 0 ∷ 0 ∷ 100 ∷ 0 ∷ 0 ∷ 0 ∷ 0 ∷ 0 ∷ 0 ∷ 0 ∷ 2 ∷ 0 ∷ 0 ∷ 0 ∷ 100 ∷ 0 ∷ 0 ∷ 0 ∷ 36 ∷ 0 ∷ 0 ∷ 0 ∷ 3 ∷ 0 ∷ 0 ∷ 0 ∷ 136 ∷ 0 ∷ 0 ∷ 0 ∷ 0 ∷ 0 ∷ 0 ∷ 0 ∷ 4 ∷ 0 ∷ 0 ∷ 0 ∷ 136 ∷ 0 ∷ 0 ∷ 0 ∷ 0 ∷ 0 ∷ 0 ∷ 0 ∷ 5 ∷ 0 ∷ 0 ∷ 0 ∷ 136 ∷ 0 ∷ 0 ∷ 0 ∷ 12 ∷ 0 ∷ 0 ∷ 0 ∷ 6 ∷ 0 ∷ 0 ∷ 0 ∷ 148 ∷ 0 ∷ 0 ∷ 0 ∷ 24 ∷ 0 ∷ 0 ∷ 0 ∷ 7 ∷ 0 ∷ 0 ∷ 0 ∷ 172 ∷ 0 ∷ 0 ∷ 0 ∷ 60 ∷ 0 ∷ 0 ∷ 0 ∷ 0 ∷ 0 ∷ 0 ∷ 0 ∷ 3 ∷ 0 ∷ 0 ∷ 0 ∷ 3 ∷ 0 ∷ 0 ∷ 0 ∷ 0 ∷ 0 ∷ 0 ∷ 0 ∷ 10 ∷ 0 ∷ 0 ∷ 0 ∷ 2 ∷ 0 ∷ 0 ∷ 0 ∷ 1 ∷ 0 ∷ 0 ∷ 0 ∷ 10 ∷ 0 ∷ 0 ∷ 0 ∷ 255 ∷ 255 ∷ 255 ∷ 255 ∷ 0 ∷ 0 ∷ 0 ∷ 4 ∷ 9 ∷ 0 ∷ 0 ∷ 3 ∷ 1 ∷ 0 ∷ 0 ∷ 0 ∷ 2 ∷ 0 ∷ 0 ∷ 0 ∷ 0 ∷ 0 ∷ 0 ∷ 0 ∷ 0 ∷ 0 ∷ 0 ∷ 0 ∷ 3 ∷ 0 ∷ 0 ∷ 0 ∷ 0 ∷ 0 ∷ 0 ∷ 0 ∷ 2 ∷ 0 ∷ 0 ∷ 0 ∷ 76 ∷ 32 ∷ 32 ∷ 32 ∷ 32 ∷ 32 ∷ 32 ∷ 32 ∷ 0 ∷ 0 ∷ 0 ∷ 0 ∷ 3 ∷ 0 ∷ 0 ∷ 0 ∷ 3 ∷ 0 ∷ 0 ∷ 0 ∷ 73 ∷ 32 ∷ 32 ∷ 32 ∷ 32 ∷ 32 ∷ 32 ∷ 32 ∷ 9 ∷ 0 ∷ 0 ∷ 0 ∷ 0 ∷ 0 ∷ 0 ∷ 0 ∷ 0 ∷ 0 ∷ 0 ∷ 0 ∷ 74 ∷ 32 ∷ 32 ∷ 32 ∷ 32 ∷ 32 ∷ 32 ∷ 32 ∷ 10 ∷ 0 ∷ 0 ∷ 0 ∷ 0 ∷ 0 ∷ 0 ∷ 0 ∷ 0 ∷ 0 ∷ 0 ∷ 0 ∷ []) ∷
    -- F7: DOEs of a shared last statement, the latest DO first
    made ("      DO7I=1,1" ∷ "      DO7J=1,1" ∷ "      GOTO7" ∷ "    7 CONTINUE" ∷ "      END" ∷ []) (1 ∷ 0 ∷ 0 ∷ 0 ∷ 5 ∷ 0 ∷ 0 ∷ 0 ∷ 6 ∷ 0 ∷ 0 ∷ 0 ∷ 7 ∷ 0 ∷ 0 ∷ 0 ∷ 1 ∷ 0 ∷ 0 ∷ 0 ∷ 100 ∷ 0 ∷ 0 ∷ 0 ∷ 4 ∷ 0 ∷ 0 ∷ 0 ∷ 2 ∷ 0 ∷ 0 ∷ 0 ∷ 104 ∷ 0 ∷ 0 ∷ 0 ∷ 0 ∷ 0 ∷ 0 ∷ 0 ∷ 3 ∷ 0 ∷ 0 ∷ 0 ∷ 104 ∷ 0 ∷ 0 ∷ 0 ∷ 0 ∷ 0 ∷ 0 ∷ 0 ∷ 4 ∷ 0 ∷ 0 ∷ 0 ∷ 104 ∷ 0 ∷ 0 ∷ 0 ∷ 32 ∷ 0 ∷ 0 ∷ 0 ∷ 5 ∷ 0 ∷ 0 ∷ 0 ∷ 136 ∷ 0 ∷ 0 ∷ 0 ∷ 48 ∷ 0 ∷ 0 ∷ 0 ∷ 6 ∷ 0 ∷ 0 ∷ 0 ∷ 184 ∷ 0 ∷ 0 ∷ 0 ∷ 60 ∷ 0 ∷ 0 ∷ 0 ∷ 7 ∷ 0 ∷ 0 ∷ 0 ∷ 244 ∷ 0 ∷ 0 ∷ 0 ∷ 40 ∷ 0 ∷ 0 ∷ 0 ∷ 1 ∷ 0 ∷ 0 ∷ 0 ∷ 0 ∷ 0 ∷ 0 ∷ 0 ∷ 1 ∷ 0 ∷ 0 ∷ 0 ∷ 2 ∷ 0 ∷ 0 ∷ 0 ∷ 4 ∷ 0 ∷ 0 ∷ 0 ∷ 3 ∷ 0 ∷ 0 ∷ 0 ∷ 4 ∷ 0 ∷ 0 ∷ 0 ∷ 5 ∷ 0 ∷ 0 ∷ 0 ∷ 8 ∷ 0 ∷ 0 ∷ 0 ∷ 0 ∷ 0 ∷ 0 ∷ 1 ∷ 0 ∷ 0 ∷ 0 ∷ 1 ∷ 0 ∷ 0 ∷ 0 ∷ 1 ∷ 0 ∷ 0 ∷ 0 ∷ 14 ∷ 0 ∷ 0 ∷ 0 ∷ 1 ∷ 0 ∷ 0 ∷ 0 ∷ 1 ∷ 0 ∷ 0 ∷ 0 ∷ 1 ∷ 1 ∷ 0 ∷ 0 ∷ 14 ∷ 9 ∷ 0 ∷ 0 ∷ 11 ∷ 1 ∷ 0 ∷ 0 ∷ 15 ∷ 0 ∷ 0 ∷ 0 ∷ 15 ∷ 1 ∷ 0 ∷ 0 ∷ 0 ∷ 1 ∷ 0 ∷ 0 ∷ 0 ∷ 0 ∷ 0 ∷ 0 ∷ 0 ∷ 0 ∷ 0 ∷ 0 ∷ 0 ∷ 2 ∷ 0 ∷ 0 ∷ 0 ∷ 0 ∷ 0 ∷ 0 ∷ 0 ∷ 4 ∷ 0 ∷ 0 ∷ 0 ∷ 3 ∷ 0 ∷ 0 ∷ 0 ∷ 0 ∷ 0 ∷ 0 ∷ 0 ∷ 8 ∷ 0 ∷ 0 ∷ 0 ∷ 4 ∷ 0 ∷ 0 ∷ 0 ∷ 7 ∷ 0 ∷ 0 ∷ 0 ∷ 9 ∷ 0 ∷ 0 ∷ 0 ∷ 5 ∷ 0 ∷ 0 ∷ 0 ∷ 0 ∷ 0 ∷ 0 ∷ 0 ∷ 11 ∷ 0 ∷ 0 ∷ 0 ∷ 73 ∷ 32 ∷ 32 ∷ 32 ∷ 32 ∷ 32 ∷ 32 ∷ 32 ∷ 0 ∷ 0 ∷ 0 ∷ 0 ∷ 0 ∷ 0 ∷ 0 ∷ 0 ∷ 0 ∷ 0 ∷ 0 ∷ 0 ∷ 74 ∷ 32 ∷ 32 ∷ 32 ∷ 32 ∷ 32 ∷ 32 ∷ 32 ∷ 3 ∷ 0 ∷ 0 ∷ 0 ∷ 0 ∷ 0 ∷ 0 ∷ 0 ∷ 0 ∷ 0 ∷ 0 ∷ 0 ∷ []) ∷
    []

abbrev pub AsMade : List Made → Type 0
AsMade [] = Unit {0}
AsMade (m ∷ more) = (object_in (compiling (house1401 5) (deck m.cards) (replicate 500 0)) ≡ m.object) × AsMade more

pub objects_made : AsMade objects
unfolding digits_rule fits keep drops kept divided apply halt_number place turn signed_of signed_word object_words object_bytes read_object operation_of operand_of decode step right41 right_constant right_element right_loop right_line right_named right43 flow_of entry_right bench_step heights refused42 refused43 checked checking taken given right50 right51 right52 sequence_of running benching write map_of mapping value_of form_names form_constants form_exits form_last form_levels cards_of comment first_card character text_of number_of right_number wrong_card after_card right_digits right_length carded is_letter_or_digit give give_if ahead follow and_then after after_word choose starts starts_digit all_of whole run digit_run name_run bytesTaken number name listed_up_to listed addend linear_of subscript subscripts targetRead operandRead operand sign signed sum_op product_op joined more grammarStep parse_in enough parse expression assignment plain_go_to right_exits computed_go_to arithmetic_if parameter do_loop array_shape dimensions read_assignment read_go_to read_computed read_if read_do read_continue read_stop read_end read_dimension present readings first_of form_of dos_of endings dims_of meaning_step meaning cell_of base_of limit_of form_plain held_of words address_at code_of word_of translate right11 right12 right13 right14 right15 form_references right16 form_pooled form_words form_exit_words takes right18 judge_form refused20 right21 right22 right24 form_sets right25 judge_deck deck_of compiling meaning_of deck_names deck_dims deck_levels object_in named_cell named_values right_store series answered meant
objects_made = (refl, (refl, (refl, (refl, (refl, (refl, tt))))))

-- 01's worked deck is 232 bytes
pub worked_length : (compiling (house1401 5) (deck ("      I=47" ∷ "      J=I*I*I" ∷ "      STOP" ∷ "      END" ∷ [])) (replicate 232 0)).length ≡ 232
unfolding digits_rule fits keep drops kept divided apply halt_number place turn signed_of signed_word object_words object_bytes read_object operation_of operand_of decode step right41 right_constant right_element right_loop right_line right_named right43 flow_of entry_right bench_step heights refused42 refused43 checked checking taken given right50 right51 right52 sequence_of running benching write map_of mapping value_of form_names form_constants form_exits form_last form_levels cards_of comment first_card character text_of number_of right_number wrong_card after_card right_digits right_length carded is_letter_or_digit give give_if ahead follow and_then after after_word choose starts starts_digit all_of whole run digit_run name_run bytesTaken number name listed_up_to listed addend linear_of subscript subscripts targetRead operandRead operand sign signed sum_op product_op joined more grammarStep parse_in enough parse expression assignment plain_go_to right_exits computed_go_to arithmetic_if parameter do_loop array_shape dimensions read_assignment read_go_to read_computed read_if read_do read_continue read_stop read_end read_dimension present readings first_of form_of dos_of endings dims_of meaning_step meaning cell_of base_of limit_of form_plain held_of words address_at code_of word_of translate right11 right12 right13 right14 right15 form_references right16 form_pooled form_words form_exit_words takes right18 judge_form refused20 right21 right22 right24 form_sets right25 judge_deck deck_of compiling meaning_of deck_names deck_dims deck_levels object_in named_cell named_values right_store series answered meant
worked_length = refl

-- a deck that is refused has no meaning
pub refused_means_nothing : meant (house1401 5) (deck ("      GOTO7" ∷ "      END" ∷ [])) [] ≡ refused 22 1
unfolding digits_rule fits keep drops kept divided apply halt_number place turn signed_of signed_word object_words object_bytes read_object operation_of operand_of decode step right41 right_constant right_element right_loop right_line right_named right43 flow_of entry_right bench_step heights refused42 refused43 checked checking taken given right50 right51 right52 sequence_of running benching write map_of mapping value_of form_names form_constants form_exits form_last form_levels cards_of comment first_card character text_of number_of right_number wrong_card after_card right_digits right_length carded is_letter_or_digit give give_if ahead follow and_then after after_word choose starts starts_digit all_of whole run digit_run name_run bytesTaken number name listed_up_to listed addend linear_of subscript subscripts targetRead operandRead operand sign signed sum_op product_op joined more grammarStep parse_in enough parse expression assignment plain_go_to right_exits computed_go_to arithmetic_if parameter do_loop array_shape dimensions read_assignment read_go_to read_computed read_if read_do read_continue read_stop read_end read_dimension present readings first_of form_of dos_of endings dims_of meaning_step meaning cell_of base_of limit_of form_plain held_of words address_at code_of word_of translate right11 right12 right13 right14 right15 form_references right16 form_pooled form_words form_exit_words takes right18 judge_form refused20 right21 right22 right24 form_sets right25 judge_deck deck_of compiling meaning_of deck_names deck_dims deck_levels object_in named_cell named_values right_store series answered meant
refused_means_nothing = refl
