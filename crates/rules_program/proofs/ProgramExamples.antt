-- The program on whole inputs, computed: 01's worked deck and examples of the readings' section K. Assumes nothing.
use mathlib.Core.Path.{◌≡◌, refl}
use Prim.Native.Nat.{ℕ}
use Prim.Native.String.{String}
use mathlib.Core.List.{List, [], ◌∷◌, ◌++◌}
use Rattle.rules_text.specs.Punch.{bytes, deck}
use Rattle.number.specs.Number.{digits_rule, fits, keep, drops, kept, divided, apply}
use Rattle.rules_object.specs.Halts.{halt_number}
use Rattle.rules_shared.specs.Choose.{place, turn}
use Rattle.rules_object.specs.Bytes.{signed_of, signed_word, object_words, object_bytes, read_object}
use Rattle.rules_object.specs.Check.{right41, right_constant, right_element, right_loop, right_line, right_named, character}
use Rattle.rules_object.specs.Operations.{operation_of, operand_of, decode, right43, flow_of, entry_right}
use Rattle.rules_object.specs.Machine.{step, bench_step}
use Rattle.rules_object.specs.Heights.{heights}
use Rattle.rules_shared.specs.Output.{write}
use Rattle.rules_object.specs.Calls.{refused42, refused43, checked, checking, taken, given, right50, right51, right52, sequence_of, running, benching, map_of, mapping}
use Rattle.rules_text.specs.Trees.{value_of, form_names, form_constants, form_exits, form_last, form_levels}
use Rattle.rules_text.specs.Cards.{cards_of, comment, first_card, text_of, number_of, right_number, wrong_card, after_card, right_digits, right_length, carded}
use Rattle.rules_text.specs.Tokens.{is_letter_or_digit, give, give_if, ahead, follow, and_then, after, after_word, choose, starts, starts_digit, all_of, whole, run, digit_run, name_run, taken as bytesTaken, number, name, listed_up_to, listed}
use Rattle.rules_text.specs.Grammar.{addend, linear_of, subscript, subscripts, place as targetRead, operand_of as operandRead, operand, sign, signed, sum_op, product_op, joined, more, step as grammarStep, parse_in, enough, parse, expression, assignment, plain_go_to, right_exits, computed_go_to, arithmetic_if, parameter, do_loop, array_shape, dimensions, read_assignment, read_go_to, read_computed, read_if, read_do, read_continue, read_stop, read_end, read_dimension, present, readings, first_of, form_of}
use Rattle.rules_deck.specs.Deck.{dos_of, endings, dims_of}
use Rattle.rules_deck.specs.Meaning.{meaning_step, meaning}
use Rattle.rules_deck.specs.Translation.{cell_of, base_of, limit_of, form_plain, held_of, words, address_at, code_of, word_of, translate}
use Rattle.rules_deck.specs.Judge.{right11, right12, right13, right14, right15, form_references, right16, form_pooled, form_words, form_exit_words, takes, right18, judge_form}
use Rattle.rules_deck.specs.Whole.{refused20, right21, right22, right24, form_sets, right25, judge_deck}
use Rattle.rules_deck.specs.Compile.{deck_of, compiling}
use Rattle.rules_object.specs.Promised.{right_store}
use Rattle.rules_deck.specs.Seen.{meaning_of, deck_names, deck_dims, deck_levels, object_in, named_cell, named_values, series}
use Rattle.rules_program.specs.Text.{numeral, signed as signedNumeral, stated, halt_line, refused_line, subscripts as subscriptsText, value_line}
use Rattle.rules_program.specs.Program.{control_digits, printed_object, printed}

pub record Example : Type 0 where
  pub input : List String
  pub lines : List String

abbrev pub prints : List String → List String → Example
prints input lines = record { input = input; lines = lines }

-- each line with its end
abbrev pub ended : List String → List ℕ
ended [] = []
ended (l ∷ ls) = bytes l ++ (10 ∷ ended ls)

-- the control card, then the deck
abbrev pub table : List Example
table =
    -- 01's worked deck
    prints ("5" ∷ "      I=47" ∷ "      J=I*I*I" ∷ "      STOP" ∷ "      END" ∷ []) ("HALT 0 STEPS 9 DROP 2" ∷ "I 47" ∷ "J 3823" ∷ []) ∷
    -- K1: a blank first column is 5
    prints ("" ∷ "      I=99999+1" ∷ "      END" ∷ []) ("HALT 1 STEPS 5 DROP 1" ∷ "I 0" ∷ []) ∷
    -- K1: a bad control card comes before the deck's length
    prints ("0" ∷ []) ("REFUSED 1 0" ∷ []) ∷
    prints ("5" ∷ []) ("REFUSED 2 0" ∷ []) ∷
    -- a value below 0
    prints ("5" ∷ "      I=-7/2" ∷ "      END" ∷ []) ("HALT 1 STEPS 6 DROP 0" ∷ "I -3" ∷ []) ∷
    -- K3: elements of one dimension and of two, rows before columns
    prints ("5" ∷ "      DIMENSIONL(2),M(2,2)" ∷ "      M(2,1)=5" ∷ "      END" ∷ []) ("HALT 1 STEPS 3 DROP 0" ∷ "L(1) 0" ∷ "L(2) 0" ∷ "M(1,1) 0" ∷ "M(2,1) 5" ∷ "M(1,2) 0" ∷ "M(2,2) 0" ∷ []) ∷
    []

abbrev pub AsPrinted : List Example → Type 0
AsPrinted [] = Unit {0}
AsPrinted (e ∷ more) = (printed (deck e.input) ≡ ended e.lines) × AsPrinted more

pub examples_printed : AsPrinted table
unfolding digits_rule fits keep drops kept divided apply halt_number place turn signed_of signed_word object_words object_bytes read_object operation_of operand_of decode step right41 right_constant right_element right_loop right_line right_named right43 flow_of entry_right bench_step heights refused42 refused43 checked checking taken given right50 right51 right52 sequence_of running benching write map_of mapping value_of form_names form_constants form_exits form_last form_levels cards_of comment first_card character text_of number_of right_number wrong_card after_card right_digits right_length carded is_letter_or_digit give give_if ahead follow and_then after after_word choose starts starts_digit all_of whole run digit_run name_run bytesTaken number name listed_up_to listed addend linear_of subscript subscripts targetRead operandRead operand sign signed sum_op product_op joined more grammarStep parse_in enough parse expression assignment plain_go_to right_exits computed_go_to arithmetic_if parameter do_loop array_shape dimensions read_assignment read_go_to read_computed read_if read_do read_continue read_stop read_end read_dimension present readings first_of form_of dos_of endings dims_of meaning_step meaning cell_of base_of limit_of form_plain held_of words address_at code_of word_of translate right11 right12 right13 right14 right15 form_references right16 form_pooled form_words form_exit_words takes right18 judge_form refused20 right21 right22 right24 form_sets right25 judge_deck deck_of compiling meaning_of deck_names deck_dims deck_levels object_in named_cell named_values right_store series numeral signedNumeral stated halt_line refused_line subscriptsText value_line control_digits printed_object printed
examples_printed = (refl, (refl, (refl, (refl, (refl, (refl, tt))))))

-- K1: an input shorter than a control card
pub short_input : printed (bytes "5 ") ≡ ended ("REFUSED 1 0" ∷ [])
unfolding digits_rule fits keep drops kept divided apply halt_number place turn signed_of signed_word object_words object_bytes read_object operation_of operand_of decode step right41 right_constant right_element right_loop right_line right_named right43 flow_of entry_right bench_step heights refused42 refused43 checked checking taken given right50 right51 right52 sequence_of running benching write map_of mapping value_of form_names form_constants form_exits form_last form_levels cards_of comment first_card character text_of number_of right_number wrong_card after_card right_digits right_length carded is_letter_or_digit give give_if ahead follow and_then after after_word choose starts starts_digit all_of whole run digit_run name_run bytesTaken number name listed_up_to listed addend linear_of subscript subscripts targetRead operandRead operand sign signed sum_op product_op joined more grammarStep parse_in enough parse expression assignment plain_go_to right_exits computed_go_to arithmetic_if parameter do_loop array_shape dimensions read_assignment read_go_to read_computed read_if read_do read_continue read_stop read_end read_dimension present readings first_of form_of dos_of endings dims_of meaning_step meaning cell_of base_of limit_of form_plain held_of words address_at code_of word_of translate right11 right12 right13 right14 right15 form_references right16 form_pooled form_words form_exit_words takes right18 judge_form refused20 right21 right22 right24 form_sets right25 judge_deck deck_of compiling meaning_of deck_names deck_dims deck_levels object_in named_cell named_values right_store series numeral signedNumeral stated halt_line refused_line subscriptsText value_line control_digits printed_object printed
short_input = refl
