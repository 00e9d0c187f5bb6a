-- 18, each limit by one: what fills a table is right, and the next of its kind is refused.
-- Assumes nothing.
use mathlib.Core.Path.{◌≡◌, refl}
use Prim.Native.Nat.{ℕ, ◌+◌}
use Prim.Native.String.{String}
use mathlib.Core.List.{List, [], ◌∷◌, ◌++◌}
use mathlib.Core.Option.{none, some}
use lib.ListN.{replicate}
use Rattle.rules_shared.specs.House.{house1401}
use Rattle.rules_shared.specs.Refusals.{refusal}
use Rattle.rules_object.specs.Check.{character}
use Rattle.rules_text.specs.Punch.{bytes, deck}
use Rattle.rules_text.specs.Trees.{Form, con, loop, computed, stop, value_of, form_names, form_constants, form_exits, form_last, form_levels}
use Rattle.rules_text.specs.Cards.{cards_of, comment, first_card, text_of, number_of, right_number, wrong_card, after_card, right_digits, right_length, carded}
use Rattle.rules_text.specs.Tokens.{is_letter_or_digit, give, give_if, ahead, follow, and_then, after, after_word, choose, starts, starts_digit, all_of, whole, run, digit_run, name_run, taken as bytesTaken, number, name, listed_up_to, listed}
use Rattle.rules_text.specs.Grammar.{addend, linear_of, subscript, subscripts, place as targetRead, operand_of as operandRead, operand, sign, signed, sum_op, product_op, joined, more, step as grammarStep, parse_in, enough, parse, expression, assignment, plain_go_to, right_exits, computed_go_to, arithmetic_if, parameter, do_loop, array_shape, dimensions, read_assignment, read_go_to, read_computed, read_if, read_do, read_continue, read_stop, read_end, read_dimension, present, readings, first_of, form_of}
use Rattle.rules_deck.specs.Translation.{form_plain}
use Rattle.rules_deck.specs.Judge.{Taken, right11, right12, right13, right14, right15, form_references, right16, form_pooled, form_words, form_exit_words, takes, right18, judge_form}
use Rattle.rules_deck.specs.Compile.{not_read, deck_of}

-- ---- decks: all statements before the place pass, the one there is refused

pub record Over : Type 0 where
  pub cards : List String
  pub place : ℕ

abbrev pub over : List String → ℕ → Over
over cards place = record { cards = cards; place = place }

abbrev pub table : List Over
table =
    -- a hundred names
    over ("      I10=I11+I12+I13+I14+I15+I16+I17+I18+I19" ∷ "      I20=I21+I22+I23+I24+I25+I26+I27+I28+I29" ∷ "      I30=I31+I32+I33+I34+I35+I36+I37+I38+I39" ∷ "      I40=I41+I42+I43+I44+I45+I46+I47+I48+I49" ∷ "      I50=I51+I52+I53+I54+I55+I56+I57+I58+I59" ∷ "      I60=I61+I62+I63+I64+I65+I66+I67+I68+I69" ∷ "      I70=I71+I72+I73+I74+I75+I76+I77+I78+I79" ∷ "      I80=I81+I82+I83+I84+I85+I86+I87+I88+I89" ∷ "      I90=I91+I92+I93+I94+I95+I96+I97+I98+I99" ∷ "      I100=I101+I102+I103+I104+I105+I106+I107+I108+I109" ∷ "      J=1" ∷ []) 11 ∷
    -- sixty-four DOs
    over (replicate 65 "      DO7I=1,1") 65 ∷
    -- 256 constants
    over ("      I=100+101+102+103+104+105+106+107+108+109+110+111+112+113+114+115" ∷ "      I=116+117+118+119+120+121+122+123+124+125+126+127+128+129+130+131" ∷ "      I=132+133+134+135+136+137+138+139+140+141+142+143+144+145+146+147" ∷ "      I=148+149+150+151+152+153+154+155+156+157+158+159+160+161+162+163" ∷ "      I=164+165+166+167+168+169+170+171+172+173+174+175+176+177+178+179" ∷ "      I=180+181+182+183+184+185+186+187+188+189+190+191+192+193+194+195" ∷ "      I=196+197+198+199+200+201+202+203+204+205+206+207+208+209+210+211" ∷ "      I=212+213+214+215+216+217+218+219+220+221+222+223+224+225+226+227" ∷ "      I=228+229+230+231+232+233+234+235+236+237+238+239+240+241+242+243" ∷ "      I=244+245+246+247+248+249+250+251+252+253+254+255+256+257+258+259" ∷ "      I=260+261+262+263+264+265+266+267+268+269+270+271+272+273+274+275" ∷ "      I=276+277+278+279+280+281+282+283+284+285+286+287+288+289+290+291" ∷ "      I=292+293+294+295+296+297+298+299+300+301+302+303+304+305+306+307" ∷ "      I=308+309+310+311+312+313+314+315+316+317+318+319+320+321+322+323" ∷ "      I=324+325+326+327+328+329+330+331+332+333+334+335+336+337+338+339" ∷ "      I=340+341+342+343+344+345+346+347+348+349+350+351+352+353+354+355" ∷ "      I=99" ∷ []) 17 ∷
    -- 256 elements
    over ("      DIMENSIONL(1)" ∷ replicate 32 "      I=L(1)+L(1)+L(1)+L(1)+L(1)+L(1)+L(1)+L(1)" ++ ("      I=L(1)" ∷ [])) 34 ∷
    -- 4,096 cells
    over ("      DIMENSIONL(4096)" ∷ "      I=1" ∷ []) 2 ∷
    -- 4,092 words of code: the DO's own four have room, its DOE has not
    over (replicate 63 "      I=1+1+1+1+1+1+1+1+1+1+1+1+1+1+1+1+1+1+1+1+1+1+1+1+1+1+1+1+1+1+1+1" ++ ("      I=1+1+1+1+1+1+1+1+1+1+1+1+1+1+1+1+1+1+1+1+1+1+1+1+1+1+1+1+1+1" ∷ "      DO7J=1,2" ∷ [])) 65 ∷
    []

abbrev pub Refused : List Over → Type 0
Refused [] = Unit {0}
Refused (e ∷ more) = (deck_of (house1401 5) (deck e.cards) ≡ not_read (refusal 18 e.place 0)) × Refused more

pub examples : Refused table
unfolding value_of form_names form_constants form_exits form_last form_levels cards_of comment first_card character text_of number_of right_number wrong_card after_card right_digits right_length carded is_letter_or_digit give give_if ahead follow and_then after after_word choose starts starts_digit all_of whole run digit_run name_run bytesTaken number name listed_up_to listed addend linear_of subscript subscripts targetRead operandRead operand sign signed sum_op product_op joined more grammarStep parse_in enough parse expression assignment plain_go_to right_exits computed_go_to arithmetic_if parameter do_loop array_shape dimensions read_assignment read_go_to read_computed read_if read_do read_continue read_stop read_end read_dimension present readings first_of form_of form_plain right11 right12 right13 right14 right15 form_references right16 form_pooled form_words form_exit_words takes right18 judge_form deck_of
examples = (refl, (refl, (refl, (refl, (refl, (refl, tt))))))

-- ---- exit words and words of code, from what is taken before: decks that take so many are dear to compute

abbrev pub exits_taken : ℕ → Taken
exits_taken n = record { held = []; constants = []; elements = 0; exits = n; dos = 0; code = 0 }

abbrev pub code_taken : ℕ → Taken
code_taken n = record { held = []; constants = []; elements = 0; exits = 0; dos = 0; code = n }

abbrev pub two_exits : Form
two_exits = computed (bytes "7" ∷ bytes "7" ∷ []) (bytes "I")

abbrev pub a_do : Form
a_do = loop (bytes "7") (bytes "J") (con (bytes "1")) (con (bytes "2")) none

pub record AtLimit (taken : ℕ → Taken) (form : Form) (last : ℕ) : Type 0 where
  pub right : judge_form (house1401 5) 0 form (taken last) ≡ none
  pub wrong : judge_form (house1401 5) 0 form (taken (last + 1)) ≡ some 18

-- the count and two exits; STOP's one word; a DO's five, with its DOE
pub counted : AtLimit exits_taken two_exits 1021 × (AtLimit code_taken stop 4095 × AtLimit code_taken a_do 4091)
unfolding value_of form_names form_constants form_exits form_last form_levels form_plain right11 right12 right13 right14 right15 form_references right16 form_pooled form_words form_exit_words takes right18 judge_form
counted = (record { right = refl; wrong = refl }, (record { right = refl; wrong = refl }, record { right = refl; wrong = refl }))
