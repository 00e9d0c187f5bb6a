-- Objects as bytes through run and bench: each operation, then readings H1 to H5, I1 to I5 and J1 to J5.
-- Assumes nothing.
use mathlib.Core.Path.{refl}
use mathlib.Core.List.{List, [], ◌∷◌, ◌++◌}
use Prim.Native.Nat.{ℕ}
use lib.ListN.{replicate, take}
use lib.IntN.{ℤ, pos, negsuc}
use Rattle.number.specs.Number.{digits_rule, fits, keep, drops, kept, divided, apply}
use Rattle.rules_shared.specs.Limits.{limits}
use Rattle.rules_formats.specs.Walk.{cards_of, room_of, no_trays, devices_of, lines_after}
use Rattle.rules_object.specs.Halts.{halt_number}
use Rattle.rules_shared.specs.Choose.{place, turn}
use Rattle.rules_object.specs.Object.{Object}
use Rattle.rules_object.specs.Check.{right41, right_constant, right_element, right_loop, right_line, right_named}
use Rattle.rules_object.specs.Operations.{operation_of, operand_of, decode, right43, flow_of, entry_right}
use Rattle.rules_object.specs.Machine.{step, bench_step}
use Rattle.rules_object.specs.Bytes.{signed_of, signed_word, object_words, object_bytes, read_object}
use Rattle.rules_object.specs.Heights.{heights}
use Rattle.rules_shared.specs.Refusals.{refusal, accepted}
use Rattle.rules_object.specs.Calls.{refused42, refused43, checked, Lent, taken, given, right50, right51, right52, sequence_of, Ran, not_run, running, benching}
use Rattle.rules_object.specs.Safe.{fresh_lent}
use Rattle.rules_object.specs.Small.{word_hlt, word_con, word_brc, word_neg, word_mul, word_sub, word_lod, word_sto, word_lde, word_ste, word_add, word_div, word_jmp, word_br3, word_doi, word_doe, does, object, code_only, element, loop, line, named, with_lines, with_names}
use Rattle.rules_object.proofs.ObjectExamples.{Agree}

-- index, height, mark and the first of the stack's places, the others 0
abbrev lends : ℕ → ℕ → ℕ → List ℤ → Lent
lends index height mark stack = record { index = index; height = height; mark = mark; places = take limits.stack (stack ++ replicate limits.stack (pos 0)) }

-- halt, steps, sequence number, the state and the store
abbrev ended : ℕ → ℕ → ℕ → Lent → List ℤ → Ran
ended halt steps sequence lent store =
    record { refusal = accepted; halt = halt; steps = steps; sequence = sequence; lent = lent; store = store; cards_taken = 0; lines_written = 0; lines = [] }

abbrev with_digits : ℕ → Object → Object
with_digits k o =
    record {
      edition = o.edition;
      digits = k;
      cells = o.cells;
      constants = o.constants;
      elements = o.elements;
      exits = o.exits;
      dos = o.dos;
      code = o.code;
      lines = o.lines;
      names = o.names;
      formats = o.formats;
      items = o.items;
      transfers = o.transfers;
    }

-- a million steps unless said
abbrev million : ℕ
million = 1000000

abbrev runs : Object → List ℤ → Lent → ℕ → Ran
runs o store l allowance = running (object_bytes o) store l no_trays allowance

abbrev benches : Object → List ℤ → ℕ → Ran
benches o store allowance = benching (object_bytes o) store fresh_lent no_trays allowance

-- ---- each operation

-- 7 and 2 on the stack, the operation, and its result in cell 0
abbrev works : ℕ → Ran
works word = runs (object 1 (7 ∷ 2 ∷ []) [] [] [] (word_con 0 ∷ word_con 1 ∷ word ∷ word_sto 0 ∷ word_hlt 0 ∷ [])) (pos 9 ∷ []) fresh_lent million

-- an array of two rows and three columns, and the cells of its subscripts
abbrev array : ℕ → ℕ → List ℤ
array i j = pos 10 ∷ pos 11 ∷ pos 12 ∷ pos 13 ∷ pos 14 ∷ pos 15 ∷ pos i ∷ pos j ∷ []

-- L(I,2*J-1), and CON 0 is 7
abbrev elements : ℕ → ℕ → ℕ → ℕ → Ran
elements word then i j = runs (object 8 (7 ∷ []) (element 0 2 3 1 6 (pos 0) 2 7 (negsuc 0) ∷ []) [] [] (word ∷ then ∷ word_hlt 1 ∷ [])) (array i j) fresh_lent million

-- cell 0 chooses where to go
abbrev chooses : ℕ → ℤ → Ran
chooses word v = runs (object 1 [] [] (2 ∷ 3 ∷ 4 ∷ 2 ∷ 4 ∷ 3 ∷ []) [] (word_lod 0 ∷ word ∷ word_hlt 0 ∷ word_hlt 0 ∷ word_hlt 0 ∷ [])) (v ∷ []) fresh_lent million

operations : Agree
    ((works (word_add 0), ended 0 5 0 (lends 4 0 0 []) (pos 9 ∷ []))
    ∷ (works (word_sub 0), ended 0 5 0 (lends 4 0 0 []) (pos 5 ∷ []))
    ∷ (works (word_mul 0), ended 0 5 0 (lends 4 0 0 []) (pos 14 ∷ []))
    ∷ (works (word_div 0), ended 0 5 0 (lends 4 0 0 []) (pos 3 ∷ []))
    ∷ (works (word_neg 0), ended 0 5 0 (lends 4 1 0 (pos 7 ∷ [])) (negsuc 1 ∷ []))
    ∷ (works (word_lod 0), ended 0 5 0 (lends 4 2 0 (pos 7 ∷ pos 2 ∷ [])) (pos 9 ∷ []))
    ∷ (works (word_jmp 4), ended 0 4 0 (lends 4 2 0 (pos 7 ∷ pos 2 ∷ [])) (pos 9 ∷ []))
    ∷ (works (word_hlt 1), ended 1 3 0 (lends 2 2 0 (pos 7 ∷ pos 2 ∷ [])) (pos 9 ∷ []))
    ∷ (runs (object 0 (7 ∷ 0 ∷ []) [] [] [] (word_con 0 ∷ word_con 1 ∷ word_div 0 ∷ word_hlt 0 ∷ [])) [] fresh_lent million, ended 3 3 0 (lends 2 2 0 (pos 7 ∷ [])) [])
    ∷ (elements (word_lde 0) (word_sto 6) 1 1, ended 1 3 0 (lends 2 0 0 []) (array 10 1))
    ∷ (elements (word_lde 0) (word_sto 6) 2 2, ended 1 3 0 (lends 2 0 0 []) (array 15 2))
    ∷ (elements (word_lde 0) (word_sto 6) 3 1, ended 4 1 0 (lends 0 0 0 []) (array 3 1))
    ∷ (elements (word_lde 0) (word_sto 6) 1 0, ended 4 1 0 (lends 0 0 0 []) (array 1 0))
    ∷ (elements (word_con 0) (word_ste 0) 2 1, ended 1 3 0 (lends 2 0 0 []) (pos 10 ∷ pos 7 ∷ pos 12 ∷ pos 13 ∷ pos 14 ∷ pos 15 ∷ pos 2 ∷ pos 1 ∷ []))
    ∷ (elements (word_con 0) (word_ste 0) 0 1, ended 4 2 0 (lends 1 1 0 (pos 7 ∷ [])) (array 0 1))
    ∷ (chooses (word_br3 0) (negsuc 4), ended 0 3 0 (lends 2 0 0 []) (negsuc 4 ∷ []))
    ∷ (chooses (word_br3 0) (pos 0), ended 0 3 0 (lends 3 0 0 []) (pos 0 ∷ []))
    ∷ (chooses (word_br3 0) (pos 5), ended 0 3 0 (lends 4 0 0 []) (pos 5 ∷ []))
    ∷ (chooses (word_brc 3) (pos 1), ended 0 3 0 (lends 4 0 0 []) (pos 1 ∷ []))
    ∷ (chooses (word_brc 3) (pos 2), ended 0 3 0 (lends 3 0 0 []) (pos 2 ∷ []))
    ∷ (chooses (word_brc 3) (pos 3), ended 5 2 0 (lends 1 1 0 (pos 3 ∷ [])) (pos 3 ∷ []))
    ∷ (chooses (word_brc 3) (pos 0), ended 5 2 0 (lends 1 1 0 []) (pos 0 ∷ []))
    ∷ (chooses (word_brc 3) (negsuc 0), ended 5 2 0 (lends 1 1 0 (negsuc 0 ∷ [])) (negsuc 0 ∷ []))
    ∷ [])
unfolding checked object_bytes object_words signed_word read_object signed_of right41 refused42 refused43 right_constant right_element right_loop right_line right_named right43 flow_of heights decode operation_of operand_of fits digits_rule place turn step apply kept divided keep drops taken given right50 right51 sequence_of halt_number running right52 devices_of cards_of room_of lines_after
operations = refl

-- ---- the readings

runs_h1 : Agree
    ((runs (object 1 [] [] [] [] (word_hlt 0 ∷ [])) [] fresh_lent million, not_run (refusal 50 0 0) fresh_lent [] no_trays)
    ∷ (runs (object 2 [] [] [] [] (word_hlt 0 ∷ [])) (pos 0 ∷ pos 100000 ∷ []) fresh_lent million, not_run (refusal 51 0 0) fresh_lent (pos 0 ∷ pos 100000 ∷ []) no_trays)
    ∷ (runs (object 1 [] [] [] [] (word_hlt 0 ∷ [])) (pos 7 ∷ pos 100000 ∷ []) fresh_lent million, ended 0 1 0 (lends 0 0 0 []) (pos 7 ∷ pos 100000 ∷ []))
    ∷ [])
unfolding checked object_bytes object_words signed_word read_object signed_of right41 refused42 refused43 right_constant right_element right_loop right_line right_named right43 flow_of heights decode operation_of operand_of fits digits_rule place turn step apply kept divided keep drops taken given right50 right51 sequence_of halt_number running right52 devices_of cards_of room_of lines_after
runs_h1 = refl

runs_h2 : Agree
    ((runs (code_only (word_hlt 0 ∷ word_add 0 ∷ word_hlt 0 ∷ [])) [] (lends 1 2 0 (pos 1 ∷ pos 1 ∷ [])) million, not_run (refusal 52 0 0) (lends 1 2 0 (pos 1 ∷ pos 1 ∷ [])) [] no_trays)
    ∷ (runs (code_only (word_hlt 0 ∷ word_hlt 0 ∷ [])) [] (lends 1 0 0 []) million, not_run (refusal 52 0 0) (lends 1 0 0 []) [] no_trays)
    ∷ [])
unfolding checked object_bytes object_words signed_word read_object signed_of right41 refused42 refused43 right_constant right_element right_loop right_line right_named right43 flow_of heights decode operation_of operand_of fits digits_rule place turn step apply kept divided keep drops taken given right50 right51 sequence_of halt_number running right52 devices_of cards_of room_of lines_after
runs_h2 = refl

runs_h3 : Agree
    ((runs (object 1 (1 ∷ []) [] [] [] (word_con 0 ∷ word_sto 0 ∷ word_hlt 0 ∷ [])) (pos 0 ∷ []) (lends 1 1 0 (pos 99999 ∷ pos 100000 ∷ [])) 0, ended 2 0 0 (lends 1 1 0 (pos 99999 ∷ [])) (pos 0 ∷ []))
    ∷ (runs (object 1 (1 ∷ []) [] [] [] (word_con 0 ∷ word_sto 0 ∷ word_hlt 0 ∷ [])) (pos 0 ∷ []) (lends 1 1 0 (negsuc 99999 ∷ [])) 0, not_run (refusal 52 0 0) (lends 1 1 0 (negsuc 99999 ∷ [])) (pos 0 ∷ []) no_trays)
    ∷ (runs (object 1 (1 ∷ []) [] [] [] (word_con 0 ∷ word_sto 0 ∷ word_hlt 0 ∷ [])) (pos 0 ∷ []) (lends 1 0 0 []) 0, not_run (refusal 52 0 0) (lends 1 0 0 []) (pos 0 ∷ []) no_trays)
    ∷ [])
unfolding checked object_bytes object_words signed_word read_object signed_of right41 refused42 refused43 right_constant right_element right_loop right_line right_named right43 flow_of heights decode operation_of operand_of fits digits_rule place turn step apply kept divided keep drops taken given right50 right51 sequence_of halt_number running right52 devices_of cards_of room_of lines_after
runs_h3 = refl

runs_h4 : Agree
    ((runs (with_lines (line 4 0 0 ∷ []) (code_only (word_hlt 0 ∷ word_hlt 0 ∷ []))) [] (lends 0 0 2 []) 0, ended 2 0 4 (lends 0 0 2 []) [])
    ∷ (runs (with_lines (line 4 0 0 ∷ []) (code_only (word_hlt 0 ∷ word_hlt 0 ∷ []))) [] (lends 0 0 3 []) 0, not_run (refusal 52 0 0) (lends 0 0 3 []) [] no_trays)
    ∷ [])
unfolding checked object_bytes object_words signed_word read_object signed_of right41 refused42 refused43 right_constant right_element right_loop right_line right_named right43 flow_of heights decode operation_of operand_of fits digits_rule place turn step apply kept divided keep drops taken given right50 right51 sequence_of halt_number running right52 devices_of cards_of room_of lines_after
runs_h4 = refl

runs_h5 : Agree
    ((runs (code_only (word_hlt 0 ∷ [])) [] fresh_lent million, ended 0 1 0 (lends 0 0 0 []) [])
    ∷ [])
unfolding checked object_bytes object_words signed_word read_object signed_of right41 refused42 refused43 right_constant right_element right_loop right_line right_named right43 flow_of heights decode operation_of operand_of fits digits_rule place turn step apply kept divided keep drops taken given right50 right51 sequence_of halt_number running right52 devices_of cards_of room_of lines_after
runs_h5 = refl

runs_i1 : Agree
    ((runs (code_only (word_hlt 0 ∷ [])) [] fresh_lent 0, ended 2 0 0 (lends 0 0 0 []) [])
    ∷ (runs (code_only (word_hlt 0 ∷ [])) [] fresh_lent 1, ended 0 1 0 (lends 0 0 0 []) [])
    ∷ [])
unfolding checked object_bytes object_words signed_word read_object signed_of right41 refused42 refused43 right_constant right_element right_loop right_line right_named right43 flow_of heights decode operation_of operand_of fits digits_rule place turn step apply kept divided keep drops taken given right50 right51 sequence_of halt_number running right52 devices_of cards_of room_of lines_after
runs_i1 = refl

runs_i2 : Agree
    ((runs (with_lines (line 1 0 0 ∷ line 2 0 3 ∷ []) (object 1 (99999 ∷ []) [] [] [] (word_con 0 ∷ word_con 0 ∷ word_add 0 ∷ word_sto 0 ∷ word_hlt 0 ∷ []))) (pos 0 ∷ []) (lends 0 0 4 []) million, ended 0 5 2 (lends 4 0 4 []) (pos 99998 ∷ []))
    ∷ (runs (with_lines (line 1 0 0 ∷ line 2 0 3 ∷ []) (object 1 (99999 ∷ []) [] [] [] (word_con 0 ∷ word_con 0 ∷ word_add 0 ∷ word_sto 0 ∷ word_hlt 0 ∷ []))) (pos 0 ∷ []) fresh_lent million, ended 0 5 1 (lends 4 0 3 []) (pos 99998 ∷ []))
    ∷ [])
unfolding checked object_bytes object_words signed_word read_object signed_of right41 refused42 refused43 right_constant right_element right_loop right_line right_named right43 flow_of heights decode operation_of operand_of fits digits_rule place turn step apply kept divided keep drops taken given right50 right51 sequence_of halt_number running right52 devices_of cards_of room_of lines_after
runs_i2 = refl

runs_i3 : Agree
    ((runs (with_lines (line 10 0 2 ∷ line 20 0 0 ∷ line 30 0 3 ∷ []) (object 1 (99999 ∷ []) [] [] [] (word_con 0 ∷ word_con 0 ∷ word_add 0 ∷ word_sto 0 ∷ word_hlt 0 ∷ []))) (pos 0 ∷ []) fresh_lent million, ended 0 5 20 (lends 4 0 3 []) (pos 99998 ∷ []))
    ∷ (runs (with_lines (line 30 0 3 ∷ []) (object 1 (99999 ∷ []) [] [] [] (word_con 0 ∷ word_con 0 ∷ word_add 0 ∷ word_sto 0 ∷ word_hlt 0 ∷ []))) (pos 0 ∷ []) fresh_lent million, ended 0 5 0 (lends 4 0 3 []) (pos 99998 ∷ []))
    ∷ [])
unfolding checked object_bytes object_words signed_word read_object signed_of right41 refused42 refused43 right_constant right_element right_loop right_line right_named right43 flow_of heights decode operation_of operand_of fits digits_rule place turn step apply kept divided keep drops taken given right50 right51 sequence_of halt_number running right52 devices_of cards_of room_of lines_after
runs_i3 = refl

runs_i4 : Agree
    ((runs (object 1 (1 ∷ 2 ∷ 3 ∷ []) [] [] (loop 0 0 0 0 ∷ []) (word_con 0 ∷ word_con 1 ∷ word_con 2 ∷ word_doi 0 ∷ word_hlt 0 ∷ [])) (pos 0 ∷ []) fresh_lent million, ended 0 5 0 (lends 4 0 0 []) (pos 3 ∷ []))
    ∷ (runs (object 3 (1 ∷ 2 ∷ 0 ∷ []) [] [] (loop 0 1 2 0 ∷ []) (word_con 0 ∷ word_con 1 ∷ word_con 2 ∷ word_doi 0 ∷ word_hlt 0 ∷ [])) (pos 7 ∷ pos 8 ∷ pos 9 ∷ []) fresh_lent million, ended 6 4 0 (lends 3 3 0 (pos 1 ∷ pos 2 ∷ pos 0 ∷ [])) (pos 7 ∷ pos 8 ∷ pos 9 ∷ []))
    ∷ [])
unfolding checked object_bytes object_words signed_word read_object signed_of right41 refused42 refused43 right_constant right_element right_loop right_line right_named right43 flow_of heights decode operation_of operand_of fits digits_rule place turn step apply kept divided keep drops taken given right50 right51 sequence_of halt_number running right52 devices_of cards_of room_of lines_after
runs_i4 = refl

runs_i5 : Agree
    ((runs (object 3 [] [] [] (loop 0 1 2 0 ∷ []) (word_doe 0 ∷ word_hlt 0 ∷ [])) (pos 9 ∷ pos 1 ∷ pos 0 ∷ []) fresh_lent million, ended 6 1 0 (lends 0 0 0 []) (pos 9 ∷ pos 1 ∷ pos 0 ∷ []))
    ∷ (runs (object 3 [] [] [] (loop 0 1 2 0 ∷ []) (word_doe 0 ∷ word_hlt 0 ∷ [])) (negsuc 2 ∷ negsuc 0 ∷ pos 1 ∷ []) fresh_lent million, ended 0 4 0 (lends 1 0 0 []) (negsuc 0 ∷ negsuc 0 ∷ pos 1 ∷ []))
    ∷ (runs (object 2 [] [] [] (loop 0 1 0 0 ∷ []) (word_doe 0 ∷ word_hlt 0 ∷ [])) (pos 1 ∷ pos 8 ∷ []) fresh_lent million, ended 0 5 0 (lends 1 0 0 []) (pos 8 ∷ pos 8 ∷ []))
    ∷ [])
unfolding checked object_bytes object_words signed_word read_object signed_of right41 refused42 refused43 right_constant right_element right_loop right_line right_named right43 flow_of heights decode operation_of operand_of fits digits_rule place turn step apply kept divided keep drops taken given right50 right51 sequence_of halt_number running right52 devices_of cards_of room_of lines_after
runs_i5 = refl

benches_j1 : Agree
    ((benches (with_names (named (65 ∷ []) 9 0 1 ∷ []) (with_lines (line 5 0 99 ∷ []) (object 1 (100000 ∷ []) (element 0 0 0 0 0 (pos 1) 0 0 (pos 1) ∷ []) (9 ∷ 9 ∷ 9 ∷ []) (loop 9 9 9 9 ∷ []) (word_hlt 0 ∷ does 18 5 ∷ word_con 0 ∷ word_br3 0 ∷ [])))) (pos 0 ∷ []) million, ended 0 1 0 (lends 0 0 0 []) (pos 0 ∷ []))
    ∷ (benches (object 0 (100000 ∷ []) [] [] [] (word_con 0 ∷ word_hlt 0 ∷ [])) [] million, ended 8 1 0 (lends 0 0 0 []) [])
    ∷ (benches (with_digits 10 (code_only (word_hlt 0 ∷ []))) [] million, not_run (refusal 41 0 0) fresh_lent [] no_trays)
    ∷ (benches (object 1 [] [] [] [] (word_hlt 0 ∷ [])) [] million, not_run (refusal 50 0 0) fresh_lent [] no_trays)
    ∷ [])
unfolding checked object_bytes object_words signed_word read_object signed_of right41 refused42 refused43 right_constant right_element right_loop right_line right_named right43 flow_of heights decode operation_of operand_of fits digits_rule place turn step apply kept divided keep drops taken given right50 right51 sequence_of halt_number benching bench_step entry_right devices_of cards_of room_of lines_after
benches_j1 = refl

benches_j2 : Agree
    ((benches (object 3 (1 ∷ []) [] [] (loop 0 1 2 9 ∷ []) (word_con 0 ∷ word_con 0 ∷ word_con 0 ∷ word_doi 0 ∷ word_hlt 0 ∷ [])) (pos 0 ∷ pos 0 ∷ pos 0 ∷ []) million, ended 8 4 0 (lends 3 3 0 (pos 1 ∷ pos 1 ∷ pos 1 ∷ [])) (pos 0 ∷ pos 0 ∷ pos 0 ∷ []))
    ∷ (benches (object 0 (1 ∷ []) [] (9 ∷ 9 ∷ 2 ∷ []) [] (word_con 0 ∷ word_br3 0 ∷ word_hlt 0 ∷ [])) [] million, ended 8 2 0 (lends 1 1 0 (pos 1 ∷ [])) [])
    ∷ (benches (object 1 [] (element 0 1 1 0 0 (pos 9) 0 9 (pos 1) ∷ []) [] [] (word_lde 0 ∷ word_hlt 0 ∷ [])) (pos 0 ∷ []) million, ended 8 1 0 (lends 0 0 0 []) (pos 0 ∷ []))
    ∷ [])
unfolding checked object_bytes object_words signed_word read_object signed_of right41 refused42 refused43 right_constant right_element right_loop right_line right_named right43 flow_of heights decode operation_of operand_of fits digits_rule place turn step apply kept divided keep drops taken given right50 right51 sequence_of halt_number benching bench_step entry_right devices_of cards_of room_of lines_after
benches_j2 = refl

benches_j3 : Agree
    ((benches (object 0 (1 ∷ []) [] [] [] (word_con 0 ∷ [])) [] million, ended 8 2 0 (lends 1 1 0 (pos 1 ∷ [])) [])
    ∷ (benches (code_only (word_jmp 5 ∷ [])) [] million, ended 8 1 0 (lends 0 0 0 []) [])
    ∷ [])
unfolding checked object_bytes object_words signed_word read_object signed_of right41 refused42 refused43 right_constant right_element right_loop right_line right_named right43 flow_of heights decode operation_of operand_of fits digits_rule place turn step apply kept divided keep drops taken given right50 right51 sequence_of halt_number benching bench_step entry_right devices_of cards_of room_of lines_after
benches_j3 = refl

benches_j4 : Agree
    ((benches (code_only (word_add 0 ∷ [])) [] million, ended 7 1 0 (lends 0 0 0 []) [])
    ∷ (benches (code_only (word_add 1 ∷ [])) [] million, ended 8 1 0 (lends 0 0 0 []) [])
    ∷ (benches (object 0 (1 ∷ []) [] [] [] (word_con 0 ∷ word_jmp 0 ∷ [])) [] 1000, ended 7 81 0 (lends 0 40 0 (replicate 40 (pos 1))) [])
    ∷ (benches (object 1 [] (element 0 1 1 0 0 (pos 9) 0 0 (pos 1) ∷ []) [] [] (word_ste 0 ∷ [])) (pos 0 ∷ []) million, ended 7 1 0 (lends 0 0 0 []) (pos 0 ∷ []))
    ∷ (benches (object 0 (0 ∷ []) [] [] [] (word_con 0 ∷ word_div 0 ∷ [])) [] million, ended 7 2 0 (lends 1 1 0 (pos 0 ∷ [])) [])
    ∷ [])
unfolding checked object_bytes object_words signed_word read_object signed_of right41 refused42 refused43 right_constant right_element right_loop right_line right_named right43 flow_of heights decode operation_of operand_of fits digits_rule place turn step apply kept divided keep drops taken given right50 right51 sequence_of halt_number benching bench_step entry_right devices_of cards_of room_of lines_after
benches_j4 = refl

benches_j5 : Agree
    ((benches (code_only (word_add 1 ∷ [])) [] 0, ended 2 0 0 (lends 0 0 0 []) [])
    ∷ [])
unfolding checked object_bytes object_words signed_word read_object signed_of right41 refused42 refused43 right_constant right_element right_loop right_line right_named right43 flow_of heights decode operation_of operand_of fits digits_rule place turn step apply kept divided keep drops taken given right50 right51 sequence_of halt_number benching bench_step entry_right devices_of cards_of room_of lines_after
benches_j5 = refl

benches_j6 : Agree
    ((benches (with_lines (line 1 0 0 ∷ line 2 0 99 ∷ []) (object 1 (99999 ∷ []) [] [] [] (word_con 0 ∷ word_con 0 ∷ word_add 0 ∷ word_sto 0 ∷ word_hlt 0 ∷ []))) (pos 0 ∷ []) million, ended 0 5 1 (lends 4 0 3 []) (pos 99998 ∷ []))
    ∷ [])
unfolding checked object_bytes object_words signed_word read_object signed_of right41 refused42 refused43 right_constant right_element right_loop right_line right_named right43 flow_of heights decode operation_of operand_of fits digits_rule place turn step apply kept divided keep drops taken given right50 right51 sequence_of halt_number benching bench_step entry_right devices_of cards_of room_of lines_after
benches_j6 = refl
