-- Objects with a READ or PRINT through run and bench, with cards and room for lines: readings 1.7, 1.14, 1.15 and 1.18 to 1.20.
-- Assumes nothing.
use mathlib.Core.Path.{refl}
use mathlib.Core.List.{List, [], ◌∷◌, ◌++◌, map}
use Prim.Native.Nat.{ℕ, ◌*◌}
use Prim.Native.String.{String}
use lib.ListN.{length, take, replicate}
use lib.IntN.{ℤ, pos, negsuc}
use Rattle.number.specs.Number.{digits_rule, fits}
use Rattle.rules_shared.specs.Choose.{place}
use Rattle.rules_shared.specs.Refusals.{accepted}
use Rattle.rules_formats.specs.Format.{Field, I, X, new_scan}
use Rattle.rules_formats.specs.Words.{field_word, end_word, is_end, field_of, word_field, fields_of, format_from}
use Rattle.rules_formats.specs.Fields.{numeral, signed, holds, printed, field_read}
use Rattle.rules_formats.specs.Walk.{line_width, prints, reads, joined_lines, cards_of, room_of, Trays, devices_of, lines_after}
use Rattle.rules_formats.specs.Small.{cards_like, lines_like}
use Rattle.rules_object.specs.Halts.{halt_number}
use Rattle.rules_object.specs.Object.{Element, ListItem, Object}
use Rattle.rules_object.specs.Check.{right41, right_constant, right_element, right_loop, right_line, right_named, right_format, right_field, right_item, right_transfer, character}
use Rattle.rules_object.specs.Operations.{operation_of, operand_of, decode, right43, entry_right, flow_of}
use Rattle.rules_object.specs.Machine.{spot_get, spot_set, step, bench_step}
use Rattle.rules_object.specs.Bytes.{signed_of, signed_word, object_words, object_bytes, read_object}
use Rattle.rules_object.specs.Heights.{heights}
use Rattle.rules_object.specs.Calls.{refused42, refused43, checked, Lent, taken, given, right50, right51, right52, sequence_of, Ran, running, benching}
use Rattle.rules_object.specs.Safe.{fresh_lent, rest}
use Rattle.rules_object.specs.Small.{word_hlt, word_read, word_print, word_jmp, object, element, with_transfers}
use Rattle.rules_object.proofs.ObjectExamples.{Agree}
use Rattle.rules_object.proofs.TransferExamples.{item, transfer}

-- bytes of the room that nothing was printed on
abbrev unprinted : ℕ → List ℕ
unprinted room = replicate (line_width * room) 35

-- cards with these texts, and room for so many lines
abbrev trays : List String → ℕ → Trays
trays cards room = record { cards = joined_lines (cards_like cards); lines = unprinted room }

-- halt, steps and the index after them, the store, the cards taken, the texts of the lines printed and the bytes after them
abbrev ended : ℕ → ℕ → ℕ → List ℤ → ℕ → List String → List ℕ → Ran
ended halt steps index store cards texts others =
    record {
      refusal = accepted;
      halt = halt;
      steps = steps;
      sequence = 0;
      lent = record { index = index; height = 0; mark = 0; places = fresh_lent.places };
      store = store;
      cards_taken = cards;
      lines_written = length texts;
      lines = joined_lines (lines_like texts) ++ others;
    }

-- cells of plain names
abbrev plain : List ℕ → List ListItem
plain cells = map (λ c. item c 1) cells

-- one FORMAT without groups, one transfer with a list, and END
abbrev transfers : ℕ → ℕ → List Element → List Field → List ListItem → Object
transfers word cells elements fields items =
    with_transfers (map field_word fields ++ (end_word 0 ∷ [])) items (transfer 0 0 (length items) ∷ []) (object cells [] elements [] [] (word ∷ word_hlt 1 ∷ []))

-- READ of plain names into a store, and PRINT of the one at cell 0
abbrev read : List String → List Field → List ℕ → List ℤ → Ran
read cards fields cells store = running (object_bytes (transfers (word_read 0) (length store) [] fields (plain cells))) store fresh_lent (trays cards 0) 9

abbrev print : ℕ → List Field → List ℕ → ℤ → Ran
print room fields cells v = running (object_bytes (transfers (word_print 0) 1 [] fields (plain cells))) (v ∷ []) fresh_lent (trays [] room) 9

-- ---- 1.7: a word of the FORMAT that breaks 42

benches_7 : Agree
    ((benching (object_bytes (transfers (word_print 0) 1 [] (I 1 ∷ I 0 ∷ []) (plain (0 ∷ [])))) (pos 0 ∷ []) fresh_lent (trays [] 1) 9, ended 8 1 0 (pos 0 ∷ []) 0 [] (unprinted 1))
    ∷ [])
unfolding checked object_bytes object_words signed_word read_object signed_of right41 refused42 refused43 right_constant right_element right_loop right_line right_named right_format right_field right_item right_transfer is_end character right43 entry_right flow_of heights decode operation_of operand_of fits digits_rule place step bench_step taken given right50 right51 right52 sequence_of halt_number running benching devices_of cards_of room_of lines_after format_from fields_of word_field field_of spot_get spot_set prints reads new_scan printed holds signed numeral field_read
benches_7 = refl

-- ---- 1.15: column 1 is a column like another

prints_15 : Agree
    ((print 1 (I 5 ∷ []) (0 ∷ []) (pos 12345), ended 1 2 1 (pos 12345 ∷ []) 0 ("12345" ∷ []) [])
    ∷ (print 2 (X 130 ∷ I 2 ∷ []) (0 ∷ []) (pos 0), ended 1 2 1 (pos 0 ∷ []) 0 ("                                                                                                                                   0" ∷ []) (unprinted 1))
    ∷ (print 1 (X 130 ∷ I 3 ∷ []) (0 ∷ []) (pos 0), ended 10 1 0 (pos 0 ∷ []) 0 [] (unprinted 1))
    ∷ [])
unfolding checked object_bytes object_words signed_word read_object signed_of right41 refused42 refused43 right_constant right_element right_loop right_line right_named right_format right_field right_item right_transfer is_end character right43 entry_right flow_of heights decode operation_of operand_of fits digits_rule place step bench_step taken given right50 right51 right52 sequence_of halt_number running benching devices_of cards_of room_of lines_after format_from fields_of word_field field_of spot_get spot_set prints reads new_scan printed holds signed numeral field_read
prints_15 = refl

-- ---- 1.18: the order of trouble, and a halt that leaves all as it was

-- an array of three at cell 0, K at cell 3, and L(K)
abbrev element_k : List Element
element_k = element 0 3 1 1 3 (pos 0) 0 0 (pos 1) ∷ []

-- of L(K) alone, or of K before it
abbrev reads_L : List String → List Field → List ℕ → Ran
reads_L cards fields before =
    running (object_bytes (transfers (word_read 0) 4 element_k fields (plain before ++ (item 0 0 ∷ [])))) (replicate 4 (pos 0)) fresh_lent (trays cards 0) 9

reads_18 : Agree
    ((reads_L (" 2 9" ∷ []) (I 2 ∷ I 2 ∷ []) (3 ∷ []), ended 1 2 1 (pos 0 ∷ pos 9 ∷ pos 0 ∷ pos 2 ∷ []) 1 [] [])
    ∷ (reads_L (" 7" ∷ []) (I 99 ∷ []) [], ended 4 1 0 (replicate 4 (pos 0)) 0 [] [])
    ∷ (reads_L [] (I 99 ∷ []) [], ended 9 1 0 (replicate 4 (pos 0)) 0 [] [])
    ∷ (read (" 2" ∷ []) (I 2 ∷ []) (0 ∷ 1 ∷ []) (pos 0 ∷ pos 0 ∷ []), ended 9 1 0 (pos 0 ∷ pos 0 ∷ []) 0 [] [])
    ∷ (read (" 2 A" ∷ []) (I 2 ∷ I 2 ∷ []) (0 ∷ 1 ∷ []) (pos 0 ∷ pos 0 ∷ []), ended 10 1 0 (pos 0 ∷ pos 0 ∷ []) 0 [] [])
    ∷ (read ("" ∷ []) (I 80 ∷ X 1 ∷ []) (0 ∷ []) (pos 7 ∷ []), ended 10 1 0 (pos 7 ∷ []) 0 [] [])
    ∷ (print 0 (I 133 ∷ []) (0 ∷ []) (pos 0), ended 10 1 0 (pos 0 ∷ []) 0 [] [])
    ∷ (print 0 (I 132 ∷ []) (0 ∷ []) (pos 0), ended 9 1 0 (pos 0 ∷ []) 0 [] [])
    ∷ [])
unfolding checked object_bytes object_words signed_word read_object signed_of right41 refused42 refused43 right_constant right_element right_loop right_line right_named right_format right_field right_item right_transfer is_end character right43 entry_right flow_of heights decode operation_of operand_of fits digits_rule place step bench_step taken given right50 right51 right52 sequence_of halt_number running benching devices_of cards_of room_of lines_after format_from fields_of word_field field_of spot_get spot_set prints reads new_scan printed holds signed numeral field_read
reads_18 = refl

-- ---- 1.19: a number that its field does not hold

prints_19 : Agree
    ((print 1 (I 4 ∷ I 3 ∷ I 2 ∷ []) (0 ∷ 0 ∷ 0 ∷ []) (negsuc 11), ended 1 2 1 (negsuc 11 ∷ []) 0 (" -12-12**" ∷ []) [])
    ∷ [])
unfolding checked object_bytes object_words signed_word read_object signed_of right41 refused42 refused43 right_constant right_element right_loop right_line right_named right_format right_field right_item right_transfer is_end character right43 entry_right flow_of heights decode operation_of operand_of fits digits_rule place step bench_step taken given right50 right51 right52 sequence_of halt_number running benching devices_of cards_of room_of lines_after format_from fields_of word_field field_of spot_get spot_set prints reads new_scan printed holds signed numeral field_read
prints_19 = refl

-- ---- 1.20: blanks after the digits are zeros, and an 8-4 punch is a minus

reads_20 : Agree
    ((read ("12   -3   @4" ∷ []) (I 5 ∷ I 4 ∷ I 3 ∷ []) (0 ∷ 1 ∷ 2 ∷ []) (replicate 3 (pos 0)), ended 1 2 1 (pos 12000 ∷ negsuc 299 ∷ negsuc 3 ∷ []) 1 [] [])
    ∷ (read ("1 2" ∷ []) (I 3 ∷ []) (0 ∷ []) (pos 0 ∷ []), ended 10 1 0 (pos 0 ∷ []) 0 [] [])
    ∷ (read ("- 2" ∷ []) (I 3 ∷ []) (0 ∷ []) (pos 0 ∷ []), ended 10 1 0 (pos 0 ∷ []) 0 [] [])
    ∷ (read ("  -" ∷ []) (I 3 ∷ []) (0 ∷ []) (pos 0 ∷ []), ended 10 1 0 (pos 0 ∷ []) 0 [] [])
    ∷ (read ("" ∷ []) (I 3 ∷ []) (0 ∷ []) (pos 9 ∷ []), ended 1 2 1 (pos 0 ∷ []) 1 [] [])
    ∷ [])
unfolding checked object_bytes object_words signed_word read_object signed_of right41 refused42 refused43 right_constant right_element right_loop right_line right_named right_format right_field right_item right_transfer is_end character right43 entry_right flow_of heights decode operation_of operand_of fits digits_rule place step bench_step taken given right50 right51 right52 sequence_of halt_number running benching devices_of cards_of room_of lines_after format_from fields_of word_field field_of spot_get spot_set prints reads new_scan printed holds signed numeral field_read
reads_20 = refl

-- ---- 1.14: what is lent, and what is left

-- READ and PRINT of cell 0 with the FORMAT (I2), over and over
abbrev copies : Object
copies =
    with_transfers (map field_word (I 2 ∷ []) ++ (end_word 0 ∷ [])) (plain (0 ∷ [])) (transfer 0 0 1 ∷ [])
    (object 1 [] [] [] [] (word_read 0 ∷ word_print 0 ∷ word_jmp 0 ∷ []))

-- two cards and a column more, room for two lines less a column
abbrev lent : Trays
lent = record { cards = (trays (" 7" ∷ " 8" ∷ []) 0).cards ++ (65 ∷ []); lines = take 263 (unprinted 2) }

abbrev copied : Lent → ℤ → Trays → ℕ → Ran
copied l v t allowance = running (object_bytes copies) (v ∷ []) l t allowance

-- as one run, and as two
goes_on_14 : Agree
    ((copied fresh_lent (pos 0) lent 5, ended 9 5 1 (pos 8 ∷ []) 2 (" 7" ∷ []) (replicate 131 35))
    ∷ (copied fresh_lent (pos 0) lent 1, ended 2 1 1 (pos 7 ∷ []) 1 [] lent.lines)
    ∷ (copied (copied fresh_lent (pos 0) lent 1).lent (pos 7) (rest lent (copied fresh_lent (pos 0) lent 1)) 4, ended 9 4 1 (pos 8 ∷ []) 1 (" 7" ∷ []) (replicate 131 35))
    ∷ (copied (copied fresh_lent (pos 0) lent 4).lent (pos 8) (rest lent (copied fresh_lent (pos 0) lent 4)) 1, ended 9 1 1 (pos 8 ∷ []) 0 [] (replicate 131 35))
    ∷ [])
unfolding checked object_bytes object_words signed_word read_object signed_of right41 refused42 refused43 right_constant right_element right_loop right_line right_named right_format right_field right_item right_transfer is_end character right43 entry_right flow_of heights decode operation_of operand_of fits digits_rule place step bench_step taken given right50 right51 right52 sequence_of halt_number running benching devices_of cards_of room_of lines_after format_from fields_of word_field field_of spot_get spot_set prints reads new_scan printed holds signed numeral field_read rest
goes_on_14 = refl
