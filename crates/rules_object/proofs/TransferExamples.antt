-- FORMATs, lists and transfers as bytes through the check: readings 1.2, 1.3 and 1.5 of 02, one row at least for each reason.
-- Assumes nothing.
use mathlib.Core.Path.{◌≡◌, refl}
use mathlib.Core.List.{List, [], ◌∷◌}
use mathlib.Core.Option.{some}
use Prim.Native.Nat.{ℕ}
use lib.ListN.{replicate}
use lib.IntN.{pos}
use Rattle.number.specs.Number.{digits_rule, fits}
use Rattle.rules_shared.specs.Refusals.{Refusal, refusal, accepted}
use Rattle.rules_formats.specs.Format.{I, X, H, new_record}
use Rattle.rules_formats.specs.Words.{field_word, end_word, is_end}
use Rattle.rules_object.specs.Object.{ListItem, Transfer, Object}
use Rattle.rules_object.specs.Check.{right41, right_constant, right_element, right_loop, right_line, right_named, character, right_field, right_format, right_item, right_transfer}
use Rattle.rules_object.specs.Operations.{operation_of, operand_of, decode, right43, flow_of}
use Rattle.rules_object.specs.Small.{does, word_hlt, word_read, word_print, object, code_only, element, line, named, with_lines, with_names, with_transfers}
use Rattle.rules_object.specs.Bytes.{signed_of, signed_word, object_words, object_bytes, read_object}
use Rattle.rules_object.specs.Heights.{heights}
use Rattle.rules_object.specs.Calls.{refused42, refused43, checked, checking}
use Rattle.rules_object.proofs.ObjectExamples.{Agree}

abbrev judges : Object → Refusal
judges o = checking (object_bytes o)

abbrev pub item : ℕ → ℕ → ListItem
item first count = record { first = first; count = count }

abbrev pub transfer : ℕ → ℕ → ℕ → Transfer
transfer format first count = record { format = format; first = first; count = count }

-- one cell, one element of it, and HLT 0
abbrev stops : Object
stops = object 1 [] (element 0 1 1 0 0 (pos 1) 0 0 (pos 1) ∷ []) [] [] (word_hlt 0 ∷ [])

-- with these words of FORMATs, and no transfer
abbrev formats : List ℕ → Refusal
formats words = judges (with_transfers words [] [] stops)

-- ---- 1.2: in edition 1, operations 16 and 17 are unknown

editions : Agree
    ((judges (code_only (word_hlt 0 ∷ [])), accepted)
    ∷ (judges (code_only (word_hlt 0 ∷ word_read 0 ∷ [])), refusal 43 1 5)
    ∷ (judges (code_only (word_hlt 0 ∷ word_print 0 ∷ [])), refusal 43 1 5)
    ∷ (judges (with_transfers [] [] [] (code_only (word_hlt 0 ∷ []))), accepted)
    ∷ (judges (with_transfers [] [] [] (code_only (word_hlt 0 ∷ word_read 0 ∷ []))), refusal 43 1 5)
    ∷ [])
unfolding checking checked object_bytes object_words signed_word read_object signed_of right41 refused42 refused43 right_constant right_element right_loop right_line right_named right_format right_field right_item right_transfer is_end character right43 flow_of heights decode operation_of operand_of fits digits_rule
editions = refl

-- ---- 1.3: DIMENSION L(3), READ 7, I, L, L(I), PRINT 8, 7 FORMAT(I2,2(1X,I1)/I4), 8 FORMAT(2H A), END

abbrev whole : Object
whole =
    with_transfers
    (field_word (I 2) ∷ field_word (X 1) ∷ field_word (I 1) ∷ field_word (X 1) ∷ field_word (I 1) ∷ field_word new_record ∷ field_word (I 4) ∷ end_word 1
    ∷ field_word (H 32) ∷ field_word (H 65) ∷ end_word 8 ∷ [])
    (item 3 1 ∷ item 0 3 ∷ item 0 0 ∷ []) (transfer 0 0 3 ∷ transfer 8 3 0 ∷ [])
    (with_names (named (76 ∷ []) 0 3 0 ∷ named (73 ∷ []) 3 0 0 ∷ []) (with_lines (line 2 0 0 ∷ line 3 0 1 ∷ line 6 0 2 ∷ [])
    (object 4 [] (element 0 3 1 1 3 (pos 0) 0 0 (pos 1) ∷ []) [] [] (word_read 0 ∷ word_print 1 ∷ word_hlt 1 ∷ []))))

whole_accepted : judges whole ≡ accepted
unfolding checking checked object_bytes object_words signed_word read_object signed_of right41 refused42 refused43 right_constant right_element right_loop right_line right_named right_format right_field right_item right_transfer is_end character right43 flow_of heights decode operation_of operand_of fits digits_rule
whole_accepted = refl

whole_read : read_object (object_bytes whole) ≡ some whole
unfolding object_bytes object_words signed_word read_object signed_of
whole_read = refl

-- ---- 1.5, kind 8

words_8 : Agree
    ((formats (field_word (I 5) ∷ end_word 0 ∷ []), accepted)
    -- widths and counts are 1 to 99999
    ∷ (formats (field_word (I 0) ∷ end_word 0 ∷ []), refusal 42 0 8)
    ∷ (formats (field_word (I 99999) ∷ end_word 0 ∷ []), accepted)
    ∷ (formats (field_word (I 100000) ∷ end_word 0 ∷ []), refusal 42 0 8)
    ∷ (formats (field_word (X 0) ∷ end_word 0 ∷ []), refusal 42 0 8)
    ∷ (formats (field_word (X 99999) ∷ end_word 0 ∷ []), accepted)
    -- a character that a deck can hold
    ∷ (formats (field_word (H 61) ∷ end_word 0 ∷ []), accepted)
    ∷ (formats (field_word (H 97) ∷ end_word 0 ∷ []), refusal 42 0 8)
    -- a slash without an operand; no other kinds
    ∷ (formats (field_word new_record ∷ end_word 0 ∷ []), accepted)
    ∷ (formats (does 4 1 ∷ end_word 0 ∷ []), refusal 42 0 8)
    ∷ (formats (does 0 5 ∷ end_word 0 ∷ []), refusal 42 0 8)
    ∷ (formats (does 6 0 ∷ end_word 0 ∷ []), refusal 42 0 8)
    -- the last word is an end
    ∷ (formats (field_word (I 5) ∷ []), refusal 42 0 8)
    ∷ (formats (field_word (I 5) ∷ end_word 0 ∷ field_word (X 1) ∷ []), refusal 42 2 8)
    -- an end leads to a word of its own FORMAT before it
    ∷ (formats (end_word 0 ∷ []), refusal 42 0 8)
    ∷ (formats (field_word (I 5) ∷ end_word 1 ∷ []), refusal 42 1 8)
    ∷ (formats (field_word (I 5) ∷ end_word 0 ∷ field_word (I 4) ∷ end_word 0 ∷ []), refusal 42 3 8)
    ∷ (formats (field_word (I 5) ∷ end_word 0 ∷ field_word (I 4) ∷ end_word 1 ∷ []), refusal 42 3 8)
    ∷ (formats (field_word (I 5) ∷ end_word 0 ∷ field_word (I 4) ∷ end_word 2 ∷ []), accepted)
    ∷ [])
unfolding checking checked object_bytes object_words signed_word read_object signed_of right41 refused42 refused43 right_constant right_element right_loop right_line right_named right_format right_field right_item right_transfer is_end character right43 flow_of heights decode operation_of operand_of fits digits_rule
words_8 = refl

-- ---- 1.5, kind 9

items_9 : Agree
    ((judges (with_transfers [] (item 0 1 ∷ item 0 0 ∷ []) [] stops), accepted)
    -- a span outside the cells, and an element outside body 2
    ∷ (judges (with_transfers [] (item 0 2 ∷ []) [] stops), refusal 42 0 9)
    ∷ (judges (with_transfers [] (item 0 1 ∷ item 1 1 ∷ []) [] stops), refusal 42 1 9)
    ∷ (judges (with_transfers [] (item 4294967295 1 ∷ []) [] stops), refusal 42 0 9)
    ∷ (judges (with_transfers [] (item 1 0 ∷ []) [] stops), refusal 42 0 9)
    ∷ [])
unfolding checking checked object_bytes object_words signed_word read_object signed_of right41 refused42 refused43 right_constant right_element right_loop right_line right_named right_format right_field right_item right_transfer is_end character right43 flow_of heights decode operation_of operand_of fits digits_rule
items_9 = refl

-- ---- 1.5, kind 10: two FORMATs, (5X) and (I5,1X), and one item

abbrev transfers : List Transfer → Refusal
transfers list = judges (with_transfers (field_word (X 5) ∷ end_word 0 ∷ field_word (I 5) ∷ field_word (X 1) ∷ end_word 2 ∷ []) (item 0 1 ∷ []) list stops)

transfers_10 : Agree
    ((transfers (transfer 0 0 0 ∷ transfer 0 1 0 ∷ transfer 2 0 1 ∷ []), accepted)
    -- the first word of a FORMAT
    ∷ (transfers (transfer 1 0 0 ∷ []), refusal 42 0 10)
    ∷ (transfers (transfer 3 0 0 ∷ []), refusal 42 0 10)
    ∷ (transfers (transfer 5 0 0 ∷ []), refusal 42 0 10)
    -- items of body 9
    ∷ (transfers (transfer 0 0 0 ∷ transfer 2 0 2 ∷ []), refusal 42 1 10)
    ∷ (transfers (transfer 2 1 1 ∷ []), refusal 42 0 10)
    ∷ (transfers (transfer 0 2 0 ∷ []), refusal 42 0 10)
    -- items, and no I in the FORMAT, whatever the next one has
    ∷ (transfers (transfer 0 0 1 ∷ []), refusal 42 0 10)
    ∷ [])
unfolding checking checked object_bytes object_words signed_word read_object signed_of right41 refused42 refused43 right_constant right_element right_loop right_line right_named right_format right_field right_item right_transfer is_end character right43 flow_of heights decode operation_of operand_of fits digits_rule
transfers_10 = refl

-- ---- 43 of READ and PRINT, and 44: the next instruction is their only successor

abbrev doing : List ℕ → Refusal
doing code = judges (with_transfers (field_word (I 5) ∷ end_word 0 ∷ []) [] (transfer 0 0 0 ∷ []) (code_only code))

operands_43 : Agree
    ((doing (word_read 0 ∷ word_print 0 ∷ word_hlt 0 ∷ []), accepted)
    ∷ (doing (word_hlt 0 ∷ word_print 1 ∷ []), refusal 43 1 5)
    ∷ (doing (word_hlt 0 ∷ word_read 1 ∷ []), refusal 43 1 5)
    ∷ (doing (word_hlt 0 ∷ does 18 0 ∷ []), refusal 43 1 5)
    ∷ (doing (word_read 0 ∷ []), refusal 44 0 0)
    ∷ [])
unfolding checking checked object_bytes object_words signed_word read_object signed_of right41 refused42 refused43 right_constant right_element right_loop right_line right_named right_format right_field right_item right_transfer is_end character right43 flow_of heights decode operation_of operand_of fits digits_rule
operands_43 = refl

-- ---- 41 of the three tables; the words at the limit go on to 42

limits_41 : Agree
    ((formats (replicate 4096 (end_word 0)), refusal 42 0 8)
    ∷ (formats (replicate 4097 (end_word 0)), refusal 41 0 0)
    ∷ (judges (with_transfers [] (replicate 1024 (item 0 1)) [] stops), accepted)
    ∷ (judges (with_transfers [] (replicate 1025 (item 0 1)) [] stops), refusal 41 0 0)
    ∷ (judges (with_transfers (field_word (I 5) ∷ end_word 0 ∷ []) [] (replicate 400 (transfer 0 0 0)) stops), accepted)
    ∷ (judges (with_transfers (field_word (I 5) ∷ end_word 0 ∷ []) [] (replicate 401 (transfer 0 0 0)) stops), refusal 41 0 0)
    ∷ [])
unfolding checking checked object_bytes object_words signed_word read_object signed_of right41 refused42 refused43 right_constant right_element right_loop right_line right_named right_format right_field right_item right_transfer is_end character right43 flow_of heights decode operation_of operand_of fits digits_rule
limits_41 = refl
