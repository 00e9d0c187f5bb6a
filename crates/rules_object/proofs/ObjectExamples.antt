-- Objects as bytes through the check: 01's P9 to P12, and readings G1 to G10 on 40 to 44.
-- Assumes nothing.
use mathlib.Core.Path.{◌≡◌, refl}
use mathlib.Core.List.{List, [], ◌∷◌, ◌++◌, map}
use lib.ListN.{set}
use lib.IntN.{pos, negsuc}
use Rattle.number.specs.Number.{digits_rule, fits}
use Rattle.rules_object.specs.Object.{Object}
use Rattle.rules_object.specs.Check.{right41, right_constant, right_element, right_loop, right_line, right_named}
use Rattle.rules_object.specs.Operations.{operation_of, operand_of, decode, right43, flow_of}
use Rattle.rules_object.specs.Small.{does, word_hlt, word_con, word_add, word_jmp, word_br3, word_brc, word_doe, object, code_only, element, loop, line, named, with_lines, with_names}
use Rattle.rules_object.specs.Bytes.{signed_of, signed_word, bytes_of, object_words, object_bytes, read_object}
use Rattle.rules_object.specs.Heights.{heights}
use Rattle.rules_shared.specs.Refusals.{Refusal, refusal, accepted}
use Rattle.rules_object.specs.Calls.{refused42, refused43, checked, checking}

abbrev judges : Object → Refusal
judges o = checking (object_bytes o)

-- ---- P9 to P12

pub p9 : checking (object_bytes (code_only (word_add 0 ∷ word_hlt 0 ∷ []))) ≡ refusal 44 0 0
unfolding checking checked object_bytes object_words signed_word read_object signed_of right41 refused42 refused43 right_constant right_element right_loop right_line right_named right43 flow_of heights decode operation_of operand_of fits digits_rule
p9 = refl

pub p10 : checking (object_bytes (code_only (word_hlt 0 ∷ word_add 0 ∷ []))) ≡ accepted
unfolding checking checked object_bytes object_words signed_word read_object signed_of right41 refused42 refused43 right_constant right_element right_loop right_line right_named right43 flow_of heights decode operation_of operand_of fits digits_rule
p10 = refl

pub p11 : checking (object_bytes (object 0 (1 ∷ []) [] [] [] (word_con 0 ∷ word_jmp 0 ∷ []))) ≡ refusal 44 0 0
unfolding checking checked object_bytes object_words signed_word read_object signed_of right41 refused42 refused43 right_constant right_element right_loop right_line right_named right43 flow_of heights decode operation_of operand_of fits digits_rule
p11 = refl

pub p12 : checking (object_bytes (code_only (word_jmp 0 ∷ []))) ≡ accepted
unfolding checking checked object_bytes object_words signed_word read_object signed_of right41 refused42 refused43 right_constant right_element right_loop right_line right_named right43 flow_of heights decode operation_of operand_of fits digits_rule
p12 = refl

-- ---- what each is, and what it should be

-- Each row's two sides are equal.
abbrev pub Agree : {A : Type 0} → List (A × A) → Type 0
Agree rows = map (λ r. r.0) rows ≡ map (λ r. r.1) rows

checks_g1 : Agree
    ((judges (code_only (word_hlt 0 ∷ [])), accepted)
    ∷ (checking (object_bytes (code_only (word_hlt 0 ∷ [])) ++ (0 ∷ [])), refusal 40 0 0)
    ∷ (checking (object_bytes (code_only (word_hlt 0 ∷ [])) ++ (0 ∷ 0 ∷ 0 ∷ 0 ∷ [])), refusal 40 0 0)
    ∷ [])
unfolding checking checked object_bytes object_words signed_word read_object signed_of right41 refused42 refused43 right_constant right_element right_loop right_line right_named right43 flow_of heights decode operation_of operand_of fits digits_rule
checks_g1 = refl

checks_g2 : Agree
    ((checking (bytes_of (set (object_words (code_only (word_hlt 0 ∷ []))) 0 2)), refusal 40 0 0)
    ∷ (checking (bytes_of (set (object_words (code_only (word_hlt 0 ∷ []))) 3 6)), refusal 40 0 0)
    ∷ (checking (bytes_of (set (object_words (code_only (word_hlt 0 ∷ []))) 1 0)), refusal 41 0 0)
    ∷ (checking (bytes_of (set (object_words (code_only (word_hlt 0 ∷ []))) 1 10)), refusal 41 0 0)
    ∷ (checking (bytes_of (set (object_words (code_only (word_hlt 0 ∷ []))) 2 4097)), refusal 41 0 0)
    ∷ (checking (bytes_of (set (object_words (code_only (word_hlt 0 ∷ []))) 4 2)), refusal 40 0 0)
    ∷ (checking (bytes_of (set (object_words (code_only (word_hlt 0 ∷ []))) 5 0)), refusal 40 0 0)
    ∷ (judges (object 0 (1 ∷ []) [] [] [] []), refusal 40 0 0)
    ∷ [])
unfolding checking checked object_bytes object_words signed_word read_object signed_of right41 refused42 refused43 right_constant right_element right_loop right_line right_named right43 flow_of heights decode operation_of operand_of fits digits_rule
checks_g2 = refl

checks_g3 : Agree
    ((judges (code_only (word_hlt 1 ∷ [])), accepted)
    ∷ [])
unfolding checking checked object_bytes object_words signed_word read_object signed_of right41 refused42 refused43 right_constant right_element right_loop right_line right_named right43 flow_of heights decode operation_of operand_of fits digits_rule
checks_g3 = refl

checks_g4 : Agree
    ((judges (object 0 (4294967295 ∷ []) [] [] [] (word_hlt 0 ∷ [])), refusal 42 0 1)
    ∷ (judges (object 0 (99999 ∷ 100000 ∷ []) [] [] [] (word_hlt 0 ∷ [])), refusal 42 1 1)
    ∷ (judges (object 1 [] (element 0 1 1 4294967295 0 (pos 1) 0 0 (pos 1) ∷ []) [] [] (word_hlt 0 ∷ [])), refusal 42 0 2)
    ∷ (judges (object 1 [] (element 0 1 1 1 0 (negsuc 99998) 0 0 (pos 99999) ∷ []) [] [] (word_hlt 0 ∷ [])), accepted)
    ∷ (judges (object 1 [] (element 0 1 1 1 0 (negsuc 99999) 0 0 (pos 1) ∷ []) [] [] (word_hlt 0 ∷ [])), refusal 42 0 2)
    ∷ (judges (object 1 [] (element 0 1 1 1 0 (negsuc 2147483647) 0 0 (pos 1) ∷ []) [] [] (word_hlt 0 ∷ [])), refusal 42 0 2)
    ∷ [])
unfolding checking checked object_bytes object_words signed_word read_object signed_of right41 refused42 refused43 right_constant right_element right_loop right_line right_named right43 flow_of heights decode operation_of operand_of fits digits_rule
checks_g4 = refl

checks_g5 : Agree
    ((judges (object 4 [] (element 0 2 2 0 0 (pos 1) 0 0 (pos 1) ∷ []) [] [] (word_hlt 0 ∷ [])), accepted)
    ∷ (judges (object 4 [] (element 1 2 2 0 0 (pos 1) 0 0 (pos 1) ∷ []) [] [] (word_hlt 0 ∷ [])), refusal 42 0 2)
    ∷ (judges (object 4 [] (element 0 65536 65536 0 0 (pos 1) 0 0 (pos 1) ∷ []) [] [] (word_hlt 0 ∷ [])), refusal 42 0 2)
    ∷ (judges (object 4 [] (element 4294967295 1 1 0 0 (pos 1) 0 0 (pos 1) ∷ []) [] [] (word_hlt 0 ∷ [])), refusal 42 0 2)
    ∷ (judges (object 4 [] (element 0 2 2 0 4 (pos 1) 0 0 (pos 1) ∷ []) [] [] (word_hlt 0 ∷ [])), refusal 42 0 2)
    ∷ (judges (object 0 [] (element 0 1 1 0 0 (pos 1) 0 0 (pos 1) ∷ []) [] [] (word_hlt 0 ∷ [])), refusal 42 0 2)
    ∷ [])
unfolding checking checked object_bytes object_words signed_word read_object signed_of right41 refused42 refused43 right_constant right_element right_loop right_line right_named right43 flow_of heights decode operation_of operand_of fits digits_rule
checks_g5 = refl

checks_g6 : Agree
    ((judges (with_names (named (73 ∷ []) 0 0 0 ∷ named (73 ∷ []) 0 1 0 ∷ named (73 ∷ []) 0 1 1 ∷ []) (with_lines (line 9 1000000 0 ∷ line 1 0 0 ∷ []) (object 1 [] [] [] [] (word_hlt 0 ∷ [])))), accepted)
    ∷ (judges (with_names (named (73 ∷ []) 1 0 0 ∷ []) (object 1 [] [] [] [] (word_hlt 0 ∷ []))), refusal 42 0 7)
    ∷ (judges (with_names (named (73 ∷ []) 0 2 0 ∷ []) (object 1 [] [] [] [] (word_hlt 0 ∷ []))), refusal 42 0 7)
    ∷ (judges (with_names (named (73 ∷ []) 0 0 1 ∷ []) (object 1 [] [] [] [] (word_hlt 0 ∷ []))), refusal 42 0 7)
    ∷ (judges (with_names (named (73 ∷ 95 ∷ 65 ∷ []) 0 0 0 ∷ []) (object 1 [] [] [] [] (word_hlt 0 ∷ []))), refusal 42 0 7)
    ∷ (judges (with_names (named (73 ∷ 74 ∷ 75 ∷ 76 ∷ 77 ∷ 78 ∷ []) 0 0 0 ∷ []) (object 1 [] [] [] [] (word_hlt 0 ∷ []))), accepted)
    ∷ (judges (with_names (named (73 ∷ 74 ∷ 75 ∷ 76 ∷ 77 ∷ 78 ∷ 79 ∷ []) 0 0 0 ∷ []) (object 1 [] [] [] [] (word_hlt 0 ∷ []))), refusal 42 0 7)
    ∷ (judges (with_names (named (72 ∷ 73 ∷ []) 0 0 0 ∷ []) (object 1 [] [] [] [] (word_hlt 0 ∷ []))), refusal 42 0 7)
    ∷ [])
unfolding checking checked object_bytes object_words signed_word read_object signed_of right41 refused42 refused43 right_constant right_element right_loop right_line right_named right43 flow_of heights decode operation_of operand_of fits digits_rule
checks_g6 = refl

checks_g7 : Agree
    ((judges (with_names (named (73 ∷ []) 1 0 0 ∷ []) (object 1 [] [] [] [] (word_hlt 2 ∷ []))), refusal 42 0 7)
    ∷ (judges (with_names (named (73 ∷ []) 1 0 0 ∷ []) (with_lines (line 1 0 0 ∷ line 2 0 1 ∷ []) (object 1 [] [] [] [] (word_hlt 2 ∷ [])))), refusal 42 1 6)
    ∷ (judges (with_lines (line 1 0 9 ∷ []) (object 1 [] [] [] (loop 0 0 0 1 ∷ []) (word_hlt 0 ∷ []))), refusal 42 0 4)
    ∷ [])
unfolding checking checked object_bytes object_words signed_word read_object signed_of right41 refused42 refused43 right_constant right_element right_loop right_line right_named right43 flow_of heights decode operation_of operand_of fits digits_rule
checks_g7 = refl

checks_g8 : Agree
    ((judges (object 0 [] [] (0 ∷ 0 ∷ 0 ∷ []) [] (word_hlt 0 ∷ word_br3 0 ∷ [])), accepted)
    ∷ (judges (object 0 [] [] (0 ∷ 0 ∷ []) [] (word_hlt 0 ∷ word_br3 0 ∷ [])), refusal 43 1 5)
    ∷ (judges (object 0 [] [] (0 ∷ 0 ∷ 0 ∷ []) [] (word_hlt 0 ∷ word_br3 1 ∷ [])), refusal 43 1 5)
    ∷ (judges (object 0 [] [] (0 ∷ 0 ∷ 2 ∷ []) [] (word_hlt 0 ∷ word_br3 0 ∷ [])), refusal 43 1 5)
    ∷ (judges (object 0 [] [] (2 ∷ 0 ∷ 1 ∷ []) [] (word_hlt 0 ∷ word_brc 0 ∷ [])), accepted)
    ∷ (judges (object 0 [] [] (2 ∷ 0 ∷ []) [] (word_hlt 0 ∷ word_brc 0 ∷ [])), refusal 43 1 5)
    ∷ (judges (object 0 [] [] (2 ∷ 0 ∷ 2 ∷ []) [] (word_hlt 0 ∷ word_brc 0 ∷ [])), refusal 43 1 5)
    ∷ (judges (object 0 [] [] (1 ∷ 0 ∷ 0 ∷ []) [] (word_hlt 0 ∷ word_brc 0 ∷ [])), refusal 43 1 5)
    ∷ (judges (object 0 [] [] (11 ∷ 0 ∷ 0 ∷ 0 ∷ 0 ∷ 0 ∷ 0 ∷ 0 ∷ 0 ∷ 0 ∷ 0 ∷ 0 ∷ []) [] (word_hlt 0 ∷ word_brc 0 ∷ [])), refusal 43 1 5)
    ∷ (judges (object 0 [] [] (2 ∷ 0 ∷ 1 ∷ []) [] (word_hlt 0 ∷ word_brc 3 ∷ [])), refusal 43 1 5)
    ∷ (judges (object 0 [] [] (2 ∷ 0 ∷ 1 ∷ 99999 ∷ []) [] (word_hlt 0 ∷ word_brc 0 ∷ [])), accepted)
    ∷ [])
unfolding checking checked object_bytes object_words signed_word read_object signed_of right41 refused42 refused43 right_constant right_element right_loop right_line right_named right43 flow_of heights decode operation_of operand_of fits digits_rule
checks_g8 = refl

checks_g9 : Agree
    ((judges (code_only (word_jmp 0 ∷ [])), accepted)
    ∷ (judges (code_only (word_hlt 0 ∷ word_jmp 2 ∷ [])), refusal 43 1 5)
    ∷ (judges (code_only (word_hlt 0 ∷ word_add 1 ∷ [])), refusal 43 1 5)
    ∷ (judges (code_only (word_hlt 0 ∷ does 16 0 ∷ [])), refusal 43 1 5)
    ∷ (judges (code_only (word_hlt 0 ∷ does 255 0 ∷ [])), refusal 43 1 5)
    ∷ [])
unfolding checking checked object_bytes object_words signed_word read_object signed_of right41 refused42 refused43 right_constant right_element right_loop right_line right_named right43 flow_of heights decode operation_of operand_of fits digits_rule
checks_g9 = refl

checks_g10 : Agree
    ((judges (object 0 (1 ∷ []) [] [] [] (word_con 0 ∷ [])), refusal 44 0 0)
    ∷ (judges (object 0 (1 ∷ []) [] [] [] (word_hlt 0 ∷ word_con 0 ∷ [])), accepted)
    ∷ (judges (object 1 [] [] [] (loop 0 0 0 0 ∷ []) (word_doe 0 ∷ [])), refusal 44 0 0)
    ∷ (judges (object 0 (1 ∷ []) [] [] [] (word_con 0 ∷ word_hlt 0 ∷ [])), accepted)
    ∷ (judges (object 0 (1 ∷ []) [] (0 ∷ 2 ∷ 2 ∷ []) [] (word_con 0 ∷ word_br3 0 ∷ word_hlt 0 ∷ [])), accepted)
    ∷ [])
unfolding checking checked object_bytes object_words signed_word read_object signed_of right41 refused42 refused43 right_constant right_element right_loop right_line right_named right43 flow_of heights decode operation_of operand_of fits digits_rule
checks_g10 = refl
