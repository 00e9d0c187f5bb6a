-- Each limit of 41, at it and over it; each operation's operand (43), at its end and past it; and the map's table.
-- Assumes nothing.
use mathlib.Core.Path.{refl}
use mathlib.Core.List.{List, [], ◌∷◌, ◌++◌}
use Prim.Native.Nat.{ℕ}
use lib.ListN.{replicate}
use lib.IntN.{pos}
use Rattle.number.specs.Number.{digits_rule, fits}
use Rattle.rules_object.specs.Object.{Object}
use Rattle.rules_object.specs.Check.{right41, right_constant, right_element, right_loop, right_line, right_named}
use Rattle.rules_object.specs.Operations.{operation_of, operand_of, decode, right43, flow_of}
use Rattle.rules_object.specs.Bytes.{signed_of, signed_word, object_words, object_bytes, read_object}
use Rattle.rules_object.specs.Heights.{heights}
use Rattle.rules_shared.specs.Refusals.{Refusal, refusal, accepted}
use Rattle.rules_shared.specs.Output.{Written, write}
use Rattle.rules_object.specs.Calls.{refused42, refused43, checked, checking, map_of, mapping}
use Rattle.rules_object.specs.Small.{word_hlt, word_con, word_lod, word_sto, word_lde, word_ste, word_add, word_sub, word_mul, word_div, word_neg, word_jmp, word_br3, word_brc, word_doi, word_doe, object, code_only, element, loop, line, named, with_lines, with_names}
use Rattle.rules_object.proofs.ObjectExamples.{Agree}

abbrev judges : Object → Refusal
judges o = checking (object_bytes o)

abbrev stop : List ℕ
stop = word_hlt 0 ∷ []

-- one cell, and an element, a DO, a line and a name of it
abbrev constants : ℕ → Object
constants n = object 1 (replicate n 7) [] [] [] stop

abbrev elements : ℕ → Object
elements n = object 1 [] (replicate n (element 0 1 1 0 0 (pos 1) 0 0 (pos 1))) [] [] stop

abbrev exits : ℕ → Object
exits n = object 1 [] [] (replicate n 9) [] stop

abbrev dos : ℕ → Object
dos n = object 1 [] [] [] (replicate n (loop 0 0 0 0)) stop

abbrev codes : ℕ → Object
codes n = code_only (replicate n (word_hlt 0))

abbrev lines : ℕ → Object
lines n = with_lines (replicate n (line 1 0 0)) (code_only stop)

abbrev names : ℕ → Object
names n = with_names (replicate n (named (73 ∷ []) 0 0 0)) (object 1 [] [] [] [] stop)

limits_41 : Agree
    ((judges (constants 256), accepted)
    ∷ (judges (constants 257), refusal 41 0 0)
    ∷ (judges (elements 256), accepted)
    ∷ (judges (elements 257), refusal 41 0 0)
    ∷ (judges (exits 1024), accepted)
    ∷ (judges (exits 1025), refusal 41 0 0)
    ∷ (judges (dos 64), accepted)
    ∷ (judges (dos 65), refusal 41 0 0)
    ∷ (judges (codes 4096), accepted)
    ∷ (judges (codes 4097), refusal 41 0 0)
    ∷ (judges (lines 400), accepted)
    ∷ (judges (lines 401), refusal 41 0 0)
    ∷ (judges (names 100), accepted)
    ∷ (judges (names 101), refusal 41 0 0)
    ∷ (judges (object 4096 [] [] [] [] stop), accepted)
    ∷ (judges (object 4097 [] [] [] [] stop), refusal 41 0 0)
    ∷ [])
unfolding checking checked object_bytes object_words signed_word read_object signed_of right41 refused42 refused43 right_constant right_element right_loop right_line right_named right43 flow_of heights decode operation_of operand_of fits digits_rule
limits_41 = refl

-- one of everything, and the word second, where it is never reached
abbrev second : ℕ → Refusal
second word = judges (object 1 (7 ∷ []) (element 0 1 1 0 0 (pos 1) 0 0 (pos 1) ∷ []) (2 ∷ 0 ∷ 1 ∷ []) (loop 0 0 0 1 ∷ []) (word_hlt 0 ∷ word ∷ []))

operands_43 : Agree
    ((second (word_hlt 1), accepted)
    ∷ (second (word_hlt 2), refusal 43 1 5)
    ∷ (second (word_con 0), accepted)
    ∷ (second (word_con 1), refusal 43 1 5)
    ∷ (second (word_lod 0), accepted)
    ∷ (second (word_lod 1), refusal 43 1 5)
    ∷ (second (word_sto 0), accepted)
    ∷ (second (word_sto 1), refusal 43 1 5)
    ∷ (second (word_lde 0), accepted)
    ∷ (second (word_lde 1), refusal 43 1 5)
    ∷ (second (word_ste 0), accepted)
    ∷ (second (word_ste 1), refusal 43 1 5)
    ∷ (second (word_add 0), accepted)
    ∷ (second (word_add 1), refusal 43 1 5)
    ∷ (second (word_sub 0), accepted)
    ∷ (second (word_sub 1), refusal 43 1 5)
    ∷ (second (word_mul 0), accepted)
    ∷ (second (word_mul 1), refusal 43 1 5)
    ∷ (second (word_div 0), accepted)
    ∷ (second (word_div 1), refusal 43 1 5)
    ∷ (second (word_neg 0), accepted)
    ∷ (second (word_neg 1), refusal 43 1 5)
    ∷ (second (word_jmp 1), accepted)
    ∷ (second (word_jmp 2), refusal 43 1 5)
    ∷ (second (word_br3 0), refusal 43 1 5)
    ∷ (second (word_brc 0), accepted)
    ∷ (second (word_doi 0), accepted)
    ∷ (second (word_doi 1), refusal 43 1 5)
    ∷ (second (word_doe 0), accepted)
    ∷ (second (word_doe 1), refusal 43 1 5)
    ∷ [])
unfolding checking checked object_bytes object_words signed_word read_object signed_of right41 refused42 refused43 right_constant right_element right_loop right_line right_named right43 flow_of heights decode operation_of operand_of fits digits_rule
operands_43 = refl

-- ---- the map

abbrev two : Object
two = with_names (named (73 ∷ []) 0 0 0 ∷ named (76 ∷ 49 ∷ []) 1 2 0 ∷ []) (object 3 [] [] [] [] stop)

abbrev entries : List ℕ
entries =
    73 ∷ 32 ∷ 32 ∷ 32 ∷ 32 ∷ 32 ∷ 32 ∷ 32 ∷ (replicate 12 0 ++
    76 ∷ 49 ∷ 32 ∷ 32 ∷ 32 ∷ 32 ∷ 32 ∷ 32 ∷ 1 ∷ 0 ∷ 0 ∷ 0 ∷ 2 ∷ 0 ∷ 0 ∷ 0 ∷ replicate 4 0)

abbrev answered : Refusal → ℕ → List ℕ → Written
answered r n table = record { refusal = r; length = n; output = table }

maps : Agree
    ((mapping (object_bytes two) (replicate 40 9), answered accepted 40 entries)
    ∷ (mapping (object_bytes two) (replicate 45 9), answered accepted 40 (entries ++ replicate 5 9))
    ∷ (mapping (object_bytes two) (replicate 39 9), answered (refusal 30 0 0) 0 (replicate 39 9))
    ∷ (mapping (object_bytes (code_only stop)) [], answered accepted 0 [])
    ∷ (mapping (object_bytes (code_only (word_jmp 1 ∷ []))) (replicate 3 9), answered (refusal 43 0 5) 0 (replicate 3 9))
    ∷ [])
unfolding mapping write map_of checked object_bytes object_words signed_word read_object signed_of right41 refused42 refused43 right_constant right_element right_loop right_line right_named right43 flow_of heights decode operation_of operand_of fits digits_rule
maps = refl
