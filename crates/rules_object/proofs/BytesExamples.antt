-- 01's worked example as bytes and as lists, and 40: the examples of G1 and G2; and the layout of edition 2 (2026-01). Assumes nothing.
use mathlib.Core.Path.{◌≡◌, refl, subst}
use Prim.Native.Nat.{ℕ, ◌+◌}
use native.Mathlib.Omega.{arith}
use mathlib.Core.List.{List, [], ◌∷◌, ◌++◌}
use mathlib.Core.Option.{none, some}
use lib.ListN.{length, take, drop, set}
use Rattle.rules_object.specs.Object.{Object}
use Rattle.rules_object.specs.Small.{word_hlt, word_read, object, code_only, line, with_lines, with_transfers}
use Rattle.rules_object.specs.Bytes.{bytes_of, words_of, object_words, object_bytes, read_object}
use Rattle.rules_object.specs.Writable.{IsByte, Writable}
use Rattle.rules_shared.specs.Lists.{Each}
use Rattle.rules_object.proofs.RoundTrip.{read_writable, object_bytes_lem}

-- I=47, J=I*I*I, STOP, END, with k = 5: the contents, one constant, ten instructions, four statements, two names
abbrev pub cube_bytes : List ℕ
cube_bytes =
    1 ∷ 0 ∷ 0 ∷ 0 ∷ 5 ∷ 0 ∷ 0 ∷ 0 ∷ 2 ∷ 0 ∷ 0 ∷ 0 ∷ 7 ∷ 0 ∷ 0 ∷ 0 ∷
    1 ∷ 0 ∷ 0 ∷ 0 ∷ 100 ∷ 0 ∷ 0 ∷ 0 ∷ 4 ∷ 0 ∷ 0 ∷ 0 ∷
    2 ∷ 0 ∷ 0 ∷ 0 ∷ 104 ∷ 0 ∷ 0 ∷ 0 ∷ 0 ∷ 0 ∷ 0 ∷ 0 ∷
    3 ∷ 0 ∷ 0 ∷ 0 ∷ 104 ∷ 0 ∷ 0 ∷ 0 ∷ 0 ∷ 0 ∷ 0 ∷ 0 ∷
    4 ∷ 0 ∷ 0 ∷ 0 ∷ 104 ∷ 0 ∷ 0 ∷ 0 ∷ 0 ∷ 0 ∷ 0 ∷ 0 ∷
    5 ∷ 0 ∷ 0 ∷ 0 ∷ 104 ∷ 0 ∷ 0 ∷ 0 ∷ 40 ∷ 0 ∷ 0 ∷ 0 ∷
    6 ∷ 0 ∷ 0 ∷ 0 ∷ 144 ∷ 0 ∷ 0 ∷ 0 ∷ 48 ∷ 0 ∷ 0 ∷ 0 ∷
    7 ∷ 0 ∷ 0 ∷ 0 ∷ 192 ∷ 0 ∷ 0 ∷ 0 ∷ 40 ∷ 0 ∷ 0 ∷ 0 ∷
    47 ∷ 0 ∷ 0 ∷ 0 ∷
    0 ∷ 0 ∷ 0 ∷ 1 ∷ 0 ∷ 0 ∷ 0 ∷ 3 ∷ 0 ∷ 0 ∷ 0 ∷ 2 ∷ 0 ∷ 0 ∷ 0 ∷ 2 ∷ 0 ∷ 0 ∷ 0 ∷ 8 ∷
    0 ∷ 0 ∷ 0 ∷ 2 ∷ 0 ∷ 0 ∷ 0 ∷ 8 ∷ 1 ∷ 0 ∷ 0 ∷ 3 ∷ 0 ∷ 0 ∷ 0 ∷ 0 ∷ 1 ∷ 0 ∷ 0 ∷ 0 ∷
    1 ∷ 0 ∷ 0 ∷ 0 ∷ 0 ∷ 0 ∷ 0 ∷ 0 ∷ 0 ∷ 0 ∷ 0 ∷ 0 ∷
    2 ∷ 0 ∷ 0 ∷ 0 ∷ 0 ∷ 0 ∷ 0 ∷ 0 ∷ 2 ∷ 0 ∷ 0 ∷ 0 ∷
    3 ∷ 0 ∷ 0 ∷ 0 ∷ 0 ∷ 0 ∷ 0 ∷ 0 ∷ 8 ∷ 0 ∷ 0 ∷ 0 ∷
    4 ∷ 0 ∷ 0 ∷ 0 ∷ 0 ∷ 0 ∷ 0 ∷ 0 ∷ 9 ∷ 0 ∷ 0 ∷ 0 ∷
    73 ∷ 32 ∷ 32 ∷ 32 ∷ 32 ∷ 32 ∷ 32 ∷ 32 ∷ 0 ∷ 0 ∷ 0 ∷ 0 ∷ 0 ∷ 0 ∷ 0 ∷ 0 ∷ 0 ∷ 0 ∷ 0 ∷ 0 ∷
    74 ∷ 32 ∷ 32 ∷ 32 ∷ 32 ∷ 32 ∷ 32 ∷ 32 ∷ 1 ∷ 0 ∷ 0 ∷ 0 ∷ 0 ∷ 0 ∷ 0 ∷ 0 ∷ 0 ∷ 0 ∷ 0 ∷ 0 ∷ []

abbrev pub cube : Object
cube =
    record {
      edition = 1;
      digits = 5;
      cells = 2;
      constants = 47 ∷ [];
      elements = [];
      exits = [];
      dos = [];
      code = 16777216 ∷ 50331648 ∷ 33554432 ∷ 33554432 ∷ 134217728 ∷ 33554432 ∷ 134217728 ∷ 50331649 ∷ 0 ∷ 1 ∷ [];
      lines =
          record { sequence = 1; number = 0; address = 0 } ∷
          record { sequence = 2; number = 0; address = 2 } ∷
          record { sequence = 3; number = 0; address = 8 } ∷
          record { sequence = 4; number = 0; address = 9 } ∷ [];
      names =
          record { name = 73 ∷ 32 ∷ 32 ∷ 32 ∷ 32 ∷ 32 ∷ 32 ∷ 32 ∷ []; first = 0; rows = 0; columns = 0 } ∷
          record { name = 74 ∷ 32 ∷ 32 ∷ 32 ∷ 32 ∷ 32 ∷ 32 ∷ 32 ∷ []; first = 1; rows = 0; columns = 0 } ∷ [];
      formats = [];
      items = [];
      transfers = [];
    }

pub cube_length : length cube_bytes ≡ 232
cube_length = refl

pub cube_read : read_object cube_bytes ≡ some cube
unfolding read_object
cube_read = refl

pub cube_written : object_bytes cube ≡ cube_bytes
unfolding object_bytes object_words
cube_written = refl

pub cube_writable : Writable cube
cube_writable = read_writable cube_bytes cube (subst (Each IsByte) cube_written (object_bytes_lem cube)) cube_read (omega (arith, cube_length))

-- ---- the same of edition 2: three empty bodies more in the contents, and nothing else moves

pub cube_two : (length (object_bytes (with_transfers [] [] [] cube)) ≡ 268) × (drop 136 (object_bytes (with_transfers [] [] [] cube)) ≡ drop 100 cube_bytes)
unfolding object_bytes object_words
cube_two = (refl, refl)

-- ---- 40: k = 5, no cells, and HLT 0 alone

abbrev pub halt_bytes : List ℕ
halt_bytes =
    1 ∷ 0 ∷ 0 ∷ 0 ∷ 5 ∷ 0 ∷ 0 ∷ 0 ∷ 0 ∷ 0 ∷ 0 ∷ 0 ∷ 7 ∷ 0 ∷ 0 ∷ 0 ∷
    1 ∷ 0 ∷ 0 ∷ 0 ∷ 100 ∷ 0 ∷ 0 ∷ 0 ∷ 0 ∷ 0 ∷ 0 ∷ 0 ∷
    2 ∷ 0 ∷ 0 ∷ 0 ∷ 100 ∷ 0 ∷ 0 ∷ 0 ∷ 0 ∷ 0 ∷ 0 ∷ 0 ∷
    3 ∷ 0 ∷ 0 ∷ 0 ∷ 100 ∷ 0 ∷ 0 ∷ 0 ∷ 0 ∷ 0 ∷ 0 ∷ 0 ∷
    4 ∷ 0 ∷ 0 ∷ 0 ∷ 100 ∷ 0 ∷ 0 ∷ 0 ∷ 0 ∷ 0 ∷ 0 ∷ 0 ∷
    5 ∷ 0 ∷ 0 ∷ 0 ∷ 100 ∷ 0 ∷ 0 ∷ 0 ∷ 4 ∷ 0 ∷ 0 ∷ 0 ∷
    6 ∷ 0 ∷ 0 ∷ 0 ∷ 104 ∷ 0 ∷ 0 ∷ 0 ∷ 0 ∷ 0 ∷ 0 ∷ 0 ∷
    7 ∷ 0 ∷ 0 ∷ 0 ∷ 104 ∷ 0 ∷ 0 ∷ 0 ∷ 0 ∷ 0 ∷ 0 ∷ 0 ∷
    0 ∷ 0 ∷ 0 ∷ 0 ∷ []

abbrev pub halting : Object
halting = code_only (word_hlt 0 ∷ [])

-- with word i changed to w
abbrev changed : ℕ → ℕ → List ℕ
changed i w = bytes_of (set (words_of halt_bytes) i w)

pub halt_read : read_object halt_bytes ≡ some halting
unfolding read_object
halt_read = refl

pub trailing_byte : read_object (halt_bytes ++ (0 ∷ [])) ≡ none
unfolding read_object
trailing_byte = refl

pub trailing_word : read_object (halt_bytes ++ (0 ∷ 0 ∷ 0 ∷ 0 ∷ [])) ≡ none
unfolding read_object
trailing_word = refl

pub other_edition : read_object (changed 0 2) ≡ none
unfolding read_object
other_edition = refl

-- an edition that there is not yet
pub third_edition : read_object (changed 0 3) ≡ none
unfolding read_object
third_edition = refl

pub six_bodies : read_object (changed 3 6) ≡ none
unfolding read_object
six_bodies = refl

-- kinds 2, 2, 3, ..
pub out_of_order : read_object (changed 4 2) ≡ none
unfolding read_object
out_of_order = refl

pub not_after_contents : read_object (changed 5 0) ≡ none
unfolding read_object
not_after_contents = refl

-- a body 6 of n bytes, and its bytes
abbrev statements : ℕ → List ℕ → List ℕ
statements n s = bytes_of (set (set (words_of halt_bytes) 21 n) 23 (104 + n)) ++ s

pub whole_entry : read_object (statements 12 (bytes_of (1 ∷ 0 ∷ 0 ∷ [])))
    ≡ some (with_lines (line 1 0 0 ∷ []) halting)
unfolding read_object
whole_entry = refl

pub half_entry : read_object (statements 4 (bytes_of (1 ∷ []))) ≡ none
unfolding read_object
half_entry = refl

-- the last length and the code are missing
pub cut_contents : read_object (take 96 halt_bytes) ≡ none
unfolding read_object
cut_contents = refl

-- one constant, no code
pub no_code : read_object (bytes_of (1 ∷ 5 ∷ 0 ∷ 7 ∷ 1 ∷ 100 ∷ 4 ∷ 2 ∷ 104 ∷ 0 ∷ 3 ∷ 104 ∷ 0 ∷ 4 ∷ 104 ∷ 0 ∷ 5 ∷ 104 ∷ 0 ∷ 6 ∷ 104 ∷ 0 ∷ 7 ∷ 104 ∷ 0 ∷ 1 ∷ [])) ≡ none
unfolding read_object
no_code = refl

-- ---- edition 2: READ 0 and HLT 0; I5 and its FORMAT's end; cell 0 alone; the FORMAT at 0 with one item from 0 on

abbrev two_words : List ℕ
two_words =
    2 ∷ 5 ∷ 1 ∷ 10 ∷
    1 ∷ 136 ∷ 0 ∷ 2 ∷ 136 ∷ 0 ∷ 3 ∷ 136 ∷ 0 ∷ 4 ∷ 136 ∷ 0 ∷ 5 ∷ 136 ∷ 8 ∷ 6 ∷ 144 ∷ 0 ∷ 7 ∷ 144 ∷ 0 ∷ 8 ∷ 144 ∷ 8 ∷ 9 ∷ 152 ∷ 8 ∷ 10 ∷ 160 ∷ 12 ∷
    268435456 ∷ 0 ∷ 16777221 ∷ 83886080 ∷ 0 ∷ 1 ∷ 0 ∷ 0 ∷ 1 ∷ []

abbrev two : Object
two =
    with_transfers (16777221 ∷ 83886080 ∷ []) (record { first = 0; count = 1 } ∷ []) (record { format = 0; first = 0; count = 1 } ∷ [])
    (object 1 [] [] [] [] (word_read 0 ∷ word_hlt 0 ∷ []))

pub two_read : read_object (bytes_of two_words) ≡ some two
unfolding read_object
two_read = refl

pub two_written : object_words two ≡ two_words
unfolding object_words
two_written = refl

-- edition 1 has no ten bodies, and edition 2 no seven
pub two_as_one : read_object (bytes_of (set two_words 0 1)) ≡ none
unfolding read_object
two_as_one = refl

pub two_seven : read_object (bytes_of (set two_words 3 7)) ≡ none
unfolding read_object
two_seven = refl

-- half an item, and half a transfer
pub half_item : read_object (bytes_of (take 30 two_words ++ (4 ∷ 10 ∷ 156 ∷ 12 ∷ 268435456 ∷ 0 ∷ 16777221 ∷ 83886080 ∷ 0 ∷ 0 ∷ 0 ∷ 1 ∷ []))) ≡ none
unfolding read_object
half_item = refl

pub half_transfer : read_object (bytes_of (set (take 42 two_words) 33 8)) ≡ none
unfolding read_object
half_transfer = refl
