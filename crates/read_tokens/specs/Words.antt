-- Tokens as numbers: the value of a run of digits, a name's words, and whether a text starts with a word.
-- Assumes nothing.
use Rattle.std.specs.Prelude.{ℕ, ◌+◌, ◌*◌, min, Bool, true, false, ◌&&◌, List, [], ◌∷◌, eqb, drop, get_or}
use Rattle.rules_text.specs.Trees.{Name, Digits, value_of}
use Rattle.rules_deck.specs.Translation.{filled}
use Rattle.read_tokens.specs.declared.Name as code

-- above every constant of nine digits and every statement number; larger values are not told apart
abbrev pub most : ℕ
most = 1000000000

-- the value of a constant or a statement number
unfoldable pub capped : Digits → ℕ
capped c = min (value_of c) most

-- bytes as one number after w, the first byte highest
unfoldable pub bytes_from : ℕ → List ℕ → ℕ
bytes_from w [] = w
bytes_from w (c ∷ s) = bytes_from (w * 256 + c) s

-- a name's first eight bytes, blank-filled
unfoldable pub name_word : Name → ℕ
name_word v = bytes_from 0 (filled 8 v)

-- a name as code has it
unfoldable pub name_of : Name → code.Name
name_of v = record { 0 = name_word v; 1 = name_word (drop 8 v); 2 = name_word (drop 16 v); 3 = name_word (drop 24 v) }

-- what stands where there is no name
abbrev pub no_name : code.Name
no_name = record { 0 = 0; 1 = 0; 2 = 0; 3 = 0 }

-- its words in a table, and the name that stands in one from a place on
abbrev pub name_words : code.Name → List ℕ
name_words n = n.0 ∷ n.1 ∷ n.2 ∷ n.3 ∷ []

abbrev pub name_at : List ℕ → ℕ → code.Name
name_at table at = record { 0 = get_or table at 0; 1 = get_or table (at + 1) 0; 2 = get_or table (at + 2) 0; 3 = get_or table (at + 3) 0 }

abbrev pub same_words : code.Name → code.Name → Bool
same_words a b = eqb a.0 b.0 && (eqb a.1 b.1 && (eqb a.2 b.2 && eqb a.3 b.3))

unfoldable pub starts_word : List ℕ → List ℕ → Bool
starts_word [] s = true
starts_word (c ∷ word) [] = false
starts_word (c ∷ word) (x ∷ s) = eqb x c && starts_word word s
