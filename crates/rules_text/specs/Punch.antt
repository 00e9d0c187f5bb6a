-- Decks written as texts, for examples: a text's bytes, a card of 80 columns, a deck.
-- Assumes nothing.
use Rattle.std.specs.Prelude.{ℕ, zero, suc, List, [], ◌∷◌, ◌++◌, take, replicate}
use Prim.Native.Char.{code}
use Prim.Native.String.{String, len, char_at}

abbrev pub bytes_from : ℕ → ℕ → String → List ℕ
bytes_from zero at s = []
bytes_from (suc n) at s = code (char_at s at) ∷ bytes_from n (suc at) s

abbrev pub bytes : String → List ℕ
bytes s = bytes_from (len s) 0 s

-- 80 columns, blank after the text
abbrev pub card : String → List ℕ
card s = take 80 (bytes s ++ replicate 80 32)

abbrev pub deck : List String → List ℕ
deck [] = []
deck (s ∷ ss) = card s ++ deck ss
