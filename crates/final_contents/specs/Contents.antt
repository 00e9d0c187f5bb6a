-- An object's contents, and all its words, by its bodies as words. 01 "Object".
-- Assumes nothing.
use Rattle.std.specs.Prelude.{ℕ, List, ◌∷◌, ◌++◌, length}
use Rattle.rules_object.specs.Kinds.{edition, contents_length}
use Rattle.rules_object.specs.Bytes.{concat, body_table}

-- what stands before the bodies
abbrev pub contents_words : ℕ → ℕ → List (List ℕ) → List ℕ
contents_words digits cells bs = edition ∷ digits ∷ cells ∷ length bs ∷ body_table 1 (contents_length (length bs)) bs

-- the book's `object_words o`, where the bodies are those of o
unfoldable pub words_of_bodies : ℕ → ℕ → List (List ℕ) → List ℕ
words_of_bodies digits cells bs = contents_words digits cells bs ++ concat bs
