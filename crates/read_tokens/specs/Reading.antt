-- What every reader from a place of the text on ensures: its answer is what the book's reader finds there.
-- Assumes nothing.
use Rattle.std.specs.Prelude.{◌≡◌, List, [], ◌∷◌, Option, Some, None, ℕ, ◌+◌, ◌*◌, ◌≤◌, length}
use Rattle.rules_text.specs.Trees.{Name, Digits}
use Rattle.rules_text.specs.Tokens.{Found, found, bad}
use Rattle.read_tokens.specs.declared.Sizes.{Sizes}
use Rattle.read_tokens.specs.declared.Read.{Read}
use Rattle.read_tokens.specs.declared.Name as code
use Rattle.read_tokens.specs.Words.{capped, name_of}
use Rattle.read_tokens.specs.Sizes.{sizes_of}

-- where reading ends
unfoldable pub end_of : {A : Type 0} → ℕ → Found A → ℕ
end_of from (found a k) = from + k
end_of from bad = from

unfoldable pub weight_of : {A : Type 0} → (A → ℕ) → Found A → ℕ
weight_of weight (found a k) = weight a
weight_of weight bad = 0

-- the answer: where the reading ends, the value and the sizes of what was read; or none
unfoldable pub answer : {A T : Type 0} → (A → T) → (A → Sizes) → ℕ → Found A → Option (Read T)
answer value sizes from (found a k) = Some (record { at = from + k; value = value a; sizes = sizes a })
answer value sizes from bad = None

-- s the text, o what the book finds in it from a place on, r the answer. What is read takes at least a fifth of its weight in bytes.
pub record Reads {A T : Type 0} (value : A → T) (sizes : A → Sizes) (weight : A → ℕ) (s : List ℕ) (from : ℕ) (o : Found A) (r : Option (Read T)) : Type 0 where
  pub says : r ≡ answer value sizes from o
  pub within : end_of from o ≤ length s
  pub few : weight_of weight o + 5 * from ≤ 5 * end_of from o

-- ---- a number and a name

unfoldable pub constant_size : Digits → Sizes
constant_size c = sizes_of [] (c ∷ []) 0

unfoldable pub name_size : Name → Sizes
name_size v = sizes_of (v ∷ []) [] 0

-- as operands: the words of a constant's item and of a name's
unfoldable pub two : Digits → ℕ
two c = 2

unfoldable pub five : Name → ℕ
five v = 5

abbrev pub ReadsNumber : List ℕ → ℕ → Found Digits → Option (Read ℕ) → Type 0
ReadsNumber s from o r = Reads capped constant_size two s from o r

abbrev pub ReadsName : List ℕ → ℕ → Found Name → Option (Read code.Name) → Type 0
ReadsName s from o r = Reads name_of name_size five s from o r
