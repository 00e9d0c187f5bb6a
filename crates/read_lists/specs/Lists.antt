-- What the readers of lists ensure: a computed GO TO's numbers and a DIMENSION's arrays.
-- Assumes nothing.
use Rattle.std.specs.Prelude.{◌≡◌, ℕ, ◌≤◌, List, [], ◌∷◌, map, length, take, drop, Option}
use Rattle.std.proofs.Math.Option.{none, some}
use Rattle.rules_text.specs.Trees.{Name, Digits, array, optional, array_names, array_constants, Form, computed}
use Rattle.rules_text.specs.Trees as trees
use Rattle.rules_text.specs.Tokens.{right_paren, comma, Found, found, bad, Reader, give, give_if, ahead, and_then, after, choose, starts, all_of, number, name}
use Rattle.rules_text.specs.Grammar.{right_exits}
use Rattle.read_tokens.specs.declared.Name as code
use Rattle.read_tokens.specs.declared.Read.{Read}
use Rattle.read_tokens.specs.declared.Sizes.{Sizes}
use Rattle.read_tokens.specs.Words.{capped, name_of}
use Rattle.read_tokens.specs.Sizes.{sizes_of}
use Rattle.read_tokens.specs.Reading as reading
use Rattle.read_forms.specs.declared.Statement.{Statement}
use Rattle.read_forms.specs.Statements.{all_words, Reads}
use Rattle.read_lists.specs.declared.Array.{Array}

-- ---- one array

unfoldable pub array_value : trees.Array → Array
array_value (array v r none) = record { dimensions = 1; name = name_of v; rows = capped r; columns = 0 }
array_value (array v r (some c)) = record { dimensions = 2; name = name_of v; rows = capped r; columns = capped c }

unfoldable pub array_sizes : trees.Array → Sizes
array_sizes (array v r c) = sizes_of (v ∷ []) (r ∷ optional c) 0

unfoldable pub seven_words : trees.Array → ℕ
seven_words a = 7

unfoldable pub no_words : trees.Array → ℕ
no_words a = 0

abbrev pub ReadsArray : List ℕ → ℕ → Found trees.Array → Option (Read Array) → Type 0
ReadsArray s from o r = reading.Reads array_value array_sizes seven_words s from o r

-- ---- a list, whose words stand first in the table

unfoldable pub list_words : {A : Type 0} → (List A → List ℕ) → Found (List A) → List ℕ
list_words words (found l k) = words l
list_words words bad = []

pub record ReadsList {A : Type 0} (words : List A → List ℕ) (sizes : List A → Sizes) (s b : List ℕ) (from : ℕ) (o : Found (List A)) (r : Option (Read ℕ)) : Type 0 where
  pub says : r ≡ reading.answer length sizes from o
  pub table : take (length (list_words words o)) b ≡ list_words words o
  pub within : reading.end_of from o ≤ length s

unfoldable pub numbers_words : List Digits → List ℕ
numbers_words ns = map capped ns

-- numbers are no constants
unfoldable pub numbers_sizes : List Digits → Sizes
numbers_sizes ns = sizes_of [] [] 0

unfoldable pub arrays_sizes : List trees.Array → Sizes
arrays_sizes l = sizes_of (array_names l) (array_constants l) 0

abbrev pub ReadsNumbers : List ℕ → List ℕ → ℕ → Found (List Digits) → Option (Read ℕ) → Type 0
ReadsNumbers s b from o r = ReadsList numbers_words numbers_sizes s b from o r

abbrev pub ReadsArrays : List ℕ → List ℕ → ℕ → Found (List trees.Array) → Option (Read ℕ) → Type 0
ReadsArrays s b from o r = ReadsList all_words arrays_sizes s b from o r

-- ---- the parts of an array and of a computed GO TO that their own functions read

-- what follows the rows r of the array v
unfoldable pub columns_of : Name → Digits → Reader trees.Array
columns_of v r =
    choose (starts comma) (after comma (and_then number (λ c. after right_paren (give (array v r (some c))))))
    (after right_paren (give (array v r none)))

abbrev pub ReadsColumns : List ℕ → ℕ → code.Name → ℕ → Sizes → Option (Read Array) → Type 0
ReadsColumns s from name rows sizes g =
    (v : Name) (r : Digits) → name ≡ name_of v → rows ≡ capped r → sizes ≡ sizes_of (v ∷ []) (r ∷ []) 0
    → reading.Reads array_value array_sizes no_words s from (columns_of v r (drop from s)) g

-- what follows the numbers ns
unfoldable pub choice_of : List Digits → Reader Form
choice_of ns = after right_paren (after comma (and_then name (λ v. give_if (right_exits ns) (computed ns v))))

abbrev pub EndsComputed : List ℕ → ℕ → ℕ → Option Statement → Type 0
EndsComputed s from exits r =
    (ns : List Digits) (b : List ℕ) → exits ≡ length ns → take (length (numbers_words ns)) b ≡ numbers_words ns
    → Reads b (all_of (length s) (ahead from (choice_of ns (drop from s)))) r
