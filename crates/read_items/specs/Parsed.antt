-- What a reader that writes items ensures: its answer, and what the table of items holds after it.
-- Assumes nothing.
use Rattle.std.specs.Prelude.{◌≡◌, ℕ, ◌+◌, ◌*◌, ◌≤◌, List, [], ◌++◌, length, take, Option, Some, None}
use Rattle.rules_text.specs.Trees.{Expr, levels}
use Rattle.rules_text.specs.Tokens.{Found, found, bad}
use Rattle.read_tokens.specs.declared.Read.{Read}
use Rattle.read_items.specs.Items.{flat, expr_sizes}

-- the words ws stand in b where a had n words, and b's top is r
pub record Put {A : Type 0} (a b : List A) (n : ℕ) (ws : List A) (r : ℕ) : Type 0 where
  pub top : r ≡ n + length ws
  pub table : take r b ≡ take n a ++ ws

unfoldable pub items : Found Expr → List ℕ
items (found e k) = flat e
items bad = []

unfoldable pub count : Found Expr → ℕ
count (found e k) = k
count bad = 0

unfoldable pub depth : Found Expr → ℕ
depth (found e k) = levels e
depth bad = 0

-- the answer, where n words were in the table before
unfoldable pub answer : ℕ → Found Expr → Option (Read ℕ)
answer n (found e k) = Some (record { at = k; value = n + length (flat e); sizes = expr_sizes e })
answer n bad = None

-- s the text, a and b the table before and after, n the words in it before, o what is there by the book, r the answer.
-- The rest of the table is free.
pub record Parsed (s a b : List ℕ) (n : ℕ) (o : Found Expr) (r : Option (Read ℕ)) : Type 0 where
  pub says : r ≡ answer n o
  pub table : take (n + length (items o)) b ≡ take n a ++ items o
  pub within : count o ≤ length s
  pub few : length (items o) ≤ 5 * count o
  pub low : depth o ≤ count o
