-- Bytes written over a part of the output, and the words of some bodies.
-- Assumes nothing.
use Rattle.std.specs.Prelude.{◌≡◌, ℕ, ◌+◌, ◌*◌, ◌≤◌, List, ◌++◌, map, length, take, drop}
use Rattle.std.specs.Borrow.{Bor}
use Rattle.rules_object.specs.Bytes.{bytes_of}

-- a list with xs in the place of as many of its elements, from the a-th on
unfoldable pub over : ℕ → List ℕ → List ℕ → List ℕ
over a xs o = take a o ++ (xs ++ drop (a + length xs) o)

-- words written from byte `at` on; `next` is the byte after them
pub record PutBody (before : List ℕ) (at : ℕ) (words after : List ℕ) (next : ℕ) : Type 0 where
  pub is : after ≡ over at (bytes_of words) before
  pub ends : next ≡ at + 4 * length words
  pub inside : next ≤ length before

-- the words of each body that is passed
abbrev pub tables : List (Bor (List ℕ)) → List (List ℕ)
tables bodies = map (λ (b : Bor (List ℕ)). b.now) bodies
