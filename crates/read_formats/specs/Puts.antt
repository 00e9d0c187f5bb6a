-- What putting words on a table of 4,096 does. The top counts the words; 4,097 stands for every count that is over.
-- Assumes nothing.
use Rattle.std.specs.Prelude.{◌≡◌, List, ◌++◌, map, ℕ, ◌+◌, ◌≤◌, ◌<◌, length, take}
use Rattle.rules_formats.specs.Format.{H, times}
use Rattle.rules_formats.specs.Words.{most_words, field_word}

-- the words of an H field
abbrev pub text_words : List ℕ → List ℕ
text_words cs = map (λ c. field_word (H c)) cs

-- these words, one after the other, stand after those that stood below the top before; or they do not fit
pub record Puts (ws before after : List ℕ) (top r : ℕ) : Type 0 where
  pub sized : length after ≡ most_words
  pub low : r ≤ most_words + 1
  pub count : r ≤ most_words → r ≡ top + length ws
  pub stand : r ≤ most_words → take r after ≡ take top before ++ ws
  pub over : most_words < r → most_words < top + length ws

-- what was put once stands n times
pub record Repeats (n : ℕ) (once after : List ℕ) (from top r : ℕ) : Type 0 where
  pub is : (ws before : List ℕ) → from ≤ most_words + 1 → Puts ws before once from top → Puts (times n ws) before after from r
