-- A word in bytes, and an instruction in a word. The book's `words_of` and `operation_of`, said for a place.
-- Assumes nothing.
use Rattle.std.specs.Prelude.{ℕ, ◌+◌, ◌*◌, List, get_or}

-- the word whose first byte is at a, low byte first
unfoldable pub word_at : List ℕ → ℕ → ℕ
word_at s a = get_or s a 0 + get_or s (a + 1) 0 * 256 + get_or s (a + 2) 0 * 65536 + get_or s (a + 3) 0 * 16777216
