-- What the code's functions answer, in the book's words.
-- Assumes nothing.
use Rattle.std.specs.Prelude.{ℕ, ◌+◌, Bool, ◌&&◌, List, ltb, pos}
use Rattle.number.specs.Number.{Rule, fits}
use Rattle.rules_object.specs.Object.{Line}
use Rattle.rules_object.specs.Bytes.{signed_of}
use Rattle.rules_shared.specs.Refusals.{Refusal, refusal}
use Rattle.object_words.specs.Word.{word_at}
use Rattle.check_entries.specs.declared.Entry.{Entry}

-- an entry that stands in for those outside a body
abbrev pub no_line : Line
no_line = record { sequence = 0; number = 0; address = 0 }

-- the subscript at b: its multiplier and its addend fit, its cell is inside
unfoldable pub subscript_at : List ℕ → ℕ → ℕ → Rule → Bool
subscript_at s b cells k = fits k (pos (word_at s b)) && (fits k (signed_of (word_at s (b + 8))) && ltb (word_at s (b + 4)) cells)

-- an entry that fails, as the book says it
abbrev pub refusal_at : ℕ → Entry → Refusal
refusal_at number e = refusal number e.index e.kind
