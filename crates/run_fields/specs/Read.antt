-- What the code's parts of reading a field answer.
-- Assumes nothing.
use Rattle.std.specs.Prelude.{ℕ, cond, ltb, ℤ, pos, Option, Some, None}
use Rattle.std.proofs.Math.Option as book

-- a magnitude below the ceiling
abbrev pub below : ℕ → book.Option ℕ → Option ℕ
below ceiling book.none = None
below ceiling (book.some n) = cond (ltb n ceiling) (Some n) None

abbrev pub whole : Option ℕ → Option ℤ
whole None = None
whole (Some n) = Some (pos n)

-- as code says it
unfoldable pub read_of : book.Option ℤ → Option ℤ
read_of book.none = None
read_of (book.some v) = Some v
