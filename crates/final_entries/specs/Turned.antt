-- A name's word as the object has it.
-- Assumes nothing.
use Rattle.std.specs.Prelude.{ℕ, ◌+◌, ◌*◌, ◌/◌, ◌%◌}

-- four bytes as one number, the first highest, with the first lowest
abbrev pub turned : ℕ → ℕ
turned w = w / 16777216 % 256 + w / 65536 % 256 * 256 + w / 256 % 256 * 65536 + w % 256 * 16777216
