-- The signs and operations of expressions, as the code reads them.
-- Assumes nothing.
use Rattle.std.specs.Prelude.{◌≡◌, ℕ, ◌+◌, List, Bool, cond, eqb, set, Some, None}
use Rattle.std.specs.Prelude.{Option as Maybe}
use Rattle.std.proofs.Math.Option.{Option, some, none}
use Rattle.number.specs.Number.{Op}
use Rattle.rules_text.specs.Tokens.{plus_sign, minus_sign}
use Rattle.read_items.specs.Items.{op_item}

-- the item of an operation that a byte may be
unfoldable pub op_number : Option Op → Maybe ℕ
op_number (some o) = Some (op_item o)
op_number none = None

-- how many bytes a leading sign takes, by the first byte
abbrev pub sign_len : ℕ → ℕ
sign_len c = cond (eqb c plus_sign) 1 (cond (eqb c minus_sign) 1 0)

-- a NEG is put in place n, or not
pub record Signed (a b : List ℕ) (n : ℕ) (minus : Bool) (r : ℕ) : Type 0 where
  pub table : b ≡ cond minus (set a n 10) a
  pub top : r ≡ cond minus (n + 1) n
