-- Constants pooled in a table.
-- Assumes nothing.
use Rattle.std.specs.Prelude.{◌≡◌, ℕ, ◌≤◌, ◌<◌, List, length, take, Option, Some, None}
use Rattle.rules_shared.specs.Limits.{limits}
use Rattle.rules_deck.specs.Translation.{pool, pool_at}
use Rattle.take_entries.specs.declared.Pooled.{Pooled}

-- a the table before, with n constants, b after
pub record PooledAt (a b : List ℕ) (n value index count : ℕ) : Type 0 where
  pub index_is : index ≡ pool_at (take n a) value
  pub count_is : count ≡ length (pool (take n a) value)
  pub table : take count b ≡ pool (take n a) value
  pub index_low : index < limits.constants
  pub count_low : count ≤ limits.constants

abbrev pub Pools : List ℕ → List ℕ → ℕ → ℕ → Option Pooled → Type 0
Pools a b n value (Some p) = PooledAt a b n value p.index p.count
Pools a b n value None = limits.constants < length (pool (take n a) value)
