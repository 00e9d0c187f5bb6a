-- The bytes of a name, and where its letters and digits end.
-- Assumes nothing.
use Rattle.std.specs.Prelude.{◌≡◌, ℕ, ◌≤◌, List, [], take, drop}
use Rattle.rules_object.specs.Object.{Named}
use Rattle.rules_object.specs.Check.{name_tail, blanks}

-- the entry that stands in for those outside body 7
abbrev pub no_name : Named
no_name = record { name = []; first = 0; rows = 0; columns = 0 }

-- the eight bytes of a name
abbrev pub name_at : List ℕ → ℕ → List ℕ
name_at s b = take 8 (drop b s)

-- letters and digits of a name end at r: six characters at most
pub record NameEnd (name : List ℕ) (r : ℕ) : Type 0 where
  pub some : 1 ≤ r
  pub most : r ≤ 6
  pub rest : name_tail 5 (drop 1 name) ≡ blanks (drop r name)
