-- What the whole deck is judged by, of one plan: its statement numbers, and the name that it sets.
-- Assumes nothing.
use Rattle.std.specs.Prelude.{ℕ, ◌+◌, ◌≤◌, ◌≡◌, List, [], ◌∷◌, length, take}
use Rattle.rules_shared.specs.Lists.{Each}
use Rattle.read_tokens.specs.declared.Name.{Name}
use Rattle.read_tokens.specs.Words.{no_name}
use Rattle.read_elements.specs.declared.Target.{Target}
use Rattle.read_elements.specs.declared.Target.TheVariants.{Cell, Element}
use Rattle.take_kinds.specs.declared.Kind.{Kind}
use Rattle.take_kinds.specs.declared.Kind.TheVariants.{Assignment, GoTo, Computed, If, Do}
use Rattle.take_plans.specs.declared.Plan.{Plan}

abbrev pub numbers_by : Kind → Plan → List ℕ → List ℕ
numbers_by GoTo p items = p.below.0 ∷ []
numbers_by Computed p items = take p.listed items
numbers_by If p items = p.below.0 ∷ p.at.0 ∷ p.above.0 ∷ []
numbers_by Do p items = p.below.0 ∷ []
numbers_by _ p items = []

-- the numbers that it jumps to, or a DO's last
unfoldable pub numbers_of : Plan → List ℕ → List ℕ
numbers_of p items = numbers_by p.kind p items

abbrev pub Low : ℕ → Type 0
Low n = n ≤ 99999

-- from j on there is room for them
pub record Jumping (p : Plan) (items jumps : List ℕ) (j : ℕ) : Type 0 where
  pub low : Each Low (numbers_of p items)
  pub listed : p.kind ≡ Computed → p.listed ≤ length items
  pub room : j + length (numbers_of p items) ≤ length jumps

unfoldable pub cell_name : Target → Name
cell_name (Cell n) = n
cell_name (Element e) = no_name

abbrev pub set_by : Kind → Target → ℕ
set_by Assignment t = (cell_name t).0
set_by Do t = (cell_name t).0
set_by _ t = 0

-- its first word, 0 for none
unfoldable pub set_of : Plan → ℕ
set_of p = set_by p.kind p.target
