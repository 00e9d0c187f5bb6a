-- What 11, 12 and 14 are tested on: the longest name, whether a name starts with another letter than I to N, the longest constant, and the levels.
-- Assumes nothing.
use Rattle.std.specs.Prelude.{ℕ, max, ◌||◌, not, List, [], ◌∷◌, length}
use Rattle.rules_shared.specs.Lists.{all}
use Rattle.rules_text.specs.Trees.{Name, Digits}
use Rattle.rules_deck.specs.Judge.{starts_integer}
use Rattle.read_tokens.specs.declared.Sizes.{Sizes}

-- the largest that f gives
unfoldable pub largest : {A : Type 0} → (A → ℕ) → List A → ℕ
largest f [] = 0
largest f (a ∷ others) = max (f a) (largest f others)

unfoldable pub sizes_of : List Name → List Digits → ℕ → Sizes
sizes_of names constants levels =
    record { name = largest length names; other = not (all starts_integer names); constant = largest length constants; levels = levels }

-- those of two parts
unfoldable pub both : Sizes → Sizes → Sizes
both a b =
    record {
      name = max a.name b.name;
      other = a.other || b.other;
      constant = max a.constant b.constant;
      levels = max a.levels b.levels;
    }
