-- The laws of the cards before the next that starts a statement.
-- Assumes nothing.
use Prim.Native.Nat.{ℕ, suc, ◌+◌, ◌≤◌}
use mathlib.Core.Path.{◌≡◌, refl}
use mathlib.Core.Bool.{Bool, true, false, not, cond}
use mathlib.Core.List.{List, [], ◌∷◌}
use native.Mathlib.Omega.{arith}
use lib.ListN.{length}
use lib.Dec.{ltb}
use borrow.Author.Tests.{ltb-false}
use Rattle.std.specs.Prelude.{Some, None}
use Rattle.std.specs.Option.{unwrap_or}
use Rattle.std.specs.List.{position, position_or_len}
use Rattle.read_texts.specs.Taking.{begins, skipped}

skipped_is : (cards : List (List ℕ)) → position_or_len begins cards ≡ skipped cards
skipped_is [] = refl
skipped_is (card ∷ cards) = go (begins card) (skipped_is cards)
  where
    go : (b : Bool) → position_or_len begins cards ≡ skipped cards → cond (not b) (1 + position_or_len begins cards) 0 ≡ cond b 0 (suc (skipped cards))
    go true e = refl
    go false e = omega arith

pub skipped_within : (cards : List (List ℕ)) → skipped cards ≤ length cards
skipped_within [] = omega arith
skipped_within (card ∷ cards) = go (begins card) (skipped_within cards)
  where
    go : (b : Bool) → skipped cards ≤ length cards → cond b 0 (suc (skipped cards)) ≤ suc (length cards)
    go true h = omega arith
    go false h = omega arith

-- the place of the next, or how many cards there are
pub found_or : (cards : List (List ℕ)) → unwrap_or (position begins cards) (length cards) ≡ skipped cards
found_or cards = go (ltb (position_or_len begins cards) (length cards)) refl
  where
    go : (b : Bool) → ltb (position_or_len begins cards) (length cards) ≡ b → unwrap_or (cond b (Some (position_or_len begins cards)) None) (length cards) ≡ skipped cards
    go true e = skipped_is cards
    go false e = omega (arith, skipped_is cards, skipped_within cards, ltb-false _ _ e)
