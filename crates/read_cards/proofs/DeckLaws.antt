-- The laws of a deck's cards.
-- Assumes nothing.
use Prim.Native.Nat.{ℕ, zero, suc, ◌/◌}
use mathlib.Core.Path.{◌≡◌, refl, ap}
use mathlib.Core.List.{List, ◌∷◌}
use lib.ListN.{length, take, drop}
use Rattle.std.specs.Simd.{first_chunks}
use Rattle.rules_text.specs.Cards.{cut, cards_of}

pub chunks_are : (n : ℕ) (deck : List ℕ) → first_chunks 80 n deck ≡ cut n deck
chunks_are zero deck = refl
chunks_are (suc n) deck = ap (λ (cards : List (List ℕ)). take 80 deck ∷ cards) (chunks_are n (drop 80 deck))

length_cut : (n : ℕ) (deck : List ℕ) → length (cut n deck) ≡ n
length_cut zero deck = refl
length_cut (suc n) deck = ap suc (length_cut n (drop 80 deck))

pub cards_length : (deck : List ℕ) → length (cards_of deck) ≡ length deck / 80
unfolding cards_of
cards_length deck = length_cut (length deck / 80) deck
