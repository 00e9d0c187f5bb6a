-- The places of a deck that is right, as words of positions.
-- Assumes nothing.
use mathlib.Core.Path.{◌≡◌, refl, sym, ◌∙◌}
use Prim.Native.Nat.{ℕ, zero, suc, ◌≤◌, ◌<◌}
use native.Mathlib.Omega.{arith}
use mathlib.Core.List.{List, [], ◌∷◌, map}
use lib.ListN.{length, get_or, take, length-map}
use lib.Seq.{get_or-take, length-take-le, ext_get_or}
use Rattle.rules_shared.specs.Limits.{limits}
use Rattle.rules_text.specs.Trees.{Statement}
use Rattle.rules_deck.specs.Deck.{position_of}
use Rattle.read_cards.specs.declared.Sequence.{Sequence}
use Rattle.take_draft.specs.Sketch.{deck_jumps}
use Rattle.whole_tables.specs.Tables.{place_in}
use Rattle.whole_deck.specs.Whole.{Stands}
use Rattle.whole_deck.specs.Parts.{Inside, Positioned}

map_at : (f : ℕ → ℕ) (l : List ℕ) (i : ℕ) → i < length l → get_or (map f l) i 0 ≡ f (get_or l i 0)
map_at f [] i h = absurd (omega arith)
map_at f (a ∷ l) zero h = refl
map_at f (a ∷ l) (suc i) h = map_at f l i (omega arith)

module _ (deck : List Statement) (places : List Sequence) (placed : (k : ℕ) → k < length (deck_jumps deck) → Stands deck (get_or (deck_jumps deck) k 0) (place_in places k))
    (many : ℕ) (all : many ≡ length (deck_jumps deck)) (room : many ≤ 1424) where
  pub inside : length deck ≤ limits.statements → Inside places many
  inside few =
      record {
        few = room;
        from_one = λ k h. let p = (placed k (omega arith)).is in omega arith;
        to_last = λ k h.
            let p = (placed k (omega arith)).is in
            let l = (placed k (omega arith)).low in
            omega arith;
      }

  pub positions : (words : List ℕ) → Positioned places many words → take many words ≡ map (position_of deck) (deck_jumps deck)
  positions words p =
      let t = p.long in
      let l = length-take-le many words (omega arith) in
      let g = length-map (deck_jumps deck) (position_of deck) in
      ext_get_or 0 (take many words) (map (position_of deck) (deck_jumps deck)) (omega arith)
      (λ i h. get_or-take many words i 0 (omega arith) ∙ position_at i (omega arith) ∙ sym (map_at (position_of deck) (deck_jumps deck) i (omega arith)))
    where
      position_at : (i : ℕ) → i < length (deck_jumps deck) → get_or words i 0 ≡ position_of deck (get_or (deck_jumps deck) i 0)
      position_at i h =
          let x = p.are i (omega arith) in
          let y = (placed i h).is in
          omega arith
