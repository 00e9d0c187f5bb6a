-- Where a statement's jumps lead.
-- Assumes nothing.
use mathlib.Core.Path.{◌≡◌, refl, sym, ap, ◌∙◌}
use Prim.Native.Nat.{ℕ, zero, suc, ◌+◌, ◌*◌, ◌≤◌, ◌<◌}
use native.Mathlib.Omega.{arith}
use native.Mathlib.Numerals.{add-one}
use mathlib.Core.List.{List, [], ◌∷◌, ◌++◌, map}
use mathlib.Core.Option.{some}
use lib.ListN.{length, take, drop, get_or, get_elem?, length-append, length-map}
use borrow.Author.Tests.{ltb-true}
use Rattle.rules_shared.specs.House.{House}
use Rattle.rules_text.specs.Trees.{Digits, value_of, Statement, form_exits, form_last}
use Rattle.rules_deck.specs.Deck.{position_of}
use Rattle.rules_deck.specs.Whole.{defined, right22}
use Rattle.rules_deck.specs.Translation.{address_at, address_of}
use Rattle.rules_deck.specs.Accepted.{Among, here, there, Accepted}
use Rattle.rules_deck.proofs.TestLaws.{all_among}
use Rattle.rules_deck.proofs.PassedDeck.{passes22}
use Rattle.rules_deck.proofs.Addresses.{address_most}
use Rattle.rules_deck.proofs.FittingDeck.{fitting}
use Rattle.take_draft.specs.Draft.{jump_words}
use Rattle.take_draft.specs.Sketch.{deck_jumps}
use Rattle.final_addresses.proofs.Told.{row_jumps}
use Rattle.final_addresses.proofs.Lasts.{take_more}
use Rattle.final_addresses.proofs.Holding.{map_append}
use Rattle.final_code.specs.Settling.{Settling, Leading}
use Rattle.final_statement.specs.Words.{Aimed, targets}
use Rattle.final_statement.proofs.Filling.{piece, piece_inside}
use Rattle.final_code.proofs.Splitting.{jumps_split, jumps_append}

pub leading : {house : House} {deck : List Statement} {rows : List ℕ} {count : ℕ} {loops : List ℕ} {n : ℕ} {jumps starts draft : List ℕ}
    → Settling house deck rows count loops n jumps starts draft → Leading house deck rows count jumps starts
leading told = record { in_rows = told.judged.in_rows; jumps_are = told.judged.jumps_are; starts_are = told.starts_are }

-- ---- every number is defined

used : {house : House} {deck : List Statement} → Accepted house deck → (j : ℕ) (s : Statement) → get_elem? deck j ≡ some s
    → (n : Digits) → Among n (form_exits s.form ++ form_last s.form) → position_of deck (value_of n) < length deck
unfolding right22
used {house} {deck} accepted j s e n a = ltb-true (position_of deck (value_of n)) (length deck) (all_among (defined deck) (passes22 accepted j s e) a)

all_small : (f : ℕ → ℕ) (most : ℕ) (ns : List Digits) → ((n : Digits) → Among n ns → f (value_of n) < most) → (m : ℕ) → m < length ns → get_or (map f (map value_of ns)) m 0 < most
all_small f most [] h m l = absurd (omega arith)
all_small f most (n ∷ ns) h zero l = h n here
all_small f most (n ∷ ns) h (suc m) l = all_small f most ns (λ x a. h x (there a)) m (omega arith)

all_addresses : (f g : ℕ → ℕ) (h : ℕ → ℕ) (most : ℕ) → ((p : ℕ) → p < most → f p ≡ g p) → (ns : List Digits) → ((n : Digits) → Among n ns → h (value_of n) < most)
    → map f (map h (map value_of ns)) ≡ map (λ m. g (h m)) (map value_of ns)
all_addresses f g h most same [] small = refl
all_addresses f g h most same (n ∷ ns) small =
    let first = same (h (value_of n)) (small n here) in
    ap (λ (x : ℕ). x ∷ map f (map h (map value_of ns))) first ∙ ap (λ (l : List ℕ). g (h (value_of n)) ∷ l) (all_addresses f g h most same ns (λ x a. small x (there a)))

module _ {house : House} {deck : List Statement} {rows : List ℕ} {count : ℕ} {jumps starts : List ℕ} (told : Leading house deck rows count jumps starts) where
  module _ (i : ℕ) (s : Statement) (e : get_elem? deck i ≡ some s) where
    small : (n : Digits) → Among n (form_exits s.form ++ form_last s.form) → position_of deck (value_of n) < length deck
    small = used told.in_rows.accepted i s e

    jumps_parts : take (length (deck_jumps deck)) jumps ≡ map (position_of deck) (deck_jumps (take i deck)) ++ (map (position_of deck) (jump_words s.form) ++ map (position_of deck) (deck_jumps (drop (suc i) deck)))
    jumps_parts =
        told.jumps_are ∙ ap (map (position_of deck)) (jumps_split deck i s e)
        ∙ map_append (position_of deck) (deck_jumps (take i deck)) (jump_words s.form ++ deck_jumps (drop (suc i) deck))
        ∙ ap (λ (l : List ℕ). map (position_of deck) (deck_jumps (take i deck)) ++ l) (map_append (position_of deck) (jump_words s.form) (deck_jumps (drop (suc i) deck)))

    module _ (j many : ℕ) (at : j ≡ length (deck_jumps (take i deck))) (counted : many ≡ length (jump_words s.form)) where
      pub jumps_here : take many (drop j jumps) ≡ map (position_of deck) (jump_words s.form)
      jumps_here =
          let a = at ∙ sym (length-map (deck_jumps (take i deck)) (position_of deck)) in
          let b = counted ∙ sym (length-map (jump_words s.form) (position_of deck)) in
          ap (λ (m : ℕ). take m (drop j jumps)) b ∙ ap (λ (m : ℕ). take (length (map (position_of deck) (jump_words s.form))) (drop m jumps)) a
          ∙ piece jumps (length (deck_jumps deck)) (map (position_of deck) (deck_jumps (take i deck))) (map (position_of deck) (jump_words s.form)) (map (position_of deck) (deck_jumps (drop (suc i) deck))) jumps_parts

      pub jumps_inside : j + many ≤ length jumps
      jumps_inside =
          omega (
            arith,
            length-map (deck_jumps (take i deck)) (position_of deck),
            length-map (jump_words s.form) (position_of deck),
            piece_inside jumps (length (deck_jumps deck)) (map (position_of deck) (deck_jumps (take i deck))) (map (position_of deck) (jump_words s.form)) (map (position_of deck) (deck_jumps (drop (suc i) deck))) jumps_parts,
          )

      pub jumps_many : length (take many (drop j jumps)) ≡ many
      jumps_many = ap length jumps_here ∙ length-map (jump_words s.form) (position_of deck) ∙ sym counted

      position_here : (m : ℕ) → m < length (take many (drop j jumps)) → get_or (take many (drop j jumps)) m 0 < length deck
      position_here m l =
          let n = length-map (form_exits s.form ++ form_last s.form) value_of in
          let p = all_small (position_of deck) (length deck) (form_exits s.form ++ form_last s.form) small m (omega (arith, jumps_many)) in
          let q = ap (λ (w : List ℕ). get_or w m 0) jumps_here in
          omega arith

      pub aimed_here : 400 < length starts → Aimed (take many (drop j jumps)) starts
      aimed_here room =
          record {
            inside = λ m l. omega (arith, position_here m l, told.in_rows.accepted.count);
            small = λ m l.
                let p = position_here m l in
                let q = get_or (take many (drop j jumps)) m 0 in
                omega (arith, told.starts_are.at q (omega arith), address_most deck q, (fitting told.in_rows.accepted).code);
          }

      pub targets_here : targets (take many (drop j jumps)) starts ≡ map (address_of deck) (jump_words s.form)
      targets_here =
          ap (map (λ p. get_or starts p 0)) jumps_here
          ∙ all_addresses (λ p. get_or starts p 0) (address_at deck) (position_of deck) (length deck) (λ p l. told.starts_are.at p (omega arith)) (form_exits s.form ++ form_last s.form) small

    pub jumps_next : (j : ℕ) → j ≡ length (deck_jumps (take i deck)) → j + get_or rows (5 * i + 4) 0 ≡ length (deck_jumps (take (i + 1) deck))
    jumps_next j at =
        let more = ap (λ (m : ℕ). deck_jumps (take m deck)) (add-one i) ∙ ap deck_jumps (take_more deck i s e) ∙ jumps_append (take i deck) (s ∷ []) in
        let r = row_jumps told.in_rows i s e in
        let l = length-append (deck_jumps (take i deck)) (jump_words s.form ++ []) in
        let m = length-append (jump_words s.form) [] in
        omega (arith, ap length more)
