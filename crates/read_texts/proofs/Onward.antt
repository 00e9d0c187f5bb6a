-- For callers: a deck that `judge` counts is accepted, and each statement taken leaves the others, so that from card 0 on all of them are taken in order.
-- Assumes nothing.
use Prim.Native.Nat.{ℕ, suc, ◌+◌, ◌≤◌, ◌<◌}
use mathlib.Core.Path.{◌≡◌, refl, sym, ap, ◌∙◌, subst}
use mathlib.Core.List.{List, [], ◌∷◌, ◌++◌}
use native.Mathlib.Omega.{arith}
use native.Mathlib.Numerals.{add-one}
use lib.ListN.{length, take, drop, length-drop, length-take}
use lib.Seq.{drop-drop, length-sets}
use Rattle.rules_shared.specs.House.{house1401}
use Rattle.rules_shared.specs.Lists.{Each}
use Rattle.rules_shared.proofs.EachLaws.{each_head}
use Rattle.rules_text.specs.Cards.{cards_of, text_columns, text_of, Punched, number_of, following, grouped}
use Rattle.rules_text.proofs.CardsLaws.{RightStatement}
use Rattle.rules_text.proofs.CardsGroups.{statements_grouped}
use Rattle.read_cards.specs.declared.Number.{Number}
use Rattle.read_texts.specs.declared.Taken.{Taken}
use Rattle.std.specs.Prelude.{Option, Some, None}
use Rattle.read_texts.specs.Taking.{Accepted, over, skipped, passed, punched_raw, punched_text, first_of, first_content, Takes, Put}
use Rattle.read_texts.proofs.TakeLaws.{skipped_within}
use Rattle.read_texts.proofs.TextLaws.{over_none, over_stands}
use Rattle.read_texts.proofs.StatementLaws.{group_first, group_skip, skip_stops, each_from, all_right}

-- ---- what `judge` counts

-- all of them are to be taken from card 0 on
pub from_start : (deck : List ℕ) (a : Accepted deck) → a.all ≡ grouped (drop 0 (cards_of deck))
from_start deck a = statements_grouped (house1401 a.digits) deck a.all a.is

-- ---- what `statement` leaves

-- of the cards to come: none starts a statement, or one does, and then those that are passed leave the others
data Held (cards : List (List ℕ)) : Type 0 where
  none : grouped cards ≡ [] → Held cards
  one : (p : Punched) → grouped cards ≡ p ∷ grouped (drop (passed cards) cards) → 1 ≤ passed cards → passed cards ≤ length cards → Held cards

held : (cards : List (List ℕ)) → Held cards
unfolding passed
held cards = go (drop (skipped cards) cards) refl
  where
    go : (l : List (List ℕ)) → drop (skipped cards) cards ≡ l → Held cards
    go [] e = none (group_skip cards ∙ ap grouped e)
    go (card ∷ more) e =
        let s = suc (skipped cards) in
        let m : drop s cards ≡ more = ap (λ (k : ℕ). drop k cards) (sym (add-one (skipped cards))) ∙ sym (drop-drop 1 (skipped cards) cards) ∙ ap (drop 1) e in
        let p : Punched = record { number = number_of card; raw = text_columns card ++ following more } in
        let g : grouped cards ≡ p ∷ grouped more = group_skip cards ∙ ap grouped e ∙ group_first card more (skip_stops cards card more e) in
        let r : grouped more ≡ grouped (drop (s + skipped (drop s cards)) cards) = sym (ap grouped m) ∙ group_skip (drop s cards) ∙ ap grouped (drop-drop (skipped (drop s cards)) s cards) in
        let l = ap (length {A = List ℕ}) e in
        let w : s + skipped (drop s cards) ≤ length cards = omega (arith, skipped_within (drop s cards), length-drop s cards, length-drop (skipped cards) cards) in
        one p (g ∙ ap (λ (ps : List Punched). p ∷ ps) r) (omega arith) w

-- by what is put of a statement, of which a table of 660 bytes has room
module _ (content : Punched → List ℕ) where
  pub record Going (deck : List ℕ) (card : ℕ) (table table' : List ℕ) (number : Number) (n next : ℕ) : Type 0 where
    pub taken : Punched
    pub others : grouped (drop card (cards_of deck)) ≡ taken ∷ grouped (drop next (cards_of deck))
    pub number_is : taken.number ≡ number.0
    pub length_is : n ≡ length (content taken)
    pub short : n ≤ 660
    pub put : table' ≡ over 0 (content taken) table
    pub stands : length table ≡ 660 → take n table' ≡ content taken
    pub further : card < next
    pub passes : card + passed (drop card (cards_of deck)) ≡ next
    pub within : next ≤ length (cards_of deck)

  going : {deck : List ℕ} {card : ℕ} {table table' : List ℕ} {r : Option Taken} {t : Taken} → ((k : ℕ) (p : Punched) → RightStatement (house1401 k) p → length (content p) ≤ 660)
      → Accepted deck → Takes content deck card table table' r → r ≡ Some t → Going deck card table table' t.number t.length t.next
  going {deck} {card} {table} {table'} {r} {t} room a s f = go (held (drop card cards))
    where
      cards : List (List ℕ)
      cards = cards_of deck

      go : Held (drop card cards) → Going deck card table table' t.number t.length t.next
      go (none e) =
          let z : Some t ≡ None = sym f ∙ s.says ∙ ap (λ (ps : List Punched). first_of content ps (card + passed (drop card cards))) e in
          let y : ◌≡◌ {A = ℕ} 0 1 = cc in
          absurd (omega arith)
      go (one p e l w) =
          let z : Some t ≡ Some (record { number = record { 0 = p.number }; length = length (content p); next = card + passed (drop card cards) }) = sym f ∙ s.says ∙ ap (λ (ps : List Punched). first_of content ps (card + passed (drop card cards))) e in
          let u : t ≡ record { number = record { 0 = p.number }; length = length (content p); next = card + passed (drop card cards) } = cc in
          let m = ap (λ (x : Taken). x.length) u in
          let k = sym (ap (λ (x : Taken). x.next) u) in
          let fine = room a.digits p (each_head (subst (Each (RightStatement (house1401 a.digits))) e (each_from card cards (all_right deck a)))) in
          let o : table' ≡ over 0 (content p) table = s.put ∙ ap (λ (ps : List Punched). over 0 (first_content content ps) table) e in
          record {
            taken = p;
            others = e ∙ ap (λ (l : List (List ℕ)). p ∷ grouped l) (drop-drop (passed (drop card cards)) card cards ∙ ap (λ (i : ℕ). drop i cards) k);
            number_is = sym (ap (λ (x : Taken). x.number.0) u);
            length_is = m;
            short = omega (arith, fine);
            put = o;
            stands = λ full.
                let q : length (content p) ≤ length table = omega (arith, fine) in
                ap (λ (i : ℕ). take i table') m ∙ ap (take (length (content p))) o ∙ over_stands (content p) table q;
            further = omega arith;
            passes = k;
            within = omega (arith, length-drop card cards);
          }

  none_taken : {deck : List ℕ} {card : ℕ} {table table' : List ℕ} {r : Option Taken} → Takes content deck card table table' r → r ≡ None → (grouped (drop card (cards_of deck)) ≡ []) × (table' ≡ table)
  unfolding over
  none_taken {deck} {card} {table} {table'} t f = go (grouped (drop card (cards_of deck))) (sym f ∙ t.says) t.put
    where
      go : (ps : List Punched) → None ≡ first_of content ps (card + passed (drop card (cards_of deck))) → table' ≡ over 0 (first_content content ps) table → (ps ≡ []) × (table' ≡ table)
      go [] e o = (refl, o)
      go (p ∷ ps) e o = let z : ◌≡◌ {A = ℕ} 0 1 = cc in absurd (omega arith)

abbrev pub Onward : List ℕ → ℕ → List ℕ → List ℕ → Number → ℕ → ℕ → Type 0
Onward = Going punched_text

pub onward : {deck : List ℕ} {card : ℕ} {text text' : List ℕ} {r : Option Taken} {t : Taken} → Accepted deck → Takes punched_text deck card text text' r
    → r ≡ Some t → Onward deck card text text' t.number t.length t.next
onward a s f = going punched_text (λ k p r. r.text_short) a s f

pub ended : {deck : List ℕ} {card : ℕ} {text text' : List ℕ} {r : Option Taken} → Takes punched_text deck card text text' r → r ≡ None → (grouped (drop card (cards_of deck)) ≡ []) × (text' ≡ text)
ended t f = none_taken punched_text t f

-- ---- from what is punched to its text

module _ {deck : List ℕ} {card : ℕ} {raw raw' : List ℕ} {r : Option Taken} (s : Takes punched_raw deck card raw raw' r) where
  pub text_ended : (text : List ℕ) → r ≡ None → Takes punched_text deck card text text None
  text_ended text f =
      let e = (none_taken punched_raw s f).0 in
      record {
        says = sym (ap (λ (ps : List Punched). first_of punched_text ps (card + passed (drop card (cards_of deck)))) e);
        put = sym (ap (λ (ps : List Punched). over 0 (first_content punched_text ps) text) e ∙ over_none 0 text);
      }

  module _ {t : Taken} (a : Accepted deck) (f : r ≡ Some t) where
    pub raw_going : Going punched_raw deck card raw raw' t.number t.length t.next
    raw_going = going punched_raw (λ k p q. q.raw_short) a s f

    -- the table stays as long as it is
    pub raw_long : length raw ≡ 660 → length raw' ≡ 660
    unfolding over
    raw_long full = ap (length {A = ℕ}) raw_going.put ∙ length-sets raw 0 raw_going.taken.raw ∙ full

    pub raw_short : length (take t.length raw') ≤ 660
    raw_short = omega (arith, length-take t.length raw', raw_going.short)

    pub text_taken : {text text' : List ℕ} {m : ℕ} → length raw ≡ 660 → Put (text_of (take t.length raw')) text text' m → Takes punched_text deck card text text' (Some (record { number = t.number; length = m; next = t.next }))
    text_taken {text} {text'} {m} full w =
        let g = raw_going in
        let same : text_of (take t.length raw') ≡ text_of g.taken.raw = ap text_of (g.stands full) in
        let first : grouped (drop card (cards_of deck)) ≡ g.taken ∷ grouped (drop t.next (cards_of deck)) = g.others in
        record {
          says =
              (λ i. Some (record { number = record { 0 = sym g.number_is i }; length = (w.count ∙ ap length same) i; next = sym g.passes i }))
              ∙ sym (ap (λ (ps : List Punched). first_of punched_text ps (card + passed (drop card (cards_of deck)))) first);
          put = w.put ∙ ap (λ (x : List ℕ). over 0 x text) same ∙ sym (ap (λ (ps : List Punched). over 0 (first_content punched_text ps) text) first);
        }
