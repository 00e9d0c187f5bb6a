-- Cards and lines from one call to the next: what a run leaves of them is what the rest of the bytes lent is read as, and the lines of both stand one below the other.
-- Assumes nothing.
use mathlib.Core.Path.{◌≡◌, refl, sym, ap, ap₂, subst, ◌∙◌}
use mathlib.Core.List.{List, [], ◌∷◌, ◌++◌, append_assoc}
use Prim.Native.Nat.{ℕ, zero, suc, ◌+◌, ◌-◌, ◌*◌, ◌/◌, ◌≤◌}
use native.Mathlib.Omega.{arith}
use lib.ListN.{length, take, drop, length-append, length-drop}
use lib.Seq.{take_at, drop_at, drop-drop}
use Rattle.rules_formats.specs.Walk.{Columns, card_width, line_width, Paper, Devices, with_cards, with_paper, cards_from, cards_of, room_of, Trays, devices_of, joined_lines, lines_after}
use Rattle.rules_formats.proofs.Lengths.{Wide, Printed, LastOf, last_count, cards_lent}

-- ---- devices of which some was used

-- the cards are the last of those lent; the lines so far and the room left are the room lent
pub record Used (trays : Trays) (d : Devices) : Type 0 where
  pub cards : LastOf (cards_of trays.cards) d.cards
  pub wide : Wide line_width d.paper.lines
  pub room : length d.paper.lines + d.paper.room ≡ room_of trays.lines

pub used_none : (trays : Trays) → Used trays (devices_of trays)
unfolding devices_of
used_none trays = record { cards = record { gone = []; those = refl }; wide = tt; room = omega arith }

pub used_cards : {trays : Trays} {d : Devices} {cs : List Columns} → Used trays d → LastOf d.cards cs → Used trays (with_cards cs d)
used_cards {d = d} {cs = cs} u l =
    record {
      cards = record { gone = u.cards.gone ++ l.gone; those = append_assoc u.cards.gone l.gone cs ∙ ap (λ (x : List Columns). u.cards.gone ++ x) l.those ∙ u.cards.those };
      wide = u.wide;
      room = u.room;
    }

wide_append : (n : ℕ) (ls ms : List Columns) → Wide n ls → Wide n ms → Wide n (ls ++ ms)
wide_append n [] ms h g = g
wide_append n (l ∷ ls) ms h g = (h.0, wide_append n ls ms h.1 g)

pub used_paper : {trays : Trays} {d : Devices} {p : Paper} → Used trays d → Printed d.paper p → Used trays (with_paper p d)
used_paper {d = d} {p = p} u q =
    let n : length p.lines ≡ length d.paper.lines + length q.new = ap (λ (x : List Columns). length x) q.lines ∙ length-append d.paper.lines q.new in
    let r₁ = u.room in
    let r₂ = q.room in
    record { cards = u.cards; wide = subst (Wide line_width) (sym q.lines) (wide_append line_width d.paper.lines q.new u.wide q.wide); room = omega arith }

-- ---- the rest of what was lent

cards_from_drop : (k n : ℕ) (bytes : List ℕ) → cards_from n (drop (card_width * k) bytes) ≡ drop k (cards_from (k + n) bytes)
cards_from_drop zero n bytes = let e : zero + n ≡ n = omega arith in sym (ap (λ (m : ℕ). cards_from m bytes) e)
cards_from_drop (suc k) n bytes =
    let e : card_width * suc k ≡ card_width + card_width * k = omega arith in
    let f : suc k + n ≡ suc (k + n) = omega arith in
    ap (λ (m : ℕ). cards_from n (drop m bytes)) e ∙ ap (cards_from n) (sym (drop-drop (card_width * k) card_width bytes)) ∙ cards_from_drop k n (drop card_width bytes)
    ∙ sym (ap (λ (m : ℕ). drop (suc k) (cards_from m bytes)) f)

-- the bytes after so many cards are the cards after them
cards_drop : (k : ℕ) (bytes : List ℕ) → k ≤ length (cards_of bytes) → cards_of (drop (card_width * k) bytes) ≡ drop k (cards_of bytes)
unfolding cards_of
cards_drop k bytes h =
    let whole : length (cards_of bytes) ≡ length bytes / 80 = (cards_lent bytes).1 in
    let left = length-drop (card_width * k) bytes in
    let n = length (drop (card_width * k) bytes) / card_width in
    let e : k + n ≡ length bytes / card_width = omega arith in
    cards_from_drop k n bytes ∙ ap (λ (m : ℕ). drop k (cards_from m bytes)) e

joined_append : (ls ms : List Columns) → joined_lines (ls ++ ms) ≡ joined_lines ls ++ joined_lines ms
joined_append [] ms = refl
joined_append (l ∷ ls) ms = ap (λ (x : List ℕ). l ++ x) (joined_append ls ms) ∙ sym (append_assoc l (joined_lines ls) (joined_lines ms))

joined_length : (ls : List Columns) → Wide line_width ls → length (joined_lines ls) ≡ line_width * length ls
joined_length [] h = refl
joined_length (l ∷ ls) h = let e = h.0 in omega (arith, length-append l (joined_lines ls), joined_length ls h.1)

module _ (ls : List Columns) (wide : Wide line_width ls) (lent : List ℕ) where
  lines_first : take (line_width * length ls) (lines_after ls lent) ≡ joined_lines ls
  unfolding lines_after
  lines_first = take_at (joined_lines ls) (drop (line_width * length ls) lent) (line_width * length ls) (joined_length ls wide)

  pub lines_rest : drop (line_width * length ls) (lines_after ls lent) ≡ drop (line_width * length ls) lent
  unfolding lines_after
  lines_rest = drop_at (joined_lines ls) (drop (line_width * length ls) lent) (line_width * length ls) (joined_length ls wide)

  -- there being room for them
  pub lines_long : line_width * length ls ≤ length lent → length (lines_after ls lent) ≡ length lent
  unfolding lines_after
  lines_long h =
      omega (arith, length-append (joined_lines ls) (drop (line_width * length ls) lent), joined_length ls wide, length-drop (line_width * length ls) lent)

  -- lines written by two calls, the second into the rest
  pub lines_both : (ms : List Columns) → lines_after (ls ++ ms) lent ≡ take (line_width * length ls) (lines_after ls lent) ++ lines_after ms (drop (line_width * length ls) (lines_after ls lent))
  unfolding lines_after
  lines_both ms =
      let n : line_width * length (ls ++ ms) ≡ line_width * length ls + line_width * length ms = omega (arith, length-append ls ms) in
      ap₂ (λ (x y : List ℕ). x ++ y) (joined_append ls ms) (ap (λ (m : ℕ). drop m lent) n ∙ sym (drop-drop (line_width * length ms) (line_width * length ls) lent))
      ∙ append_assoc (joined_lines ls) (joined_lines ms) _
      ∙ sym (ap₂ (λ (x y : List ℕ). x ++ (joined_lines ms ++ drop (line_width * length ms) y)) lines_first lines_rest)

-- what is left of the bytes, told the devices
abbrev pub left : Trays → Devices → Trays
left trays d =
    record {
      cards = drop (card_width * (length (cards_of trays.cards) - length d.cards)) trays.cards;
      lines = drop (line_width * length d.paper.lines) (lines_after d.paper.lines trays.lines);
    }

-- the devices, with none of the lines so far
abbrev pub anew : Devices → Devices
anew d = record { cards = d.cards; paper = record { lines = []; room = d.paper.room } }

pub resumed : (trays : Trays) (d : Devices) → Used trays d → devices_of (left trays d) ≡ anew d
unfolding devices_of room_of
resumed trays d u = ap₂ (λ (cs : List Columns) (n : ℕ). record { cards = cs; paper = record { lines = []; room = n } }) cards room
  where
    cards : cards_of (left trays d).cards ≡ d.cards
    cards =
        let lent = cards_of trays.cards in
        let k = length lent - length d.cards in
        let l = u.cards in
        let n : length l.gone ≡ k = omega (arith, last_count l) in
        cards_drop k trays.cards (omega arith) ∙ ap (drop k) (sym l.those) ∙ drop_at l.gone d.cards k n

    room : room_of (left trays d).lines ≡ d.paper.room
    room =
        let ls = d.paper.lines in
        let n : length (drop (line_width * length ls) trays.lines) / line_width ≡ d.paper.room = omega (arith, u.room, length-drop (line_width * length ls) trays.lines) in
        ap (λ (x : List ℕ). length x / line_width) (lines_rest ls u.wide trays.lines) ∙ n
