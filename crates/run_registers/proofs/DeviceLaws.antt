-- The lent bytes with their counts, and the book's devices: as a run begins, goes on and ends.
-- Assumes nothing.
use mathlib.Core.Path.{◌≡◌, refl, sym, ap, ◌∙◌}
use mathlib.Core.List.{List, [], ◌++◌, append_assoc}
use Prim.Native.Nat.{ℕ, zero, suc, ◌+◌, ◌-◌, ◌*◌, ◌≤◌}
use native.Mathlib.Omega.{arith}
use lib.ListN.{length, take, drop, length-drop, take-append-drop}
use lib.Seq.{drop-drop}
use Rattle.rules_formats.specs.Walk.{line_width, cards_of, room_of, Trays, devices_of, joined_lines, lines_after}
use Rattle.run_registers.specs.Devices.{trays_of, lines_from, paper_of, devices_in, Counted}

-- ---- as a run begins

pub devices_begin : (trays : Trays) → devices_in trays.cards 0 trays.lines 0 ≡ devices_of trays
unfolding devices_in paper_of devices_of
devices_begin trays = let e : room_of trays.lines - 0 ≡ room_of trays.lines = omega arith in ap (λ n. record { cards = cards_of trays.cards; paper = record { lines = []; room = n } }) e

pub counted_begin : (trays : Trays) → Counted trays 0 trays.lines 0
counted_begin trays = record { cards = omega arith; room = omega arith; long = refl; rest = refl }

-- ---- as it goes on

-- what follows so many lines is what follows fewer, but for those between
rest_later : (a b : List ℕ) (n m : ℕ) → n ≤ m → drop (line_width * n) a ≡ drop (line_width * n) b → drop (line_width * m) a ≡ drop (line_width * m) b
rest_later a b n m l q =
    let e : line_width * n + line_width * (m - n) ≡ line_width * m = omega arith in
    ap (λ i. drop i a) (sym e) ∙ sym (drop-drop (line_width * (m - n)) (line_width * n) a) ∙ ap (drop (line_width * (m - n))) q ∙ drop-drop (line_width * (m - n)) (line_width * n) b ∙ ap (λ i. drop i b) e

pub counted_on : (trays : Trays) (taken : ℕ) (lines : List ℕ) (written : ℕ) → Counted trays taken lines written
    → (taken' : ℕ) (lines' : List ℕ) (written' : ℕ) → Counted (trays_of trays.cards lines) taken' lines' written' → written ≤ written'
    → Counted trays taken' lines' written'
counted_on trays taken lines written c taken' lines' written' m l =
    record { cards = m.cards; room = m.room; long = m.long ∙ c.long; rest = m.rest ∙ rest_later lines trays.lines written written' l c.rest }

-- ---- as it ends

pub lines_count : (n : ℕ) (bytes : List ℕ) → length (lines_from n bytes) ≡ n
lines_count zero bytes = refl
lines_count (suc n) bytes = ap suc (lines_count n (drop line_width bytes))

-- the lines written one after the other are the bytes that they stand in
joined_rest : (n : ℕ) (bytes : List ℕ) → joined_lines (lines_from n bytes) ++ drop (line_width * n) bytes ≡ bytes
joined_rest zero bytes = refl
joined_rest (suc n) bytes =
    let e : line_width * suc n ≡ line_width + line_width * n = omega arith in
    append_assoc (take line_width bytes) (joined_lines (lines_from n (drop line_width bytes))) (drop (line_width * suc n) bytes)
    ∙ ap (λ m. take line_width bytes ++ (joined_lines (lines_from n (drop line_width bytes)) ++ drop m bytes)) e
    ∙ ap (λ l. take line_width bytes ++ (joined_lines (lines_from n (drop line_width bytes)) ++ l)) (sym (drop-drop (line_width * n) line_width bytes))
    ∙ ap (λ l. take line_width bytes ++ l) (joined_rest n (drop line_width bytes))
    ∙ take-append-drop line_width bytes

module _ (trays : Trays) (taken : ℕ) (lines : List ℕ) (written : ℕ) (c : Counted trays taken lines written) where
  pub cards_taken : length (cards_of trays.cards) - length (devices_in trays.cards taken lines written).cards ≡ taken
  unfolding devices_in
  cards_taken = omega (arith, length-drop taken (cards_of trays.cards), c.cards)

  pub lines_written : length (devices_in trays.cards taken lines written).paper.lines ≡ written
  unfolding devices_in paper_of
  lines_written = lines_count written lines

  pub lines_after_lem : lines_after (devices_in trays.cards taken lines written).paper.lines trays.lines ≡ lines
  unfolding devices_in paper_of lines_after
  lines_after_lem =
      ap (λ n. joined_lines (lines_from written lines) ++ drop (line_width * n) trays.lines) (lines_count written lines)
      ∙ ap (λ l. joined_lines (lines_from written lines) ++ l) (sym c.rest)
      ∙ joined_rest written lines
