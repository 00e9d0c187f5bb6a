-- The cards and the paper as code has them: the bytes that are lent, and how many cards are taken and lines are written.
-- Assumes nothing.
use Rattle.std.specs.Prelude.{List, [], ◌∷◌, ℕ, zero, suc, ◌-◌, ◌*◌, ◌≤◌, ◌≡◌, length, take, drop}
use Rattle.rules_formats.specs.Walk.{Columns, line_width, Paper, Devices, cards_of, room_of, Trays}

abbrev pub trays_of : List ℕ → List ℕ → Trays
trays_of cards lines = record { cards = cards; lines = lines }

abbrev pub lines_from : ℕ → List ℕ → List Columns
lines_from zero bytes = []
lines_from (suc n) bytes = take line_width bytes ∷ lines_from n (drop line_width bytes)

-- the lines written, and the room that is left
unfoldable pub paper_of : ℕ → List ℕ → Paper
paper_of written lines = record { lines = lines_from written lines; room = room_of lines - written }

unfoldable pub devices_in : List ℕ → ℕ → List ℕ → ℕ → Devices
devices_in cards taken lines written = record { cards = drop taken (cards_of cards); paper = paper_of written lines }

-- No more cards are taken than there are, no more lines written than have room; and of what was lent for lines, what follows those written is as it was.
pub record Counted (trays : Trays) (taken : ℕ) (lines : List ℕ) (written : ℕ) : Type 0 where
  pub cards : taken ≤ length (cards_of trays.cards)
  pub room : written ≤ room_of lines
  pub long : length lines ≡ length trays.lines
  pub rest : drop (line_width * written) lines ≡ drop (line_width * written) trays.lines
