-- PRINT and READ: a FORMAT's fields walked with a list of items, over any store. 02 and 004.
-- A line is the record as built: column 1, where 004 has the carriage's character, is a column like another. The first trouble stops the statement.
-- Assumes nothing.
use Rattle.std.specs.Prelude.{ℕ, zero, suc, ◌+◌, ◌-◌, ◌*◌, ◌/◌, Bool, true, false, List, [], ◌∷◌, ◌++◌, leb, length, replicate, take, drop, ℤ}
use Rattle.std.proofs.Math.Option.{Option, none, some}
use Rattle.rules_formats.specs.Format.{Field, I, X, H, new_record, Flat, new_scan}
use Rattle.rules_formats.specs.Fields.{blank, printed, field_read}

-- ---- what stops a statement

pub data Trouble : Type 0 where
  bad_subscript ran_out bad_field : Trouble

unfoldable pub trouble_number : Trouble → ℕ
trouble_number bad_subscript = 4
trouble_number ran_out = 9
trouble_number bad_field = 10

-- all went well, or the first trouble
pub data Outcome (A : Type 0) : Type 0 where
  fine : A → Outcome A
  trouble : Trouble → Outcome A

abbrev pub then : {A B : Type 0} → Outcome A → (A → Outcome B) → Outcome B
then (fine a) f = f a
then (trouble t) f = trouble t

-- with the value, where there is one
abbrev pub given : {A B : Type 0} → Trouble → Option A → (A → Outcome B) → Outcome B
given t none f = trouble t
given t (some a) f = f a

-- so, where the test passes
abbrev pub provided : {B : Type 0} → Trouble → Bool → Outcome B → Outcome B
provided t false o = trouble t
provided t true o = o

-- a line or a card: its columns in order
abbrev pub Columns : Type 0
Columns = List ℕ

-- ---- PRINT

abbrev pub line_width : ℕ
line_width = 132

-- so many more columns do not pass the line's last
abbrev pub room_on : Columns → ℕ → Bool
room_on line n = leb (length line + n) line_width

-- a line as put out: blank to its end
abbrev pub whole : Columns → Columns
whole line = line ++ replicate (line_width - length line) blank

-- a line goes above those that follow, where there is room for it
abbrev pub put_out : ℕ → Columns → Outcome (List Columns) → Outcome (List Columns)
put_out zero line below = trouble ran_out
put_out (suc room) line below = then below (λ ls. fine (whole line ∷ ls))

module _ {S Item : Type 0} (get : S → Item → Option ℤ) (scan : List Field) (store : S) where
  -- The fields of one line, filled so far as `line`. H, X and slashes are done with or without items; an I with none left, or the end with none left,
  -- is the last; the end with items left begins a new scan on the next line.
  abbrev pub on_line : ℕ → (List Field → List Item → Outcome (List Columns)) → List Field → List Item → Columns → Outcome (List Columns)
  on_line room next [] [] line = put_out room line (fine [])
  on_line room next [] (i ∷ is) line = put_out room line (next scan (i ∷ is))
  on_line room next (I w ∷ fs) [] line = put_out room line (fine [])
  on_line room next (I w ∷ fs) (i ∷ is) line =
      given bad_subscript (get store i) (λ v. provided bad_field (room_on line w) (on_line room next fs is (line ++ printed w v)))
  on_line room next (X n ∷ fs) is line = provided bad_field (room_on line n) (on_line room next fs is (line ++ replicate n blank))
  on_line room next (H c ∷ fs) is line = provided bad_field (room_on line 1) (on_line room next fs is (line ++ (c ∷ [])))
  on_line room next (new_record ∷ fs) is line = put_out room line (next fs is)

  -- the lines put out from an empty one on, with room for so many
  abbrev pub lines : ℕ → List Field → List Item → Outcome (List Columns)
  lines zero fs is = on_line zero (λ gs js. trouble ran_out) fs is []
  lines (suc room) fs is = on_line (suc room) (lines room) fs is []

-- the lines so far, and the room for more
pub record Paper : Type 0 where
  pub lines : List Columns
  pub room : ℕ

abbrev pub below : Paper → List Columns → Paper
below p ls = record { lines = p.lines ++ ls; room = p.room - length ls }

unfoldable pub prints : {S Item : Type 0} → (S → Item → Option ℤ) → Flat → List Item → S → Paper → Outcome Paper
prints get f is s p = then (lines get (new_scan f) s p.room f.fields is) (λ ls. fine (below p ls))

-- ---- READ

-- the store, and the cards not yet taken
pub record Taken (S : Type 0) : Type 0 where
  pub store : S
  pub cards : List Columns

abbrev pub taken : {S : Type 0} → S → List Columns → Taken S
taken s cards = record { store = s; cards = cards }

module _ {S Item : Type 0} (ceiling : ℕ) (get : S → Item → Option ℤ) (set : S → Item → ℤ → Option S) (scan : List Field) where
  -- The fields of one card, of which `columns` are left; `cards` are those after it. In the order of PRINT: H and X pass columns over.
  abbrev pub on_card : List Columns → (List Field → List Item → S → Outcome (Taken S)) → List Field → List Item → S → Columns → Outcome (Taken S)
  on_card cards next [] [] s columns = fine (taken s cards)
  on_card cards next [] (i ∷ is) s columns = next scan (i ∷ is) s
  on_card cards next (I w ∷ fs) [] s columns = fine (taken s cards)
  on_card cards next (I w ∷ fs) (i ∷ is) s columns =
      given bad_subscript (get s i) (λ old.
      provided bad_field (leb w (length columns)) (
      given bad_field (field_read ceiling (take w columns)) (λ v. given bad_subscript (set s i v) (λ t. on_card cards next fs is t (drop w columns)))))
  on_card cards next (X n ∷ fs) is s columns = provided bad_field (leb n (length columns)) (on_card cards next fs is s (drop n columns))
  on_card cards next (H c ∷ fs) is s columns = provided bad_field (leb 1 (length columns)) (on_card cards next fs is s (drop 1 columns))
  on_card cards next (new_record ∷ fs) is s columns = next fs is s

  -- a card is taken and its fields are read
  abbrev pub cards : List Columns → List Field → List Item → S → Outcome (Taken S)
  cards [] fs is s = trouble ran_out
  cards (c ∷ cs) fs is s = on_card cs (cards cs) fs is s c

unfoldable pub reads : {S Item : Type 0} → ℕ → (S → Item → Option ℤ) → (S → Item → ℤ → Option S) → Flat → List Item → S → List Columns → Outcome (Taken S)
reads ceiling get set f is s cs = cards ceiling get set (new_scan f) cs f.fields is s

-- ---- both

-- the cards not yet taken, and the paper
pub record Devices : Type 0 where
  pub cards : List Columns
  pub paper : Paper

abbrev pub with_cards : List Columns → Devices → Devices
with_cards cards d = record { cards = cards; paper = d.paper }

abbrev pub with_paper : Paper → Devices → Devices
with_paper paper d = record { cards = d.cards; paper = paper }

-- ---- what is lent, as bytes

abbrev pub card_width : ℕ
card_width = 80

abbrev pub cards_from : ℕ → List ℕ → List Columns
cards_from zero bytes = []
cards_from (suc n) bytes = take card_width bytes ∷ cards_from n (drop card_width bytes)

-- every whole 80 are a card, every whole 132 of the room a line; what is left over is none
unfoldable pub cards_of : List ℕ → List Columns
cards_of bytes = cards_from (length bytes / card_width) bytes

unfoldable pub room_of : List ℕ → ℕ
room_of bytes = length bytes / line_width

-- what is lent for cards and lines
pub record Trays : Type 0 where
  pub cards : List ℕ
  pub lines : List ℕ

-- no card, and no room for a line
abbrev pub no_trays : Trays
no_trays = record { cards = []; lines = [] }

-- nothing printed yet
unfoldable pub devices_of : Trays → Devices
devices_of t = record { cards = cards_of t.cards; paper = record { lines = []; room = room_of t.lines } }

abbrev pub joined_lines : List Columns → List ℕ
joined_lines [] = []
joined_lines (l ∷ ls) = l ++ joined_lines ls

-- the lines written stand first; bytes of lines not written stay
unfoldable pub lines_after : List Columns → List ℕ → List ℕ
lines_after ls lent = joined_lines ls ++ drop (line_width * length ls) lent
