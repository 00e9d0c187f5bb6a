-- Tables of numbers and of places, entry by entry, and the words that they are made from.
-- Assumes nothing.
use Rattle.std.specs.Prelude.{◌≡◌, ℕ, suc, ◌*◌, ◌^◌, ◌≤◌, ◌<◌, List, length, get_or}
use Rattle.rules_shared.specs.Limits.{limits}
use Rattle.read_cards.specs.declared.Number.{Number}
use Rattle.read_cards.specs.declared.Sequence.{Sequence}
use Rattle.whole_tables.specs.declared.DoRange.{DoRange}
use Rattle.whole_tables.specs.Rows.{number_at, do_index, last_index}

-- the statement number at an index
abbrev pub number_in : List Number → ℕ → ℕ
number_in table i = (get_or table i (record { 0 = 0 })).0

-- the sequence number at an index
abbrev pub place_in : List Sequence → ℕ → ℕ
place_in table i = (get_or table i (record { 0 = 0 })).0

-- a DO's sequence number, and its last statement's
abbrev pub do_at : List DoRange → ℕ → ℕ
do_at loops i = (get_or loops i (record { first = record { 0 = 0 }; last = record { 0 = 0 } })).first.0

abbrev pub last_at : List DoRange → ℕ → ℕ
last_at loops i = (get_or loops i (record { first = record { 0 = 0 }; last = record { 0 = 0 } })).last.0

-- ---- statement numbers

pub record RowsFit (rows : List ℕ) (count : ℕ) : Type 0 where
  pub few : count ≤ limits.statements
  pub long : 5 * count ≤ length rows
  pub low : (q : ℕ) → q < count → number_at rows q < 2 ^ 32

pub record NumbersOf (rows : List ℕ) (count : ℕ) (table : List Number) : Type 0 where
  pub counted : length table ≡ count
  pub are : (q : ℕ) → q < count → number_in table q ≡ number_at rows q

pub record Wanted (words : List ℕ) (many : ℕ) (table : List Number) : Type 0 where
  pub counted : length table ≡ many
  pub are : (k : ℕ) → k < many → number_in table k ≡ get_or words k 0

-- ---- DOs

pub record LoopsFit (words : List ℕ) (dos : ℕ) : Type 0 where
  pub few : dos ≤ limits.dos
  pub long : 2 * dos ≤ length words
  pub starts : (i : ℕ) → i < dos → do_index words i < limits.statements
  pub lasts : (i : ℕ) → i < dos → last_index words i < 1424

pub record LoopsOf (words : List ℕ) (dos : ℕ) (places : List Sequence) (table : List DoRange) : Type 0 where
  pub counted : length table ≡ dos
  pub starts : (i : ℕ) → i < dos → do_at table i ≡ suc (do_index words i)
  pub lasts : (i : ℕ) → i < dos → last_at table i ≡ place_in places (last_index words i)
