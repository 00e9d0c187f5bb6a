-- What the code asks of an element's entry, and the place that it finds.
-- Assumes nothing.
use Rattle.std.specs.Prelude.{List, ℕ, ◌+◌, ◌*◌, ◌^◌, ◌≤◌, ◌<◌, length, ℤ, nat_abs}
use Rattle.rules_object.specs.Object.{SubscriptEntry}
use Rattle.rules_object.specs.Machine.{cell}
use Rattle.rules_object.specs.Bytes.{signed_of}
use Rattle.object_words.specs.Word.{word_at}

-- a cell of the store, and its number below 2 ^ 31
pub record Cell (so : List ℤ) (a : ℕ) : Type 0 where
  pub inside : a < length so
  pub small : nat_abs (cell so a) < 2 ^ 31

-- a subscript at byte b: multiplier, cell, addend
abbrev pub subscript_at : List ℕ → ℕ → SubscriptEntry
subscript_at s b = record { times = word_at s b; cell = word_at s (b + 4); plus = signed_of (word_at s (b + 8)) }

pub record SubscriptIn (s : List ℕ) (b : ℕ) (so : List ℤ) : Type 0 where
  pub whole : b + 12 ≤ length s
  pub times : word_at s b < 2 ^ 31
  pub at : Cell so (word_at s (b + 4))
  pub plus : nat_abs (signed_of (word_at s (b + 8))) < 2 ^ 31

-- the entry of an element at byte b
pub record ElementIn (s : List ℕ) (b : ℕ) (so : List ℤ) : Type 0 where
  pub whole : b + 36 ≤ length s
  pub first : SubscriptIn s (b + 12) so
  pub second : SubscriptIn s (b + 24) so
  pub span : word_at s b + word_at s (b + 4) * word_at s (b + 8) ≤ length so
  pub few : word_at s (b + 4) * word_at s (b + 8) ≤ 4096
