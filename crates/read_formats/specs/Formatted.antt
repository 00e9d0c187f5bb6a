-- What reading a FORMAT's columns answers: that they are none (17), that its words do not fit (18), or its words.
-- Assumes nothing.
use Rattle.std.specs.Prelude.{◌≡◌, Bool, Result, Ok, Err, List, ◌++◌, ℕ, ◌+◌, ◌≤◌, ◌<◌, length, take}
use Rattle.std.proofs.Math.Option.{Option, none, some}
use Rattle.rules_formats.specs.Format.{Format, flat, has_number}
use Rattle.rules_formats.specs.Words.{most_words, format_words}
use Rattle.read_formats.specs.declared.Words.{Words}
use Rattle.read_formats.specs.declared.FormatError.{FormatError}
use Rattle.read_formats.specs.declared.FormatError.TheVariants.{Bad, Full}

-- its words, the end word too, stand after those that stood, which stay
pub record Stored (before after : List ℕ) (top : ℕ) (f : Format) (r : ℕ) (n : Bool) : Type 0 where
  pub fits : r ≤ most_words
  pub count : r ≡ top + length (format_words top (flat f))
  pub stand : take r after ≡ take top before ++ format_words top (flat f)
  pub numbers : n ≡ has_number f

-- whatever the room, columns that are no FORMAT are told so
abbrev pub FormattedSo : List ℕ → List ℕ → ℕ → Option Format → Result Words FormatError → Type 0
FormattedSo a b top o (Err Bad) = o ≡ none
FormattedSo a b top none (Err Full) = ⊥
FormattedSo a b top (some f) (Err Full) = most_words < top + length (format_words top (flat f))
FormattedSo a b top none (Ok w) = ⊥
FormattedSo a b top (some f) (Ok w) = Stored a b top f w.top w.numbers

pub record Formatted (before after : List ℕ) (top : ℕ) (o : Option Format) (r : Result Words FormatError) : Type 0 where
  pub so : FormattedSo before after top o r
