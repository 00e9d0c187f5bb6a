-- DOs to come have no hidden cells yet.
-- Assumes nothing.
use Rattle.std.specs.Prelude.{◌≡◌, false, ℕ, ◌≤◌}
use Rattle.rules_deck.specs.Translation.{is_hidden, holds}
use Rattle.take_draft.specs.Draft.{Draft}

-- no DO at position q or later has hidden cells yet
abbrev pub Fresh : ℕ → Draft → Type 0
Fresh q D = (p : ℕ) → q ≤ p → holds (is_hidden p) D.held ≡ false
