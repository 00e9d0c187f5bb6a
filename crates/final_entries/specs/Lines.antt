-- The words of a statement's line, by its kind.
-- Assumes nothing.
use Rattle.std.specs.Prelude.{ℕ, cond, List, [], ◌∷◌, eqb}

-- a DIMENSION has none
abbrev pub line_of : ℕ → ℕ → ℕ → ℕ → List ℕ
line_of kind sequence number address = cond (eqb kind 8) [] (sequence ∷ number ∷ address ∷ [])
