-- The words that a statement of an accepted deck gets.
-- Assumes nothing.
use Rattle.std.specs.Prelude.{ℕ, ◌+◌, ◌*◌, ◌^◌, ◌≤◌, ◌<◌, cond, List, [], ◌∷◌, map, eqb, length, get_or}

-- each of a statement's jumps leads to an address
pub record Aimed (jumps starts : List ℕ) : Type 0 where
  pub inside : (m : ℕ) → m < length jumps → get_or jumps m 0 < length starts
  pub small : (m : ℕ) → m < length jumps → get_or starts (get_or jumps m 0) 0 ≤ 4096

-- operation 11
abbrev pub go_word : ℕ → ℕ
go_word address = 11 * 2 ^ 24 + address

-- a GO TO gets its target's address, every other statement's words are as drafted
abbrev pub own_words : (kind : ℕ) (draft jumps starts : List ℕ) → List ℕ
own_words kind draft jumps starts = cond (eqb kind 1) (go_word (get_or starts (get_or jumps 0 0) 0) ∷ []) draft

-- the DOE of the d-th DO, operation 15
abbrev pub end_word : ℕ → ℕ
end_word d = 15 * 2 ^ 24 + d

abbrev pub end_of : ℕ → ℕ → ℕ → List ℕ
end_of last i d = cond (eqb last i) (end_word d ∷ []) []

-- the addresses that jumps lead to
abbrev pub targets : (jumps starts : List ℕ) → List ℕ
targets jumps starts = map (λ p. get_or starts p 0) jumps

-- a computed GO TO's count and addresses, an IF's addresses
abbrev pub exit_words : (kind : ℕ) (jumps starts : List ℕ) → List ℕ
exit_words kind jumps starts = cond (eqb kind 2) (length jumps ∷ targets jumps starts) (cond (eqb kind 3) (targets jumps starts) [])
