-- A run of any step function for at most n steps, by any halts. The deck's meaning and the machine share what a run is, and neither halts nor steps.
-- Assumes nothing.
use Rattle.std.specs.Prelude.{ℕ, zero, suc}

-- what a run comes to: going on at s, or halted by h at s
pub data Outcome (H S : Type 0) : Type 0 where
  go : S → Outcome H S
  halt : H → S → Outcome H S

abbrev pub then : {H S : Type 0} → Outcome H S → (S → Outcome H S) → Outcome H S
then (go s) f = f s
then (halt h s) f = halt h s

-- The allowance is tested first: `go s` after n steps is "allowance used, at s".
abbrev pub run : {H S : Type 0} → (S → Outcome H S) → ℕ → S → Outcome H S
run f zero s = go s
run f (suc n) s = then (f s) (λ t. run f n t)

-- the steps taken: one that halts counts
abbrev pub steps_from : {H S : Type 0} → Outcome H S → (S → ℕ) → ℕ
steps_from (go t) g = g t
steps_from (halt h t) g = zero

abbrev pub steps : {H S : Type 0} → (S → Outcome H S) → ℕ → S → ℕ
steps f zero s = zero
steps f (suc n) s = suc (steps_from (f s) (λ t. steps f n t))
