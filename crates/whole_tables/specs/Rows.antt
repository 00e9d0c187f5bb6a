-- What drafting keeps of a statement and of a DO, read by position.
-- Assumes nothing.
use Rattle.std.specs.Prelude.{ℕ, zero, suc, ◌+◌, ◌*◌, Bool, List, eqb, get_or}

-- ---- rows of five words a statement

abbrev pub number_at : List ℕ → ℕ → ℕ
number_at rows q = get_or rows (5 * q) 0

abbrev pub kind_at : List ℕ → ℕ → ℕ
kind_at rows q = get_or rows (5 * q + 1) 0

-- the name that it sets
abbrev pub set_at : List ℕ → ℕ → ℕ
set_at rows q = get_or rows (5 * q + 2) 0

abbrev pub sets_at : List ℕ → ℕ → ℕ → Bool
sets_at rows q name = eqb name (set_at rows q)

-- how many jumps it has
abbrev pub jumps_at : List ℕ → ℕ → ℕ
jumps_at rows q = get_or rows (5 * q + 4) 0

-- where its jumps start
abbrev pub start_of : List ℕ → ℕ → ℕ
start_of rows zero = 0
start_of rows (suc q) = start_of rows q + jumps_at rows q

-- ---- two words a DO

-- its position
abbrev pub do_index : List ℕ → ℕ → ℕ
do_index words i = get_or words (2 * i) 0

-- where its last statement stands among the jumps
abbrev pub last_index : List ℕ → ℕ → ℕ
last_index words i = get_or words (2 * i + 1) 0
