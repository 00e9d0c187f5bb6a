-- One DO and its range, by sequence numbers.
-- Assumes nothing.
use Rattle.std.specs.Prelude.{ℕ, ◌-◌, Bool, ◌&&◌, ◌||◌, not, List, eqb, ltb, leb}
use Rattle.whole_tables.specs.Rows.{set_at, sets_at}

-- the range of a DO at `first` holds the statement at `at`
unfoldable pub covering : ℕ → ℕ → ℕ → Bool
covering first last at = ltb first at && leb at last

-- assignment, CONTINUE, END, DIMENSION
unfoldable pub may_end_kind : ℕ → Bool
may_end_kind kind = eqb kind 0 || (eqb kind 5 || (eqb kind 7 || eqb kind 8))

-- a DO does not cross an outer one
unfoldable pub uncrossed : ℕ → ℕ → ℕ → ℕ → Bool
uncrossed first last outer end = not (covering outer end first && ltb end last)

-- a jump does not go into a DO's range from outside
unfoldable pub outside : ℕ → ℕ → ℕ → ℕ → Bool
outside first last from target = not (covering first last target) || covering first last from

-- what is set at a place is not the variable of a DO around it
unfoldable pub leaves : List ℕ → ℕ → ℕ → ℕ → Bool
leaves rows first last at = not (covering first last at && sets_at rows (at - 1) (set_at rows (first - 1)))
