-- 11 to 14 as tests of what the reader gives back: sizes and statement numbers.
-- Assumes nothing.
use Rattle.std.specs.Prelude.{ℕ, Bool, ◌&&◌, not, cond, Result, Ok, Err, ⊤, List, leb, take}
use Rattle.std.specs.List.{list_all}
use Rattle.rules_shared.specs.Limits.{limits}
use Rattle.rules_shared.specs.House.{house1401}
use Rattle.refusals.specs.declared.Reason.{Reason}
use Rattle.refusals.specs.declared.Reason.TheVariants as reason
use Rattle.read_tokens.specs.declared.Sizes.{Sizes}
use Rattle.read_forms.specs.declared.Statement.{Statement}
use Rattle.read_forms.specs.declared.Statement.TheVariants.{Assign, GoTo, Computed, If, Do, Dimension}

-- the lowest number of what is not right
abbrev pub lowest : Bool → Bool → Bool → Bool → Result ⊤ Reason
lowest right11 right12 right13 right14 =
    cond right11 (cond right12 (cond right13 (cond right14 (Ok tt) (Err reason.Parentheses)) (Err reason.Number)) (Err reason.Constant)) (Err reason.Name)

unfoldable pub right_number : ℕ → Bool
right_number n = leb 1 n && leb n limits.statement_number

unfoldable pub of_sizes : ℕ → Sizes → Bool → Result ⊤ Reason
of_sizes k z numbers =
    lowest (leb z.name (house1401 k).name_length && not z.other) (leb z.constant k) numbers (leb z.levels limits.parentheses)

abbrev pub of_number : Bool → Result ⊤ Reason
of_number right13 = cond right13 (Ok tt) (Err reason.Number)

unfoldable pub of_statement : ℕ → List ℕ → Statement → Result ⊤ Reason
of_statement k items (Assign a) = of_sizes k a.sizes Bool.true
of_statement k items (GoTo n) = of_number (right_number n.0)
of_statement k items (Computed c) = of_sizes k c.sizes (list_all right_number (take c.exits items))
of_statement k items (If i) = of_sizes k i.sizes (right_number i.below.0 && (right_number i.at.0 && right_number i.above.0))
of_statement k items (Do d) = of_sizes k d.sizes (right_number d.last.0)
of_statement k items (Dimension d) = of_sizes k d.sizes Bool.true
of_statement k items _ = Ok tt

-- numbers in the table
unfoldable pub exits_in : Statement → ℕ
exits_in (Computed c) = c.exits
exits_in _ = 0
