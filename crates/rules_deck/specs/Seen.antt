-- How a caller sees a deck: its meaning from its bytes, its values through body 7, its statements through body 6, and runs one after the other. The promises are said in these words.
-- Assumes nothing.
use Rattle.std.specs.Prelude.{ℕ, suc, ◌+◌, ◌≤◌, ◌<◌, max, ◌&&◌, cond, List, [], ◌∷◌, ◌++◌, ltb, eqb, leb, take, ℤ, pos}
use Rattle.std.proofs.Math.Option.{Option, none, some}
use Rattle.rules_shared.specs.House.{House}
use Rattle.rules_shared.specs.Runs.{Outcome}
use Rattle.rules_formats.specs.Walk.{Trays}
use Rattle.rules_object.specs.Halts.{Halt, at_stop, at_end, divide_by_zero, bad_subscript, bad_exit, bad_parameter}
use Rattle.rules_object.specs.Object.{Named, Object}
use Rattle.rules_object.specs.Check.{span}
use Rattle.rules_object.specs.Machine.{cell}
use Rattle.rules_object.specs.Bytes.{read_object}
use Rattle.rules_shared.specs.Output.{Written}
use Rattle.rules_object.specs.Calls.{Lent, sequence_of, Ran, running}
use Rattle.rules_object.specs.Safe.{rest, after_run}
use Rattle.rules_text.specs.Trees.{Name, Statement, form_names, form_levels}
use Rattle.rules_text.specs.Cards.{without_blanks}
use Rattle.rules_deck.specs.Deck.{same_name, Dims, dims_of}
use Rattle.rules_deck.specs.Meaning.{Cause, stop_reached, end_reached, zero_divisor, wrong_subscript, wrong_exit, wrong_parameter, Key, plain, element_at, Values, Standing, begin, meaning}
use Rattle.rules_deck.specs.Cost.{meaning_steps}
use Rattle.rules_deck.specs.Translation.{address_at}
use Rattle.rules_deck.specs.Compile.{Read, not_read, read, deck_of}

-- ---- the deck

-- the statements that were read; none where they are refused
abbrev pub statements_of : Read → List Statement
statements_of (not_read r) = []
statements_of (read deck) = deck

-- what was read means; what was refused means nothing
abbrev pub meaning_read : House → Read → Values → ℕ → Option (Outcome Cause Standing)
meaning_read house (not_read r) env n = none
meaning_read house (read deck) env n = some (meaning house.rule deck env n)

-- the meaning of a deck's bytes for at most n statements
unfoldable pub meaning_of : House → List ℕ → Values → ℕ → Option (Outcome Cause Standing)
meaning_of house bytes env n = meaning_read house (deck_of house bytes) env n

-- the halt by which a run tells a cause
abbrev pub halt_of : Cause → Halt
halt_of stop_reached = at_stop
halt_of end_reached = at_end
halt_of zero_divisor = divide_by_zero
halt_of wrong_subscript = bad_subscript
halt_of wrong_exit = bad_exit
halt_of wrong_parameter = bad_parameter

-- how many steps of a run the statements that the meaning goes through take
unfoldable pub deck_steps : House → List ℕ → Values → ℕ → ℕ
deck_steps house bytes env n = meaning_steps house.rule (statements_of (deck_of house bytes)) n (begin env)

-- the index is that of a word of the statement at position j: of its own code, or of the ends of the DOs whose last statement it is
abbrev pub InStatement : List Statement → ℕ → ℕ → Type 0
InStatement deck j index = (address_at deck j ≤ index) × (index < address_at deck (suc j))

abbrev pub names_in : List Statement → List Name
names_in [] = []
names_in (s ∷ deck) = form_names s.form ++ names_in deck

-- every name that stands in a deck
unfoldable pub deck_names : House → List ℕ → List Name
deck_names house bytes = names_in (statements_of (deck_of house bytes))

-- the rows and columns of an array, 0 and 0 of a plain name
unfoldable pub deck_dims : House → List ℕ → Name → Dims
deck_dims house bytes v = dims_of (statements_of (deck_of house bytes)) v

abbrev pub levels_in : List Statement → ℕ
levels_in [] = 0
levels_in (s ∷ deck) = max (form_levels s.form) (levels_in deck)

-- its levels of parentheses
unfoldable pub deck_levels : House → List ℕ → ℕ
deck_levels house bytes = levels_in (statements_of (deck_of house bytes))

-- the object that compiling wrote
unfoldable pub object_in : Written → List ℕ
object_in w = take w.length w.output

-- ---- values through body 7

-- the cell of a named value, where the entry has one
abbrev pub entry_cell : Named → Key → Option ℕ
entry_cell n (plain v) = cond (same_name (without_blanks n.name) v && eqb n.rows 0) (some n.first) none
entry_cell n (element_at v p) = cond (same_name (without_blanks n.name) v && (leb 1 n.rows && ltb p (span n.rows n.columns))) (some (n.first + p)) none

abbrev pub or_next : Option ℕ → Option ℕ → Option ℕ
or_next (some c) later = some c
or_next none later = later

abbrev pub cell_in : List Named → Key → Option ℕ
cell_in [] x = none
cell_in (n ∷ names) x = or_next (entry_cell n x) (cell_in names x)

abbrev pub cell_in_object : Option Object → Key → Option ℕ
cell_in_object none x = none
cell_in_object (some o) x = cell_in o.names x

-- the cell of a named value by an object's bytes
unfoldable pub named_cell : List ℕ → Key → Option ℕ
named_cell object x = cell_in_object (read_object object) x

abbrev pub cell_value : List ℤ → Option ℕ → ℤ
cell_value store none = pos 0
cell_value store (some c) = cell store c

-- the named values that a store has
unfoldable pub named_values : List ℕ → List ℤ → Values
named_values object store x = cell_value store (named_cell object x)

-- ---- statements through body 6

abbrev pub line_in_object : Option Object → ℕ → ℕ
line_in_object none index = 0
line_in_object (some o) index = sequence_of o.lines (suc index)

-- the sequence number of the statement that a word is of, by an object's bytes
unfoldable pub line_of : List ℕ → ℕ → ℕ
line_of object index = line_in_object (read_object object) index

-- ---- runs

-- runs one after the other, each with the last one's state and store and the rest of the cards and lines, until one halts other than by 2; steps, cards and lines are added
abbrev pub go_on : List ℕ → Trays → Ran → List ℕ → Ran
go_on object trays r [] = r
go_on object trays r (a ∷ allowances) = go_on object trays (cond (eqb r.halt 2) (after_run r (running object r.store r.lent (rest trays r) a)) r) allowances

unfoldable pub series : List ℕ → List ℤ → Lent → Trays → List ℕ → Ran
series object store l trays allowances = go_on object trays (running object store l trays 0) allowances

abbrev pub sum : List ℕ → ℕ
sum [] = 0
sum (a ∷ allowances) = a + sum allowances
