-- The program: from the bytes of standard input, a control card and a deck, to the bytes that it prints. 01 "Worked examples".
-- Assumes nothing.
use Rattle.std.specs.Prelude.{ℕ, zero, suc, ◌+◌, ◌-◌, ◌*◌, Bool, ◌&&◌, cond, List, [], ◌∷◌, ◌++◌, leb, eqb, length, take, drop, replicate, ℤ, pos}
use Rattle.std.proofs.Math.Option.{Option, none, some}
use Rattle.rules_shared.specs.Limits.{limits}
use Rattle.rules_shared.specs.House.{house1401}
use Rattle.rules_formats.specs.Walk.{no_trays}
use Rattle.rules_object.specs.Object.{Named, Object}
use Rattle.rules_object.specs.Kinds.{edition, kinds_of, most_words, contents_length}
use Rattle.rules_object.specs.Bytes.{read_object}
use Rattle.rules_shared.specs.Lists.{all}
use Rattle.rules_shared.specs.Output.{Written}
use Rattle.rules_object.specs.Calls.{Ran, running}
use Rattle.rules_object.specs.Safe.{fresh_lent}
use Rattle.rules_text.specs.Cards.{card_length}
use Rattle.rules_deck.specs.Compile.{compiling}
use Rattle.rules_deck.specs.Seen.{object_in}
use Rattle.rules_program.specs.Text.{halt_line, refused_line, name_lines}

-- ---- the control card: k in column 1, blank for 5, then blanks

abbrev pub usual_digits : ℕ
usual_digits = 5

abbrev pub is_blank : ℕ → Bool
is_blank c = eqb c 32

abbrev pub first_column : ℕ → Option ℕ
first_column c = cond (is_blank c) (some usual_digits) (cond (leb 49 c && leb c 57) (some (c - 48)) none)

abbrev pub control_of : List ℕ → Option ℕ
control_of [] = none
control_of (c ∷ rest) = cond (eqb (length (c ∷ rest)) card_length && all is_blank rest) (first_column c) none

-- k by the first 80 bytes of the input; none where they are no control card
unfoldable pub control_digits : List ℕ → Option ℕ
control_digits input = control_of (take card_length input)

-- ---- the run, with a zero store, no cards, no lines and 1,000,000 steps

abbrev pub allowance : ℕ
allowance = 1000000

-- a cell for each that an object may have; those past its own are neither read nor written (a theorem, `MoreCells`)
abbrev pub zero_store : List ℤ
zero_store = replicate limits.cells (pos 0)

abbrev pub names_of : Option Object → List Named
names_of none = []
names_of (some o) = o.names

-- the run's number of refusal beside it: 0 where it ran
abbrev pub ran_lines : List Named → Ran → ℕ → List ℕ
ran_lines names r zero = halt_line r.halt r.steps r.sequence ++ name_lines names r.store
ran_lines names r (suc number) = refused_line (suc number) r.refusal.place

-- an object is run, and what it leaves is printed
abbrev pub run_lines : List Named → Ran → List ℕ
run_lines names r = ran_lines names r r.refusal.number

unfoldable pub printed_object : List ℕ → List ℕ
printed_object object = run_lines (names_of (read_object object)) (running object zero_store fresh_lent no_trays allowance)

-- ---- the whole

-- room for any object: each body at its limit
abbrev pub most_bytes : ℕ
most_bytes = contents_length (length (kinds_of edition)) + 4 * most_words (kinds_of edition)

-- what compiling wrote, with its number of refusal beside it
abbrev pub written_lines : Written → ℕ → List ℕ
written_lines w zero = printed_object (object_in w)
written_lines w (suc number) = refused_line (suc number) w.refusal.place

abbrev pub compiled_lines : Written → List ℕ
compiled_lines w = written_lines w w.refusal.number

abbrev pub deck_lines : List ℕ → Option ℕ → List ℕ
deck_lines deck none = refused_line 1 0
deck_lines deck (some k) = compiled_lines (compiling (house1401 k) deck (replicate most_bytes 0))

-- what the program prints
unfoldable pub printed : List ℕ → List ℕ
printed input = deck_lines (drop card_length input) (control_digits input)
