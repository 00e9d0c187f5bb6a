-- Refusals of a deck as a whole, 20 to 25, each with its place: a sequence number, the lowest first. 01 "Refusal numbers".
-- Assumes nothing.
use Rattle.std.specs.Prelude.{ℕ, suc, Bool, true, false, ◌&&◌, ◌||◌, not, cond, List, [], ◌∷◌, leb, ltb, eqb, length}
use Rattle.std.proofs.Math.Option.{Option, none, some}
use Rattle.std.proofs.Math.ListN.{get_elem?}
use Rattle.rules_shared.specs.Limits.{limits}
use Rattle.rules_shared.specs.Refusals.{Refusal, refusal, or_else}
use Rattle.rules_shared.specs.Lists.{all}
use Rattle.rules_text.specs.Trees.{Name, Digits, value_of, Target, cell, element, Form, Statement, form_exits, form_numbers, Phrase, sets, chooses, computes, steps, declares, parts_of, gathered}
use Rattle.rules_deck.specs.Deck.{same_name, position_of, Do, dos_of}

-- the first position, counted from q, whose statement fails the test; its sequence number
abbrev pub first_wrong : (ℕ → Statement → Bool) → ℕ → List Statement → Option ℕ
first_wrong right q [] = none
first_wrong right q (s ∷ deck) = cond (right q s) (first_wrong right (suc q) deck) (some (suc q))

-- ---- 20: END missing or not last; no statement at all

abbrev pub is_end : Form → Bool
is_end f = (parts_of f).is_end

abbrev pub ends_well : List Statement → Bool
ends_well [] = false
ends_well (s ∷ []) = is_end s.form
ends_well (s ∷ t ∷ deck) = ends_well (t ∷ deck)

-- the first early END, else the last statement, or 0
unfoldable pub refused20 : List Statement → Option ℕ
refused20 deck =
    or_else (first_wrong (λ q s. not (is_end s.form) || eqb (suc q) (length deck)) 0 deck) (cond (ends_well deck) none (some (length deck)))

-- ---- 21: number defined twice, or on DIMENSION or END

abbrev pub is_dimension : Form → Bool
is_dimension f = (parts_of f).is_dimension

-- the place is the second
unfoldable pub right21 : List Statement → ℕ → Statement → Bool
right21 deck q s = eqb s.number 0 || (eqb (position_of deck s.number) q && (not (is_dimension s.form) && not (is_end s.form)))

-- ---- 22: number used, never defined

abbrev pub defined : List Statement → Digits → Bool
defined deck n = ltb (position_of deck (value_of n)) (length deck)

unfoldable pub right22 : List Statement → ℕ → Statement → Bool
right22 deck q s = all (defined deck) (form_numbers s.form)

-- ---- ranges: after the DO through its last statement

abbrev pub last_of : List Statement → Do → ℕ
last_of deck d = position_of deck d.last

abbrev pub in_range : List Statement → Do → ℕ → Bool
in_range deck d j = ltb d.position j && leb j (last_of deck d)

-- ---- 23: DO's last statement not after it, or a GO TO, IF, DO or STOP; ranges cross; over 8 deep

abbrev pub may_end : Form → Bool
may_end f = (parts_of f).may_end

abbrev pub may_end_at : Option Statement → Bool
may_end_at none = false
may_end_at (some s) = may_end s.form

-- ranges cross: the DO d stands in the range of an outer one and ends after it
abbrev pub crosses : List Statement → Do → Do → Bool
crosses deck d outer = in_range deck outer d.position && ltb (last_of deck outer) (last_of deck d)

-- in how many DOs' ranges a statement stands
abbrev pub depth : List Statement → List Do → ℕ → ℕ
depth deck [] j = 0
depth deck (d ∷ ds) j = cond (in_range deck d j) (suc (depth deck ds j)) (depth deck ds j)

abbrev pub right_do : List Statement → Do → Bool
right_do deck d =
    ltb d.position (last_of deck d) && (may_end_at (get_elem? deck (last_of deck d)) &&
    (all (λ outer. not (crosses deck d outer)) (dos_of deck) && ltb (depth deck (dos_of deck) d.position) limits.nesting))

-- the place is the DO, the later of two
abbrev pub first_wrong_do : List Statement → List Do → Option ℕ
first_wrong_do deck [] = none
first_wrong_do deck (d ∷ ds) = cond (right_do deck d) (first_wrong_do deck ds) (some (suc d.position))

-- ---- 24: a jump into a DO's range from outside

abbrev pub stays_out : List Statement → ℕ → Digits → Do → Bool
stays_out deck j n d = not (in_range deck d (position_of deck (value_of n))) || in_range deck d j

unfoldable pub right24 : List Statement → ℕ → Statement → Bool
right24 deck j s = all (λ n. all (stays_out deck j n) (dos_of deck)) (form_exits s.form)

-- ---- 25: DO's variable set, or taken by another DO, in its range

abbrev pub target_sets : Target → List Name
target_sets (cell v) = v ∷ []
target_sets (element v s) = []

abbrev pub phrase_sets : Phrase → List Name
phrase_sets (sets t) = target_sets t
phrase_sets (chooses v) = []
phrase_sets (computes e) = []
phrase_sets (steps r) = []
phrase_sets (declares arrays) = []

unfoldable pub form_sets : Form → List Name
form_sets f = gathered phrase_sets (parts_of f).text

unfoldable pub right25 : List Statement → ℕ → Statement → Bool
right25 deck j s = all (λ v. all (λ d. not (in_range deck d j && same_name d.variable v)) (dos_of deck)) (form_sets s.form)

-- ---- in order of number

abbrev pub refused_at : ℕ → Option ℕ → Option Refusal
refused_at number none = none
refused_at number (some place) = some (refusal number place 0)

unfoldable pub judge_deck : List Statement → Option Refusal
judge_deck deck =
    or_else (refused_at 20 (refused20 deck)) (or_else (refused_at 21 (first_wrong (right21 deck) 0 deck)) (or_else (refused_at 22 (first_wrong (right22 deck) 0 deck))
    (or_else (refused_at 23 (first_wrong_do deck (dos_of deck))) (or_else (refused_at 24 (first_wrong (right24 deck) 0 deck)) (refused_at 25 (first_wrong (right25 deck) 0 deck))))))
