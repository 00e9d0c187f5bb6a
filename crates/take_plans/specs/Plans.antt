-- What a statement asks of the draft, in one shape for all forms: the operand that stands first, the items, and numbers or arrays in the table.
-- Assumes nothing.
use Rattle.std.specs.Prelude.{◌≡◌, ℕ, ◌≤◌, List, [], ◌++◌, map, length, take}
use Rattle.rules_text.specs.Trees.{Form, assign, go_to, computed, ifs, loop, continue, stop, end, dimension}
use Rattle.rules_deck.specs.Meaning.{third}
use Rattle.read_tokens.specs.Words.{capped, name_of, no_name}
use Rattle.read_cards.specs.declared.Number.{Number}
use Rattle.read_elements.specs.declared.Target.{Target}
use Rattle.read_elements.specs.declared.Target.TheVariants.{Cell}
use Rattle.read_elements.specs.Values.{target_value}
use Rattle.read_items.specs.Items.{flat, target_words}
use Rattle.read_forms.specs.declared.Do.{Do}
use Rattle.read_forms.specs.declared.Parameter.{Parameter}
use Rattle.read_forms.specs.declared.Statement.{Statement}
use Rattle.read_forms.specs.declared.Statement.TheVariants as statement
use Rattle.read_forms.specs.Statements.{all_words, as_number, number_value, parameter_value}
use Rattle.take_kinds.specs.declared.Kind.{Kind}
use Rattle.take_kinds.specs.declared.Kind.TheVariants as kind
use Rattle.take_draft.specs.Parts.{items_words, parameter_words, form_first, form_items}
use Rattle.take_plans.specs.declared.Plan.{Plan}

-- ---- of what the reader gave back

-- a DO's parameters as items
abbrev pub three_words : Parameter → Parameter → Parameter → List ℕ
three_words first limit by = parameter_words first ++ (parameter_words limit ++ parameter_words by)

abbrev pub parameters_words : Do → List ℕ
parameters_words d = three_words d.first d.limit d.by

-- where a form has none
abbrev pub no_number : Number
no_number = as_number 0

abbrev pub made : Kind → Target → ℕ → ℕ → Number → Number → Number → Plan
made kind target count listed below at above =
    record { kind = kind; target = target; count = count; listed = listed; below = below; at = at; above = above }

abbrev pub bare : Kind → Plan
bare kind = made kind (Cell no_name) 0 0 no_number no_number no_number

unfoldable pub plan_of : Statement → Plan
plan_of (statement.Assign a) = made kind.Assignment a.target a.count 0 no_number no_number no_number
plan_of (statement.GoTo n) = made kind.GoTo (Cell no_name) 0 0 n no_number no_number
plan_of (statement.Computed c) = made kind.Computed (Cell c.name) 0 c.exits no_number no_number no_number
plan_of (statement.If i) = made kind.If (Cell no_name) i.count 0 i.below i.at i.above
plan_of (statement.Do d) = made kind.Do (Cell d.name) (length (parameters_words d)) 0 d.last no_number no_number
plan_of statement.Continue = bare kind.Continue
plan_of statement.Stop = bare kind.Stop
plan_of statement.End = bare kind.End
plan_of (statement.Dimension d) = made kind.Dimension (Cell no_name) 0 d.arrays no_number no_number no_number

-- the table afterwards
unfoldable pub Laid : Statement → List ℕ → List ℕ → Type 0
Laid (statement.Do d) before after = take (length (parameters_words d)) after ≡ parameters_words d
Laid _ before after = after ≡ before

pub record Planned (s : Statement) (before after : List ℕ) (r : Plan) : Type 0 where
  pub says : r ≡ plan_of s
  pub table : Laid s before after

-- ---- of a form

unfoldable pub form_plan : Form → Plan
form_plan (assign t e) = made kind.Assignment (target_value t) (length (flat e)) 0 no_number no_number no_number
form_plan (go_to n) = made kind.GoTo (Cell no_name) 0 0 (number_value n) no_number no_number
form_plan (computed ns v) = made kind.Computed (Cell (name_of v)) 0 (length ns) no_number no_number no_number
form_plan (ifs e a b c) = made kind.If (Cell no_name) (length (flat e)) 0 (number_value a) (number_value b) (number_value c)
form_plan (loop n v p q r) =
    made kind.Do (Cell (name_of v)) (length (three_words (parameter_value p) (parameter_value q) (parameter_value (third r)))) 0 (number_value n) no_number no_number
form_plan continue = bare kind.Continue
form_plan stop = bare kind.Stop
form_plan end = bare kind.End
form_plan (dimension arrays) = made kind.Dimension (Cell no_name) 0 (length arrays) no_number no_number no_number

-- a computed GO TO's numbers and a DIMENSION's arrays, as the reader leaves them
unfoldable pub listed_words : Form → List ℕ
listed_words (computed ns v) = map capped ns
listed_words (dimension arrays) = all_words arrays
listed_words _ = []

-- a form's plan, and its words in the table
pub record Plans (f : Form) (items : List ℕ) (p : Plan) : Type 0 where
  pub plan : p ≡ form_plan f
  pub operands : take p.count items ≡ items_words (form_items f)
  pub listed : take (length (listed_words f)) items ≡ listed_words f
  pub room : p.count ≤ length items

abbrev pub words_first : Kind → Target → List ℕ
words_first kind.Assignment t = target_words t
words_first kind.Computed t = target_words t
words_first kind.Do t = target_words t
words_first _ t = []

-- the words of what stands first
unfoldable pub first_words : Plan → List ℕ
first_words p = words_first p.kind p.target

-- the plan of some form, with what stands first
pub record Readied (p : Plan) (first items : List ℕ) : Type 0 where
  pub form : Form
  pub plans : Plans form items p
  pub first_are : first ≡ items_words (form_first form)
