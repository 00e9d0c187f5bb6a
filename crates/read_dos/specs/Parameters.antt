-- What the readers of a DO ensure.
-- Assumes nothing.
use Rattle.std.specs.Prelude.{◌≡◌, ℕ, max, List, ◌∷◌, ◌++◌, length, drop, Option}
use Rattle.std.proofs.Math.Option.{none, some}
use Rattle.rules_text.specs.Trees.{Name, Digits, Expr, expr_names, expr_constants, levels, Form, loop}
use Rattle.rules_text.specs.Tokens.{comma, Found, Reader, give, ahead, and_then, after, choose, starts, all_of}
use Rattle.rules_text.specs.Grammar.{parameter}
use Rattle.read_cards.specs.declared.Number.{Number}
use Rattle.read_tokens.specs.declared.Name as code
use Rattle.read_tokens.specs.declared.Read.{Read}
use Rattle.read_tokens.specs.declared.Sizes.{Sizes}
use Rattle.read_tokens.specs.Words.{name_of}
use Rattle.read_tokens.specs.Sizes.{sizes_of}
use Rattle.read_tokens.specs.Reading.{name_size, Reads}
use Rattle.read_items.specs.Items.{expr_sizes}
use Rattle.read_forms.specs.declared.Parameter.{Parameter}
use Rattle.read_forms.specs.declared.Statement.{Statement}
use Rattle.read_forms.specs.Statements.{number_value, parameter_value, answer}

unfoldable pub no_weight : Expr → ℕ
no_weight e = 0

abbrev pub ReadsParameter : List ℕ → ℕ → Found Expr → Option (Read Parameter) → Type 0
ReadsParameter s from o r = Reads parameter_value expr_sizes no_weight s from o r

-- what follows the second parameter
unfoldable pub by_of : Digits → Name → Expr → Expr → Reader Form
by_of n v p q =
    choose (starts comma) (after comma (and_then parameter (λ by. give (loop n v p q (some by))))) (give (loop n v p q none))

unfoldable pub parameters_of : Digits → Name → Reader Form
parameters_of n v = and_then parameter (λ first. after comma (and_then parameter (λ limit. by_of n v first limit)))

-- from a place on to the end of the text, after any parts of these values and sizes
abbrev pub EndsBy : List ℕ → ℕ → Number → code.Name → Parameter → Parameter → Sizes → Option Statement → Type 0
EndsBy s from last name first limit sizes r =
    (n : Digits) (v : Name) (p q : Expr) → last ≡ number_value n → name ≡ name_of v → first ≡ parameter_value p → limit ≡ parameter_value q
    → sizes ≡ sizes_of (v ∷ (expr_names p ++ expr_names q)) (expr_constants p ++ expr_constants q) (max (levels p) (levels q))
    → r ≡ answer (all_of (length s) (ahead from (by_of n v p q (drop from s))))

abbrev pub EndsDo : List ℕ → ℕ → Number → code.Name → Sizes → Option Statement → Type 0
EndsDo s from last name sizes r =
    (n : Digits) (v : Name) → last ≡ number_value n → name ≡ name_of v → sizes ≡ name_size v
    → r ≡ answer (all_of (length s) (ahead from (parameters_of n v (drop from s))))
