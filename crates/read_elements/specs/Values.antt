-- Subscripts, elements and targets as values, and what their readers ensure.
-- Assumes nothing.
use Rattle.std.specs.Prelude.{◌≡◌, List, [], cond, ℕ, eqb, drop, Some, None}
use Rattle.std.specs.Prelude.{Option as Maybe}
use Rattle.std.proofs.Math.Option.{Option, none, some}
use Rattle.rules_text.specs.Trees.{Digits, optional, nothing, plus, minus, constant, linear, one, two, cell, addend_constants, subscript_names, subscript_constants, subscripts_names, subscripts_constants, target_names, target_constants}
use Rattle.rules_text.specs.Trees as trees
use Rattle.rules_text.specs.Tokens.{Found, plus_sign, minus_sign}
use Rattle.rules_text.specs.Grammar.{linear_of}
use Rattle.read_tokens.specs.declared.Read.{Read}
use Rattle.read_tokens.specs.declared.Sizes.{Sizes}
use Rattle.read_tokens.specs.Words.{capped, name_of, no_name}
use Rattle.read_tokens.specs.Sizes.{sizes_of}
use Rattle.read_tokens.specs.Reading.{Reads}
use Rattle.read_elements.specs.declared.Addend.{Addend}
use Rattle.read_elements.specs.declared.Subscript.{Subscript}
use Rattle.read_elements.specs.declared.Subscripts.{Subscripts}
use Rattle.read_elements.specs.declared.Target.{Target}
use Rattle.read_elements.specs.declared.Target.TheVariants as target

-- ---- the values

-- a sign's word: 0 for a plus, 1 for a minus
abbrev pub minus_of : ℕ → Maybe ℕ
minus_of c = cond (eqb c plus_sign) (Some 0) (cond (eqb c minus_sign) (Some 1) None)

unfoldable pub addend_value : trees.Addend → Addend
addend_value nothing = record { minus = 0; value = 0 }
addend_value (plus c) = record { minus = 0; value = capped c }
addend_value (minus c) = record { minus = 1; value = capped c }

-- a multiplier that is not written is 1
unfoldable pub times_of : Option Digits → ℕ
times_of none = 1
times_of (some c) = capped c

unfoldable pub subscript_value : trees.Subscript → Subscript
subscript_value (constant c) = record { times = 0; name = no_name; minus = 0; addend = capped c }
subscript_value (linear m v a) = record { times = times_of m; name = name_of v; minus = (addend_value a).minus; addend = (addend_value a).value }

abbrev pub no_subscript : Subscript
no_subscript = record { times = 0; name = no_name; minus = 0; addend = 0 }

unfoldable pub subscripts_value : trees.Subscripts → Subscripts
subscripts_value (one s) = record { count = 1; first = subscript_value s; second = no_subscript }
subscripts_value (two s t) = record { count = 2; first = subscript_value s; second = subscript_value t }

unfoldable pub target_value : trees.Target → Target
target_value (cell v) = target.Cell (name_of v)
target_value (trees.element v s) = target.Element (record { name = name_of v; subscripts = subscripts_value s })

-- ---- their sizes

unfoldable pub addend_sizes : trees.Addend → Sizes
addend_sizes a = sizes_of [] (addend_constants a) 0

unfoldable pub subscript_sizes : trees.Subscript → Sizes
subscript_sizes s = sizes_of (subscript_names s) (subscript_constants s) 0

unfoldable pub subscripts_sizes : trees.Subscripts → Sizes
subscripts_sizes s = sizes_of (subscripts_names s) (subscripts_constants s) 0

unfoldable pub target_sizes : trees.Target → Sizes
target_sizes t = sizes_of (target_names t) (target_constants t) 0

-- ---- and their weights: a target's is the words that it takes as an item

unfoldable pub addend_weight : trees.Addend → ℕ
addend_weight a = 0

unfoldable pub subscript_weight : trees.Subscript → ℕ
subscript_weight s = 1

unfoldable pub subscripts_weight : trees.Subscripts → ℕ
subscripts_weight s = 15

unfoldable pub target_weight : trees.Target → ℕ
target_weight (cell v) = 5
target_weight (trees.element v s) = 20

-- ---- what the readers ensure

abbrev pub ReadsAddend : List ℕ → ℕ → Found trees.Addend → Maybe (Read Addend) → Type 0
ReadsAddend s from o r = Reads addend_value addend_sizes addend_weight s from o r

abbrev pub ReadsSubscript : List ℕ → ℕ → Found trees.Subscript → Maybe (Read Subscript) → Type 0
ReadsSubscript s from o r = Reads subscript_value subscript_sizes subscript_weight s from o r

-- after any multiplier of the value and the sizes that are handed in
abbrev pub ReadsLinear : List ℕ → ℕ → ℕ → Sizes → Maybe (Read Subscript) → Type 0
ReadsLinear s from times before r =
    (m : Option Digits) → times ≡ times_of m → before ≡ sizes_of [] (optional m) 0 → ReadsSubscript s from (linear_of m (drop from s)) r

abbrev pub ReadsSubscripts : List ℕ → ℕ → Found trees.Subscripts → Maybe (Read Subscripts) → Type 0
ReadsSubscripts s from o r = Reads subscripts_value subscripts_sizes subscripts_weight s from o r

abbrev pub ReadsPlace : List ℕ → ℕ → Found trees.Target → Maybe (Read Target) → Type 0
ReadsPlace s from o r = Reads target_value target_sizes target_weight s from o r
