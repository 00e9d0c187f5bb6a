-- Rule 44 computed on small flows, each made of a list of instructions. The first four are 01's P9 to P12.
-- Assumes nothing.
use mathlib.Core.Path.{◌≡◌, refl}
use mathlib.Core.List.{List, [], ◌∷◌}
use mathlib.Core.Option.{Option, none, some}
use Prim.Native.Nat.{ℕ, zero, suc}
use lib.ListN.{length, get_or}
use Rattle.rules_shared.specs.Limits.{limits}
use Rattle.rules_object.specs.Flow.{Flow, never}
use Rattle.rules_object.specs.Heights.{heights}

-- what an instruction pops and pushes, and its successors
record Step : Type 0 where
  pops : ℕ
  pushes : ℕ
  successors : List ℕ

abbrev step : ℕ → ℕ → List ℕ → Step
step pops pushes successors = record { pops = pops; pushes = pushes; successors = successors }

abbrev halt : Step
halt = step 0 0 []

abbrev add : ℕ → Step
add next = step 2 1 (next ∷ [])

abbrev constant : ℕ → Step
constant next = step 0 1 (next ∷ [])

abbrev jump : ℕ → Step
jump to = step 0 0 (to ∷ [])

-- pops the number that it chooses by
abbrev branch : List ℕ → Step
branch exits = step 1 0 exits

abbrev flow : List Step → Flow
flow code =
    record {
      n = length code;
      takes = λ a. (get_or code a halt).pops;
      gives = λ a. (get_or code a halt).pushes;
      width = λ a. length (get_or code a halt).successors;
      next = λ a k. get_or (get_or code a halt).successors k 0;
    }

abbrev answer : List Step → Option (List ℕ)
answer code = heights (flow code)

pop_at_0 : answer (add 1 ∷ halt ∷ []) ≡ none
unfolding heights
pop_at_0 = refl

unreachable_pop : answer (halt ∷ add 2 ∷ []) ≡ some (0 ∷ never ∷ [])
unfolding heights
unreachable_pop = refl

growing_loop : answer (constant 1 ∷ jump 0 ∷ []) ≡ none
unfolding heights
growing_loop = refl

jump_to_itself : answer (jump 0 ∷ []) ≡ some (0 ∷ [])
unfolding heights
jump_to_itself = refl

no_code : answer [] ≡ none
unfolding heights
no_code = refl

past_the_end : answer (constant 1 ∷ []) ≡ none
unfolding heights
past_the_end = refl

-- two paths come to 4, with 0 and with 1
two_heights : answer (constant 1 ∷ branch (2 ∷ 3 ∷ []) ∷ jump 4 ∷ constant 4 ∷ halt ∷ []) ≡ none
unfolding heights
two_heights = refl

one_height : answer (constant 1 ∷ branch (2 ∷ 3 ∷ []) ∷ constant 4 ∷ constant 4 ∷ halt ∷ []) ≡ some (0 ∷ 1 ∷ 0 ∷ 0 ∷ 1 ∷ [])
unfolding heights
one_height = refl

-- ---- the stack's limit: j numbers are pushed, from instruction a on

abbrev climb : ℕ → ℕ → List Step
climb zero a = halt ∷ []
climb (suc j) a = constant (suc a) ∷ climb j (suc a)

abbrev upward : ℕ → ℕ → List ℕ
upward zero h = h ∷ []
upward (suc j) h = h ∷ upward j (suc h)

full : answer (climb limits.stack 0) ≡ some (upward limits.stack 0)
unfolding heights
full = refl

too_full : answer (climb (suc limits.stack) 0) ≡ none
unfolding heights
too_full = refl
