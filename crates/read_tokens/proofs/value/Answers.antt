-- `read_tokens::value` meets its contract. Assumes nothing.
use mathlib.Core.Path.{refl, ap, ◌∙◌, ◌≡◌}
use Prim.Native.Nat.{ℕ, ◌+◌, ◌*◌, ◌-◌, min}
use native.Mathlib.Omega.{arith}
use lib.ListN.{get_or}
use Rattle.rules_object.specs.Check.{is_digit}
use Rattle.rules_text.specs.Trees.{value_of}
use Rattle.rules_text.specs.Tokens.{digit_run}
use Rattle.rules_text.proofs.Readers.{digit_bounds}
use Rattle.read_tokens.specs.Words.{most, capped}
use Rattle.read_tokens.proofs.Runs.{in_run}
use Rattle.read_tokens.proofs.Values.{cap_more}
use Rattle.read_tokens.proofs.value.Goals as goal

pub loop-c-init : goal.loop-c-init
unfolding capped value_of
loop-c-init c = (omega arith, refl)

pub overflow_sub-c : goal.overflow_sub-c
unfolding digit_run
overflow_sub-c c =
    let i = c.loop-c.c-index in
    (digit_bounds _ (in_run is_digit c.args.digits.now i (omega (arith, c.requires, c.loop-c-test.true)))).0

pub loop-c-preserved : goal.loop-c-preserved
loop-c-preserved c =
    let lp = c.loop-c in
    let w : c.min-v.result ≡ min (lp.v * 10 + (get_or c.args.digits.now lp.c-index 0 - 48)) most = c.min-v.ensures ∙ ap (λ (x : ℕ). min (lp.v * 10 + x) most) c.from.ensures in
    (omega (arith, w), lp.invariant.1 ∙ cap_more c.args.digits.now lp.v lp.c-index _ c.loop-c-test.true w)
