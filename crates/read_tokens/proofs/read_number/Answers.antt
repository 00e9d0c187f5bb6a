-- `read_tokens::read_number` meets its contract. Assumes nothing.
use mathlib.Core.Path.{refl, sym, ap, ◌∙◌}
use mathlib.Core.List.{List}
use Prim.Native.Nat.{ℕ}
use native.Mathlib.Omega.{arith}
use lib.ListN.{take, drop, length-drop}
use lib.Seq.{length-take-le}
use Rattle.rules_object.specs.Check.{is_digit}
use Rattle.rules_text.specs.Tokens.{digit_run}
use Rattle.read_tokens.specs.Words.{capped}
use Rattle.read_tokens.proofs.Measured.{same_sizes}
use Rattle.read_tokens.proofs.Runs.{all_run}
use Rattle.read_tokens.proofs.Tokens.{part_all}
use Rattle.read_tokens.proofs.Chains.{number_refused, number_accepted, number_fits}
use Rattle.read_tokens.proofs.read_number.Goals as goal

pub returns-then-k-eq0 : goal.returns-then-k-eq0
returns-then-k-eq0 c =
    let e = part_all c.args.s.now c.args.from in
    number_refused c.args.s.now c.args.from _ c.requires (c.digit_run-k.ensures ∙ ap digit_run e) c.if-k-eq0.true

pub overflow_add-result : goal.overflow_add-result
overflow_add-result c =
    let e = part_all c.args.s.now c.args.from in
    omega (arith, number_fits c.args.s.now c.args.from _ c.requires (c.digit_run-k.ensures ∙ ap digit_run e))

pub slice_bounds-value-end : goal.slice_bounds-value-end
slice_bounds-value-end c =
    let s = c.args.s.now in
    let e = part_all s c.args.from in
    let f = number_fits s c.args.from _ c.requires (c.digit_run-k.ensures ∙ ap digit_run e) in
    rw e (sym (length-take-le c.digit_run-k.result (drop c.args.from s) (omega (arith, length-drop c.args.from s))))

pub value-requires : goal.value-requires
unfolding digit_run
value-requires c = all_run is_digit _ _ c.digit_run-k.ensures

pub returns : goal.returns
returns c =
    let e = part_all c.args.s.now c.args.from in
    let k = c.digit_run-k.result in
    number_accepted c.args.s.now c.args.from k c.requires (c.digit_run-k.ensures ∙ ap digit_run e) c.if-k-eq0.false
    (c.value.ensures ∙ ap (λ (l : List ℕ). capped (take k l)) e)
    (let z = c.default.ensures in same_sizes z.0 z.1.0 refl z.1.1.1)
