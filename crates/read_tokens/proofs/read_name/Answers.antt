-- `read_tokens::read_name` meets its contract. Assumes nothing.
use mathlib.Core.Path.{refl, sym, ap, ◌∙◌}
use mathlib.Core.List.{List}
use mathlib.Core.Bool.{◌&&◌, not}
use Prim.Native.Nat.{ℕ}
use native.Mathlib.Omega.{arith}
use lib.Dec.{leb}
use lib.ListN.{take, drop, length-drop}
use lib.Seq.{length-take-le}
use Rattle.rules_text.specs.Tokens.{name_run}
use Rattle.read_tokens.specs.Words.{name_of}
use Rattle.read_tokens.proofs.Measured.{same_sizes}
use Rattle.read_tokens.proofs.Tokens.{integer_byte, part_all}
use Rattle.read_tokens.proofs.Chains.{name_refused, name_accepted, name_fits}
use Rattle.read_tokens.proofs.read_name.Goals as goal

pub returns-then-k-eq0 : goal.returns-then-k-eq0
returns-then-k-eq0 c =
    let e = part_all c.args.s.now c.args.from in
    name_refused c.args.s.now c.args.from _ c.requires (c.name_run-k.ensures ∙ ap name_run e) c.if-k-eq0.true

pub overflow_add-result : goal.overflow_add-result
overflow_add-result c =
    let e = part_all c.args.s.now c.args.from in
    omega (arith, name_fits c.args.s.now c.args.from _ c.requires (c.name_run-k.ensures ∙ ap name_run e))

pub slice_bounds-name_of-end : goal.slice_bounds-name_of-end
slice_bounds-name_of-end c =
    let s = c.args.s.now in
    let e = part_all s c.args.from in
    let f = name_fits s c.args.from _ c.requires (c.name_run-k.ensures ∙ ap name_run e) in
    rw e (sym (length-take-le c.name_run-k.result (drop c.args.from s) (omega (arith, length-drop c.args.from s))))

pub returns : goal.returns
returns c =
    let e = part_all c.args.s.now c.args.from in
    let k = c.name_run-k.result in
    name_accepted c.args.s.now c.args.from k c.requires (c.name_run-k.ensures ∙ ap name_run e) c.if-k-eq0.false
    (c.name_of.ensures ∙ ap (λ (l : List ℕ). name_of (take k l)) e)
    (let z = c.default.ensures in
    same_sizes refl
    (ap not (c.is_integer_letter.ensures ∙ ap (λ (x : ℕ). leb 73 x && leb x 78) c.byte.ensures ∙ sym (integer_byte c.args.s.now c.args.from)))
    z.1.1.0 z.1.1.1)
