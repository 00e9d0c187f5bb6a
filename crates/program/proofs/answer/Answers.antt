-- `program::answer` meets its contract. Assumes nothing.
use mathlib.Core.Path.{sym, ap, ◌∙◌}
use native.Mathlib.Omega.{arith}
use Rattle.refusals.specs.Answers.{maybe}
use Prim.Native.Nat.{ℕ}
use Rattle.rules_program.proofs.Lengths.{refused_length}
use Rattle.print_numbers.proofs.PutLaws.{puts_as}
use Rattle.program.proofs.Compiles.{printed_refused, printed_deck}
use Rattle.program.proofs.answer.Goals as goal

pub put_refused-requires : goal.put_refused-requires
put_refused-requires c =
    let line = refused_length 1 0 (omega arith) (omega arith) in
    rw c.number.ensures (record { fits = omega (arith, line, c.requires) })

pub returns-in_default : goal.returns-in_default
returns-in_default c =
    let line = refused_length 1 0 (omega arith) (omega arith) in
    let is = sym (ap (maybe (λ (k : ℕ). k)) c.in_default.is) ∙ c.control.ensures.digits in
    let put = rw c.number.ensures at c.put_refused.ensures in
    (puts_as (printed_refused c.args.input.now is) put, omega (arith, line, put.end))

pub returns : goal.returns
returns c =
    let is = sym (ap (maybe (λ (k : ℕ). k)) c.in-Some.is) ∙ c.control.ensures.digits in
    (puts_as (printed_deck c.args.input.now c.in-Some.k is) c.print_deck.ensures.0, c.print_deck.ensures.1)
