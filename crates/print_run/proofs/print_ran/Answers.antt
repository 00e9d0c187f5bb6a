-- `print_run::print_ran` meets its contract. Assumes nothing.
use Prim.Native.Nat.{ℕ}
use mathlib.Core.Path.{sym}
use mathlib.Core.List.{List}
use native.Mathlib.Omega.{arith}
use Rattle.rules_object.specs.Bytes.{read_object}
use Rattle.rules_program.specs.Text.{halt_line, name_lines}
use Rattle.rules_program.specs.Program.{names_of}
use Rattle.rules_program.proofs.Lengths.{refused_length, halt_length}
use Rattle.print_numbers.proofs.PutLaws.{puts_length, puts_both, puts_as}
use Rattle.print_run.proofs.RanLaws.{ran_refused, ran_halted}
use Rattle.print_run.proofs.print_ran.Goals as goal

pub put_refused-requires : goal.put_refused-requires
put_refused-requires c =
    let q = c.args.ran in
    let known = c.struct_known-1.given in
    record { fits = omega (arith, refused_length q.number q.place (omega (arith, known)) (omega (arith, known)), c.requires.2) }

pub returns-then-ran-ne0 : goal.returns-then-ran-ne0
returns-then-ran-ne0 c =
    let s = c.args.object.now in
    let so = c.args.store.now in
    let q = c.args.ran in
    let known = c.struct_known-1.given in
    (puts_as (sym (ran_refused s q so c.if-ran-ne0.true)) c.put_refused.ensures, omega (arith, c.put_refused.ensures.end, refused_length q.number q.place (omega (arith, known)) (omega (arith, known))))

pub put_halt-at-requires : goal.put_halt-at-requires
put_halt-at-requires c =
    let q = c.args.ran in
    let known = c.struct_known-1.given in
    let h : List ℕ = halt_line q.halt q.steps q.sequence in
    let l = halt_length q.halt q.steps q.sequence (omega (arith, known)) (omega (arith, known)) (omega (arith, known)) in
    record { fits = omega (arith, l, c.requires.2) }

pub print_names-requires : goal.print_names-requires
print_names-requires c =
    let q = c.args.ran in
    let known = c.struct_known-1.given in
    let h : List ℕ = halt_line q.halt q.steps q.sequence in
    let l = halt_length q.halt q.steps q.sequence (omega (arith, known)) (omega (arith, known)) (omega (arith, known)) in
    (c.requires.0, c.requires.1, omega (arith, l, c.put_halt-at.ensures.end), omega (arith, puts_length h c.put_halt-at.ensures, c.requires.2))

pub returns : goal.returns
returns c =
    let s = c.args.object.now in
    let so = c.args.store.now in
    let q = c.args.ran in
    let h : List ℕ = halt_line q.halt q.steps q.sequence in
    (puts_as (sym (ran_halted s q so c.if-ran-ne0.false)) (puts_both h (name_lines (names_of (read_object s)) so) c.put_halt-at.ensures c.print_names.ensures.0), c.print_names.ensures.1)
