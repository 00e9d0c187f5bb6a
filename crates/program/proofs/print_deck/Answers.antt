-- `program::print_deck` meets its contract. Assumes nothing.
use Prim.Native.Nat.{ℕ}
use mathlib.Core.Path.{refl, sym, ap, ◌∙◌}
use mathlib.Core.List.{List}
use native.Mathlib.Omega.{arith}
use lib.Seq.{length-take-le}
use Rattle.rules_shared.specs.House.{house1401}
use Rattle.rules_deck.specs.Compile.{compiling}
use Rattle.rules_program.specs.Program.{compiled_lines}
use Rattle.rules_program.proofs.Lengths.{refused_length}
use Rattle.print_numbers.proofs.PutLaws.{puts_as}
use Rattle.program.proofs.Compiles.{compiled_refused, compiled_printed, object_written}
use Rattle.program.proofs.print_deck.Goals as goal

pub slice_bounds-print_object-end : goal.slice_bounds-print_object-end
slice_bounds-print_object-end c =
    (object_written c.args.k c.args.deck.now c.args.object.now _ c.in-Ok.ensures refl).within

pub slice_bounds-print_object-end-in-Ok : goal.slice_bounds-print_object-end-in-Ok
slice_bounds-print_object-end-in-Ok c =
    let o = object_written c.args.k c.args.deck.now c.args.object.now _ c.in-Ok.ensures refl in
    sym (length-take-le c.in-Ok.n c.compile.new.output o.within)

pub print_object-requires : goal.print_object-requires
print_object-requires c =
    let o = object_written c.args.k c.args.deck.now c.args.object.now _ c.in-Ok.ensures refl in
    (o.tidy, c.requires.1)

pub returns-in-Ok : goal.returns-in-Ok
returns-in-Ok c =
    let e = c.in-Ok.ensures ∙ ap (λ (x : List ℕ). compiling (house1401 c.args.k) c.args.deck.now x) c.requires.0 in
    (puts_as (sym (compiled_printed c.in-Ok.n c.compile.new.output) ∙ ap compiled_lines e) c.print_object.ensures.0, c.print_object.ensures.1)

pub put_refused-requires : goal.put_refused-requires
put_refused-requires c =
    record { fits = omega (arith, refused_length c.number.result c.in-Err.refusal.place (omega arith) (omega arith), c.requires.1) }

pub returns-in-Err : goal.returns-in-Err
returns-in-Err c =
    let r = c.in-Err.refusal in
    let e = c.in-Err.ensures ∙ ap (λ (x : List ℕ). compiling (house1401 c.args.k) c.args.deck.now x) c.requires.0 in
    let put = rw c.number.ensures at c.put_refused.ensures in
    (puts_as (sym (compiled_refused r c.compile.new.output) ∙ ap compiled_lines e) put, omega (arith, c.put_refused.ensures.end, refused_length c.number.result r.place (omega arith) (omega arith)))
