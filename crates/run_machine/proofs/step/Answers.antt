-- `run_machine::step` meets its contract. Assumes nothing.
use mathlib.Core.Path.{sym, ap, ◌∙◌}
use native.Mathlib.Omega.{arith}
use Rattle.rules_object.specs.Object.{rule_of}
use Rattle.run_arithmetic.specs.Performed.{performed}
use Rattle.run_operations.proofs.Known.{held_bounds}
use Rattle.object_contents.specs.Book.{book_of}
use Rattle.object_contents.proofs.Entries.{code_inside, code_length}
use Rattle.run_guards.proofs.Guards.{word_is}
use Rattle.run_machine.proofs.Passes.{guard_passes, passes_ready, instruction_is}
use Rattle.run_machine.proofs.step.Goals as goal

pub overflow_mul-r : goal.overflow_mul-r
overflow_mul-r c =
    let o = c.args.o.now in
    let P = guard_passes (book_of o) c.args.r.index c.args.r.height c.requires.height_value in
    let k = code_inside o.layout o.bytes.now o.placed c.args.r.index (omega (arith, P.inside, code_length o.layout o.bytes.now)) in
    omega (arith, k, c.well_formed)

pub overflow_add-o : goal.overflow_add-o
overflow_add-o c =
    let o = c.args.o.now in
    let P = guard_passes (book_of o) c.args.r.index c.args.r.height c.requires.height_value in
    let k = code_inside o.layout o.bytes.now o.placed c.args.r.index (omega (arith, P.inside, code_length o.layout o.bytes.now)) in
    omega (arith, k, c.well_formed)

pub load-w-requires : goal.load-w-requires
load-w-requires c =
    let o = c.args.o.now in
    let P = guard_passes (book_of o) c.args.r.index c.args.r.height c.requires.height_value in
    let k = code_inside o.layout o.bytes.now o.placed c.args.r.index (omega (arith, P.inside, code_length o.layout o.bytes.now)) in
    omega (arith, k, c.well_formed)

pub perform-requires : goal.perform-requires
perform-requires c =
    let a = c.args in
    let o = a.o.now in
    let i = a.r.index in
    let h = a.r.height in
    let H = c.requires.held in
    let P = guard_passes (book_of o) i h c.requires.height_value in
    let b = held_bounds o a.r a.stack.now a.store.now H in
    let w = c.load-w.ensures ∙ sym (word_is o.layout o.bytes.now i h (omega (arith, P.inside, code_length o.layout o.bytes.now))) in
    record {
      held = H;
      ready = passes_ready (book_of o) i h c.load-w.result c.operation.result c.operand-x.result P w c.operation.ensures.0 c.operand-x.ensures.0;
      index_bound = (omega (arith, P.inside, code_length o.layout o.bytes.now, b.code), omega (arith, c.operand-x.ensures.1));
    }

pub returns : goal.returns
returns c =
    let a = c.args in
    let o = a.o.now in
    let i = a.r.index in
    let h = a.r.height in
    let P = guard_passes (book_of o) i h c.requires.height_value in
    let w = c.load-w.ensures ∙ sym (word_is o.layout o.bytes.now i h (omega (arith, P.inside, code_length o.layout o.bytes.now))) in
    c.perform.ensures ∙ ap (λ n. performed (rule_of (book_of o)) n a.r a.stack.now a.store.now) (instruction_is (book_of o) i c.load-w.result c.operation.result c.operand-x.result w c.operation.ensures.0 c.operand-x.ensures.0)
