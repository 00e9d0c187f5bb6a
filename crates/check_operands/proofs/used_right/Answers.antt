-- `check_operands::used_right` meets its contract. Assumes nothing.
use mathlib.Core.Path.{◌≡◌, refl, sym, ap, ◌∙◌}
use native.Mathlib.Omega.{arith}
use borrow.Author.Tests.{ltb-true}
use Rattle.object_contents.specs.Book.{book_of}
use Rattle.rules_object.specs.Operations.{element_right, loop_right, transfer_right}
use Rattle.check_operands.specs.Operands.{entry_right_at}
use Rattle.check_operands.proofs.Exits.{right_at}
use Rattle.check_operands.proofs.Tests.{constant_in, element_in_lem, do_in, transfer_in, one_of, no_use}
use Rattle.check_operands.proofs.used_right.Goals as goal

pub constant_right-requires : goal.constant_right-requires
constant_right-requires c = ltb-true _ _ (constant_in c.args.o.now.layout c.args.o.now.bytes.now c.args.x ∙ ap (right_at c.args.o.now.layout c.args.o.now.bytes.now c.args.x) (sym c.in-1.is) ∙ c.requires)

pub element_right-requires : goal.element_right-requires
element_right-requires c = ltb-true _ _ (element_in_lem c.args.o.now.layout c.args.o.now.bytes.now c.args.x c.args.operation (omega arith) (omega arith) ∙ c.requires)

pub loop_right-requires : goal.loop_right-requires
loop_right-requires c = (c.args.o.now.placed, ltb-true _ _ (do_in c.args.o.now.layout c.args.o.now.bytes.now c.args.x c.args.operation (omega arith) (omega arith) ∙ c.requires))

pub transfer_right-requires : goal.transfer_right-requires
transfer_right-requires c = ltb-true _ _ (transfer_in c.args.o.now.layout c.args.o.now.bytes.now c.args.x c.args.operation (omega arith) (omega arith) ∙ c.requires)

pub returns-in-1 : goal.returns-in-1
unfolding entry_right_at
returns-in-1 c = c.constant_right.ensures ∙ ap (λ k. entry_right_at (book_of c.args.o.now) k c.args.x) (sym c.in-1.is)

pub returns-in-4 : goal.returns-in-4
unfolding entry_right_at
returns-in-4 c =
    let o = book_of c.args.o.now in
    c.element_right.ensures ∙ one_of (λ k. element_right o c.args.x ≡ entry_right_at o k c.args.x) 4 2 c.args.operation (omega arith) (omega arith) (refl, (refl, tt))

pub returns-in-14 : goal.returns-in-14
unfolding entry_right_at
returns-in-14 c =
    let o = book_of c.args.o.now in
    c.loop_right.ensures ∙ one_of (λ k. loop_right o c.args.x ≡ entry_right_at o k c.args.x) 14 2 c.args.operation (omega arith) (omega arith) (refl, (refl, tt))

pub returns-in-16 : goal.returns-in-16
unfolding entry_right_at
returns-in-16 c =
    let o = book_of c.args.o.now in
    c.transfer_right.ensures ∙ one_of (λ k. transfer_right o c.args.x ≡ entry_right_at o k c.args.x) 16 2 c.args.operation (omega arith) (omega arith) (refl, (refl, tt))

pub returns-in_default : goal.returns-in_default
returns-in_default c = no_use _ _ _ (omega arith) (omega arith) (omega arith) (omega arith) (omega arith) (omega arith) (omega arith)

pub returns-in_default-2 : goal.returns-in_default-2
returns-in_default-2 c = no_use _ _ _ (omega arith) (omega arith) (omega arith) (omega arith) (omega arith) (omega arith) (omega arith)

pub returns-in_default-3 : goal.returns-in_default-3
returns-in_default-3 c = no_use _ _ _ (omega arith) (omega arith) (omega arith) (omega arith) (omega arith) (omega arith) (omega arith)
