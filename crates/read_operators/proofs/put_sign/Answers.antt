-- `read_operators::put_sign` meets its contract. Assumes nothing.
use native.Mathlib.Omega.{arith}
use borrow.Author.Rules.{rules}
use Rattle.read_operators.proofs.put_sign.Goals as goal

pub offset_bounds-items-n : goal.offset_bounds-items-n
offset_bounds-items-n c =
    (let h = c.requires c.if-minus.true in search rules)

pub bounds-items-n : goal.bounds-items-n
bounds-items-n c =
    c.requires c.if-minus.true

pub overflow_add-result : goal.overflow_add-result
overflow_add-result c =
    omega (arith, c.requires c.if-minus.true)

pub returns-then-minus : goal.returns-then-minus
returns-then-minus c =
    record { table = rw c.if-minus.true; top = rw c.if-minus.true }
