-- `check_names::named_right` meets its contract. Assumes nothing.
use Rattle.std.proofs.Common.{◌≡◌, ◌+◌, ◌||◌, leb, arith}
use lib.Dec.{eqb}
use Rattle.std.proofs.lemmas.Bool.Decides.{nat_tests}
use Rattle.check_names.proofs.Says.{named_says}
use Rattle.check_names.proofs.named_right.Goals as goal
use Rattle.check_names.proofs.named_right.Goals.{then-name_right, else-name_right}

pub returns-then-plain_or_table : goal.returns-then-plain_or_table
returns-then-plain_or_table c =
    let plain : c.if-rows-ge1.plain_or_table ≡ (leb 1 c.load-rows.result || eqb c.load-columns.result 0) = grind (arith, nat_tests) in
    let is = named_says c.args.e.now c.args.o.now c.args.i c.requires.1 _ _ _ (c.from.result + c.span_of.result) _ _ c.load-rows.ensures c.load-columns.ensures (cc) (omega arith) c.name_right.ensures plain in
    elim c.if-name_right.branch [ then-name_right w ↦ rw (is, w.if-name_right.true, ← w.value-is, c.if-plain_or_table.true, c.from-then-plain_or_table.ensures) | else-name_right w ↦ cc ]

pub returns-else-plain_or_table : goal.returns-else-plain_or_table
returns-else-plain_or_table c =
    let plain : c.if-rows-ge1.plain_or_table ≡ (leb 1 c.load-rows.result || eqb c.load-columns.result 0) = grind (arith, nat_tests) in
    let is = named_says c.args.e.now c.args.o.now c.args.i c.requires.1 _ _ _ (c.from.result + c.span_of.result) _ _ c.load-rows.ensures c.load-columns.ensures (cc) (omega arith) c.name_right.ensures plain in
    elim c.if-name_right.branch [ then-name_right w ↦ rw (is, w.if-name_right.true, ← w.value-is, c.if-plain_or_table.false) | else-name_right w ↦ rw (is, w.if-name_right.false, c.if-plain_or_table.false) ]
