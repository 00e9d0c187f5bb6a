-- `read_lists::read_array` meets its contract. Assumes nothing.
use mathlib.Core.Path.{sym, ◌∙◌}
use Rattle.read_tokens.proofs.Chains.{took, refused}
use Rattle.read_lists.proofs.Arrays.{array_no_name, array_not_opened, array_no_rows, array_read}
use Rattle.read_lists.proofs.read_array.Goals as goal

pub returns-in_err-name : goal.returns-in_err-name
returns-in_err-name c =
    let s = c.args.text.now in
    rw c.from_residual.ensures (array_no_name s c.args.from c.requires (refused c.read_name.ensures c.in_err-name.was))

pub returns-then-byte-ne40 : goal.returns-then-byte-ne40
returns-then-byte-ne40 c =
    let s = c.args.text.now in
    let t = took c.read_name.ensures c.in_ok-name.was in
    array_not_opened s c.args.from c.requires t (λ z. c.if-byte-ne40.true (c.byte.ensures ∙ z))

pub returns-in_err-rows : goal.returns-in_err-rows
returns-in_err-rows c =
    let s = c.args.text.now in
    let t = took c.read_name.ensures c.in_ok-name.was in
    let o = sym c.byte.ensures ∙ c.if-byte-ne40.false in
    rw c.from_residual-in_err-rows.ensures (array_no_rows s c.args.from c.requires t o (refused c.read_number.ensures c.in_err-rows.was))

pub read_columns-requires-clause-within : goal.read_columns-requires-clause-within
read_columns-requires-clause-within c =
    let u = took c.read_number.ensures c.in_ok-rows.was in
    u.upto.within

pub returns : goal.returns
returns c =
    let s = c.args.text.now in
    let t = took c.read_name.ensures c.in_ok-name.was in
    let o = sym c.byte.ensures ∙ c.if-byte-ne40.false in
    let u = took c.read_number.ensures c.in_ok-rows.was in
    array_read s c.args.from c.requires t o u c.join.ensures c.read_columns.ensures
