-- `read_lists::read_columns` meets its contract. Assumes nothing.
use mathlib.Core.Path.{sym, ◌∙◌}
use Rattle.read_tokens.proofs.Chains.{took, refused}
use Rattle.read_lists.proofs.Arrays.{columns_none, columns_bad, columns_open, columns_read_lem}
use Rattle.read_lists.proofs.read_columns.Goals as goal

pub returns-then-byte-eq41 : goal.returns-then-byte-eq41
returns-then-byte-eq41 c =
    let s = c.args.text.now in
    columns_none s c.args.row.at c.requires.within c.args.row.value.name c.args.row.value.rows c.args.row.sizes (sym c.byte.ensures ∙ c.if-byte-eq41.true) c.requires.one.0 c.requires.one.1

pub returns-in_err-columns : goal.returns-in_err-columns
returns-in_err-columns c =
    let s = c.args.text.now in
    rw c.from_residual.ensures (columns_bad s c.args.row.at c.requires.within c.args.row.value.name c.args.row.value.rows c.args.row.sizes (λ z. c.if-byte-eq41.false (c.byte.ensures ∙ z)) (refused c.read_next.ensures c.in_err-columns.was))

pub returns-then-byte-ne41 : goal.returns-then-byte-ne41
returns-then-byte-ne41 c =
    let s = c.args.text.now in
    let t = took c.read_next.ensures c.in_ok-columns.was in
    columns_open s c.args.row.at c.requires.within c.args.row.value.name c.args.row.value.rows c.args.row.sizes t (λ z. c.if-byte-ne41.true (c.byte-2.ensures ∙ z))

pub returns : goal.returns
returns c =
    let s = c.args.text.now in
    let t = took c.read_next.ensures c.in_ok-columns.was in
    columns_read_lem s c.args.row.at c.requires.within c.args.row.value.name c.args.row.value.rows c.args.row.sizes t (sym c.byte-2.ensures ∙ c.if-byte-ne41.false) c.join.ensures
