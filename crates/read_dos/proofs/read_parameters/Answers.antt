-- `read_dos::read_parameters` meets its contract. Assumes nothing.
use mathlib.Core.Path.{sym, ◌∙◌}
use native.Mathlib.Omega.{arith}
use borrow.Author.Rules.{rules}
use Rattle.read_tokens.proofs.Chains.{took, refused}
use Rattle.read_dos.proofs.Loops.{first_bad_lem, first_no_comma, second_bad, second_read}
use Rattle.read_dos.proofs.read_parameters.Goals as goal

pub returns-in_err-first : goal.returns-in_err-first
returns-in_err-first c =
    let s = c.args.text.now in
    rw c.from_residual.ensures (first_bad_lem s c.args.name.at c.args.last c.args.name.value c.args.name.sizes (refused c.read_parameter.ensures c.in_err-first.was))

pub returns-then-byte-ne44 : goal.returns-then-byte-ne44
returns-then-byte-ne44 c =
    let s = c.args.text.now in
    let t = took c.read_parameter.ensures c.in_ok-first.was in
    first_no_comma s c.args.name.at c.args.last c.args.name.value c.args.name.sizes t (λ z. omega (arith, c.byte.ensures))

pub returns-in_err-limit : goal.returns-in_err-limit
returns-in_err-limit c =
    let s = c.args.text.now in
    let cm = sym c.byte.ensures ∙ c.if-byte-ne44.false in
    let t = took c.read_parameter.ensures c.in_ok-first.was in
    rw c.from_residual-in_err-limit.ensures (second_bad s c.args.name.at c.args.last c.args.name.value c.args.name.sizes t cm (refused c.read_parameter-2.ensures c.in_err-limit.was))

pub read_by-requires-clause-room : goal.read_by-requires-clause-room
read_by-requires-clause-room c =
    let u = took c.read_parameter-2.ensures c.in_ok-limit.was in
    (u.upto.within, search rules)

pub returns : goal.returns
returns c =
    let s = c.args.text.now in
    let cm = sym c.byte.ensures ∙ c.if-byte-ne44.false in
    let t = took c.read_parameter.ensures c.in_ok-first.was in
    let u = took c.read_parameter-2.ensures c.in_ok-limit.was in
    second_read s c.args.name.at c.args.last c.args.name.value c.args.name.sizes t cm u c.join.ensures c.join-2.ensures c.read_by.ensures
