-- `read_elements::read_place` meets its contract. Assumes nothing.
use mathlib.Core.Path.{sym, ◌∙◌}
use Rattle.read_tokens.proofs.Chains.{took, refused}
use Rattle.read_elements.proofs.Parts.{place_no_name, place_cell, place_bad, place_element}
use Rattle.read_elements.proofs.read_place.Goals as goal

pub returns-in_err-name : goal.returns-in_err-name
returns-in_err-name c =
    rw c.from_residual.ensures (place_no_name c.args.s.now c.args.from c.requires (refused c.read_name.ensures c.in_err-name.was))

pub returns-then-byte-ne40 : goal.returns-then-byte-ne40
returns-then-byte-ne40 c =
    let t = took c.read_name.ensures c.in_ok-name.was in
    place_cell c.args.s.now c.args.from c.requires t (λ z. c.if-byte-ne40.true (c.byte.ensures ∙ z))

pub returns-in_err-subscripts : goal.returns-in_err-subscripts
returns-in_err-subscripts c =
    let t = took c.read_name.ensures c.in_ok-name.was in
    let op = sym c.byte.ensures ∙ c.if-byte-ne40.false in
    rw c.from_residual-in_err-subscripts.ensures (place_bad c.args.s.now c.args.from c.requires t op (refused c.read_subscripts.ensures c.in_err-subscripts.was))

pub returns : goal.returns
returns c =
    let t = took c.read_name.ensures c.in_ok-name.was in
    let op = sym c.byte.ensures ∙ c.if-byte-ne40.false in
    place_element c.args.s.now c.args.from c.requires t op (took c.read_subscripts.ensures c.in_ok-subscripts.was) c.join.ensures
