-- `read_elements::read_subscripts` meets its contract. Assumes nothing.
use mathlib.Core.Path.{sym, ◌∙◌}
use native.Mathlib.Omega.{arith}
use Rattle.read_tokens.proofs.Chains.{took, refused}
use Rattle.read_elements.proofs.Parts.{no_parenthesis, no_first, not_closed, one_read, no_second, two_not_closed, two_read}
use Rattle.read_elements.proofs.read_subscripts.Goals as goal

pub returns-then-byte-ne40 : goal.returns-then-byte-ne40
returns-then-byte-ne40 c =
    no_parenthesis c.args.s.now c.args.from c.requires (λ z. c.if-byte-ne40.true (c.byte.ensures ∙ z))

pub returns-in_err-first : goal.returns-in_err-first
returns-in_err-first c =
    let op = sym c.byte.ensures ∙ c.if-byte-ne40.false in
    rw c.from_residual.ensures (no_first c.args.s.now c.args.from op (refused c.read_subscript.ensures c.in_err-first.was))

pub returns-in-41 : goal.returns-in-41
returns-in-41 c =
    let op = sym c.byte.ensures ∙ c.if-byte-ne40.false in
    let t = took c.read_subscript.ensures c.in_ok-first.was in
    one_read c.args.s.now c.args.from op t (sym c.byte-2.ensures ∙ c.in-41.is)

pub returns-in_err-second-in-44 : goal.returns-in_err-second-in-44
returns-in_err-second-in-44 c =
    let op = sym c.byte.ensures ∙ c.if-byte-ne40.false in
    let t = took c.read_subscript.ensures c.in_ok-first.was in
    let cm = sym c.byte-2.ensures ∙ c.in-44.is in
    rw c.from_residual-in_err-second-in-44.ensures (no_second c.args.s.now c.args.from op t cm (refused c.read_subscript-in-44.ensures c.in_err-second-in-44.was))

pub returns-in_default : goal.returns-in_default
returns-in_default c =
    let op = sym c.byte.ensures ∙ c.if-byte-ne40.false in
    let t = took c.read_subscript.ensures c.in_ok-first.was in
    not_closed c.args.s.now c.args.from op t (λ z. omega (arith, c.byte-2.ensures)) (λ z. omega (arith, c.byte-2.ensures))

pub returns-then-byte-ne41 : goal.returns-then-byte-ne41
returns-then-byte-ne41 c =
    let op = sym c.byte.ensures ∙ c.if-byte-ne40.false in
    let t = took c.read_subscript.ensures c.in_ok-first.was in
    let cm = sym c.byte-2.ensures ∙ c.in-44.is in
    let u = took c.read_subscript-in-44.ensures c.in_ok-second-in-44.was in
    two_not_closed c.args.s.now c.args.from op t cm u (λ z. omega (arith, c.byte-in-44.ensures))

pub returns-else-byte-ne41 : goal.returns-else-byte-ne41
returns-else-byte-ne41 c =
    let op = sym c.byte.ensures ∙ c.if-byte-ne40.false in
    let t = took c.read_subscript.ensures c.in_ok-first.was in
    let cm = sym c.byte-2.ensures ∙ c.in-44.is in
    let u = took c.read_subscript-in-44.ensures c.in_ok-second-in-44.was in
    two_read c.args.s.now c.args.from op t cm u (omega (arith, c.byte-in-44.ensures)) c.join.ensures
