-- `read_elements::read_subscript` meets its contract. Assumes nothing.
use mathlib.Core.Path.{refl, sym, ◌∙◌}
use Rattle.read_tokens.proofs.Measured.{sizes_none}
use Rattle.read_tokens.proofs.Chains.{took, refused}
use Rattle.read_elements.proofs.Parts.{subscript_plain, subscript_times, subscript_constant}
use Rattle.read_elements.proofs.read_subscript.Goals as goal

pub returns-in_default : goal.returns-in_default
returns-in_default c =
    subscript_plain c.args.s.now c.args.from c.requires (refused c.read_number.ensures c.in_default.is) refl (sizes_none c.default.ensures) c.read_linear.ensures

pub returns-then-byte-eq42 : goal.returns-then-byte-eq42
returns-then-byte-eq42 c =
    let t = took c.read_number.ensures c.in-Some.is in
    subscript_times c.args.s.now c.args.from c.requires t (sym c.byte.ensures ∙ c.if-byte-eq42.true) c.read_linear-then-byte-eq42.ensures

pub returns : goal.returns
returns c =
    let t = took c.read_number.ensures c.in-Some.is in
    subscript_constant c.args.s.now c.args.from c.requires t (λ z. c.if-byte-eq42.false (c.byte.ensures ∙ z))
