-- `read_elements::read_addend` meets its contract. Assumes nothing.
use mathlib.Core.Path.{ap, ◌∙◌}
use Rattle.read_tokens.proofs.Measured.{sizes_none}
use Rattle.read_tokens.proofs.Chains.{took, refused}
use Rattle.read_elements.specs.Values.{minus_of}
use Rattle.read_elements.proofs.Parts.{sign_inside, addend_nothing, addend_bad, addend_read}
use Rattle.read_elements.proofs.read_addend.Goals as goal

pub returns-in_default : goal.returns-in_default
returns-in_default c =
    let g = c.minus_of.ensures ∙ ap minus_of c.byte.ensures in
    addend_nothing c.args.s.now c.args.from c.requires _ g c.in_default.is (sizes_none c.default.ensures)

pub read_number-requires : goal.read_number-requires
read_number-requires c =
    let g = c.minus_of.ensures ∙ ap minus_of c.byte.ensures in
    sign_inside c.args.s.now c.args.from c.requires _ g c.in-Some.is

pub returns-in_err-number : goal.returns-in_err-number
returns-in_err-number c =
    let g = c.minus_of.ensures ∙ ap minus_of c.byte.ensures in
    rw c.from_residual.ensures (addend_bad c.args.s.now c.args.from c.requires _ g c.in-Some.is (refused c.read_number.ensures c.in_err-number.was))

pub returns : goal.returns
returns c =
    let g = c.minus_of.ensures ∙ ap minus_of c.byte.ensures in
    addend_read c.args.s.now c.args.from c.requires _ g c.in-Some.is (took c.read_number.ensures c.in_ok-number.was)
