-- `read_elements::read_linear` meets its contract. Assumes nothing.
use Rattle.read_tokens.proofs.Chains.{took, refused}
use Rattle.read_elements.proofs.Parts.{linear_no_name, linear_no_addend, linear_read}
use Rattle.read_elements.proofs.read_linear.Goals as goal

pub returns-in_err-name : goal.returns-in_err-name
returns-in_err-name c =
    rw c.from_residual.ensures (linear_no_name c.args.s.now c.args.times.at c.requires (refused c.read_name.ensures c.in_err-name.was))

pub read_addend-requires : goal.read_addend-requires
read_addend-requires c =
    let t = took c.read_name.ensures c.in_ok-name.was in
    t.upto.within

pub returns-in_err-addend : goal.returns-in_err-addend
returns-in_err-addend c =
    let t = took c.read_name.ensures c.in_ok-name.was in
    rw c.from_residual-in_err-addend.ensures (linear_no_addend c.args.s.now c.args.times.at c.requires t (refused c.read_addend.ensures c.in_err-addend.was))

pub returns : goal.returns
returns c =
    let t = took c.read_name.ensures c.in_ok-name.was in
    linear_read c.args.s.now c.args.times.at c.requires t (took c.read_addend.ensures c.in_ok-addend.was) c.join.ensures c.join-2.ensures
