-- `take_arrays::named` meets its contract. Assumes nothing.
use mathlib.Core.Path.{sym, ap, ◌∙◌}
use native.Mathlib.Omega.{arith}
use Rattle.read_tokens.specs.declared.Name as code
use Rattle.read_tokens.specs.Words.{same_words}
use Rattle.take_arrays.proofs.News.{hunt_found, hunt_next, hunt_end}
use Rattle.take_arrays.proofs.named.Goals as goal

pub returns-then-eq : goal.returns-then-eq
returns-then-eq c =
    let w = c.args.name in
    let n = c.args.n in
    let t = c.args.arrays.now in
    hunt_found w n t c.loop-i.i c.loop-i.invariant c.loop-i-test.true (ap (λ (x : code.Name). same_words x w) (sym c.name_at.ensures) ∙ sym c.eq.ensures ∙ c.if-eq.true)

pub loop-i-preserved : goal.loop-i-preserved
loop-i-preserved c =
    let w = c.args.name in
    let n = c.args.n in
    let t = c.args.arrays.now in
    hunt_next w n t c.loop-i.i c.loop-i.invariant c.loop-i-test.true (ap (λ (x : code.Name). same_words x w) (sym c.name_at.ensures) ∙ sym c.eq.ensures ∙ c.if-eq.false)

pub returns : goal.returns
returns c =
    let w = c.args.name in
    let n = c.args.n in
    let t = c.args.arrays.now in
    hunt_end w n t c.loop-i.i c.loop-i.invariant (omega arith)
