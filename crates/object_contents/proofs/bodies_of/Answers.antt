-- `object_contents::bodies_of` meets its contract: each refusal is one of the book's, and what is left is the object. Assumes nothing.
use mathlib.Core.Path.{sym, ◌∙◌, subst}
use Prim.Native.Nat.{ℕ, ◌<◌}
use native.Mathlib.Omega.{arith}
use lib.ListN.{get_or}
use Rattle.object_contents.specs.Opened.{OpenedAt}
use Rattle.object_contents.proofs.Opens.{short_contents, misfit, no_code, opens}
use Rattle.object_contents.proofs.bodies_of.Goals as goal
use Rattle.object_contents.proofs.bodies_of.Goals.{then-o-contents_length-via-then-o-contents_length, then-o-contents_length-via-else-o-contents_length+then-not-bodies_fit, then-o-contents_length-via-else-o-contents_length+else-not-bodies_fit+then-count_of-eq0}

pub returns-then-o-contents_length : goal.returns-then-o-contents_length
returns-then-o-contents_length c =
    let s = c.args.o.now in
    let n = c.args.kinds in
    let begun = c.requires in
    elim c.then-o-contents_length.branch [
      | then-o-contents_length-via-then-o-contents_length w ↦ short_contents s begun.long begun.four (omega (arith, begun.kinds))
      | then-o-contents_length-via-else-o-contents_length+then-not-bodies_fit w ↦ misfit s n begun w.if-not-bodies_fit.ensures
      | then-o-contents_length-via-else-o-contents_length+else-not-bodies_fit+then-count_of-eq0 w ↦ no_code s n begun w.if-not-bodies_fit.ensures (sym w.count_of.ensures ∙ w.if-count_of-eq0.true)
    ]

pub returns : goal.returns
returns c =
    let s = c.args.o.now in
    let bytes : (i : ℕ) → get_or s i 0 < 256 = λ i. omega (arith, c.type_inv.o i) in
    subst (OpenedAt s) (sym c.layout_of.ensures) (opens s c.args.kinds c.requires c.if-not-bodies_fit.ensures bytes (λ e. c.if-count_of-eq0.false (c.count_of.ensures ∙ e)))
