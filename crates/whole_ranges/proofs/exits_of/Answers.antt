-- `whole_ranges::exits_of` meets its contract. Assumes nothing.
use mathlib.Core.Path.{sym, ap, ◌∙◌}
use mathlib.Core.Bool.{Bool, cond}
use borrow.Author.Tests.{eq-eqb, ne_eqb}
use Rattle.whole_tables.specs.Rows.{kind_at, jumps_at}
use Rattle.whole_ranges.specs.Ranges.{exits_at}
use Rattle.whole_ranges.proofs.exits_of.Goals as goal

pub returns-then-kind_of-word : goal.returns-then-kind_of-word
unfolding exits_at
returns-then-kind_of-word c =
    let R = c.args.rows.now in
    let q = c.args.q in
    sym (ap (λ (b : Bool). cond b 0 (jumps_at R q)) (eq-eqb (kind_at R q) 4 (sym c.kind_of.ensures ∙ c.if-kind_of-word.true ∙ c.word.ensures)))

pub returns : goal.returns
unfolding exits_at
returns c =
    let R = c.args.rows.now in
    let q = c.args.q in
    c.jumps_of.ensures ∙ sym (ap (λ (b : Bool). cond b 0 (jumps_at R q)) (ne_eqb (kind_at R q) 4 (λ e. c.if-kind_of-word.false (c.kind_of.ensures ∙ e ∙ sym c.word.ensures))))
