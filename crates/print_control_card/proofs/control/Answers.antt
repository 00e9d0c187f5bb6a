-- `print_control_card::control` meets its contract. Assumes nothing.
use mathlib.Core.Path.{ap, sym, ◌∙◌}
use mathlib.Core.Bool.{Bool, cond}
use mathlib.Core.Option.{none}
use lib.ListN.{get_or}
use Rattle.rules_program.specs.Program.{first_column}
use Rattle.print_control_card.proofs.CardLaws.{control_short, control_is}
use Rattle.print_control_card.proofs.control.Goals as goal
use Rattle.print_control_card.proofs.control.Goals.{then-input-lt-CARD-via-then-input-lt-CARD, then-input-lt-CARD-via-else-input-lt-CARD+then-not-is_blank}

pub returns-then-input-lt-CARD-clause-digits : goal.returns-then-input-lt-CARD-clause-digits
returns-then-input-lt-CARD-clause-digits c =
    let s = c.args.input.now in
    elim c.then-input-lt-CARD.branch [
      | then-input-lt-CARD-via-then-input-lt-CARD w ↦ control_short s w.if-input-lt-CARD.true
      | then-input-lt-CARD-via-else-input-lt-CARD+then-not-is_blank w ↦
          ap (λ (b : Bool). cond b (first_column (get_or s 0 0)) none) (sym w.if-not-is_blank.true) ∙ control_is s w.if-input-lt-CARD.false w.is_blank.result w.is_blank.ensures
    ]

pub returns-clause-digits : goal.returns-clause-digits
returns-clause-digits c =
    let s = c.args.input.now in
    c.first_column.ensures ∙ ap (λ (b : Bool). cond b (first_column (get_or s 0 0)) none) (sym c.if-not-is_blank.false) ∙ control_is s c.if-input-lt-CARD.false c.is_blank.result c.is_blank.ensures
