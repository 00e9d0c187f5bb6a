-- `check_heights::heights_of` meets its contract. Assumes nothing.
use mathlib.Core.Path.{◌∙◌}
use Rattle.check_heights.proofs.Places.{digits_low, rule_is}
use Rattle.check_heights.proofs.heights_of.Goals as goal

pub of_digits-rule-requires : goal.of_digits-rule-requires
of_digits-rule-requires c =
    digits_low c.requires.judged

pub invariant_of-object : goal.invariant_of-object
invariant_of-object c =
    record { placed = c.requires.judged.placed; ruled = c.of_digits-rule.ensures ∙ rule_is c.args.layout c.args.bytes.now }
