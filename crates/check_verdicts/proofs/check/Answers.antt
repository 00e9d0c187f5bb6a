-- `check_verdicts::check` meets its contract. Assumes nothing.
use mathlib.Core.Path.{refl}
use Rattle.check_heights.proofs.Answers.{fresh}
use Rattle.check_verdicts.proofs.Maps.{check_told}
use Rattle.check_verdicts.proofs.check.Goals as goal

pub check-requires : goal.check-requires
check-requires c =
    fresh 4096 refl

pub returns : goal.returns
returns c =
    check_told _ _ _ _ c.check.ensures c.from.ensures
