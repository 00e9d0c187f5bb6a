-- `check_verdicts::map` meets its contract. Assumes nothing.
use mathlib.Core.Path.{refl}
use Rattle.check_heights.proofs.Answers.{fresh}
use Rattle.check_verdicts.proofs.map.Goals as goal

pub map_with-requires : goal.map_with-requires
map_with-requires c =
    fresh 4096 refl
