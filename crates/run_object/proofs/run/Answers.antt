-- `run_object::run` meets its contract. Assumes nothing.
use mathlib.Core.Path.{refl}
use Rattle.check_heights.proofs.Answers.{fresh}
use Rattle.run_object.proofs.run.Goals as goal

pub run_with-requires : goal.run_with-requires
run_with-requires c =
    fresh 4096 refl
