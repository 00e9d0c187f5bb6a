-- `object_contents::size_of` meets its contract. Assumes nothing.
use Prim.Native.Nat.{ℕ, ◌*◌}
use mathlib.Core.Path.{ap}
use native.Mathlib.Omega.{arith}
use Rattle.object_contents.proofs.Sizes.{sized}
use Rattle.object_contents.proofs.size_of.Goals as goal

pub overflow_mul-result : goal.overflow_mul-result
overflow_mul-result c = omega (arith, (sized c.args.kind c.requires).few, c.entry_words.ensures)

pub returns : goal.returns
returns c =
    (ap (λ (z : ℕ). 4 * z) c.entry_words.ensures, omega (arith, (sized c.args.kind c.requires).some, c.entry_words.ensures))
