-- `take_entries::low` meets its contract. Assumes nothing.
use native.Mathlib.Omega.{arith}
use lib.Bits.{and_mask, mask_lt}
use Rattle.take_entries.proofs.low.Goals as goal

pub overflow_cast-result : goal.overflow_cast-result
overflow_cast-result c =
    omega (arith, mask_lt c.args.word 32)

pub returns : goal.returns
returns c =
    and_mask c.args.word 32
