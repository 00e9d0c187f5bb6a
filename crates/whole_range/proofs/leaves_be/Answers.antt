-- `whole_ranges::leaves_be` meets its contract. Assumes nothing.
use mathlib.Core.Path.{◌≡◌}
use Prim.Native.Nat.{◌-◌}
use native.Mathlib.Omega.{arith}
use Rattle.whole_range.specs.Range.{leaves}
use Rattle.whole_range.proofs.leaves_be.Goals as goal

pub position_of-requires : goal.position_of-requires
position_of-requires c =
    c.requires.0.0

pub set_of-own-requires : goal.set_of-own-requires
set_of-own-requires c =
    omega (arith, c.position_of.ensures, c.requires.0.1)

pub position_of-requires-2 : goal.position_of-requires-2
position_of-requires-2 c =
    c.requires.1.0

pub sets-set-requires : goal.sets-set-requires
sets-set-requires c =
    omega (arith, c.position_of-2.ensures, c.requires.1.1)

pub returns : goal.returns
unfolding leaves
returns c =
    let a : c.position_of.result ≡ c.args.range.first.0 - 1 = omega (arith, c.position_of.ensures) in
    let b : c.position_of-2.result ≡ c.args.at.0 - 1 = omega (arith, c.position_of-2.ensures) in
    rw (c.in_range.ensures, c.sets-set.ensures, c.set_of-own.ensures, a, b)
