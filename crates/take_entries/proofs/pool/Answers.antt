-- `take_entries::pool` meets its contract. Assumes nothing.
use mathlib.Core.Path.{refl}
use Prim.Native.Nat.{◌+◌}
use native.Mathlib.Omega.{arith}
use lib.ListN.{take}
use lib.Seq.{length-take-le}
use Rattle.take_entries.proofs.Pools.{found, missing, was_there, one_too_many, put_new}
use Rattle.take_entries.proofs.pool.Goals as goal

pub returns-in-Some : goal.returns-in-Some
returns-in-Some c =
    let a = c.args in
    let f = found (take a.n a.constants.now) a.value c.in-Some.index c.in-Some.ensures in
    let long = length-take-le a.n a.constants.now (omega arith) in
    was_there a.constants.now a.n a.value c.told-constants c.requires (record { index = c.in-Some.index; count = a.n }) (omega (arith, f.0, long)) f.1 refl

pub returns-then-n-eq-CONSTANTS : goal.returns-then-n-eq-CONSTANTS
returns-then-n-eq-CONSTANTS c =
    let a = c.args in
    let m = missing (take a.n a.constants.now) a.value c.in_default.ensures in
    let long = length-take-le a.n a.constants.now (omega arith) in
    one_too_many a.constants.now a.n a.value c.told-constants c.requires (omega (arith, m, long)) c.if-n-eq-CONSTANTS.true

pub returns : goal.returns
returns c =
    let a = c.args in
    let m = missing (take a.n a.constants.now) a.value c.in_default.ensures in
    let long = length-take-le a.n a.constants.now (omega arith) in
    put_new a.constants.now a.n a.value c.told-constants c.requires (record { index = a.n; count = a.n + 1 }) (omega (arith, m, long)) (omega arith) refl refl
