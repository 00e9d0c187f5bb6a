-- `read_cards::is_character` meets its contract. Assumes nothing.
use Prim.Native.Nat.{◌<◌}
use native.Mathlib.Omega.{arith}
use Rattle.read_cards.proofs.CardLaws.{key, middle, capital, none}
use Rattle.read_cards.proofs.is_character.Goals as goal

pub returns-in-32 : goal.returns-in-32
returns-in-32 c =
    let x = c.args.c in
    let b : x < 256 = omega arith in
    key x b c.in-32.in-32-own.keys1

pub returns-in-32-2 : goal.returns-in-32-2
returns-in-32-2 c =
    let x = c.args.c in
    let b : x < 256 = omega arith in
    middle x b (omega arith) (omega arith)

pub returns-in-32-3 : goal.returns-in-32-3
returns-in-32-3 c =
    let x = c.args.c in
    let b : x < 256 = omega arith in
    capital x b (omega arith) (omega arith) (omega arith)

pub returns-in_default : goal.returns-in_default
returns-in_default c =
    let x = c.args.c in
    let b : x < 256 = omega arith in
    none x b c.in_default.in_default-own.rest.1 (λ m n. omega arith) (λ m n. omega arith)

pub returns-in_default-2 : goal.returns-in_default-2
returns-in_default-2 c =
    let x = c.args.c in
    let b : x < 256 = omega arith in
    none x b c.in_default.in_default-own.rest.1 (λ m n. omega arith) (λ m n. omega arith)

pub returns-in_default-3 : goal.returns-in_default-3
returns-in_default-3 c =
    let x = c.args.c in
    let b : x < 256 = omega arith in
    none x b c.in_default.in_default-own.rest.1 (λ m n. omega arith) (λ m n. omega arith)
