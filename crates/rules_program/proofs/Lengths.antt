-- How long the lines are that are printed.
-- Assumes nothing.
use Prim.Native.Nat.{ℕ, zero, suc, ◌+◌, ◌/◌, ◌%◌, ◌^◌, ◌≤◌, ◌<◌}
use mathlib.Core.Bool.{Bool, true, false, cond}
use mathlib.Core.List.{List, [], ◌∷◌, ◌++◌}
use native.Mathlib.Omega.{arith}
use native.Mathlib.Nat.{mod-le, div-le_self}
use lib.Dec.{eqb}
use lib.ListN.{length, length-append}
use lib.IntN.{ℤ, pos, negsuc, nat_abs}
use Rattle.rules_object.specs.Object.{Named}
use Rattle.rules_object.specs.Machine.{cell}
use Rattle.rules_text.specs.Cards.{without_blanks}
use Rattle.rules_text.specs.Punch.{bytes}
use Rattle.rules_program.specs.Text.{numeral, signed, line_end, stated, halt_line, refused_line, subscripts, value_line}
use Rattle.rules_program.proofs.Numerals.{numeral_length}

stated_length : (w : List ℕ) (d n : ℕ) → n < 10 ^ suc d → length (stated w n) ≤ length w + suc d
unfolding stated
stated_length w d n h = omega (arith, length-append w (numeral n), numeral_length d n h)

-- numbers below 2^32 have at most ten digits
pub refused_length : (number place : ℕ) → number < 2 ^ 32 → place < 2 ^ 32 → length (refused_line number place) ≤ 30
unfolding refused_line
refused_length number place h i =
    let a : List ℕ = stated (bytes "REFUSED ") number in
    let b : List ℕ = stated (bytes " ") place in
    let h' : number < 10 ^ 10 = omega (arith, h) in
    let i' : place < 10 ^ 10 = omega (arith, i) in
    let x : length a ≤ 18 = stated_length (bytes "REFUSED ") 9 number h' in
    let y : length b ≤ 11 = stated_length (bytes " ") 9 place i' in
    omega (arith, length-append a (b ++ line_end), length-append b line_end, x, y)

pub halt_length : (h steps drop : ℕ) → h < 2 ^ 32 → steps < 2 ^ 32 → drop < 2 ^ 32 → length (halt_line h steps drop) ≤ 49
unfolding halt_line
halt_length h steps drop i j k =
    let a : List ℕ = stated (bytes "HALT ") h in
    let b : List ℕ = stated (bytes " STEPS ") steps in
    let c : List ℕ = stated (bytes " DROP ") drop in
    let i' : h < 10 ^ 10 = omega (arith, i) in
    let j' : steps < 10 ^ 10 = omega (arith, j) in
    let k' : drop < 10 ^ 10 = omega (arith, k) in
    let x : length a ≤ 15 = stated_length (bytes "HALT ") 9 h i' in
    let y : length b ≤ 17 = stated_length (bytes " STEPS ") 9 steps j' in
    let z : length c ≤ 16 = stated_length (bytes " DROP ") 9 drop k' in
    omega (arith, length-append a (b ++ (c ++ line_end)), length-append b (c ++ line_end), length-append c line_end, x, y, z)

-- ---- a value's line

solid_length : (s : List ℕ) → length (without_blanks s) ≤ length s
solid_length [] = omega arith
solid_length (c ∷ s) = go (eqb c 32) (solid_length s)
  where
    go : (b : Bool) → length (without_blanks s) ≤ length s → length (cond b (without_blanks s) (c ∷ without_blanks s)) ≤ suc (length s)
    go true h = omega arith
    go false h = omega arith

subscripts_length : (rows columns i : ℕ) → i < 4096 → length (subscripts rows columns i) ≤ 11
unfolding subscripts
subscripts_length zero columns i h = omega arith
subscripts_length (suc r) zero i h =
    let a : List ℕ = stated (bytes "(") (suc i) in
    let x : length a ≤ 5 = stated_length (bytes "(") 3 (suc i) (omega arith) in
    omega (arith, length-append a (bytes ")"), x)
subscripts_length (suc r) (suc c) i h =
    let a : List ℕ = stated (bytes "(") (suc (i % suc r)) in
    let b : List ℕ = stated (bytes ",") (suc (i / suc r)) in
    let x : length a ≤ 5 = stated_length (bytes "(") 3 (suc (i % suc r)) (omega (arith, mod-le i (suc r))) in
    let y : length b ≤ 5 = stated_length (bytes ",") 3 (suc (i / suc r)) (omega (arith, div-le_self i (suc r))) in
    omega (arith, length-append a (b ++ bytes ")"), length-append b (bytes ")"), x, y)

-- a number of 64 bits has at most nineteen digits
signed_length : (v : ℤ) → nat_abs v ≤ 2 ^ 63 → length (signed v) ≤ 20
unfolding signed
signed_length (pos n) h = let x : length (numeral n) ≤ 19 = numeral_length 18 n (omega arith) in omega (arith, x)
signed_length (negsuc n) h = let x : length (numeral (suc n)) ≤ 19 = numeral_length 18 (suc n) (omega arith) in omega (arith, x)

pub line_length : (n : Named) (store : List ℤ) (i : ℕ) → length n.name ≤ 8 → nat_abs (cell store (n.first + i)) ≤ 2 ^ 63 → i < 4096 → length (value_line n store i) ≤ 41
unfolding value_line
line_length n store i short low h =
    let a : List ℕ = without_blanks n.name in
    let b : List ℕ = subscripts n.rows n.columns i in
    let c : List ℕ = bytes " " in
    let d : List ℕ = signed (cell store (n.first + i)) in
    omega (
      arith,
      length-append a (b ++ (c ++ (d ++ line_end))),
      length-append b (c ++ (d ++ line_end)),
      length-append c (d ++ line_end),
      length-append d line_end,
      solid_length n.name,
      short,
      subscripts_length n.rows n.columns i h,
      signed_length (cell store (n.first + i)) low,
    )
