-- `print_numbers::put_subscripts` meets its contract. Assumes nothing.
use Prim.Native.Nat.{ℕ, ◌+◌, ◌%◌, ◌/◌}
use mathlib.Core.Path.{◌≡◌, sym}
use mathlib.Core.List.{List, ◌++◌}
use native.Mathlib.Omega.{arith}
use Rattle.rules_text.specs.Punch.{bytes}
use Rattle.rules_program.specs.Text.{stated, subscripts}
use Rattle.print_numbers.specs.Puts.{Room}
use Rattle.print_numbers.proofs.PutLaws.{room_first, room_then, puts_none, puts_both, puts_as, room_as}
use Rattle.print_numbers.proofs.NumberLaws.{no_subscripts, one_subscript, two_subscripts}
use native.Mathlib.Nat.{mod-le, div-le_self}
use Rattle.print_numbers.proofs.put_subscripts.Goals as goal

pub returns-then-rows-eq0 : goal.returns-then-rows-eq0
returns-then-rows-eq0 c =
    let a = c.args in
    let at = a.at in
    let o = a.out.now in
    let w : List ℕ = subscripts a.rows a.columns a.i in
    puts_as (sym (no_subscripts a.rows a.columns a.i c.if-rows-eq0.true)) (puts_none at o)

pub put_stated-a-requires : goal.put_stated-a-requires
put_stated-a-requires c =
    let a = c.args in
    let at = a.at in
    let o = a.out.now in
    let w : List ℕ = subscripts a.rows a.columns a.i in
    let x : List ℕ = stated (bytes "(") (a.i + 1) in
    let y : List ℕ = bytes ")" in
    let e : w ≡ x ++ y = one_subscript a.rows a.columns a.i c.if-rows-eq0.false c.if-columns-eq0.true in
    let r : Room (x ++ y) at o = room_as e c.requires.1 in
    room_first x y r

pub put_words-requires : goal.put_words-requires
put_words-requires c =
    let a = c.args in
    let at = a.at in
    let o = a.out.now in
    let w : List ℕ = subscripts a.rows a.columns a.i in
    let x : List ℕ = stated (bytes "(") (a.i + 1) in
    let y : List ℕ = bytes ")" in
    let e : w ≡ x ++ y = one_subscript a.rows a.columns a.i c.if-rows-eq0.false c.if-columns-eq0.true in
    let r : Room (x ++ y) at o = room_as e c.requires.1 in
    room_then x y c.put_stated-a.ensures r

pub returns-then-columns-eq0 : goal.returns-then-columns-eq0
returns-then-columns-eq0 c =
    let a = c.args in
    let at = a.at in
    let o = a.out.now in
    let w : List ℕ = subscripts a.rows a.columns a.i in
    let x : List ℕ = stated (bytes "(") (a.i + 1) in
    let y : List ℕ = bytes ")" in
    let e : w ≡ x ++ y = one_subscript a.rows a.columns a.i c.if-rows-eq0.false c.if-columns-eq0.true in
    let r : Room (x ++ y) at o = room_as e c.requires.1 in
    puts_as (sym e) (puts_both x y c.put_stated-a.ensures c.put_words.ensures)

pub overflow_add-i-2 : goal.overflow_add-i-2
overflow_add-i-2 c =
    let a = c.args in
    let w : List ℕ = subscripts a.rows a.columns a.i in
    let h = mod-le a.i a.rows in
    omega (arith, h, c.requires.0)

pub put_stated-a-requires-2 : goal.put_stated-a-requires-2
put_stated-a-requires-2 c =
    let a = c.args in
    let at = a.at in
    let o = a.out.now in
    let w : List ℕ = subscripts a.rows a.columns a.i in
    let x : List ℕ = stated (bytes "(") (a.i % a.rows + 1) in
    let y : List ℕ = stated (bytes ",") (a.i / a.rows + 1) in
    let z : List ℕ = bytes ")" in
    let e : w ≡ x ++ (y ++ z) = two_subscripts a.rows a.columns a.i c.if-rows-eq0.false c.if-columns-eq0.false in
    let r : Room (x ++ (y ++ z)) at o = room_as e c.requires.1 in
    room_first x (y ++ z) r

pub overflow_add-i-3 : goal.overflow_add-i-3
overflow_add-i-3 c =
    let a = c.args in
    let w : List ℕ = subscripts a.rows a.columns a.i in
    let h = div-le_self a.i a.rows in
    omega (arith, h, c.requires.0)

pub put_stated-b-requires : goal.put_stated-b-requires
put_stated-b-requires c =
    let a = c.args in
    let at = a.at in
    let o = a.out.now in
    let w : List ℕ = subscripts a.rows a.columns a.i in
    let x : List ℕ = stated (bytes "(") (a.i % a.rows + 1) in
    let y : List ℕ = stated (bytes ",") (a.i / a.rows + 1) in
    let z : List ℕ = bytes ")" in
    let e : w ≡ x ++ (y ++ z) = two_subscripts a.rows a.columns a.i c.if-rows-eq0.false c.if-columns-eq0.false in
    let r : Room (x ++ (y ++ z)) at o = room_as e c.requires.1 in
    room_first y z (room_then x (y ++ z) c.put_stated-a-2.ensures r)

pub put_words-requires-2 : goal.put_words-requires-2
put_words-requires-2 c =
    let a = c.args in
    let at = a.at in
    let o = a.out.now in
    let w : List ℕ = subscripts a.rows a.columns a.i in
    let x : List ℕ = stated (bytes "(") (a.i % a.rows + 1) in
    let y : List ℕ = stated (bytes ",") (a.i / a.rows + 1) in
    let z : List ℕ = bytes ")" in
    let e : w ≡ x ++ (y ++ z) = two_subscripts a.rows a.columns a.i c.if-rows-eq0.false c.if-columns-eq0.false in
    let r : Room (x ++ (y ++ z)) at o = room_as e c.requires.1 in
    room_then y z c.put_stated-b.ensures (room_then x (y ++ z) c.put_stated-a-2.ensures r)

pub returns : goal.returns
returns c =
    let a = c.args in
    let at = a.at in
    let o = a.out.now in
    let w : List ℕ = subscripts a.rows a.columns a.i in
    let x : List ℕ = stated (bytes "(") (a.i % a.rows + 1) in
    let y : List ℕ = stated (bytes ",") (a.i / a.rows + 1) in
    let z : List ℕ = bytes ")" in
    let e : w ≡ x ++ (y ++ z) = two_subscripts a.rows a.columns a.i c.if-rows-eq0.false c.if-columns-eq0.false in
    let r : Room (x ++ (y ++ z)) at o = room_as e c.requires.1 in
    puts_as (sym e) (puts_both x (y ++ z) c.put_stated-a-2.ensures (puts_both y z c.put_stated-b.ensures c.put_words-2.ensures))
