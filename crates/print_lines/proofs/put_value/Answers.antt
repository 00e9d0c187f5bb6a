-- `print_lines::put_value` meets its contract. Assumes nothing.
use Prim.Native.Nat.{ℕ, ◌+◌}
use mathlib.Core.Path.{sym, ap}
use mir.Syntax.{w64}
use mir.Val.{SFits}
use mir.Facts.{to_z-of_z}
use borrow.Author.Rules.{rules}
use mathlib.Core.List.{List, ◌++◌}
use native.Mathlib.Omega.{arith}
use lib.IntN.{ℤ}
use Rattle.rules_object.specs.Machine.{cell}
use Rattle.rules_text.specs.Cards.{without_blanks}
use Rattle.rules_text.specs.Punch.{bytes}
use Rattle.rules_program.specs.Text.{signed, line_end, subscripts, value_line}
use Rattle.print_lines.specs.Entries.{named_in}
use Rattle.print_numbers.specs.Puts.{Room}
use Rattle.print_lines.proofs.ValueLaws.{line_low}
use Rattle.print_numbers.proofs.PutLaws.{room_first, room_then, puts_both, puts_as, room_as}
use Rattle.print_lines.proofs.put_value.Goals as goal

pub put_name-a-requires : goal.put_name-a-requires
unfolding value_line named_in
put_name-a-requires c =
    let a = c.args in
    let e = a.e.now in
    let v : ℤ = cell a.store.now (e.first + a.i) in
    let known : SFits w64 v = search rules in
    let line = line_low e a.store.now a.i c.requires.0.text (omega (arith, c.requires.0.cell, c.requires.0.most)) known.sfits in
    let room : Room (value_line (named_in e) a.store.now a.i) a.at a.out.now = record { fits = omega (arith, line, c.requires.1) } in
    let t0 : List ℕ = without_blanks e.text.now in
    let t1 : List ℕ = subscripts e.rows e.columns a.i in
    let t2 : List ℕ = bytes " " in
    let t3 : List ℕ = signed v in
    let t4 : List ℕ = line_end in
    room_first t0 (t1 ++ (t2 ++ (t3 ++ t4))) room

pub put_subscripts-b-requires : goal.put_subscripts-b-requires
unfolding value_line named_in
put_subscripts-b-requires c =
    let a = c.args in
    let e = a.e.now in
    let v : ℤ = cell a.store.now (e.first + a.i) in
    let known : SFits w64 v = search rules in
    let line = line_low e a.store.now a.i c.requires.0.text (omega (arith, c.requires.0.cell, c.requires.0.most)) known.sfits in
    let room : Room (value_line (named_in e) a.store.now a.i) a.at a.out.now = record { fits = omega (arith, line, c.requires.1) } in
    let t0 : List ℕ = without_blanks e.text.now in
    let t1 : List ℕ = subscripts e.rows e.columns a.i in
    let t2 : List ℕ = bytes " " in
    let t3 : List ℕ = signed v in
    let t4 : List ℕ = line_end in
    (omega (arith, c.requires.0.cell, c.requires.0.most), room_first t1 (t2 ++ (t3 ++ t4)) (room_then t0 (t1 ++ (t2 ++ (t3 ++ t4))) c.put_name-a.ensures room))

pub put_words-c-requires : goal.put_words-c-requires
unfolding value_line named_in
put_words-c-requires c =
    let a = c.args in
    let e = a.e.now in
    let v : ℤ = cell a.store.now (e.first + a.i) in
    let known : SFits w64 v = search rules in
    let line = line_low e a.store.now a.i c.requires.0.text (omega (arith, c.requires.0.cell, c.requires.0.most)) known.sfits in
    let room : Room (value_line (named_in e) a.store.now a.i) a.at a.out.now = record { fits = omega (arith, line, c.requires.1) } in
    let t0 : List ℕ = without_blanks e.text.now in
    let t1 : List ℕ = subscripts e.rows e.columns a.i in
    let t2 : List ℕ = bytes " " in
    let t3 : List ℕ = signed v in
    let t4 : List ℕ = line_end in
    room_first t2 (t3 ++ t4) (room_then t1 (t2 ++ (t3 ++ t4)) c.put_subscripts-b.ensures (room_then t0 (t1 ++ (t2 ++ (t3 ++ t4))) c.put_name-a.ensures room))

pub put_signed-d-requires : goal.put_signed-d-requires
unfolding value_line named_in
put_signed-d-requires c =
    let a = c.args in
    let e = a.e.now in
    let v : ℤ = cell a.store.now (e.first + a.i) in
    let known : SFits w64 v = search rules in
    let line = line_low e a.store.now a.i c.requires.0.text (omega (arith, c.requires.0.cell, c.requires.0.most)) known.sfits in
    let room : Room (value_line (named_in e) a.store.now a.i) a.at a.out.now = record { fits = omega (arith, line, c.requires.1) } in
    let t0 : List ℕ = without_blanks e.text.now in
    let t1 : List ℕ = subscripts e.rows e.columns a.i in
    let t2 : List ℕ = bytes " " in
    let t3 : List ℕ = signed v in
    let t4 : List ℕ = line_end in
    room_as (sym (ap signed (to_z-of_z {w = w64} {z = v} known))) (room_first t3 t4 (room_then t2 (t3 ++ t4) c.put_words-c.ensures (room_then t1 (t2 ++ (t3 ++ t4)) c.put_subscripts-b.ensures (room_then t0 (t1 ++ (t2 ++ (t3 ++ t4))) c.put_name-a.ensures room))))

pub put_words-requires : goal.put_words-requires
unfolding value_line named_in
put_words-requires c =
    let a = c.args in
    let e = a.e.now in
    let v : ℤ = cell a.store.now (e.first + a.i) in
    let known : SFits w64 v = search rules in
    let line = line_low e a.store.now a.i c.requires.0.text (omega (arith, c.requires.0.cell, c.requires.0.most)) known.sfits in
    let room : Room (value_line (named_in e) a.store.now a.i) a.at a.out.now = record { fits = omega (arith, line, c.requires.1) } in
    let t0 : List ℕ = without_blanks e.text.now in
    let t1 : List ℕ = subscripts e.rows e.columns a.i in
    let t2 : List ℕ = bytes " " in
    let t3 : List ℕ = signed v in
    let t4 : List ℕ = line_end in
    room_then t3 t4 (puts_as (ap signed (to_z-of_z {w = w64} {z = v} known)) c.put_signed-d.ensures) (room_then t2 (t3 ++ t4) c.put_words-c.ensures (room_then t1 (t2 ++ (t3 ++ t4)) c.put_subscripts-b.ensures (room_then t0 (t1 ++ (t2 ++ (t3 ++ t4))) c.put_name-a.ensures room)))

pub returns : goal.returns
unfolding value_line named_in
returns c =
    let a = c.args in
    let e = a.e.now in
    let v : ℤ = cell a.store.now (e.first + a.i) in
    let known : SFits w64 v = search rules in
    let line = line_low e a.store.now a.i c.requires.0.text (omega (arith, c.requires.0.cell, c.requires.0.most)) known.sfits in
    let room : Room (value_line (named_in e) a.store.now a.i) a.at a.out.now = record { fits = omega (arith, line, c.requires.1) } in
    let t0 : List ℕ = without_blanks e.text.now in
    let t1 : List ℕ = subscripts e.rows e.columns a.i in
    let t2 : List ℕ = bytes " " in
    let t3 : List ℕ = signed v in
    let t4 : List ℕ = line_end in
    let put = puts_both t0 (t1 ++ (t2 ++ (t3 ++ t4))) c.put_name-a.ensures (puts_both t1 (t2 ++ (t3 ++ t4)) c.put_subscripts-b.ensures (puts_both t2 (t3 ++ t4) c.put_words-c.ensures (puts_both t3 t4 (puts_as (ap signed (to_z-of_z {w = w64} {z = v} known)) c.put_signed-d.ensures) c.put_words.ensures))) in
    (put, omega (arith, put.end, line))
