-- `print_lines::put_refused` meets its contract. Assumes nothing.
use Prim.Native.Nat.{ℕ}
use mathlib.Core.List.{List, ◌++◌}
use Rattle.rules_text.specs.Punch.{bytes}
use Rattle.rules_program.specs.Text.{stated, line_end, refused_line}
use Rattle.print_numbers.proofs.PutLaws.{room_first, room_then, puts_both}
use Rattle.print_lines.proofs.put_refused.Goals as goal

pub put_stated-a-requires : goal.put_stated-a-requires
unfolding refused_line
put_stated-a-requires c =
    let t0 : List ℕ = stated (bytes "REFUSED ") c.args.number in
    let t1 : List ℕ = stated (bytes " ") c.args.place in
    let t2 : List ℕ = line_end in
    rw c.from.ensures (room_first t0 (t1 ++ t2) c.requires)

pub put_stated-b-requires : goal.put_stated-b-requires
unfolding refused_line
put_stated-b-requires c =
    let t0 : List ℕ = stated (bytes "REFUSED ") c.args.number in
    let t1 : List ℕ = stated (bytes " ") c.args.place in
    let t2 : List ℕ = line_end in
    rw c.from-2.ensures (room_first t1 t2 (room_then t0 (t1 ++ t2) (rw c.from.ensures at c.put_stated-a.ensures) c.requires))

pub put_words-requires : goal.put_words-requires
unfolding refused_line
put_words-requires c =
    let t0 : List ℕ = stated (bytes "REFUSED ") c.args.number in
    let t1 : List ℕ = stated (bytes " ") c.args.place in
    let t2 : List ℕ = line_end in
    room_then t1 t2 (rw c.from-2.ensures at c.put_stated-b.ensures) (room_then t0 (t1 ++ t2) (rw c.from.ensures at c.put_stated-a.ensures) c.requires)

pub returns : goal.returns
unfolding refused_line
returns c =
    let t0 : List ℕ = stated (bytes "REFUSED ") c.args.number in
    let t1 : List ℕ = stated (bytes " ") c.args.place in
    let t2 : List ℕ = line_end in
    (puts_both t0 (t1 ++ t2) (rw c.from.ensures at c.put_stated-a.ensures) (puts_both t1 t2 (rw c.from-2.ensures at c.put_stated-b.ensures) c.put_words.ensures))
