-- `print_lines::put_halt` meets its contract. Assumes nothing.
use Prim.Native.Nat.{ℕ}
use mathlib.Core.List.{List, ◌++◌}
use Rattle.rules_text.specs.Punch.{bytes}
use Rattle.rules_program.specs.Text.{stated, line_end, halt_line}
use Rattle.print_numbers.proofs.PutLaws.{room_first, room_then, puts_both}
use Rattle.print_lines.proofs.put_halt.Goals as goal

pub put_stated-a-requires : goal.put_stated-a-requires
unfolding halt_line
put_stated-a-requires c =
    let t0 : List ℕ = stated (bytes "HALT ") c.args.halt in
    let t1 : List ℕ = stated (bytes " STEPS ") c.args.steps in
    let t2 : List ℕ = stated (bytes " DROP ") c.args.sequence in
    let t3 : List ℕ = line_end in
    rw c.from.ensures (room_first t0 (t1 ++ (t2 ++ t3)) c.requires)

pub put_stated-b-requires : goal.put_stated-b-requires
unfolding halt_line
put_stated-b-requires c =
    let t0 : List ℕ = stated (bytes "HALT ") c.args.halt in
    let t1 : List ℕ = stated (bytes " STEPS ") c.args.steps in
    let t2 : List ℕ = stated (bytes " DROP ") c.args.sequence in
    let t3 : List ℕ = line_end in
    rw c.from-2.ensures (room_first t1 (t2 ++ t3) (room_then t0 (t1 ++ (t2 ++ t3)) (rw c.from.ensures at c.put_stated-a.ensures) c.requires))

pub put_stated-c-requires : goal.put_stated-c-requires
unfolding halt_line
put_stated-c-requires c =
    let t0 : List ℕ = stated (bytes "HALT ") c.args.halt in
    let t1 : List ℕ = stated (bytes " STEPS ") c.args.steps in
    let t2 : List ℕ = stated (bytes " DROP ") c.args.sequence in
    let t3 : List ℕ = line_end in
    rw c.from-3.ensures (room_first t2 t3 (room_then t1 (t2 ++ t3) (rw c.from-2.ensures at c.put_stated-b.ensures) (room_then t0 (t1 ++ (t2 ++ t3)) (rw c.from.ensures at c.put_stated-a.ensures) c.requires)))

pub put_words-requires : goal.put_words-requires
unfolding halt_line
put_words-requires c =
    let t0 : List ℕ = stated (bytes "HALT ") c.args.halt in
    let t1 : List ℕ = stated (bytes " STEPS ") c.args.steps in
    let t2 : List ℕ = stated (bytes " DROP ") c.args.sequence in
    let t3 : List ℕ = line_end in
    room_then t2 t3 (rw c.from-3.ensures at c.put_stated-c.ensures) (room_then t1 (t2 ++ t3) (rw c.from-2.ensures at c.put_stated-b.ensures) (room_then t0 (t1 ++ (t2 ++ t3)) (rw c.from.ensures at c.put_stated-a.ensures) c.requires))

pub returns : goal.returns
unfolding halt_line
returns c =
    let t0 : List ℕ = stated (bytes "HALT ") c.args.halt in
    let t1 : List ℕ = stated (bytes " STEPS ") c.args.steps in
    let t2 : List ℕ = stated (bytes " DROP ") c.args.sequence in
    let t3 : List ℕ = line_end in
    (puts_both t0 (t1 ++ (t2 ++ t3)) (rw c.from.ensures at c.put_stated-a.ensures) (puts_both t1 (t2 ++ t3) (rw c.from-2.ensures at c.put_stated-b.ensures) (puts_both t2 t3 (rw c.from-3.ensures at c.put_stated-c.ensures) c.put_words.ensures)))
