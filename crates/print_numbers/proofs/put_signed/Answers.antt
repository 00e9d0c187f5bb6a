-- `print_numbers::put_signed` meets its contract. Assumes nothing.
use Prim.Native.Nat.{ℕ}
use mathlib.Core.Path.{◌≡◌, sym, ap, ◌∙◌}
use mathlib.Core.Bool.{true, false}
use mathlib.Core.List.{◌++◌}
use lib.IntN.{pos, nat_abs}
use mir.Facts.{to_z-of_z}
use lib.Signed.{lt_z}
use Rattle.number.proofs.Whole.{read}
use Rattle.rules_text.specs.Punch.{bytes}
use Rattle.rules_program.specs.Text.{numeral, signed}
use Rattle.print_numbers.specs.Puts.{Room}
use Rattle.print_numbers.proofs.PutLaws.{room_first, room_then, puts_both, puts_as, room_as}
use Rattle.print_numbers.proofs.NumberLaws.{signed_below, signed_above}
use Rattle.print_numbers.proofs.put_signed.Goals as goal

pub put_words-end-requires : goal.put_words-end-requires
put_words-end-requires c =
    let v = c.args.v in
    let n = c.unsigned_abs-size.result in
    let m : n ≡ nat_abs v = c.unsigned_abs-size.ensures.value ∙ ap nat_abs (to_z-of_z c.ranges.v) in
    let at = c.args.at in
    let o = c.args.out.now in
    let e : signed v ≡ bytes "-" ++ numeral n = signed_below v (read (λ x. lt_z x (pos 0) ≡ true) v c.ranges.v c.if-v-lt0.true) ∙ ap (λ (k : ℕ). bytes "-" ++ numeral k) (sym m) in
    let r : Room (bytes "-" ++ numeral n) at o = room_as e c.requires in
    room_first (bytes "-") (numeral n) r

pub put_numeral-requires : goal.put_numeral-requires
put_numeral-requires c =
    let v = c.args.v in
    let n = c.unsigned_abs-size.result in
    let m : n ≡ nat_abs v = c.unsigned_abs-size.ensures.value ∙ ap nat_abs (to_z-of_z c.ranges.v) in
    let at = c.args.at in
    let o = c.args.out.now in
    let e : signed v ≡ bytes "-" ++ numeral n = signed_below v (read (λ x. lt_z x (pos 0) ≡ true) v c.ranges.v c.if-v-lt0.true) ∙ ap (λ (k : ℕ). bytes "-" ++ numeral k) (sym m) in
    let r : Room (bytes "-" ++ numeral n) at o = room_as e c.requires in
    room_then (bytes "-") (numeral n) c.put_words-end.ensures r

pub returns-then-v-lt0 : goal.returns-then-v-lt0
returns-then-v-lt0 c =
    let v = c.args.v in
    let n = c.unsigned_abs-size.result in
    let m : n ≡ nat_abs v = c.unsigned_abs-size.ensures.value ∙ ap nat_abs (to_z-of_z c.ranges.v) in
    let at = c.args.at in
    let o = c.args.out.now in
    let e : signed v ≡ bytes "-" ++ numeral n = signed_below v (read (λ x. lt_z x (pos 0) ≡ true) v c.ranges.v c.if-v-lt0.true) ∙ ap (λ (k : ℕ). bytes "-" ++ numeral k) (sym m) in
    let r : Room (bytes "-" ++ numeral n) at o = room_as e c.requires in
    puts_as (sym e) (puts_both (bytes "-") (numeral n) c.put_words-end.ensures c.put_numeral.ensures)

pub put_numeral-requires-2 : goal.put_numeral-requires-2
put_numeral-requires-2 c =
    let v = c.args.v in
    let n = c.unsigned_abs-size.result in
    let m : n ≡ nat_abs v = c.unsigned_abs-size.ensures.value ∙ ap nat_abs (to_z-of_z c.ranges.v) in
    let e : signed v ≡ numeral n = signed_above v (read (λ x. lt_z x (pos 0) ≡ false) v c.ranges.v c.if-v-lt0.false) ∙ ap numeral (sym m) in
    room_as e c.requires

pub returns : goal.returns
returns c =
    let v = c.args.v in
    let n = c.unsigned_abs-size.result in
    let m : n ≡ nat_abs v = c.unsigned_abs-size.ensures.value ∙ ap nat_abs (to_z-of_z c.ranges.v) in
    let e : signed v ≡ numeral n = signed_above v (read (λ x. lt_z x (pos 0) ≡ false) v c.ranges.v c.if-v-lt0.false) ∙ ap numeral (sym m) in
    puts_as (sym e) c.put_numeral-2.ensures
