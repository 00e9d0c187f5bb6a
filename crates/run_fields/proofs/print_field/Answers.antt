-- `run_fields::print_field` meets its contract. Assumes nothing.
use mathlib.Core.Path.{◌≡◌, ap, ◌∙◌}
use mir.Facts.{to_z-of_z}
use lib.ListN.{length, replicate}
use Prim.Native.Nat.{ℕ}
use lib.IntN.{pos, nat_abs}
use native.Mathlib.Omega.{arith}
use Rattle.std.proofs.lemmas.Int.{ints}
use Rattle.std.specs.Prelude.{Some, ◌<ℤ◌}
use Rattle.rules_formats.specs.Fields.{blank, asterisk}
use Rattle.run_fields.proofs.PrintLaws.{put_above, long, put_below, stars_below, stars, digits_as}
use Rattle.run_fields.proofs.print_field.Goals as goal
use Rattle.run_fields.proofs.print_field.Goals.{in_default-via-in-Some-2+else-at-gt0, in_default-via-in_default}

pub returns-in-Some : goal.returns-in-Some
returns-in-Some c =
    let v = c.args.value in
    let n : c.unsigned_abs.result ≡ nat_abs v = c.unsigned_abs.ensures.value ∙ ap nat_abs (to_z-of_z c.ranges.value) in
    let d = digits_as _ (Some c.in-Some.field-0) n (c.fill.ensures.after (λ y e. e)) c.in-Some.ensures in
    put_above v (length c.args.line.now) c.put_digits.new.line c.in-Some.field-0 d (omega (arith, ints, c.if-value-ge0.true))

pub returns-in-Some-2 : goal.returns-in-Some-2
returns-in-Some-2 c =
    let v = c.args.value in
    let n : c.unsigned_abs.result ≡ nat_abs v = c.unsigned_abs.ensures.value ∙ ap nat_abs (to_z-of_z c.ranges.value) in
    let d = digits_as _ (Some c.in-Some.field-0) n (c.fill.ensures.after (λ y e. e)) c.in-Some.ensures in
    put_below v (length c.args.line.now) c.put_digits.new.line c.in-Some.field-0 d (omega (arith, ints, c.if-value-ge0.false)) (omega (arith, c.if-at-gt0.true))

pub returns-in_default : goal.returns-in_default
returns-in_default c =
    let v = c.args.value in
    let w = length c.args.line.now in
    let n : c.unsigned_abs.result ≡ nat_abs v = c.unsigned_abs.ensures.value ∙ ap nat_abs (to_z-of_z c.ranges.value) in
    let stars_as : c.fill-in_default.new.self ≡ replicate w asterisk = c.fill-in_default.ensures.after (λ y e. e) ∙ ap (λ (k : ℕ). replicate k asterisk) (long _ _ _ c.put_digits.result c.put_digits.ensures ∙ c.fill.ensures.len) in
    let blanks : c.fill.new.self ≡ replicate w blank = c.fill.ensures.after (λ y e. e) in
    elim c.in_default.branch [
      | in_default-via-in-Some-2+else-at-gt0 b ↦
          let d = digits_as _ (Some b.in-Some.field-0) n blanks b.in-Some.ensures in
          let below : v <ℤ pos 0 = omega (arith, ints, b.if-value-ge0.false) in
          stars_as ∙ stars_below v w c.put_digits.new.line b.in-Some.field-0 d below (omega (arith, b.if-at-gt0.false))
      | in_default-via-in_default b ↦
          stars_as ∙ stars v w c.put_digits.new.line c.put_digits.result b.in_default.not-Some (digits_as _ c.put_digits.result n blanks c.put_digits.ensures)
    ]
