-- `check_names::name_end` meets its contract. Assumes nothing.
use mathlib.Core.Path.{◌≡◌, ◌∙◌}
use mathlib.Core.Bool.{true, false, ◌||◌}
use native.Mathlib.Omega.{arith}
use lib.ListN.{get_or}
use Rattle.std.proofs.lemmas.Bool.Decides.{nat_tests}
use Rattle.rules_object.specs.Check.{is_letter, is_digit}
use Rattle.check_names.proofs.Names.{tail_more, tail_stops}
use Rattle.check_names.proofs.name_end.Goals as goal

pub returns-then-not-is_ascii_digit : goal.returns-then-not-is_ascii_digit
returns-then-not-is_ascii_digit c =
    let x = get_or c.args.name.now c.loop-k.k 0 in
    let no : (is_letter x || is_digit x) ≡ false = grind (arith, nat_tests) in
    record { some = omega arith; most = omega arith; rest = c.loop-k.invariant ∙ tail_stops _ c.requires _ (omega arith) no }

pub loop-k-preserved : goal.loop-k-preserved
loop-k-preserved c =
    let x = get_or c.args.name.now c.loop-k.k 0 in
    let yes : (is_letter x || is_digit x) ≡ true = grind (arith, nat_tests) in
    c.loop-k.invariant ∙ tail_more _ c.requires _ c.loop-k-test.true yes

pub returns : goal.returns
returns c =
    let end : c.loop-k.k ≡ 6 = omega arith in
    record { some = omega arith; most = omega arith; rest = rw end at c.loop-k.invariant }
