-- `compiler::compile_statements` meets its contract. Assumes nothing.
use mathlib.Core.Path.{◌≡◌, refl, ◌∙◌}
use native.Mathlib.Omega.{arith}
use Rattle.rules_shared.specs.House.{house1401}
use Rattle.rules_deck.specs.Compile.{compiling}
use Rattle.whole_deck.proofs.Answers.{passed_on}
use Rattle.compiler.specs.Compiled.{answer}
use Rattle.compiler.proofs.Stages.{statements_refused, statements_kept, holds, compiled}
use Rattle.compiler.proofs.compile_statements.Goals as goal

pub draft-requires : goal.draft-requires
draft-requires c =
    record {
      punched = c.requires.punched;
      are = c.requires.are;
      items_long = omega arith;
      room = (record { names_long = refl; constants_long = refl; elements_long = refl; dos_long = refl; loops_long = refl; code_long = refl; rows_long = refl; jumps_long = refl });
    }

pub judge_whole-requires : goal.judge_whole-requires
judge_whole-requires c =
    let ps = c.requires.punched in
    let e = c.requires.are in
    let d = statements_kept _ _ ps e (c.in_ok-n.ensures ps e) in
    record { deck = d.deck; held = holds _ _ ps e d c.room.ensures }

pub returns-in_err-n : goal.returns-in_err-n
returns-in_err-n c =
    let ps = c.requires.punched in
    let e = c.requires.are in
    passed_on (λ o. answer o c.args.output.now ≡ compiling (house1401 c.args.k) c.args.deck.now c.args.output.now) _ c.from_residual.result c.from_residual.ensures.1
    (statements_refused _ _ ps e c.args.output.now (c.in_err-n.ensures ps e))

pub returns : goal.returns
returns c =
    let ps = c.requires.punched in
    let e = c.requires.are in
    let d = statements_kept _ _ ps e (c.in_ok-n.ensures ps e) in
    c.judge_whole.ensures d.deck (holds _ _ ps e d c.room.ensures) ∙ compiled _ _ ps e d.deck c.args.output.now d.is
