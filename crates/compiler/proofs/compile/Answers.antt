-- `compiler::compile` meets its contract. Assumes nothing.
use mathlib.Core.Path.{◌≡◌}
use Rattle.rules_shared.specs.House.{house1401}
use Rattle.rules_deck.specs.Compile.{compiling}
use Rattle.whole_deck.proofs.Answers.{passed_on}
use Rattle.compiler.specs.Compiled.{answer}
use Rattle.compiler.proofs.Stages.{cards_refused_lem, cards_punched}
use Rattle.compiler.proofs.compile.Goals as goal

pub compile_statements-requires : goal.compile_statements-requires
compile_statements-requires c =
    cards_punched _ _ c.in_ok-judge.ensures

pub returns-in_err-judge : goal.returns-in_err-judge
returns-in_err-judge c =
    passed_on (λ o. answer o c.args.output.now ≡ compiling (house1401 c.args.k) c.args.deck.now c.args.output.now) _ c.from_residual.result c.from_residual.ensures.1
    (cards_refused_lem c.args.k c.args.deck.now c.args.output.now _ c.in_err-judge.ensures)
