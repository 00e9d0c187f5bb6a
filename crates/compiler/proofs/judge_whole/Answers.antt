-- `compiler::judge_whole` meets its contract. Assumes nothing.
use mathlib.Core.Path.{◌≡◌}
use native.Mathlib.Omega.{arith}
use Rattle.rules_shared.specs.House.{house1401}
use Rattle.rules_deck.specs.Compile.{read, judge_read, write_read}
use Rattle.whole_deck.proofs.Drafted.{sketched, whole}
use Rattle.whole_deck.proofs.Answers.{passed_on}
use Rattle.compiler.specs.Compiled.{answer}
use Rattle.compiler.proofs.Stages.{told, low, whole_refused, placed, finished, whole_right}
use Rattle.compiler.proofs.judge_whole.Goals as goal

pub judge-requires : goal.judge-requires
judge-requires c =
    let d = c.requires.deck in
    let h = c.requires.held in
    whole d _ _ h.room h.fit h.kept (told h) (low h)

pub returns-in_err-places : goal.returns-in_err-places
returns-in_err-places c =
    λ d h.
    passed_on (λ o. answer o c.args.output.now ≡ write_read (house1401 c.args.k) c.args.output.now (judge_read (read d))) _ c.from_residual.result c.from_residual.ensures.1
    (whole_refused h c.args.output.now _ (c.in_err-places.ensures d (sketched d _ _ h.room h.fit h.kept (told h) (low h))))

pub put_positions-requires : goal.put_positions-requires
put_positions-requires c =
    let d = c.requires.deck in
    let h = c.requires.held in
    placed h _ (c.in_ok-places.ensures d (sketched d _ _ h.room h.fit h.kept (told h) (low h)))

pub finish-requires : goal.finish-requires
finish-requires c =
    let d = c.requires.deck in
    let h = c.requires.held in
    record { deck = d; are = finished h _ (c.in_ok-places.ensures d (sketched d _ _ h.room h.fit h.kept (told h) (low h))) c.put_positions.ensures }

pub overflow_cast-result : goal.overflow_cast-result
overflow_cast-result c =
    omega (arith, c.in-Ok.ensures.1)

pub returns-in-Ok : goal.returns-in-Ok
returns-in-Ok c =
    λ d h.
    let j = c.in_ok-places.ensures d (sketched d _ _ h.room h.fit h.kept (told h) (low h)) in
    whole_right h c.args.output.now _ j (c.in-Ok.ensures.0 d (finished h _ j c.put_positions.ensures))

pub returns-in-Err : goal.returns-in-Err
returns-in-Err c =
    λ d h.
    let j = c.in_ok-places.ensures d (sketched d _ _ h.room h.fit h.kept (told h) (low h)) in
    whole_right h c.args.output.now _ j (c.in-Err.ensures.0 d (finished h _ j c.put_positions.ensures))
