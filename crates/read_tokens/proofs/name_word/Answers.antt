-- `read_tokens::name_word` meets its contract. Assumes nothing.
use mathlib.Core.Path.{◌≡◌, refl, sym, ap, ◌∙◌}
use Prim.Native.Nat.{ℕ, ◌+◌, ◌*◌}
use native.Mathlib.Omega.{arith}
use lib.ListN.{drop, get_or}
use lib.Seq.{get_or-drop}
use borrow.Author.Rules.{rules}
use Rattle.rules_deck.specs.Translation.{filled}
use Rattle.read_tokens.specs.Words.{bytes_from, name_word}
use Rattle.read_tokens.proofs.Values.{filled_length, filled_at, bytes_more, bytes_end, fits, grown}
use Rattle.read_tokens.proofs.name_word.Goals as goal

pub loop-i-init : goal.loop-i-init
unfolding name_word
loop-i-init c = (refl, omega arith)

pub overflow_mul-w : goal.overflow_mul-w
overflow_mul-w c =
    let lp = c.loop-i in
    omega (arith, fits lp.w lp.i lp.invariant.1 (omega (arith, c.loop-i-test.true)))

pub overflow_add-w : goal.overflow_add-w
overflow_add-w c =
    let lp = c.loop-i in
    omega (arith, fits lp.w lp.i lp.invariant.1 (omega (arith, c.loop-i-test.true)))

pub loop-i-preserved : goal.loop-i-preserved
loop-i-preserved c =
    let v = drop c.args.skip c.args.name.now in
    let lp = c.loop-i in
    let a : c.from.result ≡ get_or c.args.name.now (c.args.skip + lp.i) 32 = search rules in
    let b : c.from.result ≡ get_or (filled 8 v) lp.i 0 = a ∙ sym (get_or-drop c.args.skip c.args.name.now lp.i 32) ∙ sym (filled_at v lp.i (omega (arith, c.loop-i-test.true))) in
    (lp.invariant.0 ∙ bytes_more (filled 8 v) lp.w lp.i (omega (arith, filled_length v, c.loop-i-test.true)) ∙ ap (λ (x : ℕ). bytes_from (lp.w * 256 + x) (drop (lp.i + 1) (filled 8 v))) (sym b), grown lp.w _ lp.i lp.invariant.1 (omega arith))

pub returns : goal.returns
returns c =
    let v = drop c.args.skip c.args.name.now in
    let lp = c.loop-i in
    sym (lp.invariant.0 ∙ bytes_end (filled 8 v) lp.w lp.i (omega (arith, filled_length v, c.loop-i-test.false)))
