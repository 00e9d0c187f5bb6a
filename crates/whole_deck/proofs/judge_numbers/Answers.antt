-- `whole_deck::judge_numbers` meets its contract. Assumes nothing.
use mathlib.Core.Path.{ap, subst, sym, ◌∙◌}
use Prim.Native.Nat.{ℕ}
use lib.ListN.{length}
use Rattle.rules_deck.specs.Whole.{refused_at}
use Rattle.whole_numbers.specs.Numbers.{Resolves}
use Rattle.whole_numbers.proofs.Resolving.{unknown_user}
use Rattle.whole_deck.specs.Parts.{numbers_refused, ByNumber}
use Rattle.whole_deck.proofs.Answers.{passed_on, here, there, by_number}
use Rattle.whole_deck.proofs.judge_numbers.Goals as goal

pub returns-in_err-none_found : goal.returns-in_err-none_found
unfolding numbers_refused
returns-in_err-none_found c =
    let R = c.args.rows.now in
    let N = c.args.numbers.now in
    let n = length N in
    let J = c.args.jumps.now in
    passed_on (ByNumber R N n J) _ c.from_residual.result c.from_residual.ensures.1
    (here _ (c.in_err-none_found.ensures ∙ ap (refused_at 20) c.misplaced_end.ensures))

pub returns-in_err-none_found-2 : goal.returns-in_err-none_found-2
unfolding numbers_refused
returns-in_err-none_found-2 c =
    let R = c.args.rows.now in
    let N = c.args.numbers.now in
    let n = length N in
    let J = c.args.jumps.now in
    passed_on (ByNumber R N n J) _ c.from_residual-in_err-none_found-2.result c.from_residual-in_err-none_found-2.ensures.1
    (there (c.in_ok-none_found.ensures ∙ ap (refused_at 20) c.misplaced_end.ensures) (here _ (c.in_err-none_found-2.ensures ∙ ap (refused_at 21) c.misnumbered.ensures)))

pub returns-in_err-none_found-3 : goal.returns-in_err-none_found-3
unfolding numbers_refused
returns-in_err-none_found-3 c =
    let R = c.args.rows.now in
    let N = c.args.numbers.now in
    let n = length N in
    let J = c.args.jumps.now in
    let s = subst (λ (m : ℕ). Resolves N n J m c.resolve-resolved.result) c.requires.1.0 c.resolve-resolved.ensures in
    passed_on (ByNumber R N n J) _ c.from_residual-in_err-none_found-3.result c.from_residual-in_err-none_found-3.ensures.1
    (there (c.in_ok-none_found.ensures ∙ ap (refused_at 20) c.misplaced_end.ensures) (there (c.in_ok-none_found-2.ensures ∙ ap (refused_at 21) c.misnumbered.ensures) (sym (c.in_err-none_found-3.ensures ∙ ap (refused_at 22) (c.user_of.ensures ∙ unknown_user R N n J c.resolve-resolved.result s)))))

pub returns : goal.returns
returns c =
    let R = c.args.rows.now in
    let N = c.args.numbers.now in
    let n = length N in
    let J = c.args.jumps.now in
    let s = subst (λ (m : ℕ). Resolves N n J m c.resolve-resolved.result) c.requires.1.0 c.resolve-resolved.ensures in
    by_number R N n J c.resolve-resolved.result s (c.in_ok-none_found.ensures ∙ ap (refused_at 20) c.misplaced_end.ensures) (c.in_ok-none_found-2.ensures ∙ ap (refused_at 21) c.misnumbered.ensures) (c.in_ok-none_found-3.ensures ∙ ap (refused_at 22) (c.user_of.ensures ∙ unknown_user R N n J c.resolve-resolved.result s))
