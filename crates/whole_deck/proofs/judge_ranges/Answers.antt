-- `whole_deck::judge_ranges` meets its contract. Assumes nothing.
use mathlib.Core.Path.{◌≡◌, ap, sym, ◌∙◌}
use Rattle.rules_deck.specs.Whole.{refused_at}
use Rattle.whole_deck.specs.Parts.{refused, ranges_refused}
use Rattle.whole_deck.proofs.Answers.{passed_on, here, there}
use Rattle.whole_deck.proofs.judge_ranges.Goals as goal

pub returns-in_err-none_found : goal.returns-in_err-none_found
unfolding ranges_refused
returns-in_err-none_found c =
    passed_on (λ o. refused o ≡ ranges_refused c.args.rows.now c.args.count c.args.loops.now c.args.places.now) _ c.from_residual.result c.from_residual.ensures.1
    (sym (here _ (c.in_err-none_found.ensures ∙ ap (refused_at 23) c.wrong_do.ensures)))

pub returns-in_err-none_found-2 : goal.returns-in_err-none_found-2
unfolding ranges_refused
returns-in_err-none_found-2 c =
    passed_on (λ o. refused o ≡ ranges_refused c.args.rows.now c.args.count c.args.loops.now c.args.places.now) _ c.from_residual-in_err-none_found-2.result c.from_residual-in_err-none_found-2.ensures.1
    (sym (there (c.in_ok-none_found.ensures ∙ ap (refused_at 23) c.wrong_do.ensures) (here _ (c.in_err-none_found-2.ensures ∙ ap (refused_at 24) c.wrong_jump.ensures))))

pub returns : goal.returns
unfolding ranges_refused
returns c =
    sym (there (c.in_ok-none_found.ensures ∙ ap (refused_at 23) c.wrong_do.ensures) (there (c.in_ok-none_found-2.ensures ∙ ap (refused_at 24) c.wrong_jump.ensures) (sym (c.none_found-3.ensures ∙ ap (refused_at 25) c.wrong_set.ensures))))
