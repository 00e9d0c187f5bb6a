-- `read_tokens::Sizes::join` meets its contract. Assumes nothing.
use mathlib.Core.Path.{◌≡◌, sym, ap, ◌∙◌}
use mathlib.Core.Bool.{Bool, ◌||◌}
use Rattle.read_tokens.specs.Sizes.{both}
use Rattle.read_tokens.proofs.Measured.{same_sizes}
use Rattle.read_tokens.proofs.Sizes.join.Goals.{then-self, else-self}
use Rattle.read_tokens.proofs.Sizes.join.Goals as goal

pub returns : goal.returns
unfolding both
returns c =
    let e : c.if-self.result ≡ c.args.self.other || c.args.other.other = elim c.if-self.branch [
      | then-self w ↦ w.result-is ∙ w.if-self.true ∙ sym (ap (λ (b : Bool). b || c.args.other.other) w.if-self.true)
      | else-self w ↦ w.result-is ∙ sym (ap (λ (b : Bool). b || c.args.other.other) w.if-self.false)
    ] in
    same_sizes c.max.ensures e c.max-2.ensures c.max-3.ensures
