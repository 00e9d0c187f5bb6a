-- `read_cards::starts` meets its contract. Assumes nothing.
use mathlib.Core.Path.{ap, ◌∙◌}
use Prim.Native.Nat.{ℕ}
use lib.Dec.{eqb}
use Rattle.read_cards.proofs.CardLaws.{first_blank, first_other}
use Rattle.read_cards.proofs.starts.Goals as goal

pub returns-then-card-eq32 : goal.returns-then-card-eq32
returns-then-card-eq32 c =
    ap (λ (x : ℕ). eqb x 32) c.if-card-eq32.true ∙ first_blank c.args.card.now c.told-card c.if-card-eq32.true

pub returns-else-card-eq32 : goal.returns-else-card-eq32
returns-else-card-eq32 c =
    first_other c.args.card.now c.told-card c.if-card-eq32.false
