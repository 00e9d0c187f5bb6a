-- `take_instructions::append` meets its contract. Assumes nothing.
use mathlib.Core.Path.{◌∙◌, ap}
use Prim.Native.Nat.{ℕ, ◌+◌, ◌*◌, ◌^◌}
use Rattle.take_instructions.proofs.One.{appended, not_appended}
use Rattle.take_instructions.proofs.append.Goals as goal

pub returns-then-n-ge-CODE : goal.returns-then-n-ge-CODE
returns-then-n-ge-CODE c =
    not_appended c.args.code.now c.args.n c.args.operation c.args.operand c.if-n-ge-CODE.true

pub returns : goal.returns
returns c =
    appended c.args.code.now c.args.n c.args.operation c.args.operand _ c.told-code c.if-n-ge-CODE.false (c.pack.ensures ∙ ap (λ (y : ℕ). c.args.operation * 2 ^ 24 + y) c.operand.ensures.0)
