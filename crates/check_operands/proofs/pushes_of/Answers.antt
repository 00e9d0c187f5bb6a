-- `check_operands::pushes_of` meets its contract. Assumes nothing.
use mathlib.Core.Path.{sym, subst}
use Prim.Native.Nat.{◌≤◌}
use Rattle.rules_object.specs.Operations.{operations}
use Rattle.check_operands.proofs.Tables.{column, pushes_few}
use Rattle.check_operands.proofs.pushes_of.Goals as goal

pub returns : goal.returns
returns c =
    let e = column (λ p. p.pushes) operations c.args.operation in
    (e, subst (λ n. n ≤ 1) (sym e) (pushes_few c.args.operation))
