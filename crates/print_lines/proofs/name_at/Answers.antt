-- `print_lines::name_at` meets its contract. Assumes nothing.
use mathlib.Core.Path.{◌≡◌, refl}
use Prim.Native.Nat.{◌+◌, ◌-◌}
use native.Mathlib.Omega.{arith}
use Rattle.object_contents.specs.Layout.{named_at}
use Rattle.print_lines.specs.Entries.{named_in}
use Rattle.print_lines.proofs.name_at.Goals as goal

pub returns : goal.returns
unfolding named_in named_at
returns c =
    let width : c.args.b + 8 - c.args.b ≡ 8 = omega arith in
    rw (width, c.load.ensures, c.load-2.ensures, c.load-3.ensures) refl
