-- `calls::luvinqata_compile` meets its contract. Assumes nothing.
use mathlib.Core.Path.{◌≡◌, refl, sym, ap, ◌∙◌}
use mathlib.Core.List.{List}
use Prim.Native.Nat.{ℕ}
use Rattle.std.specs.Prelude.{Result, Ok, Err}
use Rattle.refusals.specs.declared.Refusal as own
use Rattle.compiler.specs.Compiled.{answer}
use Rattle.check_verdicts.specs.declared.Written.{Written}
use Rattle.check_verdicts.specs.Outcomes.{told_written, written_of}
use Rattle.calls.proofs.luvinqata_compile.Goals as goal

told : (v : Result ℕ own.Refusal) (output : List ℕ) → answer v output ≡ written_of (told_written v) output
told (Ok n) output = refl
told (Err r) output = refl

pub returns : goal.returns
returns c =
    record { is = sym c.compile.ensures ∙ told _ c.compile.new.output ∙ ap (λ (w : Written). written_of w c.compile.new.output) (sym c.from.ensures) }
