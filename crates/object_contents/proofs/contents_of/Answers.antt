-- `object_contents::contents_of` meets its contract: the first four words are right, and the bodies decide. Assumes nothing.
use mathlib.Core.Path.{◌≡◌, sym, ap, ◌∙◌}
use Prim.Native.Nat.{ℕ, ◌%◌, ◌≤◌}
use native.Mathlib.Omega.{arith}
use lib.ListN.{length}
use Rattle.rules_object.specs.Kinds.{kinds_of}
use Rattle.object_words.specs.Word.{word_at}
use Rattle.object_contents.proofs.Opens.{short, uneven, no_edition, other_count}
use Rattle.object_contents.proofs.contents_of.Goals as goal
use Rattle.object_contents.proofs.contents_of.Goals.{then-o-lt16-via-then-o-lt16, then-o-lt16-via-else-o-lt16+then-o-ne0, then-kinds-eq0-via-then-kinds-eq0, then-kinds-eq0-via-else-kinds-eq0+then-load-kinds}

pub returns-then-o-lt16 : goal.returns-then-o-lt16
returns-then-o-lt16 c =
    let s = c.args.o.now in
    elim c.then-o-lt16.branch [
      | then-o-lt16-via-then-o-lt16 w ↦ short s (omega (arith, w.if-o-lt16.true))
      | then-o-lt16-via-else-o-lt16+then-o-ne0 w ↦ uneven s w.if-o-ne0.true
    ]

pub returns-then-kinds-eq0 : goal.returns-then-kinds-eq0
returns-then-kinds-eq0 c =
    let s = c.args.o.now in
    let long : 16 ≤ length s = c.if-o-lt16.false in
    let four : length s % 4 ≡ 0 = c.if-o-ne0.false in
    let kinds : c.kinds_of-kinds.result ≡ length (kinds_of (word_at s 0)) = c.kinds_of-kinds.ensures.0 ∙ ap (λ (e : ℕ). length (kinds_of e)) c.load.ensures in
    elim c.then-kinds-eq0.branch [
      | then-kinds-eq0-via-then-kinds-eq0 w ↦ no_edition s long four (sym kinds ∙ w.if-kinds-eq0.true)
      | then-kinds-eq0-via-else-kinds-eq0+then-load-kinds w ↦ other_count s long four c.kinds_of-kinds.result kinds (omega arith) (λ e. w.if-load-kinds.true (w.load-else-kinds-eq0.ensures ∙ e))
    ]
