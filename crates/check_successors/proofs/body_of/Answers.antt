-- `check_successors::body_of` meets its contract. Assumes nothing.
use mathlib.Core.Path.{◌≡◌, sym, ap, ◌∙◌}
use mathlib.Core.List.{List}
use Prim.Native.Nat.{ℕ, ◌+◌, ◌*◌, ◌<◌}
use native.Mathlib.Omega.{arith}
use lib.ListN.{get_or}
use Rattle.rules_object.specs.Object.{Loop}
use Rattle.rules_object.specs.Operations.{no_loop}
use Rattle.object_words.specs.Word.{word_at}
use Rattle.object_contents.specs.declared.Layout.{Layout}
use Rattle.object_contents.specs.Layout.{object_at, loop_at}
use Rattle.object_contents.proofs.Entries.{do_at_lem, do_inside}
use Rattle.check_successors.proofs.body_of.Goals as goal

body_is : (e : Layout) (s : List ℕ) (i : ℕ) → i < e.do_count → word_at s (e.dos + 16 * i + 12) ≡ (get_or (object_at e s).dos i no_loop).body
unfolding loop_at
body_is e s i l = sym (ap (λ (d : Loop). d.body) (do_at_lem e s i no_loop l))

pub load-requires : goal.load-requires
load-requires c =
    let e = c.args.e.now in
    let s = c.args.o.now in
    let i = c.args.i in
    omega (arith, do_inside e s c.requires.0 i c.requires.1)

pub returns : goal.returns
returns c =
    let e = c.args.e.now in
    let s = c.args.o.now in
    let i = c.args.i in
    c.load.ensures ∙ body_is e s i c.requires.1
