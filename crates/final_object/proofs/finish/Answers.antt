-- `final_object::finish` meets its contract. Assumes nothing.
use mathlib.Core.Path.{sym, ap, ◌∙◌}
use mathlib.Core.List.{List}
use Prim.Native.Nat.{ℕ}
use lib.Seq.{length-take-le}
use Rattle.rules_shared.specs.Refusals.{no_room}
use Rattle.rules_shared.specs.Output.{write}
use Rattle.final_addresses.proofs.DeckEnds.{lasts_inside}
use Rattle.final_object.proofs.Bodies.{holds_fits, bytes_are, judged, settling, leading, listing}
use Rattle.final_object.proofs.finish.Goals as goal

pub invariant_of-dos : goal.invariant_of-dos
invariant_of-dos c = record { lasts = lasts_inside (judged c.requires.are) }

pub slice_bounds-lines-end-4 : goal.slice_bounds-lines-end-4
slice_bounds-lines-end-4 c =
    let f = c.requires.are in
    holds_fits (c.lines-line_words.ensures _ c.requires.deck (judged f).in_rows (c.addresses.ensures _ c.requires.deck (judged f)))

pub slice_bounds-write-end-4 : goal.slice_bounds-write-end-4
slice_bounds-write-end-4 c =
    let f = c.requires.are in
    sym (length-take-le c.lines-line_words.result c.lines-line_words.new.out (holds_fits (c.lines-line_words.ensures _ c.requires.deck (judged f).in_rows (c.addresses.ensures _ c.requires.deck (judged f)))))

pub returns : goal.returns
returns c = (
  λ d f.
      let s = c.addresses.ensures _ d (judged f) in
      c.write.ensures.0
      ∙ ap (λ (b : List ℕ). write no_room b c.args.output.now) (bytes_are f _ _ (c.exits-exit_words.ensures _ d (leading f s)) (c.bodies.ensures _ d (judged f).in_loops s f.kept.dos_are) (c.code-words.ensures _ d (settling f s)) (c.lines-line_words.ensures _ d (judged f).in_rows s) (c.names.ensures _ d (listing f))),
  c.write.ensures.1,
)
