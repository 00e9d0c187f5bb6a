-- Tables that hold a deck's draft hold what the whole is judged by.
-- Assumes nothing.
use mathlib.Core.Path.{◌≡◌, ap, ◌∙◌}
use Prim.Native.Nat.{◌*◌}
use native.Mathlib.Omega.{arith}
use mathlib.Core.List.{List}
use lib.ListN.{length, take}
use lib.Seq.{length-take-le}
use Rattle.rules_shared.specs.Lists.{Each}
use Rattle.rules_text.specs.Trees.{Statement}
use Rattle.take_draft.specs.declared.Counts.{Counts}
use Rattle.take_draft.specs.Draft.{draft_of}
use Rattle.take_draft.specs.Kept.{Words, Fit, Room, Kept}
use Rattle.take_draft.specs.Sketch.{deck_rows}
use Rattle.take_draft.proofs.DraftDeck.{draft_rows, draft_jumps, draft_loops, rows_count}
use Rattle.whole_deck.specs.Whole.{SetsTold, Sketched, Whole, LowNumber}

module _ (deck : List Statement) (lent : Words) (n : Counts)
    (room : Room lent) (fit : Fit n) (kept : Kept (draft_of deck) lent n) (told : Each SetsTold deck) (numbered : Each LowNumber deck) where
  pub sketched : Sketched deck lent.rows n.statements lent.loops n.dos lent.jumps n.jumps
  sketched =
      let are : take (5 * n.statements) lent.rows ≡ deck_rows deck = kept.rows_are ∙ draft_rows deck in
      let few = fit.statements in
      let long = room.rows_long in
      let taken = length-take-le (5 * n.statements) lent.rows (omega arith) in
      let same = ap length are in
      let many = rows_count deck in
      record {
        statements = omega arith;
        rows_are = are;
        loops_are = kept.loops_are ∙ draft_loops deck;
        jumps_are = kept.jumps_are ∙ draft_jumps deck;
        told = told;
        numbered = numbered;
      }

  pub whole : Whole lent.rows n.statements lent.loops n.dos lent.jumps n.jumps
  whole =
      let few = fit.statements in
      let exits = fit.exits in
      let some = fit.jumps in
      record {
        rows_long = room.rows_long;
        loops_long = room.loops_long;
        jumps_long = room.jumps_long;
        few = few;
        few_dos = fit.dos;
        few_jumps = omega arith;
        deck = deck;
        sketched = sketched;
      }
