-- PRINT field by field, as code goes: what one field does to a line, and how a line ends.
-- Assumes nothing.
use Rattle.std.specs.Prelude.{ℕ, List, [], ◌∷◌, ◌++◌, replicate, ℤ}
use Rattle.std.proofs.Math.Option.{Option}
use Rattle.rules_formats.specs.Format.{Field, I, X, H, new_record}
use Rattle.rules_formats.specs.Fields.{blank, printed}
use Rattle.rules_formats.specs.Walk.{bad_subscript, bad_field, Outcome, fine, then, given, provided, Columns, room_on}

-- the line goes on, with the items left; the record ends; or the statement ends
pub data Step (Item : Type 0) : Type 0 where
  on : Columns → List Item → Step Item
  record_ends : Step Item
  statement_ends : Step Item

-- a line with the fields and items for the next, or the last line
pub data Line (Item : Type 0) : Type 0 where
  more : Columns → List Field → List Item → Line Item
  last : Columns → Line Item

-- columns put on the line, where they have room
abbrev pub put_on : {Item : Type 0} → Columns → Columns → ℕ → List Item → Outcome (Step Item)
put_on line field n is = provided bad_field (room_on line n) (fine (on (line ++ field) is))

-- the items left at the FORMAT's end
abbrev pub at_end : {Item : Type 0} → List Field → List Item → Columns → Line Item
at_end scan [] line = last line
at_end scan (i ∷ is) line = more line scan (i ∷ is)

-- after a field: the line so far, the fields after it and the items, and how it goes on
abbrev pub follow : {Item : Type 0} → Columns → List Field → List Item → (List Item → Columns → Outcome (Line Item)) → Step Item → Outcome (Line Item)
follow line fs is go (on longer js) = go js longer
follow line fs is go record_ends = fine (more line fs is)
follow line fs is go statement_ends = fine (last line)

module _ {S Item : Type 0} (get : S → Item → Option ℤ) (store : S) where
  unfoldable pub step_of : Field → List Item → Columns → Outcome (Step Item)
  step_of (I w) [] line = fine statement_ends
  step_of (I w) (i ∷ is) line = given bad_subscript (get store i) (λ v. put_on line (printed w v) w is)
  step_of (X n) is line = put_on line (replicate n blank) n is
  step_of (H c) is line = put_on line (c ∷ []) 1 is
  step_of new_record is line = fine record_ends

  unfoldable pub line_of : List Field → List Field → List Item → Columns → Outcome (Line Item)
  line_of scan [] is line = fine (at_end scan is line)
  line_of scan (f ∷ fs) is line = then (step_of f is line) (follow line fs is (line_of scan fs))
