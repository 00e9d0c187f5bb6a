-- READ field by field, as code goes: what one field takes of a card, and how a card ends.
-- Assumes nothing.
use Rattle.std.specs.Prelude.{ℕ, List, [], ◌∷◌, leb, length, take, drop, ℤ}
use Rattle.std.proofs.Math.Option.{Option}
use Rattle.rules_formats.specs.Format.{Field, I, X, H, new_record}
use Rattle.rules_formats.specs.Fields.{field_read}
use Rattle.rules_formats.specs.Walk.{bad_subscript, bad_field, Outcome, fine, then, given, provided, Columns}

-- the card goes on, with the store, the columns and the items left; the record ends; or the statement ends
pub data Step (S Item : Type 0) : Type 0 where
  on : S → Columns → List Item → Step S Item
  record_ends : Step S Item
  statement_ends : Step S Item

-- the fields and items for the next card, with the store; or the store after the last
pub data Card (S Item : Type 0) : Type 0 where
  more : List Field → List Item → S → Card S Item
  last : S → Card S Item

-- so many columns are passed over
abbrev pub pass_over : {S Item : Type 0} → ℕ → List Item → S → Columns → Outcome (Step S Item)
pass_over n is s columns = provided bad_field (leb n (length columns)) (fine (on s (drop n columns) is))

-- the items left at the FORMAT's end
abbrev pub at_end : {S Item : Type 0} → List Field → List Item → S → Card S Item
at_end scan [] s = last s
at_end scan (i ∷ is) s = more scan (i ∷ is) s

-- after a field: the fields after it, the items and the store, and how it goes on
abbrev pub follow : {S Item : Type 0} → List Field → List Item → S → (List Item → S → Columns → Outcome (Card S Item)) → Step S Item → Outcome (Card S Item)
follow fs is s go (on t columns js) = go js t columns
follow fs is s go record_ends = fine (more fs is s)
follow fs is s go statement_ends = fine (last s)

module _ {S Item : Type 0} (ceiling : ℕ) (get : S → Item → Option ℤ) (set : S → Item → ℤ → Option S) where
  -- a number for an item, whose subscripts are right
  abbrev pub number_for : ℕ → Item → List Item → S → Columns → Outcome (Step S Item)
  number_for w i is s columns =
      provided bad_field (leb w (length columns)) (
      given bad_field (field_read ceiling (take w columns)) (λ v. given bad_subscript (set s i v) (λ t. fine (on t (drop w columns) is))))

  unfoldable pub step_of : Field → List Item → S → Columns → Outcome (Step S Item)
  step_of (I w) [] s columns = fine statement_ends
  step_of (I w) (i ∷ is) s columns = given bad_subscript (get s i) (λ old. number_for w i is s columns)
  step_of (X n) is s columns = pass_over n is s columns
  step_of (H c) is s columns = pass_over 1 is s columns
  step_of new_record is s columns = fine record_ends

  unfoldable pub card_of : List Field → List Field → List Item → S → Columns → Outcome (Card S Item)
  card_of scan [] is s columns = fine (at_end scan is s)
  card_of scan (f ∷ fs) is s columns = then (step_of f is s columns) (follow fs is s (card_of scan fs))
