-- A card in place, field by field: what is left of it is what `card_of` says of the fields, the list and the columns left.
-- Assumes nothing.
use mathlib.Core.Path.{◌≡◌, refl, sym, ap, ◌∙◌, subst}
use mathlib.Core.List.{List, [], ◌∷◌}
use Prim.Native.Nat.{ℕ, ◌+◌, ◌≤◌}
use native.Mathlib.Omega.{arith}
use lib.ListN.{drop}
use lib.IntN.{ℤ}
use Rattle.rules_formats.specs.Format.{Field}
use Rattle.rules_formats.specs.Walk.{Outcome, fine, then, Columns, card_width}
use Rattle.rules_object.specs.Object.{Object}
use Rattle.rules_object.specs.Machine.{Spot, spot_get, spot_set}
use Rattle.object_contents.specs.declared.placed.Object.{Object as Lent}
use Rattle.object_contents.specs.Book.{book_of}
use Rattle.run_formats.specs.Scan.{fields_at, scan_at, Scanning, Along, FieldAt, EndAt}
use Rattle.run_formats.proofs.ScanLaws.{along_here, farther}
use Rattle.run_lists.specs.declared.Cursor.{Cursor}
use Rattle.std.specs.Prelude.{Some, None, Ok, Err}
use Rattle.object_opcodes.specs.declared.Halt.{Halt}
use Rattle.run_lists.specs.Cursors.{Stored, left_of, Reached, SomeLeft}
use Rattle.run_lists.specs.Troubles.{Stopped}
use Rattle.run_reads.specs.Steps.{Step, on, record_ends, statement_ends, Card, at_end, follow, card_of}
use Rattle.run_reads.specs.Takes.{Kept, step_at, Goes, card_at, Takes}
use Rattle.run_reads.proofs.FieldLaws.{kept_same, kept_on}

module _ (ob : Lent) (word : ℕ) (c : Cursor) (before : List ℤ) (card : Columns) where
  abbrev o : Object
  o = book_of ob

  abbrev words : List ℕ
  words = o.formats

  abbrev scan : List Field
  scan = scan_at words word

  abbrev rest : List Field → List Spot → List ℤ → Columns → Outcome (Card (List ℤ) Spot)
  rest = card_of ob.rule.ceiling spot_get spot_set scan

  pub record Going (store : List ℤ) (j : ℕ) (left : Cursor) (column : ℕ) : Type 0 where
    pub within : column ≤ card_width
    pub along : Along words word j
    pub reached : Reached o left
    pub kept : Kept ob before store
    pub same : card_at o ob.rule word c before card ≡ rest (fields_at words j) (left_of o left) store (drop column card)

  pub begins : Stored ob before → Scanning words word → Reached o c → Going before word c 0
  begins h t r = record { within = omega arith; along = along_here words word t; reached = r; kept = kept_same ob before h; same = refl }

  module _ (store : List ℤ) (j : ℕ) (left : Cursor) (column : ℕ) (g : Going store j left column) where
    abbrev columns : Columns
    columns = drop column card

    module _ (f : Field) (at : FieldAt words j f) where
      abbrev going : Step (List ℤ) Spot → Outcome (Card (List ℤ) Spot)
      going = follow (fields_at words (j + 1)) (left_of o left) store (rest (fields_at words (j + 1)))

      by : (x : Outcome (Step (List ℤ) Spot)) → step_at o ob.rule f left store columns ≡ x → card_at o ob.rule word c before card ≡ then x going
      unfolding card_of
      by x q =
          g.same
          ∙ ap (λ (fs : List Field). rest fs (left_of o left) store columns) at.is
          ∙ ap (λ (y : Outcome (Step (List ℤ) Spot)). then y going) q

      pub record_ends_lem : (after : List ℤ) → (step_at o ob.rule f left store columns ≡ fine record_ends) × (after ≡ store) → Takes ob (record { word = word; list = c }) before card after (Ok (Some (record { word = j + 1; list = left })))
      record_ends_lem after d =
          subst (λ (x : List ℤ). Takes ob (record { word = word; list = c }) before card x (Ok (Some (record { word = j + 1; list = left })))) (sym d.1)
          (record { kept = g.kept; so = record { is = by (fine record_ends) d.0; along = farther words g.along at.next; next = g.reached } })

      pub statement_ends_lem : (after : List ℤ) → (step_at o ob.rule f left store columns ≡ fine statement_ends) × (after ≡ store) → Takes ob (record { word = word; list = c }) before card after (Ok None)
      statement_ends_lem after d =
          subst (λ (x : List ℤ). Takes ob (record { word = word; list = c }) before card x (Ok None)) (sym d.1) (record { kept = g.kept; so = by (fine statement_ends) d.0 })

      pub stops : (after : List ℤ) (h : Halt) → Stopped (step_at o ob.rule f left store columns) h × (after ≡ store) → Takes ob (record { word = word; list = c }) before card after (Err h)
      stops after h d =
          subst (λ (x : List ℤ). Takes ob (record { word = word; list = c }) before card x (Err h)) (sym d.1)
          (record { kept = g.kept; so = record { why = d.0.why; is = by _ d.0.is; numbered = d.0.numbered } })

      pub goes_on : (after : List ℤ) (next : ℕ) (d : Cursor) → Goes ob left store card column f after next d → Going after (j + 1) d next
      goes_on after next d p =
          record {
            within = p.within;
            along = farther words g.along at.next;
            reached = p.reached;
            kept = kept_on ob before store after g.kept p.kept;
            same = by (fine (on after (drop next card) (left_of o d))) p.is;
          }

    module _ (again : ℕ) (at : EndAt words j again) where
      over : (is : List Spot) → left_of o left ≡ is → card_at o ob.rule word c before card ≡ fine (at_end scan is store)
      unfolding card_of
      over is q =
          g.same
          ∙ ap (λ (fs : List Field). rest fs (left_of o left) store columns) at.is
          ∙ ap (λ (js : List Spot). fine (at_end scan js store)) q

      new_scan_lem : scan ≡ fields_at words again
      unfolding scan_at
      new_scan_lem = ap (fields_at words) (sym g.along.same) ∙ at.scan

      pub scans_again : SomeLeft o left → Takes ob (record { word = word; list = c }) before card store (Ok (Some (record { word = again; list = left })))
      scans_again t =
          record {
            kept = g.kept;
            so =
                record {
                  is =
                      over (t.spot ∷ t.more) t.is
                      ∙ ap (λ (fs : List Field). fine (Card.more fs (t.spot ∷ t.more) store)) new_scan_lem
                      ∙ ap (λ (js : List Spot). fine (Card.more (fields_at words again) js store)) (sym t.is);
                  along = farther words g.along at.next;
                  next = g.reached;
                };
          }

      pub all_done : left_of o left ≡ [] → Takes ob (record { word = word; list = c }) before card store (Ok None)
      all_done q = record { kept = g.kept; so = over [] q }
