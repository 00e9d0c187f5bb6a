-- A line in place, field by field: what is left of it is what `line_of` says of the fields and the list left.
-- Assumes nothing.
use mathlib.Core.Path.{◌≡◌, refl, sym, ap, ◌∙◌}
use mathlib.Core.List.{List, [], ◌∷◌}
use Prim.Native.Nat.{ℕ, ◌+◌, ◌-◌}
use native.Mathlib.Omega.{arith}
use lib.ListN.{length, take, replicate, length-replicate}
use lib.Seq.{take_at}
use lib.IntN.{ℤ}
use Rattle.rules_formats.specs.Format.{Field}
use Rattle.rules_formats.specs.Fields.{blank}
use Rattle.rules_formats.specs.Walk.{Outcome, fine, then, Columns, line_width, whole}
use Rattle.rules_formats.proofs.Lengths.{whole_length}
use Rattle.rules_object.specs.Object.{Object}
use Rattle.rules_object.specs.Machine.{Spot, spot_get}
use Rattle.object_opcodes.specs.declared.Halt.{Halt}
use Rattle.run_formats.specs.Scan.{fields_at, scan_at, Scanning, Along, FieldAt, EndAt}
use Rattle.run_formats.proofs.ScanLaws.{along_here, farther}
use Rattle.run_lists.specs.declared.Cursor.{Cursor}
use Rattle.run_lists.specs.Cursors.{left_of, Reached, SomeLeft}
use Rattle.run_lists.specs.Troubles.{Stopped}
use Rattle.run_prints.specs.Steps.{Step, on, record_ends, statement_ends, Line, at_end, follow, line_of}
use Rattle.run_prints.specs.Puts.{Filled, step_at, Goes, line_at, OneLine, LastLine}

module _ (o : Object) (so : List ℤ) (word : ℕ) (c : Cursor) where
  abbrev words : List ℕ
  words = o.formats

  abbrev scan : List Field
  scan = scan_at words word

  pub record Going (line : Columns) (j : ℕ) (left : Cursor) (column : ℕ) : Type 0 where
    pub filled : Filled line column
    pub along : Along words word j
    pub reached : Reached o left
    pub same : line_at o so word c ≡ line_of spot_get so scan (fields_at words j) (left_of o left) (take column line)

  pub begins : (line : Columns) → line ≡ replicate 132 32 → Scanning words word → Reached o c → Going line word c 0
  begins line e s r =
      record {
        filled = record { wide = ap (λ (l : Columns). length l) e ∙ length-replicate {A = ℕ} 132 32; within = omega arith; rest = e };
        along = along_here words word s;
        reached = r;
        same = refl;
      }

  module _ (line : Columns) (j : ℕ) (left : Cursor) (column : ℕ) (g : Going line j left column) where
    abbrev cur : Columns
    cur = take column line

    module _ (f : Field) (at : FieldAt words j f) where
      abbrev going : Step Spot → Outcome (Line Spot)
      going = follow cur (fields_at words (j + 1)) (left_of o left) (line_of spot_get so scan (fields_at words (j + 1)))

      by : (s : Outcome (Step Spot)) → step_at o so f left cur ≡ s → line_at o so word c ≡ then s going
      unfolding line_of
      by s e =
          g.same
          ∙ ap (λ (fs : List Field). line_of spot_get so scan fs (left_of o left) cur) at.is
          ∙ ap (λ (x : Outcome (Step Spot)). then x going) e

      pub record_ends_lem : (after : Columns) → (step_at o so f left cur ≡ fine record_ends) × (after ≡ whole cur) → OneLine o so word c after (j + 1) left
      record_ends_lem after d = record { line = cur; is = by (fine record_ends) d.0; put = d.1; along = farther words g.along at.next; next = g.reached }

      pub statement_ends_lem : (after : Columns) → (step_at o so f left cur ≡ fine statement_ends) × (after ≡ whole cur) → LastLine o so word c after
      statement_ends_lem after d = record { line = cur; is = by (fine statement_ends) d.0; put = d.1 }

      pub stops : (h : Halt) → Stopped (step_at o so f left cur) h → Stopped (line_at o so word c) h
      stops h s = record { why = s.why; is = by _ s.is; numbered = s.numbered }

      pub goes_on : (after : Columns) (next : ℕ) (d : Cursor) → Goes o so left cur f after next d → Going after (j + 1) d next
      goes_on after next d p =
          let rest : Columns = replicate (line_width - length p.line) blank in
          let front : take next after ≡ p.line = ap (λ (x : Columns). take next x) p.put ∙ take_at p.line rest next (sym p.long) in
          record {
            filled =
                record {
                  wide = ap (λ (x : Columns). length x) p.put ∙ whole_length p.line p.within;
                  within = omega (arith, p.long, p.within);
                  rest = p.put ∙ ap whole (sym front);
                };
            along = farther words g.along at.next;
            reached = p.next;
            same =
                by (fine (on p.line (left_of o d))) p.is
                ∙ ap (λ (x : Columns). line_of spot_get so scan (fields_at words (j + 1)) (left_of o d) x) (sym front);
          }

    module _ (again : ℕ) (at : EndAt words j again) where
      over : (is : List Spot) → left_of o left ≡ is → line_at o so word c ≡ fine (at_end scan is cur)
      unfolding line_of
      over is e =
          g.same
          ∙ ap (λ (fs : List Field). line_of spot_get so scan fs (left_of o left) cur) at.is
          ∙ ap (λ (js : List Spot). fine (at_end scan js cur)) e

      new_scan_lem : scan ≡ fields_at words again
      unfolding scan_at
      new_scan_lem = ap (fields_at words) (sym g.along.same) ∙ at.scan

      pub scans_again : SomeLeft o left → OneLine o so word c line again left
      scans_again s =
          record {
            line = cur;
            is =
                over (s.spot ∷ s.more) s.is
                ∙ ap (λ (fs : List Field). fine (Line.more cur fs (s.spot ∷ s.more))) new_scan_lem
                ∙ ap (λ (js : List Spot). fine (Line.more cur (fields_at words again) js)) (sym s.is);
            put = g.filled.rest;
            along = farther words g.along at.next;
            next = g.reached;
          }

      pub all_done : left_of o left ≡ [] → LastLine o so word c line
      all_done e = record { line = cur; is = over [] e; put = g.filled.rest }
