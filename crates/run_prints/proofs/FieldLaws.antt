-- One field on a line in place, case by case.
-- Assumes nothing.
use mathlib.Core.Path.{◌≡◌, refl, sym, ap, ◌∙◌}
use mathlib.Core.Bool.{Bool}
use mathlib.Core.List.{List, [], ◌∷◌, ◌++◌, append_assoc}
use mathlib.Core.Option.{Option}
use Prim.Native.Nat.{ℕ, ◌+◌, ◌-◌, ◌≤◌, ◌<◌}
use native.Mathlib.Omega.{arith}
use borrow.Author.Tests.{le-leb, lt-leb}
use lib.ListN.{length, take, set, replicate, length-append, length-replicate, replicate-append-replicate}
use lib.Seq.{length-take-le}
use lib.IntN.{ℤ}
use Rattle.rules_formats.specs.Format.{Field, I, X, H, new_record}
use Rattle.rules_formats.specs.Fields.{blank, printed}
use Rattle.rules_formats.specs.Walk.{bad_subscript, bad_field, trouble_number, fine, given, provided, Columns, line_width, whole}
use Rattle.rules_formats.proofs.FieldLaws.{printed_length}
use Rattle.rules_object.specs.Object.{Object}
use Rattle.rules_object.specs.Machine.{cell, Spot, cell_in, spot_get}
use Rattle.run_fields.specs.Put.{over}
use Rattle.run_fields.proofs.LineLaws.{put_on_lem}
use Rattle.object_opcodes.specs.declared.Halt.TheVariants.{BadSubscript, BadField}
use Rattle.run_lists.specs.declared.Cursor.{Cursor}
use Rattle.run_lists.specs.Cursors.{left_of, Reached, Found, Astray}
use Rattle.run_lists.specs.Troubles.{Stopped}
use Rattle.run_prints.specs.Steps.{on, record_ends, statement_ends, put_on, step_of}
use Rattle.run_prints.specs.Puts.{Filled, step_at, Goes}

-- blanks put on a line are there already
blanks_on : (line : Columns) (n : ℕ) → length line + n ≤ line_width → whole line ≡ whole (line ++ replicate n blank)
blanks_on line n h =
    let m : ℕ = line_width - length (line ++ replicate n blank) in
    let sum : line_width - length line ≡ n + m = omega (arith, length-append line (replicate n blank), length-replicate n blank) in
    ap (λ (k : ℕ). line ++ replicate k blank) sum
    ∙ ap (λ (l : Columns). line ++ l) (sym (replicate-append-replicate n m blank))
    ∙ sym (append_assoc line (replicate n blank) (replicate m blank))

module _ (o : Object) (so : List ℤ) (c : Cursor) (line : Columns) (column : ℕ) (f : Filled line column) where
  abbrev cur : Columns
  cur = take column line

  long : length cur ≡ column
  long = length-take-le column line (omega (arith, f.wide, f.within))

  -- ---- columns put on, or no room for them

  module _ (g : Field) (field : Columns) (w : ℕ) (is : List Spot) (e : step_at o so g c cur ≡ put_on cur field w is) where
    pub passes : line_width - column < w → Stopped (step_at o so g c cur) BadField
    unfolding trouble_number
    passes h =
        record {
          why = bad_field;
          is = e ∙ ap (λ (b : Bool). provided bad_field b (fine (on (cur ++ field) is))) (lt-leb (length cur + w) line_width (omega (arith, long, f.within)));
          numbered = refl;
        }

    pub put : (d : Cursor) → is ≡ left_of o d → Reached o d → length field ≡ w → w ≤ line_width - column → (after : Columns) → after ≡ whole (cur ++ field)
        → Goes o so c cur g after (column + w) d
    put d left r l h after p =
        let longer : column + w ≡ length (cur ++ field) = omega (arith, length-append cur field, long) in
        record {
          line = cur ++ field;
          is =
              e ∙ ap (λ (b : Bool). provided bad_field b (fine (on (cur ++ field) is))) (le-leb (length cur + w) line_width (omega (arith, long, f.within)))
              ∙ ap (λ (js : List Spot). fine (on (cur ++ field) js)) left;
          put = p;
          long = longer;
          within = omega (arith, longer, f.within);
          next = r;
        }

  over_line : (field : Columns) (w : ℕ) → length field ≡ w → w ≤ line_width - column → over column field line ≡ whole (cur ++ field)
  over_line field w e h =
      ap (λ (l : Columns). over column field l) f.rest
      ∙ ap (λ (k : ℕ). over k field (whole cur)) (sym long)
      ∙ put_on_lem cur field (omega (arith, long, f.within))

  -- ---- numbers

  module _ (w : ℕ) where
    pub number_none : left_of o c ≡ [] → (step_at o so (I w) c cur ≡ fine statement_ends) × (line ≡ whole cur)
    unfolding step_of
    number_none e = (ap (λ (is : List Spot). step_of spot_get so (I w) is cur) e, f.rest)

    pub number_astray : Astray o so c → Stopped (step_at o so (I w) c cur) BadSubscript
    unfolding step_of spot_get trouble_number
    number_astray a =
        record {
          why = bad_subscript;
          is =
              ap (λ (is : List Spot). step_of spot_get so (I w) is cur) a.is
              ∙ ap (λ (p : Option ℕ). given bad_subscript (cell_in so p) (λ v. put_on cur (printed w v) w a.more)) a.at;
          numbered = refl;
        }

    module _ (a : ℕ) (d : Cursor) (n : Found o so c a d) where
      number_step : step_at o so (I w) c cur ≡ put_on cur (printed w (cell so a)) w (left_of o d)
      unfolding step_of spot_get
      number_step =
          ap (λ (is : List Spot). step_of spot_get so (I w) is cur) n.is
          ∙ ap (λ (p : Option ℕ). given bad_subscript (cell_in so p) (λ v. put_on cur (printed w v) w (left_of o d))) n.at

      pub number_passes : line_width - column < w → Stopped (step_at o so (I w) c cur) BadField
      number_passes h = passes (I w) (printed w (cell so a)) w (left_of o d) number_step h

      pub number_put : w ≤ line_width - column → (after : Columns) → after ≡ over column (printed w (cell so a)) line → Goes o so c cur (I w) after (column + w) d
      number_put h after e =
          put (I w) (printed w (cell so a)) w (left_of o d) number_step d refl n.next (printed_length w (cell so a)) h after
          (e ∙ over_line (printed w (cell so a)) w (printed_length w (cell so a)) h)

  -- ---- columns passed over, characters, slashes

  module _ (r : Reached o c) where
    module _ (n : ℕ) where
      skip_step : step_at o so (X n) c cur ≡ put_on cur (replicate n blank) n (left_of o c)
      unfolding step_of
      skip_step = refl

      pub skip_passes : line_width - column < n → Stopped (step_at o so (X n) c cur) BadField
      skip_passes h = passes (X n) (replicate n blank) n (left_of o c) skip_step h

      pub skip_put : n ≤ line_width - column → Goes o so c cur (X n) line (column + n) c
      skip_put h =
          put (X n) (replicate n blank) n (left_of o c) skip_step c refl r (length-replicate n blank) h line
          (f.rest ∙ blanks_on cur n (omega (arith, long, f.within)))

    module _ (t : ℕ) where
      text_step : step_at o so (H t) c cur ≡ put_on cur (t ∷ []) 1 (left_of o c)
      unfolding step_of
      text_step = refl

      pub text_passes : line_width - column < 1 → Stopped (step_at o so (H t) c cur) BadField
      text_passes h = passes (H t) (t ∷ []) 1 (left_of o c) text_step h

      pub text_put : 1 ≤ line_width - column → Goes o so c cur (H t) (set line column t) (column + 1) c
      unfolding over
      text_put h = put (H t) (t ∷ []) 1 (left_of o c) text_step c refl r refl h (set line column t) (over_line (t ∷ []) 1 refl h)

  pub slash_ends : (step_at o so new_record c cur ≡ fine record_ends) × (line ≡ whole cur)
  unfolding step_of
  slash_ends = (refl, f.rest)
