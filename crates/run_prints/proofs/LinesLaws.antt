-- The book's lines, one after the other: each is `line_of`, and what is done with it.
-- Assumes nothing.
use mathlib.Core.Path.{◌≡◌, refl, sym, ap, subst, ◌∙◌}
use mathlib.Core.Bool.{Bool, true, false}
use mathlib.Core.List.{List, [], ◌∷◌, ◌++◌}
use mathlib.Core.Option as book
use Prim.Native.Nat.{ℕ, zero, suc, ◌-◌}
use native.Mathlib.Omega.{arith}
use lib.ListN.{replicate}
use lib.IntN.{ℤ}
use Rattle.rules_formats.specs.Format.{Field, I, X, H, new_record}
use Rattle.rules_formats.specs.Fields.{blank, printed}
use Rattle.rules_formats.specs.Walk.{Trouble, bad_subscript, ran_out, bad_field, trouble_number, Outcome, fine, trouble, then, given, provided, Columns, room_on, whole, put_out, on_line, lines}
use Rattle.rules_object.specs.Object.{Object}
use Rattle.rules_object.specs.Machine.{Spot, spot_get}
use Rattle.std.specs.Prelude.{Option, Some, None, Result, Ok, Err}
use Rattle.object_opcodes.specs.declared.Halt.{Halt}
use Rattle.object_opcodes.specs.declared.Halt.TheVariants.{RanOut}
use Rattle.run_formats.specs.Scan.{fields_at, scan_at, Scanning}
use Rattle.run_lists.specs.declared.Cursor.{Cursor}
use Rattle.run_lists.specs.declared.Start.{Start}
use Rattle.run_lists.specs.Cursors.{left_of, Reached}
use Rattle.run_lists.specs.Troubles.{Stopped, Fine, Tried}
use Rattle.run_prints.specs.Steps.{on, put_on, Line, more, last, follow, step_of, line_of}
use Rattle.run_prints.specs.Puts.{line_at, OneLine, LastLine, Puts}
use Rattle.run_prints.specs.Lines.{lines_from}

-- what is done with a line
abbrev pub ended : {Item : Type 0} → ℕ → (List Field → List Item → Outcome (List Columns)) → Line Item → Outcome (List Columns)
ended room next (more line fs is) = put_out room line (next fs is)
ended room next (last line) = put_out room line (fine [])

module _ {S Item : Type 0} (get : S → Item → book.Option ℤ) (store : S) (scan : List Field) (room : ℕ) (next : List Field → List Item → Outcome (List Columns)) where
  putting : (b : Bool) (line longer : Columns) (fs : List Field) (is js : List Item) (o : Outcome (List Columns))
      → o ≡ then (line_of get store scan fs js longer) (ended room next)
      → provided bad_field b o ≡ then (then (provided bad_field b (fine (on longer js))) (follow line fs is (line_of get store scan fs))) (ended room next)
  putting true line longer fs is js o e = e
  putting false line longer fs is js o e = refl

  pub by_line : (fs : List Field) (is : List Item) (line : Columns) → on_line get scan store room next fs is line ≡ then (line_of get store scan fs is line) (ended room next)
  unfolding step_of line_of
  by_line [] [] line = refl
  by_line [] (i ∷ is) line = refl
  by_line (I w ∷ fs) [] line = refl
  by_line (I w ∷ fs) (i ∷ is) line = number (get store i) (λ v. by_line fs is (line ++ printed w v))
    where
      number : (p : book.Option ℤ) → ((v : ℤ) → on_line get scan store room next fs is (line ++ printed w v) ≡ then (line_of get store scan fs is (line ++ printed w v)) (ended room next))
          → given bad_subscript p (λ v. provided bad_field (room_on line w) (on_line get scan store room next fs is (line ++ printed w v)))
          ≡ then (then (given bad_subscript p (λ v. put_on line (printed w v) w is)) (follow line fs (i ∷ is) (line_of get store scan fs))) (ended room next)
      number book.none h = refl
      number (book.some v) h = putting (room_on line w) line (line ++ printed w v) fs (i ∷ is) is _ (h v)
  by_line (X n ∷ fs) is line = putting (room_on line n) line (line ++ replicate n blank) fs is is _ (by_line fs is (line ++ replicate n blank))
  by_line (H c ∷ fs) is line = putting (room_on line 1) line (line ++ (c ∷ [])) fs is is _ (by_line fs is (line ++ (c ∷ [])))
  by_line (new_record ∷ fs) is line = refl

module _ (o : Object) (so : List ℤ) (word : ℕ) (c : Cursor) where
  -- what comes after a line, by the room that the line has
  abbrev after_line : ℕ → List Field → List Spot → Outcome (List Columns)
  after_line zero fs is = trouble ran_out
  after_line (suc room) fs is = lines spot_get (scan_at o.formats word) so room fs is

  by_lines : (room : ℕ) (l : Outcome (Line Spot)) → line_at o so word c ≡ l → lines_from o so room word c ≡ then l (ended room (after_line room))
  unfolding lines_from
  by_lines zero l e =
      by_line spot_get so (scan_at o.formats word) zero (λ gs js. trouble ran_out) (fields_at o.formats word) (left_of o c) []
      ∙ ap (λ (x : Outcome (Line Spot)). then x (ended zero (λ gs js. trouble ran_out))) e
  by_lines (suc room) l e =
      by_line spot_get so (scan_at o.formats word) (suc room) (lines spot_get (scan_at o.formats word) so room) (fields_at o.formats word) (left_of o c) []
      ∙ ap (λ (x : Outcome (Line Spot)). then x (ended (suc room) (lines spot_get (scan_at o.formats word) so room))) e

  pub line_stops : (h : Halt) → Stopped (line_at o so word c) h → (room : ℕ) → Stopped (lines_from o so room word c) h
  line_stops h s room = record { why = s.why; is = by_lines room (trouble s.why) s.is; numbered = s.numbered }

  module _ (after : Columns) (j : ℕ) (d : Cursor) (l : OneLine o so word c after j d) where
    pub none_more : (room : ℕ) → room ≡ 0 → lines_from o so room word c ≡ trouble ran_out
    none_more room e = ap (λ (n : ℕ). lines_from o so n word c) e ∙ by_lines zero _ l.is

    one_more : (room : ℕ) → lines_from o so (suc room) word c ≡ then (lines_from o so room j d) (λ ls. fine (after ∷ ls))
    unfolding lines_from scan_at
    one_more room =
        by_lines (suc room) _ l.is
        ∙ ap (λ (fs : List Field). then (lines spot_get fs so room (fields_at o.formats j) (left_of o d)) (λ ls. fine (whole l.line ∷ ls))) (ap (fields_at o.formats) (sym l.along.same))
        ∙ ap (λ (x : Columns). then (lines_from o so room j d) (λ ls. fine (x ∷ ls))) (sym l.put)

    pub more_lines : (room : ℕ) → (room ≡ 0 → ⊥) → lines_from o so room word c ≡ then (lines_from o so (room - 1) j d) (λ ls. fine (after ∷ ls))
    more_lines room n = let e : room ≡ suc (room - 1) = omega arith in ap (λ (k : ℕ). lines_from o so k word c) e ∙ one_more (room - 1)

  module _ (after : Columns) (l : LastLine o so word c after) where
    pub none_last : (room : ℕ) → room ≡ 0 → lines_from o so room word c ≡ trouble ran_out
    none_last room e = ap (λ (n : ℕ). lines_from o so n word c) e ∙ by_lines zero _ l.is

    pub last_line : (room : ℕ) → (room ≡ 0 → ⊥) → lines_from o so room word c ≡ fine (after ∷ [])
    last_line room n =
        let e : room ≡ suc (room - 1) = omega arith in
        ap (λ (k : ℕ). lines_from o so k word c) e ∙ by_lines (suc (room - 1)) _ l.is ∙ ap (λ (x : Columns). fine (x ∷ [])) (sym l.put)

  pub no_room_left : (after : Columns) (v : Option Start) → Puts o so (record { word = word; list = c }) after (Ok v) → (room : ℕ) → room ≡ 0 → lines_from o so room word c ≡ trouble ran_out
  no_room_left after (Some t) l room e = none_more after t.word t.list l room e
  no_room_left after None l room e = none_last after l room e

  -- with no room there is trouble
  pub no_room_lem : (ls : List Columns) → lines_from o so zero word c ≡ fine ls → ⊥
  no_room_lem ls e = by (line_at o so word c) refl
    where
      wrong : (t : Trouble) → lines_from o so zero word c ≡ trouble t → ⊥
      wrong t f = let z : ◌≡◌ {A = ℕ} 0 1 = cc in absurd (omega arith)

      by : (l : Outcome (Line Spot)) → line_at o so word c ≡ l → ⊥
      by (fine (more line fs is)) q = wrong ran_out (by_lines zero _ q)
      by (fine (last line)) q = wrong ran_out (by_lines zero _ q)
      by (trouble t) q = wrong t (by_lines zero _ q)

-- ---- trying

tried_then : (x : Outcome (List Columns)) (f : List Columns → List Columns) (r : Result (Unit {0}) Halt) → Tried x r → Tried (then x (λ ls. fine (f ls))) r
tried_then x f (Ok u) d = record { value = f d.value; is = ap (λ (y : Outcome (List Columns)). then y (λ ls. fine (f ls))) d.is }
tried_then x f (Err h) d = record { why = d.why; is = ap (λ (y : Outcome (List Columns)). then y (λ ls. fine (f ls))) d.is; numbered = d.numbered }

module _ (o : Object) (so : List ℤ) (room word : ℕ) (c : Cursor) where
  pub record Trying (j : ℕ) (left : Cursor) (space : ℕ) : Type 0 where
    pub scanning : Scanning o.formats j
    pub reached : Reached o left
    pub same : (r : Result (Unit {0}) Halt) → Tried (lines_from o so space j left) r → Tried (lines_from o so room word c) r

  pub trying_begins : Scanning o.formats word → Reached o c → Trying word c room
  trying_begins s r = record { scanning = s; reached = r; same = λ x t. t }

  module _ (j : ℕ) (left : Cursor) (space : ℕ) (t : Trying j left space) where
    pub tried_stop : (h : Halt) → Stopped (line_at o so j left) h → Stopped (lines_from o so room word c) h
    tried_stop h s = t.same (Err h) (line_stops o so j left h s space)

    pub tried_last : (after : Columns) → LastLine o so j left after → (space ≡ 0 → ⊥) → Fine (lines_from o so room word c)
    tried_last after l n = t.same (Ok tt) (record { value = _; is = last_line o so j left after l space n })

    pub tried_full : lines_from o so space j left ≡ trouble ran_out → Stopped (lines_from o so room word c) RanOut
    unfolding trouble_number
    tried_full e = t.same (Err RanOut) (record { why = ran_out; is = e; numbered = refl })

    pub tried_more : (after : Columns) (next : ℕ) (d : Cursor) → OneLine o so j left after next d → (space ≡ 0 → ⊥) → Trying next d (space - 1)
    tried_more after next d l n =
        record {
          scanning = l.along.scanning;
          reached = l.next;
          same = λ r h. t.same r (subst (λ (x : Outcome (List Columns)). Tried x r) (sym (more_lines o so j left after next d l space n)) (tried_then (lines_from o so (space - 1) next d) (λ ls. after ∷ ls) r h));
        }
