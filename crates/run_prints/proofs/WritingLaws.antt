-- The lines of a PRINT written in turn, and the statement.
-- Assumes nothing.
use mathlib.Core.Path.{◌≡◌, refl, sym, ap, ◌∙◌, subst}
use mathlib.Core.Bool.{true}
use mathlib.Core.List.{List, [], ◌∷◌, ◌++◌, append-nil}
use Prim.Native.Nat.{ℕ, zero, suc, ◌+◌, ◌-◌, ◌*◌, ◌≤◌, ◌<◌}
use native.Mathlib.Omega.{arith}
use lib.ListN.{length, drop, length-append}
use lib.Seq.{append_snoc}
use lib.IntN.{ℤ}
use borrow.Rule.Slice.PartMut.{put_mid}
use Rattle.rules_formats.specs.Format.{Field, new_scan}
use Rattle.rules_formats.specs.Walk.{Trouble, Outcome, fine, trouble, then, Columns, line_width, lines, Paper, below, prints, room_of, joined_lines}
use Rattle.rules_formats.proofs.Lengths.{Wide, InRoom, lines_right}
use Rattle.rules_object.specs.Object.{Object}
use Rattle.rules_object.specs.Operations.{transfer_at, format_at, transfer_right}
use Rattle.rules_object.specs.Machine.{Spot, spot_get}
use Rattle.run_registers.specs.Devices.{paper_of}
use Rattle.run_fields.specs.Put.{over}
use Rattle.run_fields.proofs.LineLaws.{part_over}
use Rattle.std.specs.Prelude.{Result, Ok, Err}
use Rattle.object_opcodes.specs.declared.Halt.{Halt}
use Rattle.run_formats.specs.Scan.{fields_at, scan_at, Scanning}
use Rattle.run_formats.proofs.StartLaws.{starts_again, fields_are}
use Rattle.run_lists.specs.declared.Cursor.{Cursor}
use Rattle.run_lists.specs.declared.Start.{Start}
use Rattle.run_lists.specs.Cursors.{start_of, left_of, Reached}
use Rattle.run_lists.specs.Troubles.{Stopped, Fine}
use Rattle.run_lists.proofs.Lists.{list_is}
use Rattle.run_prints.specs.Puts.{line_at, OneLine, LastLine}
use Rattle.run_prints.specs.Lines.{lines_from, Written, Writes, printed, Prints}
use Rattle.run_prints.proofs.LinesLaws.{more_lines, last_line, no_room_lem, line_stops}
use Rattle.run_prints.proofs.PaperLaws.{over_over, over_none, over_length, joined_length, joined_one_more, wide_after, paper_is, paper_long, paper_rest, paper_room}

no_trouble : (t : Trouble) {ls : List Columns} → ◌≡◌ {A = Outcome (List Columns)} (fine ls) (trouble t) → ⊥
no_trouble t e = cc

one_fine : (a b : List Columns) → ◌≡◌ {A = Outcome (List Columns)} (fine a) (fine b) → a ≡ b
one_fine a b e = cc

-- ---- in turn

module _ (o : Object) (so : List ℤ) (before : List ℕ) (written word : ℕ) (c : Cursor) where
  abbrev outcome : Outcome (List Columns)
  outcome = lines_from o so (room_of before - written) word c

  -- the lines so far stand there, and the rest are the lines from here on
  pub record Writing (bytes : List ℕ) (n j : ℕ) (left : Cursor) : Type 0 where
    pub front : List Columns
    pub rest : List Columns
    pub count : n ≡ written + length front
    pub put : bytes ≡ over (line_width * written) (joined_lines front) before
    pub all : outcome ≡ fine (front ++ rest)
    pub now : lines_from o so (room_of before - n) j left ≡ fine rest
    pub scanning : Scanning o.formats j
    pub reached : Reached o left

  pub writing_begins : Fine outcome → Scanning o.formats word → Reached o c → Writing before written word c
  writing_begins f s r =
      record { front = []; rest = f.value; count = omega arith; put = over_none before (line_width * written); all = f.is; now = f.is; scanning = s; reached = r }

  wide : (ls : List Columns) → outcome ≡ fine ls → Wide line_width ls × (length ls ≤ room_of before - written)
  unfolding lines_from
  wide ls e =
      subst (InRoom (room_of before - written)) e
      (lines_right spot_get (scan_at o.formats word) so (room_of before - written) (fields_at o.formats word) (left_of o c))

  module _ (bytes : List ℕ) (n j : ℕ) (left : Cursor) (w : Writing bytes n j left) where
    pub some_room : n < room_of before
    some_room = by (room_of before - n) refl
      where
        by : (k : ℕ) → room_of before - n ≡ k → n < room_of before
        by zero e = absurd (no_room_lem o so j left w.rest (ap (λ (k : ℕ). lines_from o so k j left) (sym e) ∙ w.now))
        by (suc k) e = omega arith

    pub as_long : length bytes ≡ length before
    as_long = ap (λ (b : List ℕ). length b) w.put ∙ over_length (joined_lines w.front) before (line_width * written)

    pub line_inside : line_width * n + line_width ≤ length bytes
    unfolding room_of
    line_inside = omega (arith, some_room, as_long)

    pub line_kept : (line : Columns) → length line ≡ line_width → length (put_mid (line_width * n) (line_width * n + line_width - line_width * n) bytes line) ≡ length before
    line_kept line e =
        ap (λ (b : List ℕ). length b) (part_over (line_width * n) line_width bytes line line_inside e) ∙ over_length line bytes (line_width * n) ∙ as_long

    pub never_stops : (h : Halt) → Stopped (line_at o so j left) h → ⊥
    never_stops h s = let stopped = line_stops o so j left h s (room_of before - n) in no_trouble stopped.why (sym w.now ∙ stopped.is)

    -- a line more
    module _ (line : Columns) (more : List Columns) (e : w.rest ≡ line ∷ more) where
      abbrev longer : List Columns
      longer = w.front ++ (line ∷ [])

      all_longer : outcome ≡ fine (longer ++ more)
      all_longer = w.all ∙ ap (λ (ls : List Columns). fine (w.front ++ ls)) e ∙ ap fine (sym (append_snoc w.front line more))

      wide_all : Wide line_width (w.front ++ (line ∷ more))
      wide_all = subst (λ (ls : List Columns). Wide line_width (w.front ++ ls)) e (wide (w.front ++ w.rest) w.all).0

      count_longer : n + 1 ≡ written + length longer
      count_longer = omega (arith, w.count, length-append w.front (line ∷ []))

      put_longer : put_mid (line_width * n) (line_width * n + line_width - line_width * n) bytes line ≡ over (line_width * written) (joined_lines longer) before
      put_longer =
          let at : line_width * n ≡ line_width * written + length (joined_lines w.front) = omega (arith, w.count, joined_length w.front (line ∷ more) wide_all) in
          part_over (line_width * n) line_width bytes line line_inside (wide_after w.front line more wide_all)
          ∙ ap (λ (b : List ℕ). over (line_width * n) line b) w.put
          ∙ over_over (joined_lines w.front) line before (line_width * written) (line_width * n) at
          ∙ ap (λ (b : List ℕ). over (line_width * written) b before) (sym (joined_one_more w.front line))

    has_room : room_of before - n ≡ 0 → ⊥
    has_room e = omega (arith, some_room)

    pub writes_last : (line : Columns) → LastLine o so j left line
        → Written outcome before (put_mid (line_width * n) (line_width * n + line_width - line_width * n) bytes line) written (n + 1)
    writes_last line l =
        let e : w.rest ≡ line ∷ [] = one_fine w.rest (line ∷ []) (sym w.now ∙ last_line o so j left line l (room_of before - n) has_room) in
        let all : outcome ≡ fine (longer line [] e) = all_longer line [] e ∙ ap fine (append-nil (longer line [] e)) in
        record {
          count = λ ls q. count_longer line [] e ∙ ap (λ (ks : List Columns). written + length ks) (one_fine (longer line [] e) ls (sym all ∙ q));
          put = λ ls q. put_longer line [] e ∙ ap (λ (ks : List Columns). over (line_width * written) (joined_lines ks) before) (one_fine (longer line [] e) ls (sym all ∙ q));
        }

    pub writes_more : (line : Columns) (next : ℕ) (d : Cursor) → OneLine o so j left line next d
        → Writing (put_mid (line_width * n) (line_width * n + line_width - line_width * n) bytes line) (n + 1) next d
    writes_more line next d l = by (lines_from o so (room_of before - n - 1) next d) refl
      where
        is : then (lines_from o so (room_of before - n - 1) next d) (λ ls. fine (line ∷ ls)) ≡ fine w.rest
        is = sym (more_lines o so j left line next d l (room_of before - n) has_room) ∙ w.now

        by : (out : Outcome (List Columns)) → lines_from o so (room_of before - n - 1) next d ≡ out
            → Writing (put_mid (line_width * n) (line_width * n + line_width - line_width * n) bytes line) (n + 1) next d
        by (fine more) q =
            let e : w.rest ≡ line ∷ more = sym (one_fine (line ∷ more) w.rest (sym (ap (λ (x : Outcome (List Columns)). then x (λ ls. fine (line ∷ ls))) q) ∙ is)) in
            let room : room_of before - (n + 1) ≡ room_of before - n - 1 = omega arith in
            record {
              front = longer line more e;
              rest = more;
              count = count_longer line more e;
              put = put_longer line more e;
              all = all_longer line more e;
              now = ap (λ (k : ℕ). lines_from o so k next d) room ∙ q;
              scanning = l.along.scanning;
              reached = l.next;
            }
        by (trouble t) q = absurd (no_trouble t (sym is ∙ ap (λ (x : Outcome (List Columns)). then x (λ ls. fine (line ∷ ls))) q))

  -- ---- the statement

  prints_well : written ≤ room_of before → (now : ℕ) (after : List ℕ) → Fine outcome → Written outcome before after written now
      → Prints before written (then outcome (λ ls. fine (below (paper_of written before) ls))) after (Ok now)
  prints_well h now after f w =
      let all = wide f.value f.is in
      let fits : written + length f.value ≤ room_of before = omega (arith, all.1) in
      let n = w.count f.value f.is in
      let bytes = w.put f.value f.is in
      subst (λ (out : Outcome (List Columns)). Prints before written (then out (λ ls. fine (below (paper_of written before) ls))) after (Ok now)) (sym f.is)
      (record {
        paper = ap (λ (k : ℕ). paper_of k after) n ∙ ap (λ (b : List ℕ). paper_of (written + length f.value) b) bytes ∙ paper_is before written f.value all.0 fits;
        onward = omega arith;
        room = subst (λ (b : List ℕ). now ≤ room_of b) (sym bytes) (omega (arith, paper_room before written f.value all.0 fits));
        long = ap (λ (b : List ℕ). length b) bytes ∙ paper_long before written f.value all.0 fits;
        rest =
            ap (λ (k : ℕ). drop (line_width * k) after) n
            ∙ ap (λ (b : List ℕ). drop (line_width * (written + length f.value)) b) bytes
            ∙ paper_rest before written f.value all.0 fits
            ∙ ap (λ (k : ℕ). drop (line_width * k) before) (sym n);
      })

  pub prints_ill : (h : Halt) → Stopped outcome h → Prints before written (then outcome (λ ls. fine (below (paper_of written before) ls))) before (Err h)
  prints_ill h s =
      subst (λ (out : Outcome (List Columns)). Prints before written (then out (λ ls. fine (below (paper_of written before) ls))) before (Err h)) (sym s.is)
      (s.numbered, refl)

  pub prints_so : written ≤ room_of before → (after : List ℕ) (r : Result ℕ Halt) → Fine outcome → Writes outcome before after written r
      → Prints before written (then outcome (λ ls. fine (below (paper_of written before) ls))) after r
  prints_so h after (Ok now) f w = prints_well h now after f w
  prints_so h after (Err e) f w = absurd w

-- the book's PRINT is what these lines come to
pub printed_is : (o : Object) (x : ℕ) (so : List ℤ) (p : Paper) → transfer_right o x ≡ true
    → then (lines_from o so p.room (start_of (transfer_at o x)).word (start_of (transfer_at o x)).list) (λ ls. fine (below p ls)) ≡ printed o x so p
unfolding printed prints lines_from
printed_is o x so p right =
    ap (λ (fs : List Field). then (lines spot_get fs so p.room (fields_at o.formats (transfer_at o x).format) (left_of o (start_of (transfer_at o x)).list)) (λ ls. fine (below p ls))) (sym (starts_again o x right))
    ∙ ap (λ (fs : List Field). then (lines spot_get (new_scan (format_at o (transfer_at o x).format)) so p.room fs (left_of o (start_of (transfer_at o x)).list)) (λ ls. fine (below p ls))) (sym (fields_are o x right))
    ∙ ap (λ (is : List Spot). then (lines spot_get (new_scan (format_at o (transfer_at o x).format)) so p.room (format_at o (transfer_at o x).format).fields is) (λ ls. fine (below p ls))) (list_is o x right)

-- from where the code begins
module _ (o : Object) (x : ℕ) (right : transfer_right o x ≡ true) (start : Start) (e : start ≡ start_of (transfer_at o x)) where
  pub as_printed : (so : List ℤ) (before : List ℕ) (written : ℕ)
      → then (lines_from o so (room_of before - written) start.word start.list) (λ ls. fine (below (paper_of written before) ls)) ≡ printed o x so (paper_of written before)
  unfolding paper_of
  as_printed so before written =
      ap (λ (s : Start). then (lines_from o so (room_of before - written) s.word s.list) (λ ls. fine (below (paper_of written before) ls))) e
      ∙ printed_is o x so (paper_of written before) right
