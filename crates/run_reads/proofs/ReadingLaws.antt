-- The cards of a READ taken in turn, and the statement.
-- Assumes nothing.
use mathlib.Core.Path.{◌≡◌, refl, sym, ap, ◌∙◌, subst}
use mathlib.Core.Bool.{true}
use mathlib.Core.List.{List, [], ◌∷◌}
use Prim.Native.Nat.{ℕ, zero, suc, ◌+◌, ◌-◌, ◌*◌, ◌/◌, ◌≤◌, ◌<◌}
use native.Mathlib.Omega.{arith}
use native.Mathlib.Numerals.{add-one}
use lib.ListN.{length, get_or, take, drop, drop_of_length-le}
use lib.Seq.{drop-cons, drop-drop}
use lib.IntN.{ℤ}
use Rattle.number.specs.declared.Rule.{Rule}
use Rattle.rules_formats.specs.Format.{Field, new_scan}
use Rattle.rules_formats.specs.Walk.{ran_out, trouble_number, Outcome, fine, trouble, Columns, card_width, cards, Taken, taken, reads, cards_from, cards_of}
use Rattle.rules_formats.proofs.Lengths.{cards_lent}
use Rattle.rules_object.specs.Object.{Object}
use Rattle.rules_object.specs.Operations.{transfer_at, format_at, transfer_right}
use Rattle.rules_object.specs.Machine.{Spot, spot_get, spot_set}
use Rattle.object_contents.specs.declared.placed.Object.{Object as Lent}
use Rattle.object_contents.specs.Book.{book_of}
use Rattle.run_formats.specs.Scan.{fields_at, Scanning}
use Rattle.run_formats.proofs.StartLaws.{starts_again, fields_are}
use Rattle.run_lists.specs.declared.Cursor.{Cursor}
use Rattle.run_lists.specs.declared.Start.{Start}
use Rattle.std.specs.Prelude.{Some, None, Result as Answer, Ok, Err}
use Rattle.object_opcodes.specs.declared.Halt.{Halt}
use Rattle.object_opcodes.specs.declared.Halt.TheVariants.{RanOut}
use Rattle.run_lists.specs.Cursors.{start_of, Stored, left_of, Reached}
use Rattle.run_lists.proofs.Lists.{list_is}
use Rattle.run_reads.specs.Takes.{Kept, Takes, cards_on, Reads, Read, read_by, Result}
use Rattle.run_reads.proofs.FieldLaws.{kept_same, kept_on}
use Rattle.run_reads.proofs.CardsLaws.{no_cards, by_cards, more_cards}

-- ---- a card in its bytes

card_from : (m n : ℕ) (b : List ℕ) → n < m → get_or (cards_from m b) n [] ≡ take card_width (drop (card_width * n) b)
card_from zero n b h = absurd (omega arith)
card_from (suc m) zero b h = refl
card_from (suc m) (suc n) b h =
    let e : card_width + card_width * n ≡ card_width * suc n = omega arith in
    card_from m n (drop card_width b) (omega arith) ∙ ap (take card_width) (drop-drop (card_width * n) card_width b ∙ ap (λ (k : ℕ). drop k b) e)

-- as code has it
abbrev pub card_of_bytes : List ℕ → ℕ → Columns
card_of_bytes b n = take (card_width * n + card_width - card_width * n) (drop (card_width * n) b)

pub next_card : (b : List ℕ) (n : ℕ) → n < length (cards_of b) → drop n (cards_of b) ≡ card_of_bytes b n ∷ drop (n + 1) (cards_of b)
unfolding cards_of
next_card b n h =
    let w : card_width ≡ card_width * n + card_width - card_width * n = omega arith in
    drop-cons (cards_of b) n [] h
    ∙ ap (λ (c : Columns). c ∷ drop (suc n) (cards_of b)) (card_from (length b / card_width) n b (omega (arith, (cards_lent b).1)) ∙ ap (λ (k : ℕ). take k (drop (card_width * n) b)) w)
    ∙ ap (λ (k : ℕ). card_of_bytes b n ∷ drop k (cards_of b)) (sym (add-one n))

-- ---- in turn

module _ (ob : Lent) (bytes : List ℕ) (first word : ℕ) (c : Cursor) (before : List ℤ) where
  abbrev o : Object
  o = book_of ob

  abbrev outcome : Outcome (Taken (List ℤ))
  outcome = cards_on o ob.rule (drop first (cards_of bytes)) word c before

  pub record Reading (store : List ℤ) (n j : ℕ) (left : Cursor) : Type 0 where
    pub from : first ≤ n
    pub to : n ≤ length (cards_of bytes)
    pub scanning : Scanning o.formats j
    pub reached : Reached o left
    pub kept : Kept ob before store
    pub same : outcome ≡ cards_on o ob.rule (drop n (cards_of bytes)) j left store

  pub reading_begins : Stored ob before → first ≤ length (cards_of bytes) → Scanning o.formats word → Reached o c → Reading before first word c
  reading_begins h l t r = record { from = omega arith; to = l; scanning = t; reached = r; kept = kept_same ob before h; same = refl }

  pub whole_cards : length (cards_of bytes) ≡ length bytes / 80
  whole_cards = (cards_lent bytes).1

  as_read : (out : Outcome (Taken (List ℤ))) (after : List ℤ) (r : Answer ℕ Halt) → outcome ≡ out → Kept ob before after → Reads bytes first out after r → Read ob bytes first outcome before after r
  as_read out after r q kp d = record { kept = kp; so = subst (λ (x : Outcome (Taken (List ℤ))). Reads bytes first x after r) (sym q) d }

  module _ (store : List ℤ) (n j : ℕ) (left : Cursor) (g : Reading store n j left) where
    pub ran_out_lem : length (cards_of bytes) ≤ n → Read ob bytes first outcome before store (Err RanOut)
    unfolding trouble_number
    ran_out_lem h =
        as_read (trouble ran_out) store (Err RanOut)
        (g.same ∙ ap (λ (cs : List Columns). cards_on o ob.rule cs j left store) (drop_of_length-le (cards_of bytes) h) ∙ no_cards o ob.rule j left store) g.kept refl

    module _ (h : n < length (cards_of bytes)) where
      abbrev card : Columns
      card = card_of_bytes bytes n

      abbrev cs : List Columns
      cs = drop (n + 1) (cards_of bytes)

      here : outcome ≡ cards_on o ob.rule (card ∷ cs) j left store
      here = g.same ∙ ap (λ (ds : List Columns). cards_on o ob.rule ds j left store) (next_card bytes n h)

      pub reads_stop : (after : List ℤ) (m : Halt) → Takes ob (record { word = j; list = left }) store card after (Err m) → Read ob bytes first outcome before after (Err m)
      reads_stop after m t =
          as_read (trouble t.so.why) after (Err m) (here ∙ by_cards ob cs j left store card _ t.so.is) (kept_on ob before store after g.kept t.kept) t.so.numbered

      pub reads_last : (after : List ℤ) → Takes ob (record { word = j; list = left }) store card after (Ok None) → Read ob bytes first outcome before after (Ok (n + 1))
      reads_last after t =
          as_read (fine (taken after cs)) after (Ok (n + 1)) (here ∙ by_cards ob cs j left store card _ t.so) (kept_on ob before store after g.kept t.kept)
          (record { store = refl; cards = refl; onward = omega (arith, g.from); within = omega arith })

      pub reads_more : (after : List ℤ) (next : ℕ) (d : Cursor) → Takes ob (record { word = j; list = left }) store card after (Ok (Some (record { word = next; list = d }))) → Reading after (n + 1) next d
      reads_more after next d t =
          record {
            from = omega (arith, g.from);
            to = omega arith;
            scanning = t.so.along.scanning;
            reached = t.so.next;
            kept = kept_on ob before store after g.kept t.kept;
            same = here ∙ more_cards ob cs j left store card after next d t.so;
          }

  -- ---- the statement

  pub reads_well : (after : List ℤ) (now : ℕ) → Read ob bytes first outcome before after (Ok now) → Result bytes first outcome before after (Ok now)
  reads_well after now d = by outcome d.so
    where
      by : (out : Outcome (Taken (List ℤ))) → Reads bytes first out after (Ok now) → Result bytes first out before after (Ok now)
      by (fine t) w = w
      by (trouble t) w = absurd w

  pub reads_ill : (after back : List ℤ) (h : Halt) → Read ob bytes first outcome before after (Err h) → back ≡ before → Result bytes first outcome before back (Err h)
  reads_ill after back h d q = by outcome d.so
    where
      by : (out : Outcome (Taken (List ℤ))) → Reads bytes first out after (Err h) → Result bytes first out before back (Err h)
      by (fine t) w = absurd w
      by (trouble t) w = (w, q)

-- from where the code begins
module _ (o : Object) (x : ℕ) (right : transfer_right o x ≡ true) (start : Start) (e : start ≡ start_of (transfer_at o x)) where
  -- the book's READ is what these cards come to
  pub as_read_by : (k : Rule) (so : List ℤ) (cs : List Columns) → cards_on o k cs start.word start.list so ≡ read_by o k x so cs
  unfolding read_by reads cards_on
  as_read_by k so cs =
      ap (λ (s : Start). cards_on o k cs s.word s.list so) e
      ∙ ap (λ (fs : List Field). cards k.ceiling spot_get spot_set fs cs (fields_at o.formats (transfer_at o x).format) (left_of o (start_of (transfer_at o x)).list) so) (sym (starts_again o x right))
      ∙ ap (λ (fs : List Field). cards k.ceiling spot_get spot_set (new_scan (format_at o (transfer_at o x).format)) cs fs (left_of o (start_of (transfer_at o x)).list) so) (sym (fields_are o x right))
      ∙ ap (λ (is : List Spot). cards k.ceiling spot_get spot_set (new_scan (format_at o (transfer_at o x).format)) cs (format_at o (transfer_at o x).format).fields is so) (list_is o x right)
