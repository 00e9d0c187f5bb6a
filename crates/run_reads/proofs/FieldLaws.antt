-- One field of a card in place, case by case.
-- Assumes nothing.
use mathlib.Core.Path.{◌≡◌, refl, sym, ap, ◌∙◌, subst}
use mathlib.Core.Bool.{Bool, true, false}
use mathlib.Core.List.{List, []}
use mathlib.Core.Option as book_option
use Rattle.std.specs.Prelude.{Some, None}
use Prim.Native.Nat.{ℕ, ◌+◌, ◌-◌, ◌^◌, ◌≤◌, ◌<◌}
use native.Mathlib.Omega.{arith}
use borrow.Author.Tests.{eqb-true, eqb-false, le-leb, lt-leb}
use lib.Dec.{leb, eqb}
use lib.ListN.{length, take, drop, set, length-set, length-drop}
use lib.Seq.{get_or-set_same, get_or-set_other, drop-set-lt, drop-drop}
use lib.IntN.{ℤ, pos, nat_abs}
use Rattle.number.specs.Number.{Fits}
use Rattle.number.specs.Number as book
use Rattle.number.proofs.Laws.{fits_below}
use Rattle.rules_formats.specs.Format.{Field, I, X, H, new_record}
use Rattle.rules_formats.specs.Fields.{field_read}
use Rattle.rules_formats.specs.Walk.{bad_subscript, bad_field, trouble_number, Outcome, fine, given, provided, Columns, card_width}
use Rattle.rules_formats.proofs.FieldLaws.{read_below}
use Rattle.rules_object.specs.Object.{Object, rule_of}
use Rattle.rules_object.specs.Machine.{cell, Spot, cell_in, store_with, spot_get, spot_set}
use Rattle.object_contents.specs.declared.placed.Object.{Object as Lent}
use Rattle.object_contents.specs.Layout.{object_at}
use Rattle.object_contents.specs.Book.{book_of}
use Rattle.run_fields.specs.Read.{read_of}
use Rattle.object_opcodes.specs.declared.Halt.TheVariants.{BadSubscript, BadField}
use Rattle.run_lists.specs.declared.Cursor.{Cursor}
use Rattle.run_lists.specs.Cursors.{Stored, left_of, Reached, Found, Astray}
use Rattle.run_lists.specs.Troubles.{Stopped}
use Rattle.run_reads.specs.Steps.{Step, on, record_ends, statement_ends, pass_over, number_for, step_of}
use Rattle.run_reads.specs.Takes.{Kept, step_at, Goes}

-- ---- what the code's reading of a field tells

pub read_none : (p : book_option.Option ℤ) → None ≡ read_of p → p ≡ book_option.none
unfolding read_of
read_none book_option.none e = refl
read_none (book_option.some v) e = absurd cc

pub read_some : (p : book_option.Option ℤ) (v : ℤ) → Some v ≡ read_of p → p ≡ book_option.some v
unfolding read_of
read_some book_option.none v e = absurd cc
read_some (book_option.some w) v e = let same : w ≡ v = cc in ap book_option.some same

-- ---- a store with one number more

module _ (ob : Lent) where
  pub kept_same : (so : List ℤ) → Stored ob so → Kept ob so so
  kept_same so h = record { stored = h; long = refl; rest = refl }

  pub kept_on : (a b d : List ℤ) → Kept ob a b → Kept ob b d → Kept ob a d
  kept_on a b d k l = record { stored = l.stored; long = l.long ∙ k.long; rest = l.rest ∙ k.rest }

  pub kept_set : (so : List ℤ) → Stored ob so → (a : ℕ) (v : ℤ) → a < ob.layout.cells → Fits (rule_of (book_of ob)) v → Kept ob so (set so a v)
  kept_set so h a v l f =
      record {
        stored =
            record {
              narrow = h.narrow;
              few = h.few;
              long = omega (arith, h.long, length-set so a v);
              fit = λ b m. by b m (eqb b a) refl;
            };
        long = length-set so a v;
        rest = drop-set-lt ob.layout.cells so a v l;
      }
    where
      by : (b : ℕ) → b < ob.layout.cells → (d : Bool) → eqb b a ≡ d → Fits (rule_of (book_of ob)) (cell (set so a v) b)
      by b m true q =
          subst (Fits (rule_of (book_of ob))) (sym (ap (λ (n : ℕ). cell (set so a v) n) (eqb-true b a q) ∙ get_or-set_same so a v (pos 0) (omega (arith, h.long)))) f
      by b m false q = subst (Fits (rule_of (book_of ob))) (sym (get_or-set_other so a b v (pos 0) (eqb-false b a q))) (h.fit b m)

module _ (ob : Lent) (c : Cursor) (so : List ℤ) (h : Stored ob so) (card : Columns) (column : ℕ) (wide : length card ≡ card_width) (low : column ≤ card_width) where
  abbrev o : Object
  o = book_of ob

  abbrev columns : Columns
  columns = drop column card

  long : length columns ≡ card_width - column
  long = omega (arith, length-drop column card)

  -- ---- no columns left for it

  pub passes : (g : Field) (n : ℕ) (rest : Outcome (Step (List ℤ) Spot)) → step_at o ob.rule g c so columns ≡ provided bad_field (leb n (length columns)) rest → card_width - column < n
      → Stopped (step_at o ob.rule g c so columns) BadField
  unfolding trouble_number
  passes g n rest q m =
      record { why = bad_field; is = q ∙ ap (λ (b : Bool). provided bad_field b rest) (lt-leb n (length columns) (omega (arith, long))); numbered = refl }

  fits_left : (n : ℕ) → n ≤ card_width - column → leb n (length columns) ≡ true
  fits_left n m = le-leb n (length columns) (omega (arith, long))

  -- ---- numbers

  module _ (w : ℕ) where
    pub number_none : left_of o c ≡ [] → step_at o ob.rule (I w) c so columns ≡ fine statement_ends
    unfolding step_of
    number_none q = ap (λ (is : List Spot). step_of ob.rule.ceiling spot_get spot_set (I w) is so columns) q

    pub number_astray : Astray o so c → Stopped (step_at o ob.rule (I w) c so columns) BadSubscript
    unfolding step_of spot_get trouble_number
    number_astray a =
        record {
          why = bad_subscript;
          is =
              ap (λ (is : List Spot). step_of ob.rule.ceiling spot_get spot_set (I w) is so columns) a.is
              ∙ ap (λ (p : book_option.Option ℕ). given bad_subscript (cell_in so p) (λ old. number_for ob.rule.ceiling spot_get spot_set w a.spot a.more so columns)) a.at;
          numbered = refl;
        }

    module _ (a : ℕ) (d : Cursor) (n : Found o so c a d) where
      number_step : step_at o ob.rule (I w) c so columns ≡ number_for ob.rule.ceiling spot_get spot_set w n.spot (left_of o d) so columns
      unfolding step_of spot_get
      number_step =
          ap (λ (is : List Spot). step_of ob.rule.ceiling spot_get spot_set (I w) is so columns) n.is
          ∙ ap (λ (p : book_option.Option ℕ). given bad_subscript (cell_in so p) (λ old. number_for ob.rule.ceiling spot_get spot_set w n.spot (left_of o d) so columns)) n.at

      pub number_passes : card_width - column < w → Stopped (step_at o ob.rule (I w) c so columns) BadField
      number_passes m = passes (I w) w _ number_step m

      module _ (m : w ≤ card_width - column) where
        abbrev setting : book_option.Option ℤ → Outcome (Step (List ℤ) Spot)
        setting p = given bad_field p (λ v. given bad_subscript (spot_set so n.spot v) (λ t. fine (on t (drop w columns) (left_of o d))))

        number_by : (p : book_option.Option ℤ) → field_read ob.rule.ceiling (take w columns) ≡ p → step_at o ob.rule (I w) c so columns ≡ setting p
        number_by p q =
            number_step
            ∙ ap (λ (b : Bool). provided bad_field b (setting (field_read ob.rule.ceiling (take w columns)))) (fits_left w m)
            ∙ ap setting q

        pub number_bad : field_read ob.rule.ceiling (take w columns) ≡ book_option.none → Stopped (step_at o ob.rule (I w) c so columns) BadField
        unfolding trouble_number
        number_bad q = record { why = bad_field; is = number_by book_option.none q; numbered = refl }

        module _ (v : ℤ) (q : field_read ob.rule.ceiling (take w columns) ≡ book_option.some v) where
          pub number_fits : Fits (rule_of o) v
          number_fits = subst (λ (r : book.Rule). Fits r v) ob.ruled (read_below ob.rule.ceiling (take w columns) v q)

          pub number_small : nat_abs v < 2 ^ 63
          number_small = omega (arith, fits_below (rule_of o) h.narrow v number_fits)

          pub number_read : Goes ob c so card column (I w) (set so a v) (column + w) d
          unfolding spot_set object_at
          number_read =
              record {
                is =
                    number_by (book_option.some v) q
                    ∙ ap (λ (p : book_option.Option ℕ). given bad_subscript (store_with so v p) (λ t. fine (on t (drop w columns) (left_of o d)))) n.at
                    ∙ ap (λ (l : Columns). fine (on (set so a v) l (left_of o d))) (drop-drop w column card);
                within = omega arith;
                reached = n.next;
                kept = kept_set ob so h a v n.inside number_fits;
              }

  -- ---- columns passed over

  module _ (g : Field) (n : ℕ) (q : step_at o ob.rule g c so columns ≡ pass_over n (left_of o c) so columns) (r : Reached o c) where
    passed : n ≤ card_width - column → Goes ob c so card column g so (column + n) c
    passed m =
        record {
          is =
              q ∙ ap (λ (b : Bool). provided bad_field b (fine (on so (drop n columns) (left_of o c)))) (fits_left n m)
              ∙ ap (λ (l : Columns). fine (on so l (left_of o c))) (drop-drop n column card);
          within = omega arith;
          reached = r;
          kept = kept_same ob so h;
        }

  skip_step : (n : ℕ) → step_at o ob.rule (X n) c so columns ≡ pass_over n (left_of o c) so columns
  unfolding step_of
  skip_step n = refl

  pub skip_passes : (n : ℕ) → card_width - column < n → Stopped (step_at o ob.rule (X n) c so columns) BadField
  skip_passes n m = passes (X n) n _ (skip_step n) m

  pub skip_over : (n : ℕ) → Reached o c → n ≤ card_width - column → Goes ob c so card column (X n) so (column + n) c
  skip_over n r m = passed (X n) n (skip_step n) r m

  text_step : (t : ℕ) → step_at o ob.rule (H t) c so columns ≡ pass_over 1 (left_of o c) so columns
  unfolding step_of
  text_step t = refl

  pub text_passes : (t : ℕ) → card_width - column < 1 → Stopped (step_at o ob.rule (H t) c so columns) BadField
  text_passes t m = passes (H t) 1 _ (text_step t) m

  pub text_over : (t : ℕ) → Reached o c → 1 ≤ card_width - column → Goes ob c so card column (H t) so (column + 1) c
  text_over t r m = passed (H t) 1 (text_step t) r m

  pub slash_ends : step_at o ob.rule new_record c so columns ≡ fine record_ends
  unfolding step_of
  slash_ends = refl
