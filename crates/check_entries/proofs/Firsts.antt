-- The first entry that fails, by index, of each kind.
-- Assumes nothing.
use mathlib.Core.Path.{◌≡◌, refl, sym, ap, ◌∙◌}
use Prim.Native.Nat.{ℕ, suc, ◌+◌, ◌<◌}
use native.Mathlib.Omega.{arith}
use mathlib.Core.Bool.{Bool}
use mathlib.Core.List.{List, [], ◌∷◌}
use mathlib.Core.Option.{Option, some, none}
use lib.ListN.{length, get_or}
use Rattle.rules_object.specs.Object.{Object}
use Rattle.rules_object.specs.Check.{right_constant, right_element, right_loop, right_line, right_named, right_format, right_item, right_transfer}
use Rattle.rules_object.specs.Operations.{no_element, no_loop, no_transfer}
use Rattle.rules_shared.specs.Refusals.{Refusal, at_entry, or_else}
use Rattle.rules_shared.specs.Lists.{first_bad, first_from}
use Rattle.rules_object.specs.Calls.{refused42}
use Rattle.object_contents.specs.declared.Layout.{Layout}
use Rattle.object_contents.specs.Layout.{object_at}
use Rattle.object_contents.proofs.Entries.{constant_length, element_length, do_length, line_length, name_length, format_length, item_length_lem, transfer_length}
use Rattle.check_names.specs.Names.{no_name}
use Rattle.check_formats.specs.Formats.{no_item}
use Rattle.check_entries.specs.Judge.{no_line}

-- a list's first bad entry by index: base entries are before the list
shifted : {A : Type 0} (test : A → Bool) (l : List A) (d : A) (whole : ℕ → Bool) (i : ℕ)
    → ((k : ℕ) → k < length l → whole (i + k) ≡ test (get_or l k d)) → first_from whole (length l) i ≡ first_bad test l i
shifted test [] d whole i h = refl
shifted test (a ∷ l) d whole i h =
    let z : i + 0 ≡ i = omega arith in
    let here : whole i ≡ test a = ap whole (sym z) ∙ h 0 (omega arith) in
    rw (here, shifted test l d whole (suc i) (λ k g. ap whole (step k) ∙ h (suc k) (omega arith)))
  where
    step : (k : ℕ) → suc i + k ≡ i + suc k
    step k = omega arith

pub first_of : {A : Type 0} (test : A → Bool) (l : List A) (d : A) (n : ℕ) → length l ≡ n
    → first_bad test l 0 ≡ first_from (λ i. test (get_or l i d)) n 0
first_of test l d n q = sym (shifted test l d (λ i. test (get_or l i d)) 0 (λ k h. ap (λ (j : ℕ). test (get_or l j d)) (none_more k))) ∙ ap (λ (m : ℕ). first_from (λ i. test (get_or l i d)) m 0) q
  where
    none_more : (k : ℕ) → 0 + k ≡ k
    none_more k = omega arith

or_assoc : {A : Type 0} (a b d : Option A) → or_else (or_else a b) d ≡ or_else a (or_else b d)
or_assoc (some x) b d = refl
or_assoc none b d = refl

eight : (a b d e f g h i : Option Refusal) → or_else (or_else (or_else (or_else (or_else (or_else (or_else a b) d) e) f) g) h) i ≡ or_else a (or_else b (or_else d (or_else e (or_else f (or_else g (or_else h i))))))
eight a b d e f g h i = simp or_assoc

module _ (e : Layout) (s : List ℕ) where
  abbrev o : Object
  o = object_at e s

  -- the first bad entry of a kind
  abbrev constants : Option Refusal
  constants = at_entry 42 1 (first_from (λ i. right_constant o (get_or o.constants i 0)) e.constant_count 0)

  abbrev elements : Option Refusal
  elements = at_entry 42 2 (first_from (λ i. right_element o (get_or o.elements i no_element)) e.element_count 0)

  abbrev dos : Option Refusal
  dos = at_entry 42 4 (first_from (λ i. right_loop o (get_or o.dos i no_loop)) e.do_count 0)

  abbrev lines : Option Refusal
  lines = at_entry 42 6 (first_from (λ i. right_line o (get_or o.lines i no_line)) e.line_count 0)

  abbrev names : Option Refusal
  names = at_entry 42 7 (first_from (λ i. right_named o (get_or o.names i no_name)) e.name_count 0)

  abbrev formats : Option Refusal
  formats = at_entry 42 8 (first_from (right_format o) e.format_count 0)

  abbrev items : Option Refusal
  items = at_entry 42 9 (first_from (λ i. right_item o (get_or o.items i no_item)) e.item_count 0)

  abbrev transfers : Option Refusal
  transfers = at_entry 42 10 (first_from (λ i. right_transfer o (get_or o.transfers i no_transfer)) e.transfer_count 0)

  pub kinds : or_else (or_else (or_else (or_else (or_else (or_else (or_else constants elements) dos) lines) names) formats) items) transfers ≡ refused42 o
  unfolding refused42
  kinds =
      eight constants elements dos lines names formats items transfers
      ∙ rw (
        first_of (right_constant o) o.constants 0 e.constant_count (constant_length e s),
        first_of (right_element o) o.elements no_element e.element_count (element_length e s),
        first_of (right_loop o) o.dos no_loop e.do_count (do_length e s),
        first_of (right_line o) o.lines no_line e.line_count (line_length e s),
        first_of (right_named o) o.names no_name e.name_count (name_length e s),
        format_length e s,
        first_of (right_item o) o.items no_item e.item_count (item_length_lem e s),
        first_of (right_transfer o) o.transfers no_transfer e.transfer_count (transfer_length e s),
      )
