-- 41 by the numbers and tables of an object: what passes it, what it tells, and its tests one after the other.
-- Assumes nothing.
use mathlib.Core.Path.{◌≡◌, refl, sym, ap, ◌∙◌}
use Prim.Native.Nat.{ℕ, ◌≤◌}
use mathlib.Core.Bool.{Bool, true, false, ◌&&◌}
use mathlib.Core.List.{map}
use lib.Dec.{leb}
use lib.ListN.{length, length-map}
use borrow.Author.Tests.{leb-true, le-leb}
use Rattle.rules_shared.specs.Limits.{limits}
use Rattle.rules_object.specs.Object.{Object}
use Rattle.rules_object.specs.Kinds.{kinds_of}
use Rattle.rules_object.specs.Bytes.{one_word, element_words, loop_words, line_words, name_words, item_words, transfer_words, bodies}
use Rattle.rules_object.specs.Check.{counts_within, right41}
use Rattle.rules_object.specs.Writable.{Edition, one, two}
use Rattle.rules_object.proofs.Passed.{both}

-- a list that the edition has no body for is empty
pub record Limited (o : Object) : Type 0 where
  pub some_digits : 1 ≤ o.digits
  pub digits : o.digits ≤ limits.digits
  pub cells : o.cells ≤ limits.cells
  pub constants : length o.constants ≤ limits.constants
  pub elements : length o.elements ≤ limits.elements
  pub exits : length o.exits ≤ limits.exits
  pub dos : length o.dos ≤ limits.dos
  pub code : length o.code ≤ limits.code
  pub lines : length o.lines ≤ limits.statements
  pub names : length o.names ≤ limits.names
  pub formats : length o.formats ≤ limits.format_words
  pub items : length o.items ≤ limits.list_items
  pub transfers : length o.transfers ≤ limits.transfers

-- the tables' tests by the lengths of the object's lists
abbrev pub tables_within : Object → Bool
tables_within o =
    leb (length o.constants) limits.constants && (leb (length o.elements) limits.elements && (leb (length o.exits) limits.exits
    && (leb (length o.dos) limits.dos && (leb (length o.code) limits.code && (leb (length o.lines) limits.statements
    && (leb (length o.names) limits.names && (leb (length o.formats) limits.format_words && (leb (length o.items) limits.list_items
    && leb (length o.transfers) limits.transfers))))))))

and_all : (b : Bool) → (b && true) ≡ b
and_all true = refl
and_all false = refl

pub tables_tested : (o : Object) → Edition o → counts_within (kinds_of o.edition) (map length (bodies o)) ≡ tables_within o
tables_tested o (one e n) =
    ap (λ (e : ℕ). counts_within (kinds_of e) (map length (bodies o))) e
    ∙ rw (
      length-map o.constants one_word,
      length-map o.elements element_words,
      length-map o.exits one_word,
      length-map o.dos loop_words,
      length-map o.code one_word,
      length-map o.lines line_words,
      length-map o.names name_words,
      n.formats,
      n.items,
      n.transfers,
    )
tables_tested o (two e) =
    ap (λ (e : ℕ). counts_within (kinds_of e) (map length (bodies o))) e
    ∙ rw (
      length-map o.constants one_word,
      length-map o.elements element_words,
      length-map o.exits one_word,
      length-map o.dos loop_words,
      length-map o.code one_word,
      length-map o.lines line_words,
      length-map o.names name_words,
      length-map o.formats one_word,
      length-map o.items item_words,
      length-map o.transfers transfer_words,
      and_all (leb (length o.transfers) limits.transfers),
    )

module _ (o : Object) (edition : Edition o) where
  pub limits_tested : right41 o ≡ (leb 1 o.digits && (leb o.digits limits.digits && (leb o.cells limits.cells && tables_within o)))
  unfolding right41
  limits_tested = ap (λ (b : Bool). leb 1 o.digits && (leb o.digits limits.digits && (leb o.cells limits.cells && b))) (tables_tested o edition)

  pub limited : right41 o ≡ true → Limited o
  limited h =
      let t₁ = both (leb 1 o.digits) _ (sym limits_tested ∙ h) in
      let t₂ = both (leb o.digits limits.digits) _ t₁.1 in
      let t₃ = both (leb o.cells limits.cells) _ t₂.1 in
      let t₄ = both (leb (length o.constants) limits.constants) _ t₃.1 in
      let t₅ = both (leb (length o.elements) limits.elements) _ t₄.1 in
      let t₆ = both (leb (length o.exits) limits.exits) _ t₅.1 in
      let t₇ = both (leb (length o.dos) limits.dos) _ t₆.1 in
      let t₈ = both (leb (length o.code) limits.code) _ t₇.1 in
      let t₉ = both (leb (length o.lines) limits.statements) _ t₈.1 in
      let t₁₀ = both (leb (length o.names) limits.names) _ t₉.1 in
      let t₁₁ = both (leb (length o.formats) limits.format_words) _ t₁₀.1 in
      let t₁₂ = both (leb (length o.items) limits.list_items) _ t₁₁.1 in
      record {
        some_digits = leb-true _ _ t₁.0;
        digits = leb-true _ _ t₂.0;
        cells = leb-true _ _ t₃.0;
        constants = leb-true _ _ t₄.0;
        elements = leb-true _ _ t₅.0;
        exits = leb-true _ _ t₆.0;
        dos = leb-true _ _ t₇.0;
        code = leb-true _ _ t₈.0;
        lines = leb-true _ _ t₉.0;
        names = leb-true _ _ t₁₀.0;
        formats = leb-true _ _ t₁₁.0;
        items = leb-true _ _ t₁₂.0;
        transfers = leb-true _ _ t₁₂.1;
      }

  pub passes : Limited o → right41 o ≡ true
  passes l =
      limits_tested
      ∙ rw (
        le-leb 1 o.digits l.some_digits,
        le-leb o.digits limits.digits l.digits,
        le-leb o.cells limits.cells l.cells,
        le-leb (length o.constants) limits.constants l.constants,
        le-leb (length o.elements) limits.elements l.elements,
        le-leb (length o.exits) limits.exits l.exits,
        le-leb (length o.dos) limits.dos l.dos,
        le-leb (length o.code) limits.code l.code,
        le-leb (length o.lines) limits.statements l.lines,
        le-leb (length o.names) limits.names l.names,
        le-leb (length o.formats) limits.format_words l.formats,
        le-leb (length o.items) limits.list_items l.items,
        le-leb (length o.transfers) limits.transfers l.transfers,
      )

-- the tables alone
pub tables_within_lem : (o : Object) → right41 o ≡ true → counts_within (kinds_of o.edition) (map length (bodies o)) ≡ true
unfolding right41
tables_within_lem o h =
    (both (leb o.cells limits.cells) _ (both (leb o.digits limits.digits) _ (both (leb 1 o.digits) _ h).1).1).1
