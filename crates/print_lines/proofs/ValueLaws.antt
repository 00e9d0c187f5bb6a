-- A value's line and a name's lines, in the parts in which they are written.
-- Assumes nothing.
use Prim.Native.Nat.{ℕ, suc, ◌+◌, ◌-◌, ◌≤◌, ◌<◌, ◌^◌}
use mathlib.Core.Path.{◌≡◌, sym, ap, ◌∙◌}
use mathlib.Core.List.{List, [], ◌++◌}
use native.Mathlib.Omega.{arith}
use native.Mathlib.Numerals.{add-one}
use lib.ListN.{length}
use lib.IntN.{ℤ, pos, negsuc, nat_abs}
use lib.Signed.{mag}
use Rattle.rules_object.specs.Object.{Named}
use Rattle.rules_object.specs.Check.{span}
use Rattle.rules_object.specs.Machine.{cell}
use Rattle.rules_program.specs.Text.{value_line, value_lines, name_lines}
use Rattle.rules_program.specs.Tidy.{values}
use Rattle.rules_program.proofs.Lengths.{line_length}
use Rattle.object_contents.specs.Layout.{list_from}
use Rattle.print_lines.specs.declared.Entry.{Entry}
use Rattle.print_lines.specs.Entries.{named_in}

-- ---- a name's lines, and the names'

one_left : (m i : ℕ) → i < m → m - i ≡ suc (m - (i + 1))
one_left m i h = omega arith

pub lines_more : (n : Named) (store : List ℤ) (m i : ℕ) → i < m → value_lines n store (m - i) i ≡ value_line n store i ++ value_lines n store (m - (i + 1)) (i + 1)
lines_more n store m i h =
    ap (λ (k : ℕ). value_lines n store k i) (one_left m i h)
    ∙ ap (λ (k : ℕ). value_line n store i ++ value_lines n store (m - (i + 1)) k) (sym (add-one i))

pub lines_end : (n : Named) (store : List ℤ) (m i : ℕ) → m ≤ i → value_lines n store (m - i) i ≡ []
lines_end n store m i h = let e : m - i ≡ 0 = omega arith in ap (λ (k : ℕ). value_lines n store k i) e

pub names_more : (f : ℕ → Named) (store : List ℤ) (m i : ℕ) → i < m
    → name_lines (list_from (m - i) i f) store
    ≡ value_lines (f i) store (span (f i).rows (f i).columns) 0 ++ name_lines (list_from (m - (i + 1)) (i + 1) f) store
names_more f store m i h =
    ap (λ (k : ℕ). name_lines (list_from k i f) store) (one_left m i h)
    ∙ ap (λ (k : ℕ). value_lines (f i) store (span (f i).rows (f i).columns) 0 ++ name_lines (list_from (m - (i + 1)) k f) store) (sym (add-one i))

pub names_end : (f : ℕ → Named) (store : List ℤ) (m i : ℕ) → m ≤ i → name_lines (list_from (m - i) i f) store ≡ []
names_end f store m i h = let e : m - i ≡ 0 = omega arith in ap (λ (k : ℕ). name_lines (list_from k i f) store) e

pub values_more : (f : ℕ → Named) (m i : ℕ) → i < m
    → values (list_from (m - i) i f) ≡ span (f i).rows (f i).columns + values (list_from (m - (i + 1)) (i + 1) f)
values_more f m i h =
    ap (λ (k : ℕ). values (list_from k i f)) (one_left m i h)
    ∙ ap (λ (k : ℕ). span (f i).rows (f i).columns + values (list_from (m - (i + 1)) k f)) (sym (add-one i))

-- ---- how long a value's line is

abs_fits : (z : ℤ) → mag z < 2 ^ 63 → nat_abs z ≤ 2 ^ 63
abs_fits (pos n) h = omega arith
abs_fits (negsuc n) h = omega arith

pub line_low : (e : Entry) (store : List ℤ) (i : ℕ) → length e.text.now ≤ 8 → i < 4096 → mag (cell store (e.first + i)) < 2 ^ 63 → length (value_line (named_in e) store i) ≤ 41
unfolding named_in
line_low e store i t h f = line_length (named_in e) store i t (abs_fits (cell store (e.first + i)) f) h
