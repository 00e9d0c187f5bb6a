-- A name's values one after the other, and the names.
-- Assumes nothing.
use Prim.Native.Nat.{ℕ, ◌+◌, ◌-◌, ◌*◌, ◌≤◌, ◌<◌}
use mathlib.Core.Path.{◌≡◌, refl, sym, ap, ◌∙◌}
use mathlib.Core.List.{List, ◌++◌}
use native.Mathlib.Omega.{arith}
use lib.ListN.{length, drop, length-take}
use lib.IntN.{ℤ}
use Rattle.rules_object.specs.Object.{Named}
use Rattle.rules_object.specs.Check.{span}
use Rattle.rules_program.specs.Text.{value_line, value_lines, name_lines}
use Rattle.rules_program.specs.Tidy.{values}
use Rattle.object_contents.specs.declared.Layout.{Layout}
use Rattle.object_contents.specs.Layout.{list_from, named_at, object_at}
use Rattle.print_lines.specs.declared.Entry.{Entry}
use Rattle.print_numbers.specs.Puts.{Puts}
use Rattle.print_lines.specs.Entries.{named_in, Reads, Inside, AllInside}
use Rattle.print_lines.proofs.Going.{Going, going_start, going_on, going_as, going_end}
use Rattle.print_lines.proofs.ValueLaws.{lines_more, lines_end, names_more, names_end, values_more}

-- ---- one name: i of its m values so far

abbrev pub all_lines : Entry → List ℤ → List ℕ
all_lines e store = value_lines (named_in e) store (span e.rows e.columns) 0

pub record Valuing (e : Entry) (store : List ℤ) (m at : ℕ) (before out : List ℕ) (n i : ℕ) : Type 0 where
  pub most : i ≤ m
  pub low : n ≤ at + 41 * i
  pub going : Going (all_lines e store) at before out n (value_lines (named_in e) store (m - i) i)

module _ (e : Entry) (store : List ℤ) (m : ℕ) (k : m ≡ span e.rows e.columns) (at : ℕ) (before : List ℕ) where
  pub values_start : Valuing e store m at before before at 0
  values_start =
      let z : span e.rows e.columns ≡ m - 0 = omega arith in
      record {
        most = omega arith;
        low = omega arith;
        going = going_as (ap (λ (j : ℕ). value_lines (named_in e) store j 0) z) (going_start (all_lines e store) at before);
      }

  module _ (out : List ℕ) (n i : ℕ) (p : Valuing e store m at before out n i) where
    pub values_end : m ≤ i → Puts (all_lines e store) at before out n × (n ≤ at + 41 * span e.rows e.columns)
    values_end h = (going_end (lines_end (named_in e) store m i h) p.going, omega (arith, p.low, p.most, k))

    abbrev line : List ℕ
    line = value_line (named_in e) store i

    abbrev rest : List ℕ
    rest = value_lines (named_in e) store (m - (i + 1)) (i + 1)

    next : i < m → Going (all_lines e store) at before out n (line ++ rest)
    next h = going_as (lines_more (named_in e) store m i h) p.going

    pub values_room : Inside e store → at + 41 * span e.rows e.columns ≤ length before → i < m → Reads e i store × (n + 41 ≤ length out)
    values_room q r h =
        (record { text = q.text; cell = omega (arith, q.cells); most = q.most }, omega (arith, r, k, p.low, p.going.long))

    pub values_on : i < m → {out' : List ℕ} {n' : ℕ} → Puts line n out out' n' × (n' ≤ n + 41) → Valuing e store m at before out' n' (i + 1)
    values_on h q = record { most = omega arith; low = omega (arith, p.low, q.1); going = going_on line rest (next h) q.0 }

-- ---- the names: i of them so far

abbrev pub name_at : Layout → List ℕ → ℕ → Named
name_at e s i = named_at s (e.names + 20 * i)

pub names_are : (e : Layout) (s : List ℕ) → (object_at e s).names ≡ list_from e.name_count 0 (name_at e s)
unfolding object_at
names_are e s = refl

pub record Listing (e : Layout) (s : List ℕ) (store : List ℤ) (at : ℕ) (before out : List ℕ) (n i : ℕ) : Type 0 where
  pub most : i ≤ e.name_count
  pub low : n + 41 * values (list_from (e.name_count - i) i (name_at e s)) ≤ at + 41 * values (object_at e s).names
  pub going : Going (name_lines (object_at e s).names store) at before out n (name_lines (list_from (e.name_count - i) i (name_at e s)) store)

module _ (e : Layout) (s : List ℕ) (store : List ℤ) (at : ℕ) (before : List ℕ) where
  abbrev whole : List ℕ
  whole = name_lines (object_at e s).names store

  pub names_start : Listing e s store at before before at 0
  names_start =
      let z : e.name_count ≡ e.name_count - 0 = omega arith in
      let v : values (list_from (e.name_count - 0) 0 (name_at e s)) ≡ values (object_at e s).names =
      sym (ap values (names_are e s) ∙ ap (λ (j : ℕ). values (list_from j 0 (name_at e s))) z)
      in
      record {
        most = omega arith;
        low = omega (arith, v);
        going =
            going_as
            (ap (λ (l : List Named). name_lines l store) (names_are e s) ∙ ap (λ (j : ℕ). name_lines (list_from j 0 (name_at e s)) store) z)
            (going_start whole at before);
      }

  module _ (out : List ℕ) (n i : ℕ) (p : Listing e s store at before out n i) where
    pub listed : e.name_count ≤ i → Puts whole at before out n × (n ≤ at + 41 * values (object_at e s).names)
    listed h = (going_end (names_end (name_at e s) store e.name_count i h) p.going, omega (arith, p.low))

    module _ (h : i < e.name_count) (x : Entry) (is : named_in x ≡ name_at e s i) where
      abbrev others : List ℕ
      others = name_lines (list_from (e.name_count - (i + 1)) (i + 1) (name_at e s)) store

      abbrev of_named : Named → List ℕ
      of_named v = value_lines v store (span v.rows v.columns) 0

      same_lines : all_lines x store ≡ of_named (name_at e s i)
      unfolding named_in
      same_lines = ap of_named is

      then : Going whole at before out n (all_lines x store ++ others)
      then = going_as (names_more (name_at e s) store e.name_count i h ∙ ap (λ (l : List ℕ). l ++ others) (sym same_lines)) p.going

      same_span : x.first + span x.rows x.columns ≡ (name_at e s i).first + span (name_at e s i).rows (name_at e s i).columns
      unfolding named_in
      same_span = ap (λ (v : Named). v.first + span v.rows v.columns) is

      same_size : span x.rows x.columns ≡ span (name_at e s i).rows (name_at e s i).columns
      unfolding named_in
      same_size = ap (λ (v : Named). span v.rows v.columns) is

      short : length x.text.now ≤ 8
      unfolding named_in named_at
      short = omega (arith, ap (λ (v : Named). length v.name) is, length-take 8 (drop (e.names + 20 * i) s))

      left : values (list_from (e.name_count - i) i (name_at e s))
          ≡ span x.rows x.columns + values (list_from (e.name_count - (i + 1)) (i + 1) (name_at e s))
      left = values_more (name_at e s) e.name_count i h ∙ ap (λ (w : ℕ). w + values (list_from (e.name_count - (i + 1)) (i + 1) (name_at e s))) (sym same_size)

      pub names_room : AllInside e s store → at + 41 * values (object_at e s).names ≤ length before → Inside x store × (n + 41 * span x.rows x.columns ≤ length out)
      names_room q r = (
        record { text = short; cells = omega (arith, same_span, q.cells i h); most = q.most },
        omega (arith, r, p.low, left, p.going.long),
      )

      pub names_on : {out' : List ℕ} {n' : ℕ} → Puts (all_lines x store) n out out' n' × (n' ≤ n + 41 * span x.rows x.columns) → Listing e s store at before out' n' (i + 1)
      names_on q = record { most = omega arith; low = omega (arith, p.low, left, q.1); going = going_on (all_lines x store) others then q.0 }
