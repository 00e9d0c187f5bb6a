-- What is printed of a run, by its number of refusal; and what the names need.
-- Assumes nothing.
use Prim.Native.Nat.{ℕ, zero, suc, ◌+◌, ◌*◌, ◌≤◌, ◌<◌}
use mathlib.Core.Path.{◌≡◌, refl, sym, ap, ◌∙◌}
use mathlib.Core.List.{List, [], ◌∷◌, ◌++◌}
use mathlib.Core.Option.{Option, none, some}
use native.Mathlib.Omega.{arith}
use native.Mathlib.Nat.{add-zero, zero-add}
use lib.ListN.{length, get_elem?, length-replicate}
use lib.IntN.{ℤ, pos}
use Rattle.rules_formats.specs.Walk.{no_trays}
use Rattle.rules_object.specs.Object.{Named, Object}
use Rattle.rules_object.specs.Bytes.{read_object}
use Rattle.rules_object.specs.Calls.{Lent, running}
use Rattle.rules_object.specs.Safe.{fresh_lent}
use Rattle.rules_program.specs.Text.{halt_line, refused_line, name_lines}
use Rattle.rules_program.specs.Program.{zero_store, names_of, ran_lines, run_lines, allowance, printed_object}
use Rattle.rules_program.specs.Tidy.{values, TidyObject}
use Rattle.object_contents.specs.declared.Layout.{Layout}
use Rattle.object_contents.specs.Layout.{list_from, named_at, object_at}
use Rattle.object_contents.specs.Opened.{OpenedAt}
use Rattle.print_lines.specs.Entries.{AllInside}
use Rattle.run_object.specs.declared.Ran.{Ran}
use Rattle.run_lent.specs.Lending.{lent}
use Rattle.run_object.specs.Outcomes.{ran_of, Ends}
use Rattle.print_run.specs.Printing.{ran_text, Zero}

-- ---- a run

module _ (object : List ℕ) (r : Ran) (store : List ℤ) where
  abbrev names : List Named
  names = names_of (read_object object)

  pub ran_refused : (r.number ≡ 0 → ⊥) → ran_text object r store ≡ refused_line r.number r.place
  unfolding ran_text
  ran_refused n = go r.number n
    where
      go : (m : ℕ) → (m ≡ 0 → ⊥) → ran_lines names (ran_of r fresh_lent store []) m ≡ refused_line m r.place
      go zero n = absurd (n refl)
      go (suc m) n = refl

  pub ran_halted : r.number ≡ 0 → ran_text object r store ≡ halt_line r.halt r.steps r.sequence ++ name_lines names store
  unfolding ran_text
  ran_halted e = ap (ran_lines names (ran_of r fresh_lent store [])) e

  -- the state is not printed
  any_lent : (l : Lent) → run_lines names (ran_of r l store []) ≡ ran_text object r store
  unfolding ran_text
  any_lent l = go r.number
    where
      go : (m : ℕ) → ran_lines names (ran_of r l store []) m ≡ ran_lines names (ran_of r fresh_lent store []) m
      go zero = refl
      go (suc m) = refl

  -- from zeros, with no cards and no room for lines; none are left then
  pub run_prints : (before places : List ℤ) (l : Lent) (lines : List ℕ) → length lines ≡ 0 → Zero before places → Ends (running object before (lent 0 0 0 places) no_trays allowance) r l store lines
      → ran_text object r store ≡ printed_object object
  unfolding printed_object
  run_prints before places l (b ∷ lines) n z e = absurd (omega arith)
  run_prints before places l [] n z e =
      let a : lent 0 0 0 places ≡ fresh_lent = ap (lent 0 0 0) z.stack in
      let b : running object zero_store fresh_lent no_trays allowance ≡ ran_of r l store [] =
      sym (ap (λ (x : List ℤ). running object x (lent 0 0 0 places) no_trays allowance) z.cells ∙ ap (λ (x : Lent). running object zero_store x no_trays allowance) a) ∙ e.is
      in
      sym (ap (run_lines names) b ∙ any_lent l)

pub zero_long : (store places : List ℤ) → Zero store places → length store ≡ 4096
zero_long store places z = ap (length {A = ℤ}) z.cells ∙ length-replicate {A = ℤ} 4096 (pos 0)

-- ---- the names

from_at : {A : Type 0} (f : ℕ → A) (m j i : ℕ) → i < m → get_elem? (list_from m j f) i ≡ some (f (j + i))
from_at f zero j i h = absurd (omega arith)
from_at f (suc m) j zero h = ap (λ (k : ℕ). some (f k)) (sym (add-zero j))
from_at f (suc m) j (suc i) h =
    let e : suc j + i ≡ j + suc i = omega arith in
    from_at f m (suc j) i (omega arith) ∙ ap (λ (k : ℕ). some (f k)) e

name_of : (e : Layout) (s : List ℕ) (i : ℕ) → i < e.name_count → get_elem? (object_at e s).names i ≡ some (named_at s (e.names + 20 * i))
unfolding object_at
name_of e s i h =
    from_at (λ (j : ℕ). named_at s (e.names + 20 * j)) e.name_count 0 i h
    ∙ ap (λ (j : ℕ). some (named_at s (e.names + 20 * j))) (zero-add i)

pub names_inside : (s : List ℕ) (store : List ℤ) (e : Layout) → OpenedAt s e → TidyObject s → length store ≡ 4096 → AllInside e s store
names_inside s store e o t l =
    let tidy = t.names (object_at e s) o.is in
    record {
      placed = o.placed;
      cells = λ i h. omega (arith, l, tidy.inside i (named_at s (e.names + 20 * i)) (name_of e s i h));
      most = omega (arith, l);
    }

pub names_few : (s : List ℕ) (e : Layout) → OpenedAt s e → TidyObject s → values (object_at e s).names ≤ 4096
names_few s e o t = (t.names (object_at e s) o.is).few

pub read_names : (s : List ℕ) (e : Layout) (store : List ℤ) → OpenedAt s e → name_lines (object_at e s).names store ≡ name_lines (names_of (read_object s)) store
read_names s e store o = ap (λ (x : Option Object). name_lines (names_of x) store) (sym o.is)

pub no_names : (s : List ℕ) (store : List ℤ) → read_object s ≡ none → [] ≡ name_lines (names_of (read_object s)) store
no_names s store e = ap (λ (x : Option Object). name_lines (names_of x) store) (sym e)
