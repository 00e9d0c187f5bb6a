-- Lookups in a table that lists what is held.
-- Assumes nothing.
use mathlib.Core.Path.{◌≡◌, refl, sym, ap, ◌∙◌, subst}
use Prim.Native.Nat.{ℕ, zero, suc, ◌+◌, ◌*◌, ◌≤◌, ◌<◌, min}
use native.Mathlib.Omega.{arith}
use native.Mathlib.Nat.{zero-add, le-mul_of_pos_right, mul-le-mul_right}
use mathlib.Core.Bool.{Bool, true, false, ◌||◌, cond, false≢true}
use mathlib.Core.List.{List, [], ◌∷◌, ◌++◌}
use lib.Dec.{ltb}
use lib.ListN.{get_or, drop, take-append-drop}
use borrow.Author.Tests.{le-ltb, lt-ltb}
use Rattle.rules_shared.specs.Lists.{Each, each_more}
use Rattle.rules_text.specs.Trees.{Name}
use Rattle.rules_deck.specs.Deck.{same_name, Dims, width}
use Rattle.rules_deck.specs.Translation.{Held, name, array, hidden, array_size, cell_count, is_the_name, is_array, first_cell, holds, cell_of, base_of}
use Rattle.rules_deck.specs.Judge.{name_count, Reference, right_count, right_reference}
use Rattle.rules_deck.specs.Cells.{arrays_held}
use Rattle.read_tokens.specs.Words.{name_of, no_name}
use Rattle.read_tokens.specs.declared.Name as code
use Rattle.take_draft.specs.Names.{held_words, dims_held, Told, SomeRows, Lists}
use Rattle.take_name_table.specs.declared.Entry.{Entry}
use Rattle.take_name_table.specs.Find.{first_entry, Finds}
use Rattle.std.specs.Prelude.{Option, Some, None}
use Rattle.std.specs.Option.{is_some}
use Rattle.take_name_table.specs.Lookups.{is_kind, Holds, CellOf, ArrayOf}
use Rattle.take_name_table.proofs.Spots.{PlainAt, ArrayAt, spot_plain, spot_array, spot_nothing}

-- ---- the entry of a name

table_is : {held : List Held} {t : List ℕ} {n cells : ℕ} → Lists held t n cells → held_words 0 held ++ drop (7 * n) t ≡ t
table_is {held} {t} {n} l = ap (λ (x : List ℕ). x ++ drop (7 * n) t) (sym l.words) ∙ take-append-drop (7 * n) t

module _ {held : List Held} {t : List ℕ} {n cells : ℕ} (l : Lists held t n cells) where
  pub plain_spot : (v : Name) → Told v → PlainAt t n held 0 v
  plain_spot v tv =
      subst (λ (m : ℕ). PlainAt t m held 0 v) (sym l.names_are)
      (subst (λ (x : List ℕ). PlainAt x (name_count held) held 0 v) (table_is l) (spot_plain v tv (drop (7 * n) t) held 0 l.told l.rows))

  pub array_spot : (v : Name) → Told v → ArrayAt t n held 0 v
  array_spot v tv =
      subst (λ (m : ℕ). ArrayAt t m held 0 v) (sym l.names_are)
      (subst (λ (x : List ℕ). ArrayAt x (name_count held) held 0 v) (table_is l) (spot_array v tv (drop (7 * n) t) held 0 l.told l.rows))

  pub no_spot : (k : Bool) → first_entry k no_name n t ≡ n
  no_spot k =
      subst (λ (m : ℕ). first_entry k no_name m t ≡ m) (sym l.names_are)
      (subst (λ (x : List ℕ). first_entry k no_name (name_count held) x ≡ name_count held) (table_is l) (spot_nothing k (drop (7 * n) t) held 0 l.told))

-- ---- whether it is held

pub holds_is : (k : Bool) (t : List ℕ) (n : ℕ) (word : code.Name) (i : ℕ) → i ≡ first_entry k word n t → Holds t n word k (ltb i n)
holds_is k t n word i e =
    record {
      is = λ held cells v l tv p. ap (λ (j : ℕ). ltb j n) (e ∙ ap (λ (w : code.Name). first_entry k w n t) p) ∙ kind k held cells v l tv;
      none = λ held cells l p.
          let h = no_spot l k in
          let g : first_entry k word n t ≡ first_entry k no_name n t = ap (λ (w : code.Name). first_entry k w n t) p in
          le-ltb i n (omega (arith, e, h, g));
    }
  where
    kind : (k : Bool) (held : List Held) (cells : ℕ) (v : Name) → Lists held t n cells → Told v → ltb (first_entry k (name_of v) n t) n ≡ holds (is_kind k v) held
    kind true held cells v l tv = (array_spot l v tv).test
    kind false held cells v l tv = (plain_spot l v tv).test

pub holds_found : (k : Bool) (t : List ℕ) (n : ℕ) (word : code.Name) (r : Option ℕ) → Finds t n word k r → Holds t n word k (is_some r)
holds_found k t n word (Some i) f = subst (λ (b : Bool). Holds t n word k b) (lt-ltb i n f.0) (holds_is k t n word i f.1)
holds_found k t n word None e = subst (λ (b : Bool). Holds t n word k b) (le-ltb n n (omega arith)) (holds_is k t n word n e)

-- ---- cells

pub cell_low : (v : Name) (held : List Held) → holds (is_the_name v) held ≡ true → first_cell (is_the_name v) held < cell_count held
cell_low v [] e = absurd (false≢true e)
cell_low v (name w ∷ held) e = go (same_name w v) e (cell_low v held)
  where
    go : (t : Bool) → (t || holds (is_the_name v) held) ≡ true → (holds (is_the_name v) held ≡ true → first_cell (is_the_name v) held < cell_count held)
        → cond t 0 (1 + first_cell (is_the_name v) held) < 1 + cell_count held
    go true p f = omega arith
    go false p f = let h = f p in omega (arith, h)
cell_low v (array a ∷ held) e = let h = cell_low v held e in omega (arith, h)
cell_low v (hidden q ∷ held) e = let h = cell_low v held e in omega (arith, h)

-- not found, and so not held
gone : (n : ℕ) (b : Bool) → ltb n n ≡ b → b ≡ true → ⊥
gone n b e p = false≢true (sym (le-ltb n n (omega arith)) ∙ e ∙ p)

pub cell_none : (t : List ℕ) (n : ℕ) (word : code.Name) → n ≡ first_entry false word n t → CellOf t n word 0
cell_none t n word e =
    record {
      low = omega arith;
      is = λ held cells v l tv p h.
          let found = ap (λ (j : ℕ). ltb j n) (e ∙ ap (λ (w : code.Name). first_entry false w n t) p) ∙ (plain_spot l v tv).test in
          absurd (gone n (holds (is_the_name v) held) found h);
    }

pub cell_found : (t : List ℕ) (n : ℕ) (word : code.Name) (i r : ℕ) → i ≡ first_entry false word n t → r ≡ min (get_or t (7 * i + 4) 0) 4095 → CellOf t n word r
unfolding cell_of
cell_found t n word i r e g =
    record {
      low = omega (arith, g);
      is = λ held cells v l tv p h.
          let s = plain_spot l v tv in
          let j : i ≡ first_entry false (name_of v) n t = e ∙ ap (λ (w : code.Name). first_entry false w n t) p in
          let q : get_or t (7 * i + 4) 0 ≡ first_cell (is_the_name v) held = ap (λ (x : ℕ). get_or t (7 * x + 4) 0) j ∙ s.first_is h ∙ zero-add (first_cell (is_the_name v) held) in
          let low = cell_low v held h in
          let c = l.cells_are in
          let f = l.cells_fit in
          omega (arith, g, q, low, c, f);
    }

-- ---- arrays

pub record Low (n first rows columns : ℕ) : Type 0 where
  pub first_low : first ≤ n
  pub rows_low : rows ≤ n
  pub columns_low : columns ≤ n

low_more : {m n f r c f' : ℕ} → m ≤ n → f' ≤ n → Low m f r c → Low n f' r c
low_more h g x = record { first_low = g; rows_low = let y = x.rows_low in omega (arith, h, y); columns_low = let y = x.columns_low in omega (arith, h, y) }

width_some : (c : ℕ) → 0 < width c
width_some zero = omega arith
width_some (suc c) = omega arith

width_least : (c : ℕ) → c ≤ width c
width_least zero = omega arith
width_least (suc c) = omega arith

pub size_rows : (d : Dims) → d.rows ≤ array_size d
size_rows d = le-mul_of_pos_right d.rows (width_some d.columns)

pub size_columns : (d : Dims) → 1 ≤ d.rows → d.columns ≤ array_size d
size_columns d h =
    let a : 1 * width d.columns ≤ d.rows * width d.columns = mul-le-mul_right (width d.columns) h in
    let b = width_least d.columns in
    omega (arith, a, b)

pub array_low : (v : Name) (held : List Held) → Each SomeRows (arrays_held held) → holds (is_array v) held ≡ true
    → Low (cell_count held) (first_cell (is_array v) held) (dims_held held v).rows (dims_held held v).columns
array_low v [] some e = absurd (false≢true e)
array_low v (name w ∷ held) some e = let h = array_low v held some e in let f = h.first_low in low_more (omega arith) (omega (arith, f)) h
array_low v (array a ∷ held) (each_more r some) e = go (same_name a.name v) e (array_low v held some)
  where
    n : ℕ
    n = array_size a.dims

    go : (t : Bool) → (t || holds (is_array v) held) ≡ true
        → (holds (is_array v) held ≡ true → Low (cell_count held) (first_cell (is_array v) held) (dims_held held v).rows (dims_held held v).columns)
        → Low (n + cell_count held) (cond t 0 (n + first_cell (is_array v) held)) (cond t a.dims (dims_held held v)).rows (cond t a.dims (dims_held held v)).columns
    go true p f =
        record {
          first_low = omega arith;
          rows_low = let x = size_rows a.dims in omega (arith, x);
          columns_low = let x = size_columns a.dims r in omega (arith, x);
        }
    go false p f =
        let h = f p in
        let x = h.first_low in
        low_more (omega arith) (omega (arith, x)) h
array_low v (hidden q ∷ held) some e = let h = array_low v held some e in let f = h.first_low in low_more (omega arith) (omega (arith, f)) h

-- the array that a reference means
pub reference_none : (held : List Held) (e : Reference) → holds (is_array e.name) held ≡ false → right_reference held e ≡ false
reference_none [] e h = refl
reference_none (name w ∷ held) e h = reference_none held e h
reference_none (array a ∷ held) e h = go (same_name a.name e.name) h (reference_none held e)
  where
    go : (t : Bool) → (t || holds (is_array e.name) held) ≡ false → (holds (is_array e.name) held ≡ false → right_reference held e ≡ false)
        → cond t (right_count a.dims e.subscripts) (right_reference held e) ≡ false
    go true p f = absurd (false≢true (sym p))
    go false p f = f p
reference_none (hidden q ∷ held) e h = reference_none held e h

pub reference_count : (held : List Held) (e : Reference) → holds (is_array e.name) held ≡ true → right_reference held e ≡ right_count (dims_held held e.name) e.subscripts
reference_count [] e h = absurd (false≢true h)
reference_count (name w ∷ held) e h = reference_count held e h
reference_count (array a ∷ held) e h = go (same_name a.name e.name) h (reference_count held e)
  where
    go : (t : Bool) → (t || holds (is_array e.name) held) ≡ true
        → (holds (is_array e.name) held ≡ true → right_reference held e ≡ right_count (dims_held held e.name) e.subscripts)
        → cond t (right_count a.dims e.subscripts) (right_reference held e) ≡ right_count (cond t a.dims (dims_held held e.name)) e.subscripts
    go true p f = refl
    go false p f = f p
reference_count (hidden q ∷ held) e h = reference_count held e h

pub reference_held : (held : List Held) (e : Reference) → right_reference held e ≡ true → holds (is_array e.name) held ≡ true
reference_held held e h = go (holds (is_array e.name) held) refl
  where
    go : (b : Bool) → holds (is_array e.name) held ≡ b → b ≡ true
    go true p = refl
    go false p = absurd (false≢true (sym (reference_none held e p) ∙ h))

pub array_none : (t : List ℕ) (n : ℕ) (word : code.Name) {x : Entry} → (x.first ≡ 0) × ((x.rows ≡ 0) × (x.columns ≡ 0)) → n ≡ first_entry true word n t → ArrayOf t n word x
array_none t n word z e =
    record {
      first_low = omega (arith, z.0);
      rows_low = omega (arith, z.1.0);
      columns_low = omega (arith, z.1.1);
      is = λ held cells x l tv p h.
          let found = ap (λ (j : ℕ). ltb j n) (e ∙ ap (λ (w : code.Name). first_entry true w n t) p) ∙ (array_spot l x.name tv).test in
          absurd (gone n (holds (is_array x.name) held) found (reference_held held x h));
    }

abbrev pub Took : ℕ → ℕ → Type 0
Took r word = r ≡ min word 4096

pub array_found : (t : List ℕ) (n : ℕ) (word : code.Name) (i f r c : ℕ) → i ≡ first_entry true word n t
    → Took f (get_or t (7 * i + 4) 0) → Took r (get_or t (7 * i + 5) 0) → Took c (get_or t (7 * i + 6) 0)
    → ArrayOf t n word (record { first = f; rows = r; columns = c })
unfolding base_of
array_found t n word i f r c e tf tr tc =
    record {
      first_low = omega (arith, tf);
      rows_low = omega (arith, tr);
      columns_low = omega (arith, tc);
      is = λ held cells x l tv p h.
          let held-is = reference_held held x h in
          let s = array_spot l x.name tv in
          let j : i ≡ first_entry true (name_of x.name) n t = e ∙ ap (λ (w : code.Name). first_entry true w n t) p in
          let low = array_low x.name held l.rows held-is in
          let fits : cell_count held ≤ 4096 = let a = l.cells_are in let b = l.cells_fit in omega (arith, a, b) in
          let qf : get_or t (7 * i + 4) 0 ≡ first_cell (is_array x.name) held =
          ap (λ (y : ℕ). get_or t (7 * y + 4) 0) j ∙ s.first_is held-is ∙ zero-add (first_cell (is_array x.name) held) in
          let qr : get_or t (7 * i + 5) 0 ≡ (dims_held held x.name).rows = ap (λ (y : ℕ). get_or t (7 * y + 5) 0) j ∙ s.rows_are held-is in
          let qc : get_or t (7 * i + 6) 0 ≡ (dims_held held x.name).columns = ap (λ (y : ℕ). get_or t (7 * y + 6) 0) j ∙ s.columns_are held-is in
          record {
            first_is = let y = low.first_low in omega (arith, tf, y, qf, fits);
            rows_are = let y = low.rows_low in omega (arith, tr, y, qr, fits);
            columns_are = let y = low.columns_low in omega (arith, tc, y, qc, fits);
          };
    }
