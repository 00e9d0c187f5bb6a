-- One array taking its cells.
-- Assumes nothing.
use mathlib.Core.Path.{◌≡◌, refl, ap, ◌∙◌, subst}
use Prim.Native.Nat.{ℕ, zero, suc, min, ◌+◌, ◌*◌, ◌≤◌, ◌<◌}
use native.Mathlib.Omega.{arith}
use mathlib.Core.List.{List, [], ◌∷◌, ◌++◌}
use lib.ListN.{take}
use Rattle.rules_shared.proofs.EachLaws.{each_one}
use Rattle.rules_deck.specs.Deck.{Declared, width}
use Rattle.rules_deck.specs.Translation.{Held, array, array_size}
use Rattle.read_tokens.specs.Words.{most, name_of, name_words}
use Rattle.read_tokens.specs.declared.Name as code
use Rattle.read_items.specs.Parsed.{Put}
use Rattle.take_draft.specs.Names.{held_words, Lists, Told}
use Rattle.std.specs.Prelude.{max, None}
use Rattle.take_name_table.specs.declared.counted.Extent.{Extent}
use Rattle.take_name_table.proofs.Looks.{size_rows, size_columns}
use Rattle.take_name_table.proofs.Growth.{cells_append, count_append, lists_more, over_names, over_cells}
use Rattle.take_arrays.specs.One.{TakesArray}

pub width_max : (c : ℕ) → max c 1 ≡ width c
width_max zero = refl
width_max (suc c) = omega arith

-- rows and columns that are low enough to be multiplied
-- below the largest, a word of an array is its number
exact : (x y : ℕ) → x ≡ min y most → x ≤ 4096 → x ≡ y
exact x y e h = omega (arith, e, h)

above : (x y : ℕ) → x ≡ min y most → 4096 < x → 4096 < y
above x y e h = omega (arith, e, h)

module _ (t : List ℕ) (n : Extent) (word : code.Name) (rows columns : ℕ) where
  -- a size that is over the limit
  over : ((a : Declared) → rows ≡ min a.dims.rows most → columns ≡ min a.dims.columns most → 1 ≤ a.dims.rows → 4096 < n.cells + array_size a.dims)
      → TakesArray t t n word rows columns None
  over big held a l ta e er ec some =
      over_cells (held ++ (array a ∷ []))
      (let x = cells_append held (array a ∷ []) in let y = l.cells_are in let z = big a er ec some in omega (arith, x, y, z))

  pub over_rows : 4096 < rows → TakesArray t t n word rows columns None
  over_rows h = over (λ a er ec some. let x = size_rows a.dims in let y = above rows a.dims.rows er h in omega (arith, x, y))

  pub over_columns : 4096 < columns → TakesArray t t n word rows columns None
  over_columns h = over (λ a er ec some. let x = size_columns a.dims some in let y = above columns a.dims.columns ec h in omega (arith, x, y))

  size_is : (w : ℕ) → rows ≤ 4096 → columns ≤ 4096 → w ≡ width columns → (a : Declared) → rows ≡ min a.dims.rows most
      → columns ≡ min a.dims.columns most → rows * w ≡ array_size a.dims
  size_is w hr hc ew a er ec =
      ap (λ (x : ℕ). x * w) (exact rows a.dims.rows er hr) ∙ ap (λ (x : ℕ). a.dims.rows * x) (ew ∙ ap width (exact columns a.dims.columns ec hc))

  pub over_size : (w : ℕ) → rows ≤ 4096 → columns ≤ 4096 → w ≡ width columns → 4096 < n.cells + rows * w → TakesArray t t n word rows columns None
  over_size w hr hc ew h = over (λ a er ec some. let x = size_is w hr hc ew a er ec in subst (λ (y : ℕ). 4096 < n.cells + y) x h)

  pub over_count : n.names ≡ 100 → TakesArray t t n word rows columns None
  over_count h held a l ta e er ec some =
      over_names (held ++ (array a ∷ [])) (let x = count_append held (array a ∷ []) in let y = l.names_are in omega (arith, x, y, h))

  pub array_takes : (t' : List ℕ) (w : ℕ) → rows ≤ 4096 → columns ≤ 4096 → w ≡ width columns → n.cells + rows * w ≤ 4096 → n.names < 100
      → Put t t' (7 * n.names) (name_words word ++ (n.cells ∷ rows ∷ columns ∷ [])) (7 * n.names + 7) → (held : List Held) (a : Declared)
      → Lists held t n.names n.cells → Told a.name → word ≡ name_of a.name → rows ≡ min a.dims.rows most → columns ≡ min a.dims.columns most → 1 ≤ a.dims.rows
      → Lists (held ++ (array a ∷ [])) t' (n.names + 1) (n.cells + rows * w)
  array_takes t' w hr hc ew fc fn put held a l ta e er ec some =
      let size = size_is w hr hc ew a er ec in
      let four : 7 * (n.names + 1) ≡ 7 * n.names + 7 = omega arith in
      let words : take (7 * (n.names + 1)) t' ≡ take (7 * n.names) t ++ held_words n.cells (array a ∷ []) =
      ap (λ (k : ℕ). take k t') four ∙ put.table ∙ ap (λ (x : code.Name). take (7 * n.names) t ++ (name_words x ++ (n.cells ∷ rows ∷ columns ∷ []))) e
      ∙ ap (λ (x : ℕ). take (7 * n.names) t ++ (name_words (name_of a.name) ++ (n.cells ∷ x ∷ columns ∷ []))) (exact rows a.dims.rows er hr)
      ∙ ap (λ (x : ℕ). take (7 * n.names) t ++ (name_words (name_of a.name) ++ (n.cells ∷ a.dims.rows ∷ x ∷ []))) (exact columns a.dims.columns ec hc) in
      lists_more (array a ∷ []) l words (omega arith) (omega (arith, size)) (omega arith) fc (each_one ta) (each_one some)
