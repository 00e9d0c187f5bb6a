-- An element's place: every pair of right subscripts has one below the array's size, no other pair has one, and no two have the same.
-- What a right subscript is, is looked into only by the first four laws here.
-- Assumes nothing.
use mathlib.Core.Path.{◌≡◌, refl, sym, ap, ap₂, ◌∙◌}
use mathlib.Core.Bool.{Bool, true, false}
use mathlib.Core.Option.{Option, none, some}
use Prim.Native.Nat.{ℕ, zero, suc, ◌+◌, ◌*◌, ◌≤◌, ◌<◌}
use native.Mathlib.Nat.{mul-le-mul_right, mul_comm, suc-mul}
use native.Mathlib.Decide.{dec_lt}
use native.Mathlib.Omega.{arith}
use lib.Dec.{ltb}
use lib.IntN.{ℤ, pos, negsuc, ◌+ℤ◌, zero-*ℤ}
use borrow.Author.Tests.{ltb-true, lt-ltb}
use Rattle.rules_shared.specs.Choose.{SubscriptParts, subscript_value, below, in_dimension, right, by_columns, place}

-- ---- one subscript

in_is : (dimension : ℕ) (z : ℤ) (p : ℕ) → in_dimension dimension z ≡ some p → (z ≡ pos (suc p)) × (p < dimension)
in_is d (pos zero) p e = absurd (let z : ◌≡◌ {A = ℕ} 0 1 = cc in omega arith)
in_is d (pos (suc n)) p e = by (ltb n d) refl e
  where
    by : (b : Bool) → ltb n d ≡ b → below b n ≡ some p → (pos (suc n) ≡ pos (suc p)) × (p < d)
    by true q e = let s : n ≡ p = cc in let l = ltb-true n d q in (ap (λ n. pos (suc n)) s, omega arith)
    by false q e = absurd (let z : ◌≡◌ {A = ℕ} 0 1 = cc in omega arith)
in_is d (negsuc n) p e = absurd (let z : ◌≡◌ {A = ℕ} 0 1 = cc in omega arith)

pub right_is : (dimension : ℕ) (s : SubscriptParts) (p : ℕ) → right dimension s ≡ some p → (subscript_value s ≡ pos (suc p)) × (p < dimension)
right_is d s p e = in_is d (subscript_value s) p e

right_some : (dimension : ℕ) (s : SubscriptParts) (p : ℕ) → subscript_value s ≡ pos (suc p) → p < dimension → right dimension s ≡ some p
right_some d s p e l = ap (in_dimension d) e ∙ ap (λ b. below b p) (lt-ltb p d l)

-- with the multiplier 0 it is nothing to a subscript which variable it has
pub right_constant_lem : (dimension : ℕ) (v w z : ℤ) → right dimension (record { times = 0; variable = v; plus = z }) ≡ right dimension (record { times = 0; variable = w; plus = z })
right_constant_lem d v w z = ap (λ x. in_dimension d (x +ℤ z)) (zero-*ℤ v ∙ sym (zero-*ℤ w))

-- ---- two of them

pub place_same : (rows columns : ℕ) (s t s' t' : SubscriptParts) → right rows s ≡ right rows s' → right columns t ≡ right columns t'
    → place rows columns s t ≡ place rows columns s' t'
unfolding place
place_same rows columns s t s' t' e f = ap₂ (λ i j. by_columns rows i j) e f

-- the pair that a place is of, each counted from 0
pub record Placed (rows columns : ℕ) (s t : SubscriptParts) (p : ℕ) : Type 0 where
  pub row : ℕ
  pub column : ℕ
  pub first : subscript_value s ≡ pos (suc row)
  pub second : subscript_value t ≡ pos (suc column)
  pub in_rows : row < rows
  pub in_columns : column < columns
  pub is : by_columns rows (some row) (some column) ≡ some p

pub placed : (rows columns : ℕ) (s t : SubscriptParts) (p : ℕ) → place rows columns s t ≡ some p → Placed rows columns s t p
unfolding place
placed rows columns s t p e = by (right rows s) (right columns t) refl refl e
  where
    by : (i j : Option ℕ) → right rows s ≡ i → right columns t ≡ j → by_columns rows i j ≡ some p → Placed rows columns s t p
    by none j q r e = absurd (let z : ◌≡◌ {A = ℕ} 0 1 = cc in omega arith)
    by (some i) none q r e = absurd (let z : ◌≡◌ {A = ℕ} 0 1 = cc in omega arith)
    by (some i) (some j) q r e =
        let x = right_is rows s i q in
        let y = right_is columns t j r in
        record { row = i; column = j; first = x.0; second = y.0; in_rows = x.1; in_columns = y.1; is = e }

-- the columns before one that is before another are shorter by a column at least
column_before : (rows i j k : ℕ) → i < rows → j < k → j * rows + i < k * rows
column_before rows i j k l m = let n : suc j * rows ≤ k * rows = mul-le-mul_right rows m in omega (arith, suc-mul j rows)

same_pair : (rows i j k l : ℕ) → i < rows → k < rows → by_columns rows (some i) (some j) ≡ by_columns rows (some k) (some l) → (i ≡ k) × (j ≡ l)
same_pair rows i j k l a b e = by (dec_lt j l) (dec_lt l j)
  where
    same : j * rows + i ≡ l * rows + k
    same = cc

    by : Dec (j < l) → Dec (l < j) → (i ≡ k) × (j ≡ l)
    by (yes m) n = absurd (omega (arith, same, column_before rows i j l a m))
    by (no m) (yes n) = absurd (omega (arith, same, column_before rows k l j b n))
    by (no m) (no n) =
        let s : j ≡ l = omega arith in
        let q : j * rows ≡ l * rows = ap (λ x. x * rows) s in
        (omega (arith, same), s)

pub place_below : (rows columns : ℕ) (s t : SubscriptParts) (p : ℕ) → place rows columns s t ≡ some p → p < rows * columns
place_below rows columns s t p e =
    let x = placed rows columns s t p e in
    let s = x.is in
    let q : x.column * rows + x.row ≡ p = cc in
    omega (arith, column_before rows x.row x.column columns x.in_rows x.in_columns, mul_comm columns rows)

pub place_apart : (rows columns : ℕ) (s t s' t' : SubscriptParts) (p : ℕ) → place rows columns s t ≡ some p → place rows columns s' t' ≡ some p
    → (subscript_value s ≡ subscript_value s') × (subscript_value t ≡ subscript_value t')
place_apart rows columns s t s' t' p e f =
    let x = placed rows columns s t p e in
    let y = placed rows columns s' t' p f in
    let z = same_pair rows x.row x.column y.row y.column x.in_rows y.in_rows (x.is ∙ sym y.is) in
    (x.first ∙ ap (λ n. pos (suc n)) z.0 ∙ sym y.first, x.second ∙ ap (λ n. pos (suc n)) z.1 ∙ sym y.second)

pub place_some : (rows columns : ℕ) (s t : SubscriptParts) (i j : ℕ) → subscript_value s ≡ pos (suc i) → i < rows → subscript_value t ≡ pos (suc j) → j < columns
    → (p : ℕ) × (place rows columns s t ≡ some p)
unfolding place
place_some rows columns s t i j e l f m = (_, ap₂ (λ a b. by_columns rows a b) (right_some rows s i e l) (right_some columns t j f m))
