-- Tables only grow: what does not fit now will not fit later.
-- Assumes nothing.
use mathlib.Core.Path.{◌≡◌, refl, sym}
use Prim.Native.Nat.{ℕ, suc, ◌+◌, ◌≤◌, ◌<◌}
use native.Mathlib.Omega.{arith}
use mathlib.Core.Bool.{Bool, true, false, ◌&&◌, cond, false≢true}
use mathlib.Core.List.{List, [], ◌∷◌}
use lib.Dec.{leb, eqb}
use lib.ListN.{length, length-append}
use borrow.Author.Tests.{leb-false, lt-leb}
use Rattle.rules_shared.specs.Limits.{limits}
use Rattle.rules_object.specs.Operations.{Instr, HLT, CON, LOD, STO, LDE, STE, OP, NEG, JMP, BR3, BRC, DOI, DOE, READ, PRINT}
use Rattle.rules_deck.specs.Translation.{Tables, pool, list_elements, tables_after, tables_of}
use Rattle.take_draft.specs.Kept.{tables_fit}

pub record Grown (T U : Tables) : Type 0 where
  pub constants : length T.constants ≤ length U.constants
  pub elements : length T.elements ≤ length U.elements
  pub exits : length T.exits ≤ length U.exits

same : (T : Tables) → Grown T T
same T = record { constants = omega arith; elements = omega arith; exits = omega arith }

pool_grows : (cs : List ℕ) (c : ℕ) → length cs ≤ length (pool cs c)
pool_grows [] c = omega arith
pool_grows (b ∷ bs) c = go (eqb b c) (pool_grows bs c)
  where
    go : (t : Bool) → length bs ≤ length (pool bs c) → suc (length bs) ≤ length (cond t (b ∷ bs) (b ∷ pool bs c))
    go true more = omega arith
    go false more = omega (arith, more)

after : (T : Tables) (i : Instr) → Grown T (tables_after T i)
after T (HLT x) = same T
after T (CON c) = record { constants = pool_grows T.constants c; elements = omega arith; exits = omega arith }
after T (LOD a) = same T
after T (STO a) = same T
after T (LDE e) = record { constants = omega arith; elements = omega (arith, length-append T.elements (e ∷ [])); exits = omega arith }
after T (STE e) = record { constants = omega arith; elements = omega (arith, length-append T.elements (e ∷ [])); exits = omega arith }
after T (OP o) = same T
after T NEG = same T
after T (JMP a) = same T
after T (BR3 a b c) = record { constants = omega arith; elements = omega arith; exits = omega (arith, length-append T.exits (a ∷ b ∷ c ∷ [])) }
after T (BRC ts) = record { constants = omega arith; elements = omega arith; exits = omega (arith, length-append T.exits (length ts ∷ ts)) }
after T (DOI n d) = same T
after T (DOE n d) = same T
after T (READ n f list) = record { constants = omega arith; elements = omega (arith, length-append T.elements (list_elements list)); exits = omega arith }
after T (PRINT n f list) = record { constants = omega arith; elements = omega (arith, length-append T.elements (list_elements list)); exits = omega arith }

pub grown : (T : Tables) (code : List Instr) → Grown T (tables_of T code)
grown T [] = same T
grown T (i ∷ code) =
    let a = after T i in
    let b = grown (tables_after T i) code in
    record { constants = omega (arith, a.constants, b.constants); elements = omega (arith, a.elements, b.elements); exits = omega (arith, a.exits, b.exits) }

over : {a b : ℕ} (k : ℕ) → a ≤ b → leb a k ≡ false → leb b k ≡ false
over {a} {b} k l h = let g : k < a = leb-false a k h in lt-leb b k (omega arith)

neither : (a b c d : Bool) → (a ≡ false → c ≡ false) → (b ≡ false → d ≡ false) → (a && b) ≡ false → (c && d) ≡ false
neither a b false d f g h = refl
neither false b true d f g h = absurd (false≢true (sym (f refl)))
neither true b true d f g h = g h

pub still_full : (T U : Tables) (code code' dos dos' : ℕ) → Grown T U → code + dos ≤ code' + dos' → tables_fit T code dos ≡ false → tables_fit U code' dos' ≡ false
still_full T U code code' dos dos' g l h =
    neither (leb (length T.constants) limits.constants) _ _ _ (over limits.constants g.constants)
    (neither (leb (length T.elements) limits.elements) _ _ _ (over limits.elements g.elements)
    (neither (leb (length T.exits) limits.exits) _ _ _ (over limits.exits g.exits) (over limits.code l))) h

-- ---- one table too long

module _ (U : Tables) (code dos : ℕ) where
  none_fit : (a b : Bool) → b ≡ false → (a && b) ≡ false
  none_fit true b e = e
  none_fit false b e = refl

  first_out : (a b : Bool) → a ≡ false → (a && b) ≡ false
  first_out true b e = absurd (false≢true (sym e))
  first_out false b e = refl

  pub constants_over : limits.constants < length U.constants → tables_fit U code dos ≡ false
  constants_over h = first_out (leb (length U.constants) limits.constants) _ (lt-leb (length U.constants) limits.constants h)

  pub elements_over : limits.elements < length U.elements → tables_fit U code dos ≡ false
  elements_over h =
      none_fit (leb (length U.constants) limits.constants) _
      (first_out (leb (length U.elements) limits.elements) _ (lt-leb (length U.elements) limits.elements h))

  pub exits_over : limits.exits < length U.exits → tables_fit U code dos ≡ false
  exits_over h =
      none_fit (leb (length U.constants) limits.constants) _
      (none_fit (leb (length U.elements) limits.elements) _ (first_out (leb (length U.exits) limits.exits) _ (lt-leb (length U.exits) limits.exits h)))

  pub code_over : limits.code < code + dos → tables_fit U code dos ≡ false
  code_over h =
      none_fit (leb (length U.constants) limits.constants) _
      (none_fit (leb (length U.elements) limits.elements) _
      (none_fit (leb (length U.exits) limits.exits) _ (lt-leb (code + dos) limits.code h)))
