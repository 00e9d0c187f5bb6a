-- Where the numbers of a list stand: every cell of its spots is among the list's cells, whatever the subscripts come to. So stores that are alike in these
-- cells read and print alike.
-- Assumes nothing.
use mathlib.Core.Path.{◌≡◌, refl, sym, ap, ap₂, ◌∙◌, subst}
use mathlib.Core.Logic.{inl, inr}
use mathlib.Core.List.{List, [], ◌∷◌, ◌++◌}
use mathlib.Core.Option.{Option, none, some}
use Prim.Native.Nat.{ℕ, zero, suc, ◌+◌, ◌*◌, ◌<◌}
use native.Mathlib.Omega.{arith}
use lib.ListN.{set}
use lib.IntN.{ℤ}
use Rattle.rules_shared.specs.Lists.{Each, each_none, each_more}
use Rattle.rules_shared.proofs.EachLaws.{each_append}
use Rattle.rules_shared.proofs.Places.{place_below}
use Rattle.rules_shared.specs.Choose.{place}
use Rattle.rules_formats.specs.Format.{Flat}
use Rattle.rules_formats.specs.Walk.{Columns, Paper, prints, reads}
use Rattle.rules_formats.proofs.Simulation.{Both, no_more, and, Either, neither, those, Alike, Matched, prints_same, reads_alike}
use Rattle.rules_object.specs.Object.{SubscriptEntry, Element}
use Rattle.rules_object.specs.Operations.{Listed, a_span, one_element}
use Rattle.rules_object.specs.Machine.{Spot, a_cell, an_element, cell_spots, spots, cell, subscript_of, place_of, element_spot, spot_cell, cell_in, store_with, spot_get, spot_set}
use Rattle.rules_object.specs.Safe.{In, cells_from, list_cells}

-- ---- among the cells of a list

in_left : (a : ℕ) (xs ys : List ℕ) → In a xs → In a (xs ++ ys)
in_left a (x ∷ xs) ys (inl e) = inl e
in_left a (x ∷ xs) ys (inr h) = inr (in_left a xs ys h)
in_left a [] ys x' = elim x' [ ]

in_right : (a : ℕ) (xs ys : List ℕ) → In a ys → In a (xs ++ ys)
in_right a [] ys h = h
in_right a (x ∷ xs) ys h = inr (in_right a xs ys h)

in_span : (a n p : ℕ) → p < n → In (a + p) (cells_from a n)
in_span a zero p l = absurd (omega arith)
in_span a (suc n) zero l = inl (omega arith)
in_span a (suc n) (suc p) l = let e : suc a + p ≡ a + suc p = omega arith in inr (subst (λ c. In c (cells_from (suc a) n)) e (in_span (suc a) n p (omega arith)))

pub each_in : {P : ℕ → Type 0} (a : ℕ) (cells : List ℕ) → Each P cells → In a cells → P a
each_in {P} a (c ∷ cells) (each_more p ps) (inl e) = subst P (sym e) p
each_in a (c ∷ cells) (each_more p ps) (inr h) = each_in a cells ps h
each_in {P = P} a [] _ x3 = elim x3 [ ]

-- ---- spots

-- its cell, or its subscripts' cells and all of its array
abbrev pub SpotIn : List ℕ → Spot → Type 0
SpotIn cells (a_cell a) = In a cells
SpotIn cells (an_element e) = (In e.first.cell cells × In e.second.cell cells) × ((p : ℕ) → p < e.rows * e.columns → In (e.base + p) cells)

span_spots : (cells : List ℕ) (a n : ℕ) → ((c : ℕ) → In c (cells_from a n) → In c cells) → Each (SpotIn cells) (cell_spots a n)
span_spots cells a zero f = each_none
span_spots cells a (suc n) f = each_more (f a (inl refl)) (span_spots cells (suc a) n (λ c h. f c (inr h)))

list_spots : (cells : List ℕ) (is : List Listed) → ((c : ℕ) → In c (list_cells is) → In c cells) → Each (SpotIn cells) (spots is)
list_spots cells [] f = each_none
list_spots cells (a_span a n ∷ is) f =
    each_append (span_spots cells a n (λ c h. f c (in_left c (cells_from a n) (list_cells is) h))) (list_spots cells is (λ c h. f c (in_right c (cells_from a n) (list_cells is) h)))
list_spots cells (one_element e ∷ is) f =
    let span = cells_from e.base (e.rows * e.columns) in
    let spot : SpotIn cells (an_element e) = (
      (f e.first.cell (inl refl), f e.second.cell (inr (inl refl))),
      λ p l. f (e.base + p) (inr (inr (in_left (e.base + p) span (list_cells is) (in_span e.base (e.rows * e.columns) p l)))),
    ) in
    each_more spot
    (list_spots cells is (λ c h. f c (inr (inr (in_right c span (list_cells is) h)))))

pub spots_in : (is : List Listed) → Each (SpotIn (list_cells is)) (spots is)
spots_in is = list_spots (list_cells is) is (λ c h. h)

-- the cell that a spot comes to
pub spot_in : (cells : List ℕ) (store : List ℤ) (x : Spot) → SpotIn cells x → (a : ℕ) → spot_cell store x ≡ some a → In a cells
spot_in cells store (a_cell b) h a e = let same : b ≡ a = cc in subst (λ c. In c cells) same h
spot_in cells store (an_element d) h a e = by (place_of store d) (λ q r. place_below d.rows d.columns _ _ q r) e
  where
    by : (p : Option ℕ) → ((q : ℕ) → p ≡ some q → q < d.rows * d.columns) → element_spot d.base p ≡ some a → In a cells
    by none b e = absurd (let z : ◌≡◌ {A = ℕ} 0 1 = cc in omega arith)
    by (some p) b e = let same : d.base + p ≡ a = cc in subst (λ c. In c cells) same (h.1 p (b p refl))

-- ---- two stores

-- R is of stores that are alike in these cells, and stay so where one of them is set in both
pub record AlikeAt (cells : List ℕ) (R : List ℤ → List ℤ → Type 0) : Type 0 where
  pub same : (c d : List ℤ) → R c d → (a : ℕ) → In a cells → cell c a ≡ cell d a
  pub sets : (c d : List ℤ) → R c d → (a : ℕ) (v : ℤ) → In a cells → R (set c a v) (set d a v)

-- the same spot, in the cells
record SameSpot (cells : List ℕ) (x y : Spot) : Type 0 where
  same : x ≡ y
  inside : SpotIn cells x

same_spots : {cells : List ℕ} {xs : List Spot} → Each (SpotIn cells) xs → Both (SameSpot cells) xs xs
same_spots each_none = no_more
same_spots (each_more h hs) = and (record { same = refl; inside = h }) (same_spots hs)

module _ (cells : List ℕ) (R : List ℤ → List ℤ → Type 0) (k : AlikeAt cells R) where
  subscript_alike : (c d : List ℤ) → R c d → (s : SubscriptEntry) → In s.cell cells → subscript_of c s ≡ subscript_of d s
  subscript_alike c d r s h = ap (λ (z : ℤ). record { times = s.times; variable = z; plus = s.plus }) (k.same c d r s.cell h)

  pub place_alike : (c d : List ℤ) → R c d → (e : Element) → In e.first.cell cells → In e.second.cell cells → place_of c e ≡ place_of d e
  place_alike c d r e h g = ap₂ (λ x y. place e.rows e.columns x y) (subscript_alike c d r e.first h) (subscript_alike c d r e.second g)

  spot_alike : (c d : List ℤ) → R c d → (x : Spot) → SpotIn cells x → spot_cell c x ≡ spot_cell d x
  spot_alike c d r (a_cell a) h = refl
  spot_alike c d r (an_element e) h = ap (element_spot e.base) (place_alike c d r e h.0.0 h.0.1)

  module _ (c d : List ℤ) (r : R c d) where
    value_alike : (p : Option ℕ) → ((a : ℕ) → p ≡ some a → In a cells) → cell_in c p ≡ cell_in d p
    value_alike none f = refl
    value_alike (some a) f = ap some (k.same c d r a (f a refl))

    set_alike : (v : ℤ) (p : Option ℕ) → ((a : ℕ) → p ≡ some a → In a cells) → Either R (store_with c v p) (store_with d v p)
    set_alike v none f = neither
    set_alike v (some a) f = those (k.sets c d r a v (f a refl))

    get_spot : (x : Spot) → SpotIn cells x → spot_get c x ≡ spot_get d x
    unfolding spot_get
    get_spot x h = value_alike (spot_cell c x) (spot_in cells c x h) ∙ ap (cell_in d) (spot_alike c d r x h)

    set_spot : (x : Spot) → SpotIn cells x → (v : ℤ) → Either R (spot_set c x v) (spot_set d x v)
    unfolding spot_set
    set_spot x h v = subst (λ (p : Option ℕ). Either R (store_with c v (spot_cell c x)) (store_with d v p)) (spot_alike c d r x h) (set_alike v (spot_cell c x) (spot_in cells c x h))

  matched : (ceiling : ℕ) → Matched ceiling spot_get spot_set spot_get spot_set R (SameSpot cells)
  matched ceiling =
      record {
        agree = λ c d x y r q. get_spot c d r x q.inside ∙ ap (spot_get d) q.same;
        keep = λ c d x y r q v l. subst (λ (z : Spot). Either R (spot_set c x v) (spot_set d z v)) q.same (set_spot c d r x q.inside v);
      }

module _ (is : List Listed) (R : List ℤ → List ℤ → Type 0) (k : AlikeAt (list_cells is) R) (f : Flat) (c d : List ℤ) (r : R c d) where
  pub list_prints : (p : Paper) → prints spot_get f (spots is) c p ≡ prints spot_get f (spots is) d p
  list_prints p = prints_same 0 spot_get spot_set spot_get spot_set R (SameSpot (list_cells is)) (matched (list_cells is) R k 0) f (spots is) (spots is) (same_spots (spots_in is)) c d r p

  pub list_reads : (ceiling : ℕ) (cs : List Columns) → Alike R (reads ceiling spot_get spot_set f (spots is) c cs) (reads ceiling spot_get spot_set f (spots is) d cs)
  list_reads ceiling cs =
      reads_alike ceiling spot_get spot_set spot_get spot_set R (SameSpot (list_cells is)) (matched (list_cells is) R k ceiling) f (spots is) (spots is) (same_spots (spots_in is)) c d r cs
