-- What the check of an instruction tells, in the words of the bytes: its entry stands in the object, its cells in the store. Assumes nothing.
use mathlib.Core.Path.{◌≡◌, refl, sym, ap, ◌∙◌, subst}
use mathlib.Core.Bool.{Bool, true, false, ◌&&◌}
use mathlib.Core.List.{List, [], ◌∷◌}
use mathlib.Core.Option.{none, some}
use Prim.Native.Nat.{ℕ, zero, suc, ◌+◌, ◌-◌, ◌*◌, ◌^◌, ◌≤◌, ◌<◌}
use native.Mathlib.Omega.{arith}
use lib.Dec.{ltb, leb}
use lib.ListN.{length, get_or, get_elem?, take, drop}
use lib.IntN.{ℤ, pos, negsuc, nat_abs}
use borrow.Author.Tests.{ltb-true, ltb-false, leb-true}
use Rattle.number.specs.declared.Rule.{Rule}
use Rattle.number.specs.Number.{fits}
use Rattle.number.specs.Code.{ruled, Narrow, Both}
use Rattle.number.proofs.Laws.{digits_narrow, fits_below, fits_yes}
use Rattle.rules_shared.specs.Choose.{sign3, exit}
use Rattle.rules_object.specs.Object.{rule_of}
use Rattle.object_contents.specs.declared.placed.Object.{Object}
use Rattle.object_contents.specs.Book.{book_of}
use Rattle.rules_object.specs.Check.{right41, right_constant, right_subscript, right_element, right_loop}
use Rattle.rules_object.specs.Operations.{no_element, no_loop}
use Rattle.rules_object.specs.Machine.{cell}
use Rattle.rules_object.specs.Bytes.{signed_of}
use Rattle.rules_object.proofs.Limited.{limited}
use Rattle.object_words.specs.Word.{word_at}
use Rattle.object_contents.specs.declared.Layout.{Layout}
use Rattle.object_contents.specs.Layout.{list_from, element_at, loop_at, object_at, Placed}
use Rattle.run_registers.specs.declared.Regs.{Regs}
use Rattle.run_subscripts.specs.Elements.{Cell, SubscriptIn, ElementIn}
use Rattle.run_operations.specs.Ready.{Held, Ready}
use Rattle.run_entries.specs.Entries.{LoopIn, exit_if, chosen, sign_of}
use Rattle.run_subscripts.proofs.Laws.{apart}

pub both : (a b : Bool) → (a && b) ≡ true → (a ≡ true) × (b ≡ true)
both true true e = (refl, refl)
both true false e = absurd (apart (sym e))
both false b e = absurd (apart (sym e))

-- ---- a body as a list

pub length_from : {A : Type 0} (n i : ℕ) (f : ℕ → A) → length (list_from n i f) ≡ n
length_from zero i f = refl
length_from (suc n) i f = ap suc (length_from n (suc i) f)

get_from : {A : Type 0} (n i : ℕ) (f : ℕ → A) (k : ℕ) (d : A) → k < n → get_or (list_from n i f) k d ≡ f (i + k)
get_from zero i f k d l = absurd (omega arith)
get_from (suc n) i f zero d l = let e : i ≡ i + zero = omega arith in ap f e
get_from (suc n) i f (suc k) d l = let e : suc i + k ≡ i + suc k = omega arith in get_from n (suc i) f k d (omega arith) ∙ ap f e

pub get : {A : Type 0} (n : ℕ) (f : ℕ → A) (k : ℕ) (d : A) → k < n → get_or (list_from n 0 f) k d ≡ f k
get n f k d l = let e : 0 + k ≡ k = omega arith in get_from n 0 f k d l ∙ ap f e

-- the kth of n that stand from i on, and none past them
nth_there : (l : List ℕ) (i k n : ℕ) → k < n → i + k < length l → some (get_or l (i + k) 0) ≡ get_elem? (take n (drop i l)) k
nth_there [] i k n a b = absurd (omega arith)
nth_there (v ∷ l) (suc i) k n a b =
    let e : suc i + k ≡ suc (i + k) = omega arith in
    ap (λ m. some (get_or (v ∷ l) m 0)) e ∙ nth_there l i k n a (omega arith)
nth_there (v ∷ l) zero zero zero a b = absurd (omega arith)
nth_there (v ∷ l) zero zero (suc n) a b = refl
nth_there (v ∷ l) zero (suc k) zero a b = absurd (omega arith)
nth_there (v ∷ l) zero (suc k) (suc n) a b =
    let e : zero + suc k ≡ suc (zero + k) = omega arith in
    ap (λ m. some (get_or (v ∷ l) m 0)) e ∙ nth_there l zero k n (omega arith) (omega arith)

nth_gone : (l : List ℕ) (k n : ℕ) → n ≤ k → none ≡ get_elem? (take n l) k
nth_gone l k zero a = refl
nth_gone [] k (suc n) a = refl
nth_gone (v ∷ l) zero (suc n) a = absurd (omega arith)
nth_gone (v ∷ l) (suc k) (suc n) a = nth_gone l k n (omega arith)

-- ---- the limits

pub record Bounds (o : Object) : Type 0 where
  pub narrow : Narrow (ruled o.rule)
  pub cells : o.layout.cells ≤ 4096
  pub code : o.layout.code_count ≤ 4096

pub bounds : (o : Object) → right41 (book_of o) ≡ true → Bounds o
unfolding object_at
bounds o r =
    let e = o.layout in
    let l = limited (book_of o) o.placed.edition r in
    let n = l.code in
    record {
      narrow = subst Narrow (sym o.ruled) (digits_narrow e.digits l.digits);
      cells = l.cells;
      code = omega (arith, length_from e.code_count 0 (λ i. word_at o.bytes.now (e.code + 4 * i)));
    }

module _ (o : Object) (r : Regs) (st so : List ℤ) (h : Held o r st so) where
  abbrev e : Layout
  e = o.layout

  abbrev s : List ℕ
  s = o.bytes.now

  abbrev k : Rule
  k = o.rule

  pub held_bounds : Bounds o
  held_bounds = bounds o h.right

  -- what fits the object's rule
  fits_here : (z : ℤ) → fits (rule_of (object_at e s)) z ≡ true → nat_abs z < 2 ^ 31
  fits_here z t = fits_below (ruled k) held_bounds.narrow z (fits_yes (ruled k) z (ap (λ q. fits q z) o.ruled ∙ t))

  pub cell_in_lem : (a : ℕ) → a < e.cells → Cell so a
  cell_in_lem a l = let b = held_bounds in record { inside = omega (arith, h.long); small = fits_below (ruled k) b.narrow (cell so a) (h.store a l) }

  pub two : Both (ruled k) (cell st (r.height - 2)) (cell st (r.height - 1))
  two = record { narrow = held_bounds.narrow; left = h.stack (r.height - 2); right = h.stack (r.height - 1) }

  pub small : (i : ℕ) → nat_abs (cell st i) < 2 ^ 31
  small i = fits_below (ruled k) held_bounds.narrow (cell st i) (h.stack i)

  module _ (x : ℕ) where
    -- ---- CON
    pub con_in : Ready (object_at e s) 1 x r.height → x < e.constant_count
    unfolding object_at
    con_in y = let l = ltb-true x (length (object_at e s).constants) y.operand in omega (arith, length_from e.constant_count 0 (λ i. word_at s (e.constants + 4 * i)))

    pub con_is : x < e.constant_count → get_or (object_at e s).constants x 0 ≡ word_at s (e.constants + 4 * x)
    unfolding object_at
    con_is l = get e.constant_count (λ i. word_at s (e.constants + 4 * i)) x 0 l

    pub con_whole : x < e.constant_count → e.constants + 4 * x + 4 ≤ length s
    con_whole l = let q = o.placed in omega (arith, q.elements, q.exits, q.dos, q.code, q.lines, q.names, q.whole)

    pub con_small : Ready (object_at e s) 1 x r.height → word_at s (e.constants + 4 * x) < 2 ^ 31
    unfolding right_constant
    con_small y = omega (arith, con_is (con_in y), fits_here (pos (get_or (object_at e s).constants x 0)) y.entry)

    -- ---- LOD and STO
    pub lod_in : Ready (object_at e s) 2 x r.height → x < length so
    unfolding object_at
    lod_in y = let l = ltb-true x e.cells y.operand in omega (arith, h.long)

    pub sto_in : Ready (object_at e s) 3 x r.height → x < length so
    unfolding object_at
    sto_in y = let l = ltb-true x e.cells y.operand in omega (arith, h.long)

    -- ---- elements
    pub element_is : x < e.element_count → get_or (object_at e s).elements x no_element ≡ element_at s (e.elements + 36 * x)
    unfolding object_at
    element_is l = get e.element_count (λ i. element_at s (e.elements + 36 * i)) x no_element l

    element_in_lem : x < e.element_count → right_element (object_at e s) (get_or (object_at e s).elements x no_element) ≡ true → ElementIn s (e.elements + 36 * x) so
    unfolding right_element element_at object_at
    element_in_lem l t =
        let q = o.placed in
        let b = held_bounds in
        let b' = object_at e s in
        let w = e.elements + 36 * x in
        let m = subst (λ n. right_element b' n ≡ true) (element_is l) t in
        let m₁ = both (leb 1 (word_at s (w + 4))) _ m in
        let m₂ = both (leb 1 (word_at s (w + 8))) _ m₁.1 in
        let m₃ = both (leb (word_at s w + word_at s (w + 4) * word_at s (w + 8)) e.cells) _ m₂.1 in
        let m₄ = both (right_subscript b' (element_at s w).first) _ m₃.1 in
        let span = leb-true (word_at s w + word_at s (w + 4) * word_at s (w + 8)) e.cells m₃.0 in
        let whole : w + 36 ≤ length s = omega (arith, q.exits, q.dos, q.code, q.lines, q.names, q.whole) in
        record {
          whole = whole;
          first = part (w + 12) (w + 16) (w + 20) (omega arith) (omega arith) (omega arith) m₄.0;
          second = part (w + 24) (w + 28) (w + 32) (omega arith) (omega arith) (omega arith) m₄.1;
          span = omega (arith, h.long);
          few = omega (arith, b.cells);
        }
      where
        part : (c d f : ℕ) → c + 12 ≤ length s → c + 4 ≡ d → c + 8 ≡ f
            → right_subscript (object_at e s) (record { times = word_at s c; cell = word_at s d; plus = signed_of (word_at s f) }) ≡ true → SubscriptIn s c so
        part c d f w p₁ p₂ t =
            let t₁ = both _ _ t in
            let t₂ = both _ _ t₁.1 in
            record {
              whole = w;
              times = fits_here (pos (word_at s c)) t₁.0;
              at = subst (λ n. Cell so (word_at s n)) (sym p₁) (cell_in_lem (word_at s d) (ltb-true (word_at s d) e.cells t₂.1));
              plus = subst (λ n. nat_abs (signed_of (word_at s n)) < 2 ^ 31) (sym p₂) (fits_here (signed_of (word_at s f)) t₂.0);
            }

    below_elements : ltb x (length (object_at e s).elements) ≡ true → x < e.element_count
    unfolding object_at
    below_elements t = let l = ltb-true x (length (object_at e s).elements) t in omega (arith, length_from e.element_count 0 (λ i. element_at s (e.elements + 36 * i)))

    pub lde_in : Ready (object_at e s) 4 x r.height → (x < e.element_count) × ElementIn s (e.elements + 36 * x) so
    lde_in y = let l = below_elements y.operand in (l, element_in_lem l y.entry)

    pub ste_in : Ready (object_at e s) 5 x r.height → (x < e.element_count) × ElementIn s (e.elements + 36 * x) so
    ste_in y = let l = below_elements y.operand in (l, element_in_lem l y.entry)

    -- ---- DOs
    pub loop_is : x < e.do_count → get_or (object_at e s).dos x no_loop ≡ loop_at s (e.dos + 16 * x)
    unfolding object_at
    loop_is l = get e.do_count (λ i. loop_at s (e.dos + 16 * i)) x no_loop l

    loop_in : x < e.do_count → right_loop (object_at e s) (get_or (object_at e s).dos x no_loop) ≡ true → LoopIn s (e.dos + 16 * x) so
    unfolding right_loop loop_at object_at
    loop_in l t =
        let q = o.placed in
        let w = e.dos + 16 * x in
        let m = subst (λ n. right_loop (object_at e s) n ≡ true) (loop_is l) t in
        let m₁ = both (ltb (word_at s w) e.cells) _ m in
        let m₂ = both (ltb (word_at s (w + 4)) e.cells) _ m₁.1 in
        let m₃ = both (ltb (word_at s (w + 8)) e.cells) _ m₂.1 in
        record {
          whole = omega (arith, q.code, q.lines, q.names, q.whole);
          variable = cell_in_lem (word_at s w) (ltb-true _ _ m₁.0);
          limit = cell_in_lem (word_at s (w + 4)) (ltb-true _ _ m₂.0);
          step = cell_in_lem (word_at s (w + 8)) (ltb-true _ _ m₃.0);
        }

    below_dos : ltb x (length (object_at e s).dos) ≡ true → x < e.do_count
    unfolding object_at
    below_dos t = let l = ltb-true x (length (object_at e s).dos) t in omega (arith, length_from e.do_count 0 (λ i. loop_at s (e.dos + 16 * i)))

    pub doi_in : Ready (object_at e s) 14 x r.height → (x < e.do_count) × LoopIn s (e.dos + 16 * x) so
    doi_in y = let l = below_dos y.operand in (l, loop_in l y.entry)

    pub doe_in : Ready (object_at e s) 15 x r.height → (x < e.do_count) × LoopIn s (e.dos + 16 * x) so
    doe_in y = let l = below_dos y.operand in (l, loop_in l y.entry)

    -- ---- exits
    abbrev exits : List ℕ
    exits = list_from e.exit_count 0 (λ i. word_at s (e.exits + 4 * i))

    count_exits : length exits ≡ e.exit_count
    count_exits = length_from e.exit_count 0 (λ i. word_at s (e.exits + 4 * i))

    exit_is : (k : ℕ) → k < e.exit_count → get_or exits k 0 ≡ word_at s (e.exits + 4 * k)
    exit_is k l = get e.exit_count (λ i. word_at s (e.exits + 4 * i)) k 0 l

    pub br3_in : Ready (object_at e s) 12 x r.height → x + 2 < e.exit_count
    unfolding object_at
    br3_in y = let l = ltb-true (x + 2) (length exits) (both (ltb (x + 2) (length exits)) _ y.operand).0 in omega (arith, count_exits)

    pub br3_whole : x + 2 < e.exit_count → e.exits + 4 * x + 12 ≤ length s
    br3_whole l = let q = o.placed in omega (arith, q.dos, q.code, q.lines, q.names, q.whole)

    pub br3_is : x + 2 < e.exit_count → (z : ℤ)
        → word_at s (e.exits + 4 * x + 4 * sign_of z) ≡ sign3 z (get_or (object_at e s).exits x 0) (get_or (object_at e s).exits (x + 1) 0) (get_or (object_at e s).exits (x + 2) 0)
    unfolding object_at
    br3_is l (negsuc n) = let q : e.exits + 4 * x + 4 * 0 ≡ e.exits + 4 * x = omega arith in ap (word_at s) q ∙ sym (exit_is x (omega arith))
    br3_is l (pos zero) = let q : e.exits + 4 * x + 4 * 1 ≡ e.exits + 4 * (x + 1) = omega arith in ap (word_at s) q ∙ sym (exit_is (x + 1) (omega arith))
    br3_is l (pos (suc n)) = let q : e.exits + 4 * x + 4 * 2 ≡ e.exits + 4 * (x + 2) = omega arith in ap (word_at s) q ∙ sym (exit_is (x + 2) l)

    -- the count of exits stands before them
    pub brc_in : Ready (object_at e s) 13 x r.height → x + word_at s (e.exits + 4 * x) < e.exit_count
    unfolding object_at
    brc_in y =
        let t₁ = both (leb 2 (get_or exits x 0)) _ y.operand in
        let t₂ = both (leb (get_or exits x 0) 10) _ t₁.1 in
        let t₃ = both (ltb (x + get_or exits x 0) (length exits)) _ t₂.1 in
        let l = ltb-true (x + get_or exits x 0) (length exits) t₃.0 in
        omega (arith, count_exits, exit_is x (omega (arith, count_exits)))

    pub brc_whole : x + word_at s (e.exits + 4 * x) < e.exit_count → e.exits + 4 * x + 4 * word_at s (e.exits + 4 * x) + 4 ≤ length s
    brc_whole l = let q = o.placed in omega (arith, q.dos, q.code, q.lines, q.names, q.whole)

    pub brc_is : x + word_at s (e.exits + 4 * x) < e.exit_count → (z : ℤ)
        → chosen s (e.exits + 4 * x) (word_at s (e.exits + 4 * x)) z ≡ exit (take (get_or (object_at e s).exits x 0) (drop (x + 1) (object_at e s).exits)) z
    unfolding object_at
    brc_is l (pos zero) = refl
    brc_is l (pos (suc k)) = by (ltb k (word_at s (e.exits + 4 * x))) refl
      where
        by : (b : Bool) → ltb k (word_at s (e.exits + 4 * x)) ≡ b → exit_if b (word_at s (e.exits + 4 * x + 4 * suc k)) ≡ get_elem? (take (get_or exits x 0) (drop (x + 1) exits)) k
        by true t =
            let m = ltb-true k (word_at s (e.exits + 4 * x)) t in
            let q : e.exits + 4 * x + 4 * suc k ≡ e.exits + 4 * (x + 1 + k) = omega arith in
            ap (λ a. some (word_at s a)) q ∙ sym (ap some (exit_is (x + 1 + k) (omega arith)))
            ∙ nth_there exits (x + 1) k (word_at s (e.exits + 4 * x)) m (omega (arith, count_exits))
            ∙ ap (λ n. get_elem? (take n (drop (x + 1) exits)) k) (sym (exit_is x (omega arith)))
        by false t =
            nth_gone (drop (x + 1) exits) k (word_at s (e.exits + 4 * x)) (ltb-false k (word_at s (e.exits + 4 * x)) t)
            ∙ ap (λ n. get_elem? (take n (drop (x + 1) exits)) k) (sym (exit_is x (omega arith)))
    brc_is l (negsuc k) = refl
