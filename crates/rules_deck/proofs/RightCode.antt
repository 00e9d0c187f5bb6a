-- Each instruction of a deck's code keeps within bounds: its constant, cell, element entry or addresses.
-- Assumes nothing.
use mathlib.Core.Path.{◌≡◌, refl}
use Prim.Native.Nat.{ℕ, zero, suc, ◌+◌, ◌*◌, ◌≤◌, ◌<◌}
use native.Mathlib.Omega.{arith}
use mathlib.Core.List.{List, [], ◌∷◌, ◌++◌, map}
use mathlib.Core.Option.{Option, none, some}
use lib.ListN.{length, get_elem?, length-map}
use lib.IntN.{pos, nat_abs, neg_ℤ}
use Rattle.rules_shared.specs.Limits.{limits}
use Rattle.rules_object.specs.Object.{SubscriptEntry, Element}
use Rattle.rules_object.specs.Operations.{Listed, a_span, one_element, Instr, HLT, CON, LOD, STO, LDE, STE, OP, NEG, JMP, BR3, BRC, DOI, DOE, READ, PRINT}
use Rattle.rules_shared.specs.Lists.{Each, each_none, each_more}
use Rattle.rules_shared.proofs.EachLaws.{each_head, each_tail, each_one, each_append, each_left, each_right}
use Rattle.rules_text.specs.Trees.{Name, Digits, value_of, Addend, nothing, plus, minus, constant, linear, Subscripts, one, two, Expr, con, var, elm, neg, par, bin, Target, cell, element, written, Form, assign, go_to, computed, ifs, loop, continue, stop, end, dimension, Statement, addend_constants, optional, subscript_names, subscripts_names, subscript_constants, subscripts_constants, expr_constants, target_constants, form_constants, form_exits, Range, parts_of}
use Rattle.rules_deck.specs.Deck.{Dims, dims_of, Do, endings, width}
use Rattle.rules_deck.specs.Meaning.{times, addend, third}
use Rattle.rules_deck.specs.Translation.{Held, held_of, cell_of, base_of, expr_plain, target_plain, form_plain, subscript_entry, element_entry, expr_code, store_code, form_code, address_of, do_instr, enter_code, code_from, code_of, doi_for}
use Rattle.rules_deck.specs.Judge.{Reference, expr_references, target_references, form_references}
use Rattle.rules_deck.specs.Accepted.{Among, here, there}
use Rattle.rules_text.specs.Shaped.{Shaped}

-- ---- what is right, numbers being below m, code of n words and so many cells

module _ (m n cells : ℕ) where
  abbrev pub RightSubscript : SubscriptEntry → Type 0
  RightSubscript s = (s.times < m) × (nat_abs s.plus < m) × (s.cell < cells)

  abbrev pub RightElement : Element → Type 0
  RightElement e =
      (1 ≤ e.rows) × (1 ≤ e.columns) × (e.base + e.rows * e.columns ≤ cells) × RightSubscript e.first × RightSubscript e.second

  abbrev pub RightListed : Listed → Type 0
  RightListed (a_span first count) = (0 < count) × (first + count ≤ cells)
  RightListed (one_element e) = RightElement e

  abbrev pub Right : Instr → Type 0
  Right (HLT x) = x ≤ 1
  Right (CON c) = c < m
  Right (LOD a) = a < cells
  Right (STO a) = a < cells
  Right (LDE e) = RightElement e
  Right (STE e) = RightElement e
  Right (OP o) = Unit {0}
  Right NEG = Unit {0}
  Right (JMP t) = t < n
  Right (BR3 a b c) = (a < n) × (b < n) × (c < n)
  Right (BRC ts) = (limits.fewest_exits ≤ length ts) × (length ts ≤ limits.most_exits) × Each (λ t. t < n) ts
  Right (DOI q d) = Unit {0}
  Right (DOE q d) = Unit {0}
  Right (READ q f list) = Each RightListed list
  Right (PRINT q f list) = Each RightListed list

pub width_some : (c : ℕ) → 1 ≤ width c
width_some zero = omega arith
width_some (suc c) = omega arith

pub product_some : (a b : ℕ) → 1 ≤ a → 1 ≤ b → 1 ≤ a * b
product_some zero b p q = absurd (omega arith)
product_some (suc a) zero p q = absurd (omega arith)
product_some (suc a) (suc b) p q = omega arith

-- ---- of what stands in a statement

module _ (held : List Held) (dims : Name → Dims) (m n cells : ℕ) where
  -- a constant, a plain name, and an array that is used
  abbrev pub Small : Digits → Type 0
  Small c = value_of c < m

  abbrev pub Celled : Name → Type 0
  Celled v = cell_of held v < cells

  abbrev pub Spanned : Reference → Type 0
  Spanned r = (1 ≤ (dims r.name).rows) × (base_of held r.name + (dims r.name).rows * width (dims r.name).columns ≤ cells)

  module _ (some_digits : 1 < m) where
    times_small : (o : Option Digits) → Each Small (optional o) → times o < m
    times_small none h = some_digits
    times_small (some c) h = each_head h

    neg_abs : (x : ℕ) → nat_abs (neg_ℤ (pos x)) ≡ x
    neg_abs zero = refl
    neg_abs (suc x) = refl

    addend_small : (a : Addend) → Each Small (addend_constants a) → nat_abs (addend a) < m
    addend_small nothing h = omega arith
    addend_small (plus c) h = each_head h
    addend_small (minus c) h = omega (arith, neg_abs (value_of c), each_head h)

    subscript_right : (s : Rattle.rules_text.specs.Trees.Subscript) → 0 < cells → Each Small (subscript_constants s) → Each Celled (subscript_names s)
        → RightSubscript m n cells (subscript_entry held dims s)
    subscript_right (constant c) z hc hn = (omega arith, each_head hc, z)
    subscript_right (linear o v a) z hc hn =
        (times_small o (each_left (optional o) (addend_constants a) hc), addend_small a (each_right (optional o) (addend_constants a) hc), each_head hn)

    element_right_lem : (v : Name) (s : Subscripts) → Each Small (subscripts_constants s) → Each Celled (subscripts_names s) → Spanned (record { name = v; subscripts = s })
        → RightElement m n cells (element_entry held dims v s)
    element_right_lem v (one s) hc hn r =
        let z : 0 < cells = omega (arith, r.1, product_some (dims v).rows (width (dims v).columns) r.0 (width_some (dims v).columns)) in
        (r.0, width_some (dims v).columns, r.1, subscript_right s z hc hn, (omega arith, some_digits, z))
    element_right_lem v (two s t) hc hn r =
        let z : 0 < cells = omega (arith, r.1, product_some (dims v).rows (width (dims v).columns) r.0 (width_some (dims v).columns)) in (
          r.0,
          width_some (dims v).columns,
          r.1,
          subscript_right s z (each_left (subscript_constants s) (subscript_constants t) hc) (each_left (subscript_names s) (subscript_names t) hn),
          subscript_right t z (each_right (subscript_constants s) (subscript_constants t) hc) (each_right (subscript_names s) (subscript_names t) hn),
        )

    expr_right : (e : Expr) → Each Small (expr_constants e) → Each Celled (expr_plain e) → Each Spanned (expr_references e) → Each (Right m n cells) (expr_code held dims e)
    expr_right (con c) hc hn hr = each_one (each_head hc)
    expr_right (var v) hc hn hr = each_one (each_head hn)
    expr_right (elm v s) hc hn hr = each_one (element_right_lem v s hc hn (each_head hr))
    expr_right (neg e) hc hn hr = each_append (expr_right e hc hn hr) (each_one tt)
    expr_right (par e) hc hn hr = expr_right e hc hn hr
    expr_right (bin o a b) hc hn hr =
        each_append
        (expr_right a (each_left (expr_constants a) (expr_constants b) hc) (each_left (expr_plain a) (expr_plain b) hn) (each_left (expr_references a) (expr_references b) hr))
        (each_append
        (expr_right b (each_right (expr_constants a) (expr_constants b) hc) (each_right (expr_plain a) (expr_plain b) hn) (each_right (expr_references a) (expr_references b) hr))
        (each_one tt))

    store_right : (t : Target) → Each Small (target_constants t) → Each Celled (target_plain t) → Each Spanned (target_references t) → Right m n cells (store_code held dims t)
    store_right (cell v) hc hn hr = each_head hn
    store_right (element v s) hc hn hr = element_right_lem v s hc hn (each_head hr)

    third_right : (p : Option Expr) → Each Small (written expr_constants p) → Each Celled (written expr_plain p) → Each Spanned (written expr_references p)
        → Each (Right m n cells) (expr_code held dims (third p))
    unfolding value_of
    third_right none hc hn hr = each_one some_digits
    third_right (some e) hc hn hr = expr_right e hc hn hr

    module _ (address : ℕ → ℕ) where
      exits_right : (ns : List Digits) → ((x : Digits) → Among x ns → address (value_of x) < n) → Each (λ t. t < n) (map (λ x. address (value_of x)) ns)
      exits_right [] h = each_none
      exits_right (x ∷ ns) h = each_more (h x here) (exits_right ns (λ y r. h y (there r)))

      form_right : (entry : Instr) (f : Form) → Each Small (form_constants f) → Each Celled (form_plain f) → Each Spanned (form_references f)
          → ((x : Digits) → Among x (form_exits f) → address (value_of x) < n) → Shaped f → Right m n cells entry → Each (Right m n cells) (form_code held dims address entry f)
      unfolding form_constants form_plain form_references form_exits
      form_right entry (assign t e) hc hn hr hx s h =
          each_append
          (expr_right e (each_right (target_constants t) (expr_constants e) hc) (each_right (target_plain t) (expr_plain e) hn) (each_right (target_references t) (expr_references e) hr))
          (each_one (store_right t (each_left (target_constants t) (expr_constants e) hc) (each_left (target_plain t) (expr_plain e) hn) (each_left (target_references t) (expr_references e) hr)))
      form_right entry (go_to x) hc hn hr hx s h = each_one (hx x here)
      form_right entry (computed xs v) hc hn hr hx s h =
          let l = length-map xs (λ x. address (value_of x)) in
          let exits : Right m n cells (BRC (map (λ x. address (value_of x)) xs)) = (omega (arith, s.0), omega (arith, s.1), exits_right xs hx) in
          each_more (each_head hn) (each_one exits)
      form_right entry (ifs e a b c) hc hn hr hx s h =
          let exits : Right m n cells (BR3 (address (value_of a)) (address (value_of b)) (address (value_of c))) = (hx a here, hx b (there here), hx c (there (there here))) in
          each_append (expr_right e hc hn hr) (each_one exits)
      form_right entry (loop x v p q r) hc hn hr hx s h =
          let c₂ = each_right (expr_constants p) (expr_constants q ++ written expr_constants r) hc in
          let n₂ = each_right (expr_plain p) (expr_plain q ++ written expr_plain r) (each_tail hn) in
          let r₂ = each_right (expr_references p) (expr_references q ++ written expr_references r) hr in
          each_append
          (expr_right p (each_left (expr_constants p) (expr_constants q ++ written expr_constants r) hc) (each_left (expr_plain p) (expr_plain q ++ written expr_plain r) (each_tail hn)) (each_left (expr_references p) (expr_references q ++ written expr_references r) hr))
          (each_append
          (expr_right q (each_left (expr_constants q) (written expr_constants r) c₂) (each_left (expr_plain q) (written expr_plain r) n₂) (each_left (expr_references q) (written expr_references r) r₂))
          (each_append
          (third_right r (each_right (expr_constants q) (written expr_constants r) c₂) (each_right (expr_plain q) (written expr_plain r) n₂) (each_right (expr_references q) (written expr_references r) r₂))
          (each_one h)))
      form_right entry continue hc hn hr hx s h = each_none
      form_right entry stop hc hn hr hx s h = each_one (omega arith)
      form_right entry end hc hn hr hx s h = each_one (omega arith)
      form_right entry (dimension arrays) hc hn hr hx s h = each_none

-- ---- the whole code

module _ (m n cells : ℕ) (deck : List Statement) where
  enter_right : (q : ℕ) (f : Form) → Right m n cells (enter_code deck q f)
  enter_right q f = go (parts_of f).opens
    where
      go : (ds : List Range) → Right m n cells (doi_for deck q ds)
      go [] = tt
      go (d ∷ ds) = tt

  ends_right : (ds : List Do) → Each (Right m n cells) (map (do_instr deck DOE) ds)
  ends_right [] = each_none
  ends_right (d ∷ ds) = each_more tt (ends_right ds)

  -- what each statement has so that its code is right
  pub record Fine (f : Form) : Type 0 where
    pub small : Each (Small (held_of deck) (dims_of deck) m n cells) (form_constants f)
    pub celled : Each (Celled (held_of deck) (dims_of deck) m n cells) (form_plain f)
    pub spanned : Each (Spanned (held_of deck) (dims_of deck) m n cells) (form_references f)
    pub exits : (x : Digits) → Among x (form_exits f) → address_of deck (value_of x) < n
    pub shaped : Shaped f

  from_right : 1 < m → (q : ℕ) (more : List Statement) → ((j : ℕ) (s : Statement) → get_elem? more j ≡ some s → Fine s.form) → Each (Right m n cells) (code_from deck q more)
  from_right d q [] h = each_none
  from_right d q (s ∷ more) h =
      let x = h 0 s refl in
      each_append
      (each_append
      (form_right (held_of deck) (dims_of deck) m n cells d (address_of deck) (enter_code deck q s.form) s.form x.small x.celled x.spanned x.exits x.shaped (enter_right q s.form))
      (ends_right (endings deck s.number)))
      (from_right d (suc q) more (λ j t e. h (suc j) t e))

  pub code_right : 1 < m → ((j : ℕ) (s : Statement) → get_elem? deck j ≡ some s → Fine s.form) → Each (Right m n cells) (code_of deck)
  unfolding code_of
  code_right d h = from_right d 0 deck h
