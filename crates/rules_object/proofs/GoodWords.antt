-- Each word of a passed object: its entry is right, what it uses is below the cell count and within the digits, and where it leads has its height.
-- Assumes nothing.
use mathlib.Core.Path.{◌≡◌, refl, subst}
use mathlib.Core.Bool.{Bool, true, false, cond}
use mathlib.Core.List.{List, [], ◌∷◌, map}
use Prim.Native.Nat.{ℕ, zero, suc, ◌+◌, ◌-◌, ◌*◌, ◌≤◌, ◌<◌}
use native.Mathlib.Omega.{arith}
use lib.Dec.{ltb, leb, eqb}
use lib.ListN.{length, get_or}
use lib.IntN.{pos}
use borrow.Author.Tests.{ltb-true, leb-true}
use Rattle.number.specs.Number.{fits}
use Rattle.number.proofs.Laws.{fits_yes}
use Rattle.rules_shared.specs.Limits.{limits}
use Rattle.rules_shared.specs.Lists.{Each, each_none, each_more}
use Rattle.rules_object.specs.Object.{SubscriptEntry, Element, Loop, ListItem, Object, rule_of}
use Rattle.rules_object.specs.Check.{in_cells, right_constant, right_subscript, right_element, right_loop, right_item}
use Rattle.rules_object.specs.Operations.{Listed, a_span, one_element, Instr, HLT, CON, LOD, STO, LDE, STE, OP, NEG, JMP, BR3, BRC, DOI, DOE, READ, PRINT, operation_of, operand_of, element_at, transfer_at, listed, items_at, list_at, Operation, a_transfer, transfer_right, operations, unknown, decode, right43, entry_right, pops, pushes, successors, instruction, flow_of}
use Rattle.rules_object.specs.Flow.{height_at}
use Rattle.rules_object.specs.Safe.{Within}
use Rattle.rules_object.specs.Passed.{Passed}
use Rattle.rules_object.proofs.Passed.{both}
use Rattle.rules_object.proofs.RightTransfers.{items_right, transfer_right_lem}

-- ---- what an instruction uses

pub record GoodElement (o : Object) (e : Element) : Type 0 where
  pub span : e.base + e.rows * e.columns ≤ o.cells
  pub first : e.first.cell < o.cells
  pub second : e.second.cell < o.cells

pub record GoodLoop (o : Object) (d : Loop) : Type 0 where
  pub variable : d.variable < o.cells
  pub limit : d.limit < o.cells
  pub step : d.step < o.cells

abbrev pub GoodListed : Object → Listed → Type 0
GoodListed o (a_span a n) = a + n ≤ o.cells
GoodListed o (one_element e) = GoodElement o e

abbrev pub Good : Object → Instr → Type 0
Good o (HLT x) = Unit {0}
Good o (CON c) = Within o (pos c)
Good o (LOD a) = a < o.cells
Good o (STO a) = a < o.cells
Good o (LDE e) = GoodElement o e
Good o (STE e) = GoodElement o e
Good o (OP p) = Unit {0}
Good o NEG = Unit {0}
Good o (JMP a) = Unit {0}
Good o (BR3 a b c) = Unit {0}
Good o (BRC exits) = Unit {0}
Good o (DOI n d) = GoodLoop o d
Good o (DOE n d) = GoodLoop o d
Good o (READ n f is) = Each (GoodListed o) is
Good o (PRINT n f is) = Each (GoodListed o) is

subscript_good : (o : Object) (s : SubscriptEntry) → right_subscript o s ≡ true → s.cell < o.cells
subscript_good o s e = ltb-true _ _ (both (fits (rule_of o) s.plus) _ (both (fits (rule_of o) (pos s.times)) _ e).1).1

element_good : (o : Object) (e : Element) → right_element o e ≡ true → GoodElement o e
unfolding right_element
element_good o e q =
    let q₁ = (both (leb 1 e.rows) _ q).1 in
    let q₂ = (both (leb 1 e.columns) _ q₁).1 in
    let q₃ = both (leb (e.base + e.rows * e.columns) o.cells) _ q₂ in
    let q₄ = both (right_subscript o e.first) _ q₃.1 in
    record { span = leb-true _ _ q₃.0; first = subscript_good o e.first q₄.0; second = subscript_good o e.second q₄.1 }

loop_good : (o : Object) (d : Loop) → right_loop o d ≡ true → GoodLoop o d
unfolding right_loop
loop_good o d q =
    let q₁ = both (in_cells o d.variable) _ q in
    let q₂ = both (in_cells o d.limit) _ q₁.1 in
    let q₃ = both (in_cells o d.step) _ q₂.1 in
    record { variable = ltb-true _ _ q₁.0; limit = ltb-true _ _ q₂.0; step = ltb-true _ _ q₃.0 }

listed_good : (o : Object) → ((i : ℕ) → i < length o.elements → right_element o (element_at o i) ≡ true) → (i : ListItem) → right_item o i ≡ true → GoodListed o (listed o i)
unfolding right_item
listed_good o right i e = by (eqb i.count 0) e
  where
    by : (b : Bool) → cond b (ltb i.first (length o.elements)) (leb (i.first + i.count) o.cells) ≡ true
        → GoodListed o (cond b (one_element (element_at o i.first)) (a_span i.first i.count))
    by true q = element_good o _ (right i.first (ltb-true _ _ q))
    by false q = leb-true _ _ q

list_good : (o : Object) → ((i : ℕ) → i < length o.elements → right_element o (element_at o i) ≡ true) → (is : List ListItem) → Each (λ i. right_item o i ≡ true) is
    → Each (GoodListed o) (map (listed o) is)
list_good o right [] h = each_none
list_good o right (i ∷ is) (each_more e h) = each_more (listed_good o right i e) (list_good o right is h)

constant_good : (o : Object) (c : ℕ) → right_constant o c ≡ true → Within o (pos c)
unfolding right_constant
constant_good o c q = fits_yes (rule_of o) (pos c) q

-- ---- by operation: where the operand is right, so is the entry, and what the instruction uses

abbrev GoodWord : Object → Operation → Type 0
GoodWord o p = (x : ℕ) → p.operand_right o x ≡ true → (p.entry_right o x ≡ true) × Good o (p.says o x)

good_at : {o : Object} (ps : List Operation) → Each (GoodWord o) ps → (op : ℕ) → GoodWord o (get_or ps op unknown)
good_at [] g op x e = absurd (let z : ◌≡◌ {A = ℕ} 0 1 = cc in omega arith)
good_at (p ∷ ps) (each_more f r) zero x e = f x e
good_at (p ∷ ps) (each_more f r) (suc op) x e = good_at ps r op x e

module _ {bytes : List ℕ} {o : Object} {table : List ℕ} (p : Passed bytes o table) where
  transfer_good : (x : ℕ) → a_transfer o x ≡ true → (transfer_right o x ≡ true) × Each (GoodListed o) (list_at o (transfer_at o x))
  transfer_good x e = (transfer_right_lem p x (ltb-true _ _ e), list_good o p.elements (items_at o (transfer_at o x)) (items_right p (transfer_at o x)))

  all_good : Each (GoodWord o) operations
  all_good =
      each_more (λ x e. (refl, tt))
      (each_more (λ x e. let q = p.constants x (ltb-true _ _ e) in (q, constant_good o _ q))
      (each_more (λ x e. (refl, ltb-true _ _ e))
      (each_more (λ x e. (refl, ltb-true _ _ e))
      (each_more (λ x e. let q = p.elements x (ltb-true _ _ e) in (q, element_good o _ q))
      (each_more (λ x e. let q = p.elements x (ltb-true _ _ e) in (q, element_good o _ q))
      (each_more (λ x e. (refl, tt))
      (each_more (λ x e. (refl, tt))
      (each_more (λ x e. (refl, tt))
      (each_more (λ x e. (refl, tt))
      (each_more (λ x e. (refl, tt))
      (each_more (λ x e. (refl, tt))
      (each_more (λ x e. (refl, tt))
      (each_more (λ x e. (refl, tt))
      (each_more (λ x e. let q = p.dos x (ltb-true _ _ e) in (q, loop_good o _ q))
      (each_more (λ x e. let q = p.dos x (ltb-true _ _ e) in (q, loop_good o _ q))
      (each_more transfer_good
      (each_more transfer_good each_none)))))))))))))))))

  pub word_good : (a : ℕ) → a < length o.code → (entry_right o (get_or o.code a 0) ≡ true) × Good o (instruction o a)
  unfolding right43 entry_right decode
  word_good a l = good_at operations all_good (operation_of (get_or o.code a 0)) (operand_of (get_or o.code a 0)) (p.words a l)

-- ---- where it leads

-- a is in the code, and has the height h
pub record Led (o : Object) (H : List ℕ) (a h : ℕ) : Type 0 where
  pub inside : a < length o.code
  pub low : h ≤ limits.stack
  pub is : height_at H a ≡ h

-- every successor of i at a, from the height h
abbrev pub Leads : Object → List ℕ → ℕ → Instr → ℕ → Type 0
Leads o H a i h = (k : ℕ) → k < length (successors a i) → Led o H (get_or (successors a i) k 0) (h - pops i + pushes i)

pub word_leads : {bytes : List ℕ} {o : Object} {table : List ℕ} → Passed bytes o table → (a h : ℕ) → a < length o.code → height_at table a ≡ h → h ≤ limits.stack
    → (pops (instruction o a) ≤ h) × Leads o table a (instruction o a) h
unfolding flow_of
word_leads {o = o} {table = table} p a h l e b =
    let f = p.least.valid.each a l (omega arith) in
    let r = f.room in
    (subst (λ x. pops (instruction o a) ≤ x) e r, λ k w. let d = f.leads k w in subst (λ x. Led o table (get_or (successors a (instruction o a)) k 0) (x - pops (instruction o a) + pushes (instruction o a))) e (record { inside = d.inside; low = d.low; is = d.is }))
