-- The item that some words start with, by its first word.
-- Assumes nothing.
use mathlib.Core.Path.{◌≡◌, refl, sym, ap, ◌∙◌, subst}
use Prim.Native.Nat.{ℕ, ◌+◌, ◌%◌, ◌^◌, ◌≤◌, ◌<◌}
use native.Mathlib.Omega.{arith}
use native.Mathlib.Nat.{mod-eq_of_lt}
use mathlib.Core.List.{List, ◌++◌}
use lib.ListN.{length, get_or}
use Rattle.number.specs.Number.{add, sub, mul, div}
use Rattle.rules_object.specs.Operations.{LDE, OP, NEG}
use Rattle.rules_shared.proofs.EachLaws.{each_head}
use Rattle.rules_deck.specs.Translation.{element_entry}
use Rattle.read_tokens.specs.declared.Name as code
use Rattle.read_tokens.specs.Words.{name_at}
use Rattle.read_elements.specs.declared.Subscript.{Subscript}
use Rattle.read_elements.specs.declared.Element.{Element}
use Rattle.take_draft.specs.declared.Counts.{Counts}
use Rattle.take_draft.specs.Parts.{Item, value, plain, place, negate, apply, item_words, items_words, Worded}
use Rattle.take_draft.specs.Names.{dims_held}
use Rattle.take_draft.specs.Kept.{Fit}
use Rattle.take_name_table.specs.Find.{item_length}
use Rattle.take_name_table.proofs.Fronts.{front, front_long}
use Rattle.std.specs.Prelude.{Option}
use Rattle.take_instructions.specs.Emits.{Appends}
use Rattle.take_operands.specs.Operands.{subscript_at, ElementAt, EmitsConstant, EmitsRefer, EmitsLoad, EmitsItem}
use Rattle.take_instructions.proofs.One.{itself, one}

-- ---- its words are there

pub words_there : {items : List ℕ} (k : ℕ) → Worded items → 0 < length items → get_or items 0 0 ≡ k → item_length k ≤ length items
words_there {items} k w h e = subst (λ (x : ℕ). item_length x ≤ length items) e (front_long (front items w.items w.are h))

kind_most : (i : Item) (more : List ℕ) → get_or (item_words i ++ more) 0 0 ≤ 10
kind_most (value c) more = omega arith
kind_most (plain v) more = omega arith
kind_most (place v s) more = omega arith
kind_most negate more = omega arith
kind_most (apply add) more = omega arith
kind_most (apply sub) more = omega arith
kind_most (apply mul) more = omega arith
kind_most (apply div) more = omega arith

pub kind_low : {items : List ℕ} {x : ℕ} → Worded items → 0 < length items → x ≡ get_or items 0 0 % 2 ^ 32 → x < 256
kind_low {items} {x} w h e =
    let f = front items w.items w.are h in
    let m = subst (λ (l : List ℕ). get_or l 0 0 ≤ 10) (sym f.are) (kind_most f.first (items_words f.rest)) in
    let k : get_or items 0 0 < 4294967296 = omega (arith, m) in
    omega (arith, m, e ∙ mod-eq_of_lt k)

-- ---- an element

pub subscript_is : (items : List ℕ) (at : ℕ) {name : code.Name} → name ≡ name_at items (at + 1)
    → ◌≡◌ {A = Subscript} (record { times = get_or items at 0; name = name; minus = get_or items (at + 5) 0; addend = get_or items (at + 6) 0 }) (subscript_at items at)
subscript_is items at e = ap (λ (n : code.Name). record { times = get_or items at 0; name = n; minus = get_or items (at + 5) 0; addend = get_or items (at + 6) 0 }) e

pub load_as : {names ws ws' : List ℕ} {n : Counts} {r : Option Counts} {x y : code.Name} → x ≡ y → EmitsLoad x names ws ws' n r → EmitsLoad y names ws ws' n r
load_as {names} {ws} {ws'} {n} {r} {x} {y} e h = subst (λ (w : code.Name). EmitsLoad w names ws ws' n r) e h

pub element_is : {items : List ℕ} {name : code.Name} {a b : Subscript} → name ≡ name_at items 1 → a ≡ subscript_at items 6 → b ≡ subscript_at items 13
    → ElementAt items (record { name = name; subscripts = record { count = get_or items 5 0; first = a; second = b } })
element_is {items} {name} {a} {b} n p q v s more e =
    let made : (w : code.Name) (x y : Subscript) → Element = λ w x y. record { name = w; subscripts = record { count = get_or items 5 0; first = x; second = y } } in
    let read : List ℕ → Element =
    λ l. record { name = name_at l 1; subscripts = record { count = get_or l 5 0; first = subscript_at l 6; second = subscript_at l 13 } } in
    ap (λ (w : code.Name). made w a b) n ∙ ap (λ (x : Subscript). made (name_at items 1) x b) p ∙ ap (λ (y : Subscript). made (name_at items 1) (subscript_at items 6) y) q ∙ ap read e

-- ---- which instruction it is

kind_is : {x : ℕ} (y k : ℕ) → x ≡ y % 2 ^ 32 → y ≡ k → k < 256 → x ≡ k
kind_is y k e q h = let s : y < 4294967296 = omega (arith, q, h) in e ∙ mod-eq_of_lt s ∙ q

module _ {items names constants elements ws ws' : List ℕ} {n : Counts} {r : Option Counts} where
  pub item_constant : {constants' : List ℕ} → get_or items 0 0 ≡ 1 → EmitsConstant (get_or items 1 0) constants ws constants' ws' n r → EmitsItem items names constants elements ws constants' elements ws' n r
  item_constant z f held (value c) more T l t e k = f c T elements t (ap (λ (x : List ℕ). get_or x 1 0) e) (each_head k.exact)
  item_constant z f held (plain v) more T l t e k = absurd (let q : get_or items 0 0 ≡ 2 = ap (λ (x : List ℕ). get_or x 0 0) e in omega (arith, q, z))
  item_constant z f held (place v s) more T l t e k = absurd (let q : get_or items 0 0 ≡ 4 = ap (λ (x : List ℕ). get_or x 0 0) e in omega (arith, q, z))
  item_constant z f held negate more T l t e k = absurd (let q : get_or items 0 0 ≡ 10 = ap (λ (x : List ℕ). get_or x 0 0) e in omega (arith, q, z))
  item_constant z f held (apply add) more T l t e k = absurd (let q : get_or items 0 0 ≡ 6 = ap (λ (x : List ℕ). get_or x 0 0) e in omega (arith, q, z))
  item_constant z f held (apply sub) more T l t e k = absurd (let q : get_or items 0 0 ≡ 7 = ap (λ (x : List ℕ). get_or x 0 0) e in omega (arith, q, z))
  item_constant z f held (apply mul) more T l t e k = absurd (let q : get_or items 0 0 ≡ 8 = ap (λ (x : List ℕ). get_or x 0 0) e in omega (arith, q, z))
  item_constant z f held (apply div) more T l t e k = absurd (let q : get_or items 0 0 ≡ 9 = ap (λ (x : List ℕ). get_or x 0 0) e in omega (arith, q, z))

  pub item_name : get_or items 0 0 ≡ 2 → EmitsLoad (name_at items 1) names ws ws' n r → EmitsItem items names constants elements ws constants elements ws' n r
  item_name z f held (value c) more T l t e k = absurd (let q : get_or items 0 0 ≡ 1 = ap (λ (x : List ℕ). get_or x 0 0) e in omega (arith, q, z))
  item_name z f held (plain v) more T l t e k = f held v T constants elements l t (ap (λ (x : List ℕ). name_at x 1) e) (each_head k.told) (each_head k.plains)
  item_name z f held (place v s) more T l t e k = absurd (let q : get_or items 0 0 ≡ 4 = ap (λ (x : List ℕ). get_or x 0 0) e in omega (arith, q, z))
  item_name z f held negate more T l t e k = absurd (let q : get_or items 0 0 ≡ 10 = ap (λ (x : List ℕ). get_or x 0 0) e in omega (arith, q, z))
  item_name z f held (apply add) more T l t e k = absurd (let q : get_or items 0 0 ≡ 6 = ap (λ (x : List ℕ). get_or x 0 0) e in omega (arith, q, z))
  item_name z f held (apply sub) more T l t e k = absurd (let q : get_or items 0 0 ≡ 7 = ap (λ (x : List ℕ). get_or x 0 0) e in omega (arith, q, z))
  item_name z f held (apply mul) more T l t e k = absurd (let q : get_or items 0 0 ≡ 8 = ap (λ (x : List ℕ). get_or x 0 0) e in omega (arith, q, z))
  item_name z f held (apply div) more T l t e k = absurd (let q : get_or items 0 0 ≡ 9 = ap (λ (x : List ℕ). get_or x 0 0) e in omega (arith, q, z))

  pub item_place : {elements' : List ℕ} {x : Element} → get_or items 0 0 ≡ 4 → ElementAt items x → EmitsRefer 4 x names elements ws elements' ws' n r
      → EmitsItem items names constants elements ws constants elements' ws' n r
  item_place z g f held (value c) more T l t e k = absurd (let q : get_or items 0 0 ≡ 1 = ap (λ (x : List ℕ). get_or x 0 0) e in omega (arith, q, z))
  item_place z g f held (plain v) more T l t e k = absurd (let q : get_or items 0 0 ≡ 2 = ap (λ (x : List ℕ). get_or x 0 0) e in omega (arith, q, z))
  item_place z g f held (place v s) more T l t e k =
      f held v s T constants (LDE (element_entry held (dims_held held) v s)) l t (g v s more e) k (record { number = refl; index = refl; adds = refl })
  item_place z g f held negate more T l t e k = absurd (let q : get_or items 0 0 ≡ 10 = ap (λ (x : List ℕ). get_or x 0 0) e in omega (arith, q, z))
  item_place z g f held (apply add) more T l t e k = absurd (let q : get_or items 0 0 ≡ 6 = ap (λ (x : List ℕ). get_or x 0 0) e in omega (arith, q, z))
  item_place z g f held (apply sub) more T l t e k = absurd (let q : get_or items 0 0 ≡ 7 = ap (λ (x : List ℕ). get_or x 0 0) e in omega (arith, q, z))
  item_place z g f held (apply mul) more T l t e k = absurd (let q : get_or items 0 0 ≡ 8 = ap (λ (x : List ℕ). get_or x 0 0) e in omega (arith, q, z))
  item_place z g f held (apply div) more T l t e k = absurd (let q : get_or items 0 0 ≡ 9 = ap (λ (x : List ℕ). get_or x 0 0) e in omega (arith, q, z))

  pub item_operation : {x : ℕ} → Fit n → (get_or items 0 0 ≡ 1 → ⊥) → (get_or items 0 0 ≡ 2 → ⊥) → (get_or items 0 0 ≡ 4 → ⊥) → x ≡ get_or items 0 0 % 2 ^ 32
      → Appends ws ws' n x 0 r → EmitsItem items names constants elements ws constants elements ws' n r
  item_operation f a b d w p held (value c) more T l t e k = absurd (a (ap (λ (x : List ℕ). get_or x 0 0) e))
  item_operation f a b d w p held (plain v) more T l t e k = absurd (b (ap (λ (x : List ℕ). get_or x 0 0) e))
  item_operation f a b d w p held (place v s) more T l t e k = absurd (d (ap (λ (x : List ℕ). get_or x 0 0) e))
  item_operation f a b d w p held negate more T l t e k = one (itself n) f p T NEG t (kind_is (get_or items 0 0) 10 w (ap (λ (x : List ℕ). get_or x 0 0) e) (omega arith)) refl (omega arith)
  item_operation f a b d w p held (apply add) more T l t e k = one (itself n) f p T (OP add) t (kind_is (get_or items 0 0) 6 w (ap (λ (x : List ℕ). get_or x 0 0) e) (omega arith)) refl (omega arith)
  item_operation f a b d w p held (apply sub) more T l t e k = one (itself n) f p T (OP sub) t (kind_is (get_or items 0 0) 7 w (ap (λ (x : List ℕ). get_or x 0 0) e) (omega arith)) refl (omega arith)
  item_operation f a b d w p held (apply mul) more T l t e k = one (itself n) f p T (OP mul) t (kind_is (get_or items 0 0) 8 w (ap (λ (x : List ℕ). get_or x 0 0) e) (omega arith)) refl (omega arith)
  item_operation f a b d w p held (apply div) more T l t e k = one (itself n) f p T (OP div) t (kind_is (get_or items 0 0) 9 w (ap (λ (x : List ℕ). get_or x 0 0) e) (omega arith)) refl (omega arith)
