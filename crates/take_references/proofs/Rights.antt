-- 16 of one operand, and of operands one after the other.
-- Assumes nothing.
use mathlib.Core.Path.{◌≡◌, refl, sym, ap, ◌∙◌, subst}
use Prim.Native.Nat.{ℕ, zero, suc, ◌+◌, ◌*◌, ◌≤◌, ◌<◌}
use native.Mathlib.Omega.{arith}
use mathlib.Core.Bool.{Bool, true, false, ◌&&◌, not, cond, beq}
use mathlib.Core.List.{List, ◌∷◌, ◌++◌}
use lib.Dec.{eqb, leb, ltb}
use lib.ListN.{length, get_or, drop, length-drop}
use borrow.Author.Tests.{ne_eqb, le-leb, le-ltb, lt-ltb}
use Rattle.rules_shared.specs.Lists.{all, Each, each_more}
use Rattle.rules_shared.proofs.EachLaws.{each_both}
use Rattle.rules_text.specs.Trees.{Name, Subscript, constant, linear, Subscripts, one, two, subscript_names, subscripts_names}
use Rattle.rules_deck.specs.Translation.{Held, is_array, holds}
use Rattle.rules_deck.specs.Judge.{right_count, right_reference}
use Rattle.read_tokens.specs.Words.{name_of, name_at}
use Rattle.read_tokens.specs.declared.Name as code
use Rattle.read_elements.specs.Values.{subscript_value, subscripts_value}
use Rattle.take_draft.specs.Parts.{Item, value, plain, place, negate, apply, item_words, items_words, item_names, items_names, item_plain, items_plain, item_references, items_references, right_items, Worded}
use Rattle.take_draft.specs.Names.{dims_held, Told, Lists}
use Rattle.take_name_table.specs.Find.{first_entry, item_length}
use Rattle.take_name_table.specs.Lookups.{Holds}
use Rattle.take_references.specs.Rights.{right_words, right_item, RightPlace, RightItem, References}
use Rattle.take_name_table.proofs.Tests.{and_true, and_false, all_both}
use Rattle.take_name_table.proofs.Looks.{array_spot, reference_none, reference_count}
use Rattle.take_name_table.proofs.Fronts.{front, none_left, step_on, kind_is, no_operand}

-- ---- tests of lists

abbrev pub bare : List Held → Name → Bool
bare held v = not (holds (is_array v) held)

swap : (a b c d : Bool) → (a && b) && (c && d) ≡ (a && c) && (b && d)
swap true true c d = refl
swap true false true d = refl
swap true false false d = refl
swap false b c d = refl

-- ---- subscripts counted

pub counted_as : (c d : ℕ) → beq (eqb c 1) (eqb d 0) ≡ right_words c d
counted_as c d = go (eqb c 1) d
  where
    go : (b : Bool) (d : ℕ) → beq b (eqb d 0) ≡ cond b (eqb d 0) (leb 1 d)
    go true zero = refl
    go true (suc d) = rw (ne_eqb (suc d) 0 (λ z. omega (arith, z))) refl
    go false zero = refl
    go false (suc d) = rw (ne_eqb (suc d) 0 (λ z. omega (arith, z)), le-leb 1 (suc d) (omega arith)) refl

-- ---- an element

pub holds_as : {t : List ℕ} {n : ℕ} {x y : code.Name} {k r : Bool} → x ≡ y → Holds t n x k r → Holds t n y k r
holds_as {t} {n} {x} {y} {k} {r} e h = subst (λ (w : code.Name). Holds t n w k r) e h

pub first_as : (t : List ℕ) (n i : ℕ) {x y : code.Name} → x ≡ y → i ≡ first_entry true x n t → i ≡ first_entry true y n t
first_as t n i e h = h ∙ ap (λ (w : code.Name). first_entry true w n t) e

module _ {held : List Held} {t : List ℕ} {n cells : ℕ} (l : Lists held t n cells) where
  count_as : (s : Subscripts) (d : ℕ) (x : Name) → d ≡ (dims_held held x).columns → right_words (subscripts_value s).count d ≡ right_count (dims_held held x) s
  unfolding subscripts_value
  count_as (one s) d x e = ap (λ (y : ℕ). eqb y 0) e
  count_as (two s u) d x e = ap (λ (y : ℕ). leb 1 y) e

  pub reference_no : (v : Name) (s : Subscripts) (i : ℕ) → Told v → i ≡ first_entry true (name_of v) n t → n ≤ i → right_reference held (record { name = v; subscripts = s }) ≡ false
  reference_no v s i tv e h =
      reference_none held (record { name = v; subscripts = s }) (sym (array_spot l v tv).test ∙ ap (λ (j : ℕ). ltb j n) (sym e) ∙ le-ltb i n h)

  pub reference_is : (v : Name) (s : Subscripts) (i : ℕ) → Told v → i ≡ first_entry true (name_of v) n t → i < n
      → right_reference held (record { name = v; subscripts = s }) ≡ right_words (subscripts_value s).count (get_or t (7 * i + 6) 0)
  reference_is v s i tv e h =
      let sp = array_spot l v tv in
      let here : holds (is_array v) held ≡ true = sym sp.test ∙ ap (λ (j : ℕ). ltb j n) (sym e) ∙ lt-ltb i n h in
      let columns : get_or t (7 * i + 6) 0 ≡ (dims_held held v).columns = ap (λ (j : ℕ). get_or t (7 * j + 6) 0) e ∙ sp.columns_are here in
      reference_count held (record { name = v; subscripts = s }) here ∙ sym (count_as s (get_or t (7 * i + 6) 0) v columns)

  subscript_is : (x : Subscript) (word : code.Name) (r : Bool) → word ≡ (subscript_value x).name → Holds t n word true r → Each Told (subscript_names x)
      → not r ≡ all (bare held) (subscript_names x)
  unfolding subscript_value
  subscript_is (constant c) word r e h a = ap not (h.none held cells l e)
  subscript_is (linear m v a) word r e h (each_more tv none) = ap not (h.is held cells v l tv e) ∙ sym (and_true (not (holds (is_array v) held)) true refl)

  pub subscripts_are : (s : Subscripts) (w₁ w₂ : code.Name) (r₁ r₂ : Bool) → w₁ ≡ (subscripts_value s).first.name → w₂ ≡ (subscripts_value s).second.name
      → Holds t n w₁ true r₁ → Holds t n w₂ true r₂ → Each Told (subscripts_names s) → all (bare held) (subscripts_names s) ≡ not r₁ && not r₂
  unfolding subscripts_value
  subscripts_are (one x) w₁ w₂ r₁ r₂ e₁ e₂ h₁ h₂ a =
      sym (subscript_is x w₁ r₁ e₁ h₁ a) ∙ sym (and_true (not r₁) true refl) ∙ ap (λ (b : Bool). not r₁ && not b) (sym (h₂.none held cells l e₂))
  subscripts_are (two x y) w₁ w₂ r₁ r₂ e₁ e₂ h₁ h₂ a =
      let told = each_both (subscript_names x) a in
      all_both (bare held) (subscript_names x) (subscript_names y) ∙ ap (λ (b : Bool). b && all (bare held) (subscript_names y)) (sym (subscript_is x w₁ r₁ e₁ h₁ told.0))
      ∙ ap (λ (b : Bool). not r₁ && b) (sym (subscript_is y w₂ r₂ e₂ h₂ told.1))

  pub subscripts_first : (s : Subscripts) (w₁ : code.Name) (r₁ : Bool) → w₁ ≡ (subscripts_value s).first.name → Holds t n w₁ true r₁ → Each Told (subscripts_names s) → r₁ ≡ true
      → all (bare held) (subscripts_names s) ≡ false
  unfolding subscripts_value
  subscripts_first (one x) w₁ r₁ e₁ h₁ a p = sym (subscript_is x w₁ r₁ e₁ h₁ a) ∙ ap not p
  subscripts_first (two x y) w₁ r₁ e₁ h₁ a p =
      all_both (bare held) (subscript_names x) (subscript_names y)
      ∙ ap (λ (b : Bool). b && all (bare held) (subscript_names y)) (sym (subscript_is x w₁ r₁ e₁ h₁ (each_both (subscript_names x) a).0) ∙ ap not p)

module _ (items t : List ℕ) (n i : ℕ) (is : i ≡ first_entry true (name_at items 1) n t) where
  named : (v : Name) (s : Subscripts) (more : List ℕ) → items ≡ item_words (place v s) ++ more → i ≡ first_entry true (name_of v) n t
  named v s more e = is ∙ ap (λ (x : List ℕ). first_entry true (name_at x 1) n t) e

  counted : (v : Name) (s : Subscripts) (more : List ℕ) → items ≡ item_words (place v s) ++ more → (c : ℕ) → right_words (get_or items 5 0) c ≡ right_words (subscripts_value s).count c
  counted v s more e c = ap (λ (x : List ℕ). right_words (get_or x 5 0) c) e

  pub place_none : i ≡ n → RightPlace items t n false
  place_none h held cells v s more l e (each_more tv ts) =
      sym (ap (λ (b : Bool). (b && true) && all (bare held) (subscripts_names s)) (reference_no l v s i tv (named v s more e) (omega (arith, h))))

  pub place_count : i < n → right_words (get_or items 5 0) (get_or t (7 * i + 6) 0) ≡ false → RightPlace items t n false
  place_count h w held cells v s more l e (each_more tv ts) =
      sym (ap (λ (b : Bool). (b && true) && all (bare held) (subscripts_names s))
      (reference_is l v s i tv (named v s more e) h ∙ sym (counted v s more e (get_or t (7 * i + 6) 0)) ∙ w))

  pub place_first : (r₁ : Bool) → Holds t n (name_at items 7) true r₁ → r₁ ≡ true → RightPlace items t n false
  place_first r₁ h₁ p held cells v s more l e (each_more tv ts) =
      let q = subscripts_first l s (name_at items 7) r₁ (ap (λ (x : List ℕ). name_at x 7) e) h₁ ts p in
      sym (ap (λ (b : Bool). (right_reference held (record { name = v; subscripts = s }) && true) && b) q ∙ and_false (right_reference held (record { name = v; subscripts = s }) && true) false refl)

  pub place_last : i < n → right_words (get_or items 5 0) (get_or t (7 * i + 6) 0) ≡ true → (r₁ r₂ : Bool) → Holds t n (name_at items 7) true r₁ → r₁ ≡ false
      → Holds t n (name_at items 14) true r₂ → RightPlace items t n (not r₂)
  place_last h w r₁ r₂ h₁ p h₂ held cells v s more l e (each_more tv ts) =
      let right = reference_is l v s i tv (named v s more e) h ∙ sym (counted v s more e (get_or t (7 * i + 6) 0)) ∙ w in
      let q = subscripts_are l s (name_at items 7) (name_at items 14) r₁ r₂ (ap (λ (x : List ℕ). name_at x 7) e) (ap (λ (x : List ℕ). name_at x 14) e) h₁ h₂ ts in
      sym (ap (λ (b : Bool). (b && true) && all (bare held) (subscripts_names s)) right ∙ q ∙ ap (λ (b : Bool). not b && not r₂) p)

-- ---- any item, by its first word

module _ (items t : List ℕ) (n : ℕ) where
  pub right_element_lem : (r : Bool) → get_or items 0 0 ≡ 4 → RightPlace items t n r → RightItem items t n r
  right_element_lem r k h held cells (value c) more l e told = absurd (let z = kind_is (value c) more e 4 k in omega (arith, z))
  right_element_lem r k h held cells (plain v) more l e told = absurd (let z = kind_is (plain v) more e 4 k in omega (arith, z))
  right_element_lem r k h held cells (place v s) more l e told = h held cells v s more l e told
  right_element_lem r k h held cells negate more l e told = absurd (let z = kind_is negate more e 4 k in omega (arith, z))
  right_element_lem r k h held cells (apply o) more l e told = absurd (no_operand o more 4 (omega arith) (kind_is (apply o) more e 4 k))

-- ---- operands one after the other

right_more : (held : List Held) (i : Item) (is : List Item) → right_items held (i ∷ is) ≡ right_item held i && right_items held is
right_more held i is =
    ap (λ (b : Bool). b && all (bare held) (item_plain i ++ items_plain is)) (all_both (right_reference held) (item_references i) (items_references is))
    ∙ ap (λ (b : Bool). (all (right_reference held) (item_references i) && all (right_reference held) (items_references is)) && b) (all_both (bare held) (item_plain i) (items_plain is))
    ∙ swap (all (right_reference held) (item_references i)) (all (right_reference held) (items_references is)) (all (bare held) (item_plain i)) (all (bare held) (items_plain is))

-- the items that are left at a place, on which the answer hangs
pub record Left (held : List Held) (items : List ℕ) (at : ℕ) (is : List Item) : Type 0 where
  pub left : List Item
  pub are : drop at items ≡ items_words left
  pub told : Each Told (items_names left)
  pub same : right_items held is ≡ right_items held left

pub record Passing (items t : List ℕ) (n at : ℕ) : Type 0 where
  pub within : at ≤ length items
  pub worded : Worded (drop at items)
  pub part : (held : List Held) (cells : ℕ) (is : List Item) → Lists held t n cells → items ≡ items_words is → Each Told (items_names is) → Left held items at is

module _ (items t : List ℕ) (n : ℕ) where
  pub passing_start : Worded items → Passing items t n 0
  passing_start w = record { within = omega arith; worded = w; part = λ held cells is l e told. record { left = is; are = e; told = told; same = refl } }

  pub passing_no : (at : ℕ) (r : Bool) → Passing items t n at → at < length items → RightItem (drop at items) t n r → r ≡ false → References items t n false
  passing_no at r p l h e held cells is ls w told =
      let q = p.part held cells is ls w told in
      let f = front (drop at items) q.left q.are (let d = length-drop at items in omega (arith, d, l)) in
      let told_all = subst (λ (x : List Item). Each Told (items_names x)) f.both q.told in
      let right = h held cells f.first (items_words f.rest) ls f.are (each_both (item_names f.first) told_all).0 in
      sym (q.same ∙ ap (right_items held) f.both ∙ right_more held f.first f.rest ∙ ap (λ (b : Bool). b && right_items held f.rest) (sym right ∙ e))

  pub passing_on : (at : ℕ) (r : Bool) → Passing items t n at → at < length items → RightItem (drop at items) t n r → r ≡ true → at + item_length (get_or items at 0) ≤ length items
      → Worded (drop (at + item_length (get_or items at 0)) items) → Passing items t n (at + item_length (get_or items at 0))
  passing_on at r p l h e within worded =
      record {
        within = within;
        worded = worded;
        part = λ held cells is ls w told.
            let q = p.part held cells is ls w told in
            let f = front (drop at items) q.left q.are (let d = length-drop at items in omega (arith, d, l)) in
            let told_all = subst (λ (x : List Item). Each Told (items_names x)) f.both q.told in
            let halves = each_both (item_names f.first) told_all in
            let right = h held cells f.first (items_words f.rest) ls f.are halves.0 in
            record {
              left = f.rest;
              are = step_on items at q.left l f;
              told = halves.1;
              same = q.same ∙ ap (right_items held) f.both ∙ right_more held f.first f.rest ∙ ap (λ (b : Bool). b && right_items held f.rest) (sym right ∙ e);
            };
      }

  pub passing_end : (at : ℕ) → Passing items t n at → length items ≤ at → References items t n true
  passing_end at p l held cells is ls w told =
      let q = p.part held cells is ls w told in
      let none = none_left (drop at items) q.left q.are (let d = length-drop at items in omega (arith, d, l)) in
      sym (q.same ∙ ap (right_items held) none)
