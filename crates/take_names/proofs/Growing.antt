-- Operands one after the other, whose names take their cells.
-- Assumes nothing.
use mathlib.Core.Path.{◌≡◌, refl, sym, ap, ◌∙◌, subst}
use Prim.Native.Nat.{ℕ, ◌+◌, ◌-◌, ◌≤◌, ◌<◌}
use native.Mathlib.Omega.{arith}
use mathlib.Core.Bool.{false}
use mathlib.Core.List.{List}
use lib.ListN.{length, get_or, take, drop, length-drop}
use Rattle.rules_shared.specs.Lists.{Each}
use Rattle.rules_shared.proofs.EachLaws.{each_both}
use Rattle.rules_deck.specs.Translation.{Held, appear}
use Rattle.take_draft.specs.Parts.{Item, items_words, item_names, items_names, item_plain, items_plain, Worded}
use Rattle.take_draft.specs.Names.{Told, Lists, names_fit}
use Rattle.std.specs.Prelude.{Option, Some, None}
use Rattle.take_name_table.specs.declared.counted.Extent.{Extent}
use Rattle.take_name_table.specs.Find.{item_length}
use Rattle.take_name_table.specs.Appears.{Appeared}
use Rattle.take_names.specs.Takes.{TakesItem, Appears}
use Rattle.take_name_table.proofs.Fronts.{front, none_left, Ahead, step_on, lent}
use Rattle.take_name_table.proofs.Growth.{over_appear, appear_append}

-- the items that are left at a place, and what is held there
pub record Rest (held : List Held) (items t : List ℕ) (at n cells : ℕ) (is : List Item) : Type 0 where
  pub left : List Item
  pub are : drop at items ≡ items_words left
  pub told : Each Told (items_names left)
  pub grown : List Held
  pub lists : Lists grown t n cells
  pub same : appear held (items_plain is) ≡ appear grown (items_plain left)

pub record Taking (items t₀ : List ℕ) (n₀ : Extent) (t : List ℕ) (at : ℕ) (n : Extent) : Type 0 where
  pub within : at ≤ length items
  pub worded : Worded (drop at items)
  pub part : (held : List Held) (is : List Item) → Lists held t₀ n₀.names n₀.cells → items ≡ items_words is → Each Told (items_names is)
      → Rest held items t at n.names n.cells is

module _ (items t₀ : List ℕ) (n₀ : Extent) where
  pub taking_start : Worded items → Taking items t₀ n₀ t₀ 0 n₀
  taking_start w = record { within = omega arith; worded = w; part = λ held is l e told. record { left = is; are = e; told = told; grown = held; lists = l; same = refl } }

  module _ {t : List ℕ} {at : ℕ} {n : Extent} (p : Taking items t₀ n₀ t at n) (l : at < length items) where
    -- of the words from here on, as they are lent
    pub taking_full : (t' : List ℕ) (r : Option Extent) → TakesItem (take (length items - at) (drop at items)) t t' n None → r ≡ None → Appears items t₀ t' n₀ r
    taking_full t' r g e held is ls w told =
        let h : TakesItem (drop at items) t t' n None = subst (λ (x : List ℕ). TakesItem x t t' n None) (lent items at) g in
        let q = p.part held is ls w told in
        let f = front (drop at items) q.left q.are (let d = length-drop at items in omega (arith, d, l)) in
        let halves = each_both (item_names f.first) (subst (λ (x : List Item). Each Told (items_names x)) f.both q.told) in
        let over = h q.grown f.first (items_words f.rest) q.lists f.are halves.0 in
        let same = q.same ∙ ap (λ (x : List Item). appear q.grown (items_plain x)) f.both ∙ appear_append (item_plain f.first) (items_plain f.rest) q.grown in
        subst (λ (x : Option Extent). Appeared (appear held (items_plain is)) t' x) (sym e)
        (subst (λ (x : List Held). names_fit x ≡ false) (sym same) (over_appear (items_plain f.rest) (appear q.grown (item_plain f.first)) over))

    pub taking_on : (t' : List ℕ) (m : Extent) {k : ℕ} → TakesItem (take (length items - at) (drop at items)) t t' n (Some m)
        → k ≡ item_length (get_or items at 0) → Ahead items at → Taking items t₀ n₀ t' (at + k) m
    taking_on t' m {k} g ek ah =
        let h : TakesItem (drop at items) t t' n (Some m) = subst (λ (x : List ℕ). TakesItem x t t' n (Some m)) (lent items at) g in
        subst (λ (j : ℕ). Taking items t₀ n₀ t' (at + j) m) (sym ek)
        (record {
          within = ah.within;
          worded = ah.worded;
          part = λ held is ls w told.
              let q = p.part held is ls w told in
              let f = front (drop at items) q.left q.are (let d = length-drop at items in omega (arith, d, l)) in
              let halves = each_both (item_names f.first) (subst (λ (x : List Item). Each Told (items_names x)) f.both q.told) in
              record {
                left = f.rest;
                are = step_on items at q.left l f;
                told = halves.1;
                grown = appear q.grown (item_plain f.first);
                lists = h q.grown f.first (items_words f.rest) q.lists f.are halves.0;
                same = q.same ∙ ap (λ (x : List Item). appear q.grown (items_plain x)) f.both ∙ appear_append (item_plain f.first) (items_plain f.rest) q.grown;
              };
        })

  pub taking_end : {t : List ℕ} {at : ℕ} {n : Extent} → Taking items t₀ n₀ t at n → length items ≤ at → Appears items t₀ t n₀ (Some n)
  taking_end {t} {at} {n} p l held is ls w told =
      let q = p.part held is ls w told in
      let none = none_left (drop at items) q.left q.are (let d = length-drop at items in omega (arith, d, l)) in
      subst (λ (x : List Held). Lists x t n.names n.cells) (sym (q.same ∙ ap (λ (x : List Item). appear q.grown (items_plain x)) none)) q.lists
