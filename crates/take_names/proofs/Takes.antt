-- One name, and the names of one operand, taking their cells.
-- Assumes nothing.
use mathlib.Core.Path.{◌≡◌, sym, ap, ◌∙◌, subst}
use Prim.Native.Nat.{ℕ, ◌+◌, ◌*◌, ◌<◌}
use native.Mathlib.Omega.{arith}
use mathlib.Core.Bool.{Bool, false, cond}
use mathlib.Core.List.{List, [], ◌∷◌, ◌++◌}
use lib.ListN.{get_or, take}
use Rattle.rules_shared.specs.Lists.{Each, each_none, each_more}
use Rattle.rules_shared.proofs.EachLaws.{each_one, each_both}
use Rattle.rules_text.specs.Trees.{Name, Subscript, constant, linear, Subscripts, one, two, subscript_names, subscripts_names}
use Rattle.rules_deck.specs.Translation.{Held, name, appear}
use Rattle.read_tokens.specs.Words.{name_of, name_words, name_at}
use Rattle.read_tokens.specs.declared.Name as code
use Rattle.read_elements.specs.Values.{subscript_value, subscripts_value}
use Rattle.read_items.specs.Parsed.{Put}
use Rattle.take_draft.specs.Parts.{value, plain, place, negate, apply}
use Rattle.take_draft.specs.Names.{held_words, Told, Lists, names_fit}
use Rattle.std.specs.Prelude.{Option, Some, None}
use Rattle.take_name_table.specs.declared.counted.Extent.{Extent}
use Rattle.take_name_table.specs.Lookups.{Holds}
use Rattle.take_name_table.specs.Appears.{Appeared}
use Rattle.take_names.specs.Takes.{TakesName, TakesAny, TakesItem}
use Rattle.take_draft.proofs.NameWords.{first_word}
use Rattle.take_name_table.proofs.Fronts.{no_operand, kind_is}
use Rattle.take_name_table.proofs.Growth.{count_append, cells_append, lists_more, over_names, over_cells, over_appear, appear_append}

-- ---- one name

module _ (t : List ℕ) (n : Extent) (word : code.Name) (r : Bool) (h : Holds t n.names word false r) where
  -- it is held, or it comes at the end
  comes : (held : List Held) (v : Name) → Lists held t n.names n.cells → word ≡ name_of v → Told v → r ≡ false → held ++ (name v ∷ []) ≡ appear held (v ∷ [])
  comes held v l e tv p = ap (λ (b : Bool). cond b held (held ++ (name v ∷ []))) (sym p ∙ h.is held n.cells v l tv e)

  pub take_names : r ≡ false → n.names ≡ 100 → TakesName t t n word None
  take_names p fn held v l e tv =
      subst (λ (x : List Held). names_fit x ≡ false) (comes held v l e tv p)
      (over_names (held ++ (name v ∷ [])) (let a = l.names_are in let b = count_append held (name v ∷ []) in omega (arith, a, b, fn)))

  pub take_cells : r ≡ false → n.cells ≡ 4096 → TakesName t t n word None
  take_cells p fc held v l e tv =
      subst (λ (x : List Held). names_fit x ≡ false) (comes held v l e tv p)
      (over_cells (held ++ (name v ∷ [])) (let a = l.cells_are in let b = cells_append held (name v ∷ []) in omega (arith, a, b, fc)))

  pub take_new : (t' : List ℕ) → r ≡ false → Put t t' (7 * n.names) (name_words word ++ (n.cells ∷ 0 ∷ 0 ∷ [])) (7 * n.names + 7)
      → n.names < 100 → n.cells < 4096 → (held : List Held) (v : Name) → Lists held t n.names n.cells → word ≡ name_of v → Told v
      → Lists (appear held (v ∷ [])) t' (n.names + 1) (n.cells + 1)
  take_new t' p put fn fc held v l e tv =
      let seven : 7 * (n.names + 1) ≡ 7 * n.names + 7 = omega arith in
      let words : take (7 * (n.names + 1)) t' ≡ take (7 * n.names) t ++ held_words n.cells (name v ∷ []) =
      ap (λ (k : ℕ). take k t') seven ∙ put.table ∙ ap (λ (w : code.Name). take (7 * n.names) t ++ (name_words w ++ (n.cells ∷ 0 ∷ 0 ∷ []))) e in
      subst (λ (x : List Held). Lists x t' (n.names + 1) (n.cells + 1)) (comes held v l e tv p)
      (lists_more (name v ∷ []) l words (omega arith) (omega arith) (omega arith) (omega arith) (each_one tv) each_none)

pub none_word : (t : List ℕ) (n : Extent) (word : code.Name) → word.0 ≡ 0 → TakesAny t t n word (Some n)
none_word t n word z = record { is = λ held v l e tv. absurd (first_word v tv (ap (λ (x : code.Name). x.0) (sym e) ∙ z)); none = λ held l e. l }

pub some_name : (t t' : List ℕ) (n : Extent) (word : code.Name) (r : Option Extent) → (word.0 ≡ 0 → ⊥) → TakesName t t' n word r → TakesAny t t' n word r
some_name t t' n word r z h = record { is = h; none = λ held l e. absurd (z (ap (λ (x : code.Name). x.0) e)) }

pub name_as : (t t' : List ℕ) (n : Extent) {x y : code.Name} (r : Option Extent) → x ≡ y → TakesName t t' n x r → TakesName t t' n y r
name_as t t' n {x} {y} r e h = subst (λ (w : code.Name). TakesName t t' n w r) e h

pub any_as : {t t' : List ℕ} {n : Extent} {x y : code.Name} {r : Option Extent} → x ≡ y → TakesAny t t' n x r → TakesAny t t' n y r
any_as {t} {t'} {n} {x} {y} {r} e h = subst (λ (w : code.Name). TakesAny t t' n w r) e h

-- ---- a subscript's name

subscript_takes : {t t' : List ℕ} {n : Extent} {word : code.Name} {r : Option Extent} (x : Subscript) (held : List Held) → TakesAny t t' n word r
    → word ≡ (subscript_value x).name → Each Told (subscript_names x) → Lists held t n.names n.cells → Appeared (appear held (subscript_names x)) t' r
unfolding subscript_value
subscript_takes (constant c) held h e told l = h.none held l e
subscript_takes (linear m v a) held h e (each_more tv none) l = h.is held v l e tv

-- ---- one operand

module _ (items t : List ℕ) (n : Extent) where
  pub takes_plain : (t' : List ℕ) (r : Option Extent) → get_or items 0 0 ≡ 2 → TakesName t t' n (name_at items 1) r → TakesItem items t t' n r
  takes_plain t' r k h held (value c) more l e told = absurd (let z = kind_is (value c) more e 2 k in omega (arith, z))
  takes_plain t' r k h held (plain v) more l e (each_more tv none) = h held v l (ap (λ (x : List ℕ). name_at x 1) e) tv
  takes_plain t' r k h held (place v s) more l e told = absurd (let z = kind_is (place v s) more e 2 k in omega (arith, z))
  takes_plain t' r k h held negate more l e told = absurd (let z = kind_is negate more e 2 k in omega (arith, z))
  takes_plain t' r k h held (apply o) more l e told = absurd (no_operand o more 2 (omega arith) (kind_is (apply o) more e 2 k))

  -- what an element's subscripts take
  abbrev Subscribed : List ℕ → Option Extent → Type 0
  Subscribed t' r =
      (held : List Held) (s : Subscripts) → Lists held t n.names n.cells → name_at items 7 ≡ (subscripts_value s).first.name → name_at items 14 ≡ (subscripts_value s).second.name
      → Each Told (subscripts_names s) → Appeared (appear held (subscripts_names s)) t' r

  -- is all that it takes
  takes_place : (t' : List ℕ) (r : Option Extent) → get_or items 0 0 ≡ 4 → Subscribed t' r → TakesItem items t t' n r
  takes_place t' r k f held (value c) more l e told = absurd (let z = kind_is (value c) more e 4 k in omega (arith, z))
  takes_place t' r k f held (plain v) more l e told = absurd (let z = kind_is (plain v) more e 4 k in omega (arith, z))
  takes_place t' r k f held (place v s) more l e (each_more tv told) = f held s l (ap (λ (x : List ℕ). name_at x 7) e) (ap (λ (x : List ℕ). name_at x 14) e) told
  takes_place t' r k f held negate more l e told = absurd (let z = kind_is negate more e 4 k in omega (arith, z))
  takes_place t' r k f held (apply o) more l e told = absurd (no_operand o more 4 (omega arith) (kind_is (apply o) more e 4 k))

  pub takes_full : (t' : List ℕ) (r : Option Extent) → get_or items 0 0 ≡ 4 → TakesAny t t' n (name_at items 7) None → r ≡ None → TakesItem items t t' n r
  unfolding subscripts_value
  takes_full t' r k h e = takes_place t' r k (subst (λ (x : Option Extent). Subscribed t' x) (sym e) full)
    where
      full : Subscribed t' None
      full held (one x) l e₁ e₂ told = subscript_takes x held h e₁ told l
      full held (two x y) l e₁ e₂ told =
          subst (λ (z : List Held). names_fit z ≡ false) (sym (appear_append (subscript_names x) (subscript_names y) held))
          (over_appear (subscript_names y) (appear held (subscript_names x)) (subscript_takes x held h e₁ (each_both (subscript_names x) told).0 l))

  pub takes_both : (t₁ t₂ : List ℕ) (m : Extent) (r : Option Extent) → get_or items 0 0 ≡ 4 → TakesAny t t₁ n (name_at items 7) (Some m)
      → TakesAny t₁ t₂ m (name_at items 14) r → TakesItem items t t₂ n r
  unfolding subscripts_value
  takes_both t₁ t₂ m r k h g = takes_place t₂ r k both
    where
      both : Subscribed t₂ r
      both held (one x) l e₁ e₂ told = g.none (appear held (subscript_names x)) (subscript_takes x held h e₁ told l) e₂
      both held (two x y) l e₁ e₂ told =
          let halves = each_both (subscript_names x) told in
          subst (λ (z : List Held). Appeared z t₂ r) (sym (appear_append (subscript_names x) (subscript_names y) held))
          (subscript_takes y (appear held (subscript_names x)) g e₂ halves.1 (subscript_takes x held h e₁ halves.0 l))
