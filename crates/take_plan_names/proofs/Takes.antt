-- What a statement brings, after its plain names.
-- Assumes nothing.
use mathlib.Core.Path.{◌≡◌, refl, sym, ap, ◌∙◌, subst}
use Prim.Native.Nat.{ℕ, ◌*◌}
use mathlib.Core.Bool.{true, false}
use mathlib.Core.List.{List, [], ◌∷◌, ◌++◌, map, append-nil}
use lib.ListN.{take}
use Rattle.rules_shared.specs.House.{house1401}
use Rattle.rules_shared.specs.Lists.{Each}
use Rattle.rules_text.specs.Trees.{Array, array_names, Form, assign, go_to, computed, ifs, loop, continue, stop, end, dimension, form_names}
use Rattle.rules_deck.specs.Deck.{declare, arrays_in}
use Rattle.rules_deck.specs.Translation.{Held, array, hidden, appear, form_plain, hidden_in, brings}
use Rattle.rules_deck.specs.Judge.{right_arrays, right15}
use Rattle.read_forms.specs.Statements.{all_words}
use Rattle.take_draft.specs.Parts.{items_words, form_first, form_items}
use Rattle.take_draft.specs.Names.{Lists, Told}
use Rattle.take_draft.proofs.FormLaws.{form_plain_both}
use Rattle.std.specs.Prelude.{Option, Some, None}
use Rattle.take_kinds.specs.declared.Kind.TheVariants.{Do, Dimension}
use Rattle.take_name_table.specs.declared.counted.Extent.{Extent}
use Rattle.take_name_table.specs.Appears.{Appeared}
use Rattle.take_name_table.proofs.Growth.{over_more}
use Rattle.take_arrays.specs.Arrays.{Declares}
use Rattle.take_cells.specs.Operands.{TakesBoth, Hides}
use Rattle.take_plans.specs.declared.Plan.{Plan}
use Rattle.take_plans.specs.Plans.{form_plan, listed_words, Plans}
use Rattle.take_plans.proofs.ByKind.{at_do, at_dimension}
use Rattle.take_plan_names.specs.Naming.{TakesCells}
use Rattle.take_plan_names.proofs.Operands.{kind_of_lem, arrays_in_lem, told_first, told_items}

abbrev more : ℕ → Form → List Held
more q f = hidden_in q f ++ map (λ a. array (declare a)) (arrays_in f)

abbrev AsDo : List ℕ → List Held → ℕ → Option Extent → Form → Type 0
AsDo b held q r f = Appeared (appear held (form_plain f) ++ (hidden q ∷ [])) b r → Appeared (brings q f held) b r

abbrev AsArrays : ℕ → List ℕ → Extent → List Held → List ℕ → Option Extent → ℕ → List ℕ → Form → Type 0
AsArrays digits b m held words r q c f =
    ((arrays : List Array) → Lists held b m.names m.cells → words ≡ all_words arrays → Each Told (array_names arrays) → right_arrays false held arrays ≡ true
    → Appeared (held ++ map (λ a. array (declare a)) arrays) c r)
    → Lists (appear held (form_plain f)) b m.names m.cells → words ≡ listed_words f → Each Told (form_names f) → right15 (house1401 digits) held f ≡ true → Appeared (brings q f held) c r

as_arrays : (digits : ℕ) (b : List ℕ) (m : Extent) (held : List Held) (words : List ℕ) (r : Option Extent) (q : ℕ) (c : List ℕ) (f : Form)
    → (form_plan f).kind ≡ Dimension → AsArrays digits b m held words r q c f
unfolding right15 listed_words form_names form_plain
as_arrays digits b m held words r q c = at_dimension (AsArrays digits b m held words r q c) (λ arrays g l w t z. g arrays l w t z)

nothing_more : (q : ℕ) (f : Form) → ((form_plan f).kind ≡ Do → ⊥) → ((form_plan f).kind ≡ Dimension → ⊥) → more q f ≡ []
unfolding form_plan
nothing_more q (assign t e) i j = refl
nothing_more q (go_to n) i j = refl
nothing_more q (computed ns v) i j = refl
nothing_more q (ifs e a b c) i j = refl
nothing_more q (loop n v p₁ p₂ p₃) i j = absurd (i refl)
nothing_more q continue i j = refl
nothing_more q stop i j = refl
nothing_more q end i j = refl
nothing_more q (dimension arrays) i j = absurd (j refl)

module _ (p : Plan) (first items a b : List ℕ) (n : Extent) where
  -- the plain names have their cells
  plains : (r : Option Extent) → TakesBoth first (take p.count items) a b n r → (f : Form) (held : List Held) → Plans f items p
      → first ≡ items_words (form_first f) → Lists held a n.names n.cells → Each Told (form_names f) → Appeared (appear held (form_plain f)) b r
  plains r h f held s e l t =
      subst (λ (x : List Held). Appeared x b r) (ap (appear held) (sym (form_plain_both f)))
      (h held (form_first f) (form_items f) l e (s.operands) (told_first f t) (told_items f t))

  pub plains_full : (r : Option Extent) → TakesBoth first (take p.count items) a b n None → r ≡ None → TakesCells p first items a b n r
  plains_full r h e digits f held q s u l t z =
      subst (λ (x : Option Extent). Appeared (brings q f held) b x) (sym e) (over_more (appear held (form_plain f)) (more q f) (plains None h f held s u l t))

  module _ (m : Extent) (h : TakesBoth first (take p.count items) a b n (Some m)) where
    pub then_hidden : (r : Option Extent) → p.kind ≡ Do → Hides m r → TakesCells p first items a b n r
    then_hidden r k w digits f held q s u l t z =
        at_do (AsDo b held q r) (λ m i j o w' g. g) f (kind_of_lem s ∙ k) (w (appear held (form_plain f)) b q (plains (Some m) h f held s u l t))

    pub then_arrays : (c : List ℕ) (r : Option Extent) → p.kind ≡ Dimension → Declares (take (7 * p.listed) items) b c m r → TakesCells p first items a c n r
    then_arrays c r k d digits f held q s u l t z =
        as_arrays digits b m held (take (7 * p.listed) items) r q c f (kind_of_lem s ∙ k) (λ arrays. d held arrays) (plains (Some m) h f held s u l t)
        (arrays_in_lem items p f (kind_of_lem s ∙ k) s) t z

    pub then_no_more : (p.kind ≡ Do → ⊥) → (p.kind ≡ Dimension → ⊥) → TakesCells p first items a b n (Some m)
    then_no_more i j digits f held q s u l t z =
        subst (λ (w : List Held). Lists w b m.names m.cells)
        (sym (append-nil (appear held (form_plain f))) ∙ ap (λ (w : List Held). appear held (form_plain f) ++ w) (sym (nothing_more q f (λ k. i (sym (kind_of_lem s) ∙ k)) (λ k. j (sym (kind_of_lem s) ∙ k)))))
        (plains (Some m) h f held s u l t)
