-- A planned statement that is taken.
-- Assumes nothing.
use mathlib.Core.Path.{◌≡◌, sym, ◌∙◌}
use Prim.Native.Nat.{ℕ, ◌-◌, ◌<◌}
use native.Mathlib.Numerals.{add-one}
use mathlib.Core.Bool.{Bool, true}
use mathlib.Core.List.{List}
use Rattle.take_draft.specs.declared.Counts.{Counts}
use Rattle.take_draft.specs.Draft.{Draft}
use Rattle.take_draft.specs.Kept.{Words, Fit, Kept}
use Rattle.std.specs.Prelude.{Option, Some}
use Rattle.std.specs.Prelude.{Ok}
use Rattle.take_plans.specs.declared.Plan.{Plan}
use Rattle.take_plan_names.specs.Naming.{RightArrays, RightOperands}
use Rattle.take_planned.specs.Judged.{Judged}
use Rattle.take_parts.specs.Steps.{Onward, Fills, Counted, Enters, Marked}
use Rattle.take_planned.specs.Planned.{ComesPlanned}
use Rattle.take_planned.proofs.Judging.{judged_none}
use Rattle.take_planned.proofs.Counting.{after}
use Rattle.take_planned.proofs.Keeping.{fits_18}
use Rattle.take_planned.proofs.Assembly.{fit_after, kept_after, r_statements}
use Rattle.take_planned.proofs.Outcomes.{Given, is_15, is_16, as_15, as_16, filled_of, entered_of}

module _ {p : Plan} {number : ℕ} {first items : List ℕ} {lent lent' : Words} {n m l r : Counts}
    {a b : Bool} {u : Option Counts} {v : Option Counts} {words : ℕ} where
  pub is_taken : RightArrays p items lent.names n.names a → a ≡ true → RightOperands p first items lent.names n.names b → b ≡ true
      → Onward p n u → Fills p first items lent.names lent.constants lent.elements lent.code lent'.names lent'.constants lent'.elements lent'.code n u → u ≡ Some m
      → Counted p m v → Enters p lent'.names lent.dos lent.loops lent'.dos lent'.loops m v → v ≡ Some l
      → words ≡ m.code - n.code → Marked p number words items lent.rows lent.jumps lent'.rows lent'.jumps l r → Fit n → n.statements < 400
      → (D : Draft) → Kept D lent n
      → ComesPlanned p number first items n.statements D lent' (Ok r)
  unfolding Judged
  is_taken ra ea rb eb o fills eu c enters ev w marks fit few D kept k f t pl fa pa M fr =
      let g : Given p first items lent n k f D = record { plans = pl; first_are = fa; passed = pa; kept = kept; fresh = fr } in
      let filled = filled_of g ra ea rb eb fills in
      let entered = entered_of g ra ea rb eb filled eu (o.statements m eu) enters in
      let s = after f pl.plan c ev in
      let x₁ = o.dos m eu in
      let x₂ = o.jumps m eu in
      let x₃ = o.statements m eu in
      record {
        right = judged_none n.statements t pa (as_15 g M (sym (is_15 g ra) ∙ ea)) (as_16 g M (sym (is_16 g rb) ∙ eb)) (fits_18 kept f number M filled eu x₁ s (c.fit l ev));
        kept = kept_after kept f number pl k pa.right_13 x₁ x₂ x₃ s lent' marks eu filled w ev entered;
        fit = fit_after kept f number pl k pa.right_13 x₁ x₂ x₃ s lent' marks eu filled M (c.fit l ev) fit few;
        counted = r_statements kept f number pl k pa.right_13 x₁ x₂ x₃ s lent' marks ∙ add-one n.statements;
      }
