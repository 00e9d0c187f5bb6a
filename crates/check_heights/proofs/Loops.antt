-- What the two loops keep, and what they end with.
-- Assumes nothing.
use mathlib.Core.Path.{◌≡◌, ap, ◌∙◌, subst}
use mathlib.Core.Bool.{true, false}
use mathlib.Core.List.{List}
use mathlib.Core.Option.{some}
use Prim.Native.Nat.{ℕ, ◌+◌, ◌-◌, ◌≤◌, ◌<◌}
use native.Mathlib.Omega.{arith}
use lib.ListN.{length, take, set}
use Rattle.std.specs.Prelude.{Some, None}
use Rattle.rules_object.specs.Flow.{Flow, PathsAgree}
use Rattle.rules_object.specs.Heights.{heights, waiting}
use Rattle.rules_object.specs.Filling.{nevers, Filling, Went}
use Rattle.rules_object.proofs.Fills.{disagree_none, nevers_set, start, ends}
use Rattle.rules_object.proofs.OneTable.{least_is, no_table_is}
use Rattle.check_heights.specs.Judged.{Fresh, answered}
use Rattle.check_heights.specs.Walk.{Visited}
use Rattle.check_meeting.specs.Meeting.{Goes}

-- ---- a meeting and a visit, by their answer

pub went : (F : Flow) (H W : List ℕ) (sum v a k top : ℕ) → Goes F H W sum v a k (Some top) → Went F H W sum v a k top
unfolding Goes
went F H W sum v a k top g = g

pub blocked : (F : Flow) (H W : List ℕ) (sum v a k : ℕ) → Goes F H W sum v a k None → PathsAgree F → ⊥
unfolding Goes
blocked F H W sum v a k g = g

pub visited : (F : Flow) (H W : List ℕ) (sum top : ℕ) → Visited F H W sum (Some top) → Filling F H W top × (nevers H + top ≡ sum)
unfolding Visited
visited F H W sum top g = g

pub stuck : (F : Flow) (H W : List ℕ) (sum : ℕ) → Visited F H W sum None → PathsAgree F → ⊥
unfolding Visited
stuck F H W sum g = g

-- ---- the loop over what waits

pub record Round (F : Flow) (H W : List ℕ) (top : ℕ) : Type 0 where
  pub filling : Filling F H W top
  pub few : nevers H + top ≤ 4096

pub first_round : (F : Flow) (H W : List ℕ) → Fresh H → 0 < F.n → F.n ≤ 4096 → waiting W 0 ≡ 0 → length W ≡ 4096 → Round F (set H 0 0) W 1
first_round F H W f begins fits first-waits long =
    let z = f.long in
    let c = f.blank.count in
    record {
      filling = start F H W f.blank begins (omega arith) (omega arith) first-waits;
      few = omega (arith, nevers_set H 0 0 (omega arith) (f.blank.all 0 (omega arith)) (omega arith));
    }

pub last_one : (F : Flow) (H W : List ℕ) (top : ℕ) → 0 < top → Filling F H W top → Filling F H W (top - 1 + 1)
last_one F H W top l f = let e : top ≡ top - 1 + 1 = omega arith in subst (λ (x : ℕ). Filling F H W x) e f

-- nothing waits
pub filled : (F : Flow) (n : ℕ) (H W : List ℕ) (top : ℕ) → F.n ≡ n → top ≤ 0 → Filling F H W top → heights F ≡ answered n H true
unfolding answered
filled F n H W top e l f =
    let z : top ≡ 0 = omega arith in
    least_is F H (ends (subst (λ (x : ℕ). Filling F H W x) z f)) ∙ ap (λ (m : ℕ). some (take m H)) e

pub not_filled : (F : Flow) (n : ℕ) (H : List ℕ) → (PathsAgree F → ⊥) → heights F ≡ answered n H false
unfolding answered
not_filled F n H d = no_table_is F (disagree_none F d)
