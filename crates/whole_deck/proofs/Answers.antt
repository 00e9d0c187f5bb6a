-- Answers one after the other.
-- Assumes nothing.
use mathlib.Core.Path.{◌≡◌, sym, ap, ◌∙◌, subst}
use Prim.Native.Nat.{ℕ, suc}
use native.Mathlib.Omega.{arith}
use mathlib.Core.List.{List}
use mathlib.Core.Option.{Option, none, some}
use Rattle.std.specs.Prelude.{Result, Ok, Err}
use Rattle.std.specs.Result.{IsErrAnd}
use Rattle.rules_shared.specs.Refusals.{Refusal, or_else}
use Rattle.rules_deck.specs.Whole.{refused_at}
use Rattle.rules_deck.proofs.TestLaws.{not_refused}
use Rattle.read_cards.specs.declared.Number.{Number}
use Rattle.whole_tables.specs.Rows.{start_of}
use Rattle.whole_numbers.specs.declared.Resolved.{Resolved}
use Rattle.whole_numbers.specs.Numbers.{first_from, misplaced_end, number_right, jumps_known, Resolves}
use Rattle.whole_numbers.proofs.Resolving.{all_resolved}
use Rattle.whole_deck.specs.Parts.{numbers_refused, ByNumber}

-- an error is passed on as it is
pub passed_on : {A E : Type 0} (P : Result A E → Type 0) (r : E) (o : Result A E) → IsErrAnd o (λ e. e ≡ r) → P (Err r) → P o
passed_on P r (Ok x) e h = absurd e
passed_on P r (Err s) e h = subst (λ x. P (Err x)) (sym e) h

pub here : {o : Option Refusal} {x : Refusal} (p : Option Refusal) → some x ≡ o → or_else o p ≡ some x
here {o} {x} p e = ap (λ (o : Option Refusal). or_else o p) (sym e)

pub there : {o p r : Option Refusal} → none ≡ o → p ≡ r → or_else o p ≡ r
there {o} {p} {r} e h = ap (λ (o : Option Refusal). or_else o p) (sym e) ∙ h

pub by_number : (rows : List ℕ) (numbers : List Number) (count : ℕ) (jumps : List Number) (found : Resolved) → Resolves numbers count jumps (start_of rows count) found
    → none ≡ refused_at 20 (misplaced_end rows count) → none ≡ refused_at 21 (first_from (number_right rows numbers count) suc count 0) → none ≡ refused_at 22 (first_from (jumps_known rows numbers count jumps) suc count 0)
    → ByNumber rows numbers count jumps (Ok found.places)
unfolding numbers_refused
by_number rows numbers count jumps found s a b c = (
  there a (there b (sym c)),
  λ k h.
      let all = all_resolved rows numbers count jumps found s (not_refused 22 (first_from (jumps_known rows numbers count jumps) suc count 0) (sym c)) in
      s.done k (omega arith),
)
