-- For each input the contract of a call leaves one outcome: the answer, and all that was lent.
-- Assumes nothing.
use mathlib.Core.Path.{◌≡◌, sym, ap, ◌∙◌}
use mathlib.Core.List.{List}
use Prim.Native.Nat.{ℕ}
use lib.IntN.{ℤ}
use Rattle.rules_object.specs.Calls as book
use Rattle.rules_shared.specs.Refusals as refusals
use Rattle.rules_shared.specs.Output as output
use Rattle.check_verdicts.specs.declared.Refusal.{Refusal}
use Rattle.check_verdicts.specs.declared.Written.{Written}
use Rattle.check_verdicts.specs.Outcomes.{Checks, Maps}
use Rattle.run_object.specs.declared.Ran.{Ran}
use Rattle.run_object.specs.Outcomes.{Ends}
use Rattle.calls.specs.Outcomes.{Compiles}

pub check_unique : {s : List ℕ} {r q : Refusal} → Checks s r → Checks s q → r ≡ q
check_unique a b = ap (λ (x : refusals.Refusal). record { number = x.number; place = x.place; kind = x.kind }) (sym a.is ∙ b.is)

pub map_unique : {s o o₁ o₂ : List ℕ} {r q : Written} → Maps s o o₁ r → Maps s o o₂ q → (r ≡ q) × (o₁ ≡ o₂)
map_unique a b =
    let e = sym a.is ∙ b.is in (
      ap (λ (x : output.Written). record { number = x.refusal.number; place = x.refusal.place; kind = x.refusal.kind; length = x.length }) e,
      ap (λ (x : output.Written). x.output) e,
    )

pub compile_unique : {k : ℕ} {s o o₁ o₂ : List ℕ} {r q : Written} → Compiles k s o o₁ r → Compiles k s o o₂ q → (r ≡ q) × (o₁ ≡ o₂)
compile_unique a b =
    let e = sym a.is ∙ b.is in (
      ap (λ (x : output.Written). record { number = x.refusal.number; place = x.refusal.place; kind = x.refusal.kind; length = x.length }) e,
      ap (λ (x : output.Written). x.output) e,
    )

-- run, with `running` for the outcome that is asked, and bench, with `benching`
pub run_unique : {all : book.Ran} {r q : Ran} {l m : book.Lent} {c d : List ℤ} {ls ms : List ℕ} → Ends all r l c ls → Ends all q m d ms → (r ≡ q) × ((l ≡ m) × ((c ≡ d) × (ls ≡ ms)))
run_unique a b =
    let e = sym a.is ∙ b.is in (
      ap (λ (x : book.Ran). record { number = x.refusal.number; place = x.refusal.place; kind = x.refusal.kind; halt = x.halt; steps = x.steps; sequence = x.sequence; cards = x.cards_taken; lines = x.lines_written }) e,
      (ap (λ (x : book.Ran). x.lent) e, (ap (λ (x : book.Ran). x.store) e, ap (λ (x : book.Ran). x.lines) e)),
    )
