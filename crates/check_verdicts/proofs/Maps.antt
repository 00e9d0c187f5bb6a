-- The map by the check's verdict.
-- Assumes nothing.
use mathlib.Core.Path.{◌≡◌, sym, ap, ◌∙◌}
use mathlib.Core.List.{List}
use Prim.Native.Nat.{ℕ, ◌≤◌}
use native.Mathlib.Omega.{arith}
use Rattle.std.specs.Prelude.{Result, Ok, Err}
use Rattle.std.specs.Result.{IsErrAnd}
use Rattle.rules_shared.specs.Refusals.{refusal}
use Rattle.refusals.specs.Answers.{refusal_of}
use Rattle.refusals.specs.declared.Refusal as own
use Rattle.rules_object.specs.Calls.{Checked, refused, checked, map_of, map_checked, mapping}
use Rattle.object_contents.specs.declared.placed.Object.{Object}
use Rattle.object_contents.specs.Book.{book_of}
use Rattle.object_contents.proofs.Entries.{name_length}
use Rattle.rules_object.proofs.Limited.{limited}
use Rattle.check_object.proofs.Tells.{Accepted, says_accepted, says_refused}
use Rattle.check_object.specs.Verdicts.{Says}
use Rattle.check_verdicts.specs.declared.Refusal.{Refusal}
use Rattle.check_verdicts.specs.declared.Written.{Written}
use Rattle.check_verdicts.specs.Outcomes.{told, told_written, Checks, Writes, Maps}

pub map_refused : (s output : List ℕ) (r : own.Refusal) → checked s ≡ refused (refusal_of r) → Maps s output output (told_written (Err r))
unfolding mapping
map_refused s output r h = record { is = ap (λ (c : Checked). map_checked c output) h }

pub map_accepted : (s table output output' : List ℕ) (o : Object) (r : Written) → Accepted s table o → Writes (map_of (book_of o)) output output' r → Maps s output output' r
unfolding mapping
map_accepted s table output output' o r h w = record { is = ap (λ (c : Checked). map_checked c output) h.is ∙ w.is }

pub few_names : (s table : List ℕ) (o : Object) → Accepted s table o → o.layout.name_count ≤ 100
few_names s table o h = omega (arith, (limited (book_of o) o.placed.edition h.passes.right).names, name_length o.layout o.bytes.now)

-- a verdict as C has it
pub check_told : (s table : List ℕ) (v : Result Object own.Refusal) (r : Refusal) → Says v s table (checked s) → r ≡ told v → Checks s r
check_told s table (Ok o) r h q = record { is = says_accepted s table o h ∙ ap (λ (c : Refusal). refusal c.number c.place c.kind) (sym q) }
check_told s table (Err e) r h q = record { is = says_refused s table e h ∙ ap (λ (c : Refusal). refusal c.number c.place c.kind) (sym q) }

-- a refusal that `?` hands on
pub passed_on : {s output output' : List ℕ} (r : Result ℕ own.Refusal) (P : own.Refusal → Type 0) → IsErrAnd r P
    → ((e : own.Refusal) → P e → Maps s output output' (told_written (Err e))) → Maps s output output' (told_written r)
passed_on (Err e) P h f = f e h
passed_on (Ok n) P h f = absurd h
