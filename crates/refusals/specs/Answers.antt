-- What code answers, as the book has it: a value or none, a refusal or none.
-- Assumes nothing.
use Rattle.std.specs.Prelude.{Option, Some, None, Result, Ok, Err}
use Rattle.std.proofs.Math.Option as book
use Rattle.rules_shared.specs.Refusals.{refusal}
use Rattle.rules_shared.specs.Refusals as book_refusals
use Rattle.refusals.specs.declared.Refusal.{Refusal}
use Rattle.refusals.specs.Numbers.{number_of}

abbrev pub maybe : {A B : Type 0} → (A → B) → Option A → book.Option B
maybe f (Some a) = book.some (f a)
maybe f None = book.none

abbrev pub refusal_of : Refusal → book_refusals.Refusal
refusal_of r = refusal (number_of r.reason) r.place r.kind

-- the refusal, if it is one
abbrev pub refused : {A : Type 0} → Result A Refusal → book.Option book_refusals.Refusal
refused (Ok a) = book.none
refused (Err r) = book.some (refusal_of r)
