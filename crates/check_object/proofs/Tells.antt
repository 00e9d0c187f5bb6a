-- What a verdict tells who asked for it: the refusal, or an object that passed and its heights.
-- Assumes nothing.
use mathlib.Core.Path.{◌≡◌, sym, ap}
use mathlib.Core.List.{List}
use Prim.Native.Nat.{ℕ}
use lib.ListN.{take}
use Rattle.std.specs.Prelude.{Ok, Err}
use Rattle.refusals.specs.Answers.{refusal_of}
use Rattle.refusals.specs.declared.Refusal.{Refusal}
use Rattle.rules_object.specs.Calls.{refused, passed, checked, verdict, checking}
use Rattle.rules_object.specs.Passed.{Passed}
use Rattle.rules_object.proofs.Passed.{check_passed}
use Rattle.rules_shared.specs.Refusals.{accepted}
use Rattle.object_contents.specs.declared.placed.Object.{Object}
use Rattle.object_contents.specs.Book.{book_of}
use Rattle.check_object.specs.Verdicts.{Says}

pub record Accepted (s table : List ℕ) (o : Object) : Type 0 where
  pub is : checked s ≡ passed (book_of o) (take o.layout.code_count table)
  pub passes : Passed s (book_of o) (take o.layout.code_count table)

module _ (s table : List ℕ) where
  pub if_refused : (r : Refusal) → Says (Err r) s table (checked s) → checked s ≡ refused (refusal_of r)
  if_refused r h = sym h.is

  pub if_accepted : (o : Object) → Says (Ok o) s table (checked s) → Accepted s table o
  if_accepted o h = record { is = sym h.is; passes = check_passed s _ _ (sym h.is) }

  pub says_refused : (r : Refusal) → Says (Err r) s table (checked s) → checking s ≡ refusal_of r
  unfolding checking
  says_refused r h = ap verdict (sym h.is)

  pub says_accepted : (o : Object) → Says (Ok o) s table (checked s) → checking s ≡ accepted
  unfolding checking
  says_accepted o h = ap verdict (sym h.is)
