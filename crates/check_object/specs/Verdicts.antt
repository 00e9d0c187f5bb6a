-- The code's verdict as the book says it.
-- Assumes nothing.
use Rattle.std.specs.Prelude.{◌≡◌, ℕ, List, take, Result, Ok, Err}
use Rattle.refusals.specs.Answers.{refusal_of}
use Rattle.refusals.specs.declared.Refusal.{Refusal}
use Rattle.rules_object.specs.Object as book
use Rattle.rules_object.specs.Check.{right41}
use Rattle.rules_shared.specs.Refusals.{or_else, unless}
use Rattle.rules_object.specs.Calls.{refused42, refused43, Checked, refused, passed, judged}
use Rattle.object_contents.specs.declared.placed.Object.{Object}
use Rattle.object_contents.specs.Book.{book_of}

-- 41 to 44
unfoldable pub judged_all : book.Object → Checked
judged_all o = judged o (or_else (unless (right41 o) 41) (or_else (refused42 o) (refused43 o)))

-- passed, the heights being the table's first entries; or refused
abbrev pub checked_of : Result Object Refusal → List ℕ → Checked
checked_of (Ok o) table = passed (book_of o) (take o.layout.code_count table)
checked_of (Err r) table = refused (refusal_of r)

-- what the book does not say: the object is of these bytes
abbrev pub Of : List ℕ → Result Object Refusal → Type 0
Of s (Ok o) = o.bytes.now ≡ s
Of s (Err r) = Unit {0}

pub record Says (r : Result Object Refusal) (s table : List ℕ) (c : Checked) : Type 0 where
  pub is : checked_of r table ≡ c
  pub of_bytes : Of s r

-- 42 to 44, of an object that passed 40 and 41
abbrev pub told : Result (Unit {0}) Refusal → Object → List ℕ → Checked
told (Ok u) o table = passed (book_of o) (take o.layout.code_count table)
told (Err r) o table = refused (refusal_of r)

pub record Judges (r : Result (Unit {0}) Refusal) (o : Object) (table : List ℕ) : Type 0 where
  pub is : told r o table ≡ judged_all (book_of o)
