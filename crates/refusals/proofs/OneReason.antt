-- A number is that of one reason, and a refusal of the book that of one of the code's.
-- Assumes nothing.
use mathlib.Core.Path.{◌≡◌, refl, sym, ap, ◌∙◌}
use mathlib.Core.List.{List, [], ◌∷◌}
use Prim.Native.Nat.{ℕ}
use lib.ListN.{get_or}
use Rattle.rules_shared.specs.Refusals as book
use Rattle.refusals.specs.declared.Reason.{Reason}
use Rattle.refusals.specs.declared.Reason.TheVariants.{Digits, DeckLength, Character, NumberColumns, Continuation, Empty, Statements, Form, Name, Constant, Number, Parentheses, Dimension, Element, Table, End, DefinedTwice, Undefined, Range, Jump, Variable, Room, Contents, Limits, Entry, Instruction, Heights, StoreLength, StoreNumber, State}
use Rattle.refusals.specs.declared.Refusal.{Refusal}
use Rattle.refusals.specs.Numbers.{number_of}
use Rattle.refusals.specs.Answers.{refusal_of}

-- the reasons by their numbers; Digits where there is none
abbrev reasons : List Reason
reasons =
    Digits ∷ Digits ∷ DeckLength ∷ Character ∷ NumberColumns ∷ Continuation ∷ Empty ∷ Statements ∷ Digits ∷ Digits ∷ Form ∷ Name ∷ Constant ∷ Number ∷ Parentheses ∷ Dimension ∷ Element ∷ Digits ∷ Table ∷ Digits ∷ End ∷ DefinedTwice ∷ Undefined ∷ Range ∷ Jump ∷ Variable ∷ Digits
    ∷ Digits ∷ Digits ∷ Digits ∷ Room ∷ Digits ∷ Digits ∷ Digits ∷ Digits ∷ Digits ∷ Digits ∷ Digits ∷ Digits ∷ Digits ∷ Contents ∷ Limits ∷ Entry ∷ Instruction ∷ Heights ∷ Digits ∷ Digits ∷ Digits ∷ Digits ∷ Digits ∷ StoreLength ∷ StoreNumber ∷ State ∷ []

abbrev reason_at : ℕ → Reason
reason_at n = get_or reasons n Digits

back : (r : Reason) → reason_at (number_of r) ≡ r
back Digits = refl
back DeckLength = refl
back Character = refl
back NumberColumns = refl
back Continuation = refl
back Empty = refl
back Statements = refl
back Form = refl
back Name = refl
back Constant = refl
back Number = refl
back Parentheses = refl
back Dimension = refl
back Element = refl
back Table = refl
back End = refl
back DefinedTwice = refl
back Undefined = refl
back Range = refl
back Jump = refl
back Variable = refl
back Room = refl
back Contents = refl
back Limits = refl
back Entry = refl
back Instruction = refl
back Heights = refl
back StoreLength = refl
back StoreNumber = refl
back State = refl

pub one_reason : (a b : Reason) → number_of a ≡ number_of b → a ≡ b
one_reason a b h = sym (back a) ∙ ap reason_at h ∙ back b

abbrev made : Reason → ℕ → ℕ → Refusal
made r p k = record { reason = r; place = p; kind = k }

pub one_refusal : (r q : Refusal) → refusal_of r ≡ refusal_of q → r ≡ q
one_refusal r q h =
    ap (λ (x : Reason). made x r.place r.kind) (one_reason r.reason q.reason (ap (λ (x : book.Refusal). x.number) h))
    ∙ ap (λ (n : ℕ). made q.reason n r.kind) (ap (λ (x : book.Refusal). x.place) h)
    ∙ ap (made q.reason q.place) (ap (λ (x : book.Refusal). x.kind) h)
