-- Some bytes have one verdict. The table is left free where there is none, and past the code's count.
-- Assumes nothing.
use mathlib.Core.Path.{◌≡◌, sym, ap, ◌∙◌, subst}
use mathlib.Core.List.{List}
use mathlib.Core.Option.{some}
use Prim.Native.Nat.{ℕ}
use lib.ListN.{take}
use Rattle.std.specs.Prelude.{Result, Ok, Err}
use Rattle.number.specs.Number as number
use Rattle.number.specs.declared.Rule.{Rule}
use Rattle.number.specs.Code.{ruled}
use Rattle.refusals.specs.Answers.{refusal_of}
use Rattle.refusals.specs.declared.Refusal.{Refusal}
use Rattle.refusals.proofs.OneReason.{one_refusal}
use Rattle.rules_object.specs.Calls.{checked}
use Rattle.rules_object.specs.Object.{rule_of}
use Rattle.rules_object.proofs.Passed.{check_passed}
use Rattle.object_contents.specs.declared.placed.Object.{Object}
use Rattle.object_contents.specs.Layout.{object_at, Placed}
use Rattle.object_contents.specs.Book.{book_of}
use Rattle.object_contents.specs.Opened.{OpenedAt}
use Rattle.object_contents.proofs.OneLayout.{one_layout}
use Rattle.check_object.specs.Verdicts.{checked_of, Says}

-- the same refusal, or the same bytes, places and rule
abbrev pub Same : Result Object Refusal → Result Object Refusal → Type 0
Same (Ok o) (Ok p) = (o.bytes.now ≡ p.bytes.now) × ((o.layout ≡ p.layout) × (o.rule ≡ p.rule))
Same (Ok o) (Err q) = ⊥
Same (Err r) (Ok p) = ⊥
Same (Err r) (Err q) = r ≡ q

opened : (s t : List ℕ) (o : Object) → o.bytes.now ≡ s → checked_of (Ok o) t ≡ checked s → OpenedAt s o.layout
opened s t o b e =
    record {
      is = (check_passed s (book_of o) (take o.layout.code_count t) (sym e)).reads ∙ ap (λ x. some (object_at o.layout x)) b;
      placed = subst (Placed o.layout) b o.placed;
    }

abbrev rule_with : ℕ → Rule
rule_with n = record { ceiling = n }

one_rule : (k l : Rule) → ruled k ≡ ruled l → k ≡ l
one_rule k l h = ap rule_with (ap (λ (x : number.Rule). x.ceiling) h)

pub unique : {s t u : List ℕ} (v w : Result Object Refusal) → Says v s t (checked s) → Says w s u (checked s) → Same v w
unique {s} {t} {u} (Ok o) (Ok p) a b =
    let l : o.layout ≡ p.layout = one_layout s o.layout p.layout (opened s t o a.of_bytes a.is) (opened s u p b.of_bytes b.is) in
    (a.of_bytes ∙ sym b.of_bytes, (l, one_rule o.rule p.rule (o.ruled ∙ ap (λ e. rule_of (object_at e o.bytes.now)) l ∙ ap (λ x. rule_of (object_at p.layout x)) (a.of_bytes ∙ sym b.of_bytes) ∙ sym p.ruled)))
unique (Ok o) (Err q) a b = let e = a.is ∙ sym b.is in cc
unique (Err r) (Ok p) a b = let e = a.is ∙ sym b.is in cc
unique (Err r) (Err q) a b = let e = a.is ∙ sym b.is in let f : refusal_of r ≡ refusal_of q = cc in one_refusal r q f
