-- What the reader gave, judged by 11 to 14 and planned.
-- Assumes nothing.
use mathlib.Core.Path.{◌≡◌, refl, sym, ap, ◌∙◌, subst}
use Prim.Native.Nat.{ℕ, ◌≤◌}
use native.Mathlib.Omega.{arith}
use mathlib.Core.Bool.{Bool, true, false}
use mathlib.Core.Option.{Option, some}
use mathlib.Core.List.{List}
use lib.Dec.{leb}
use lib.ListN.{length, take}
use borrow.Author.Tests.{le-leb}
use Rattle.std.specs.Prelude.{Result, Ok, Err, ⊤}
use Rattle.refusals.specs.declared.Reason.{Reason}
use Rattle.refusals.specs.declared.Reason.TheVariants.{Name, Constant, Number, Parentheses}
use Rattle.refusals.specs.Numbers.{number_of}
use Rattle.take_kinds.specs.declared.Kind.{Kind}
use Rattle.take_kinds.specs.declared.Kind.TheVariants as kind
use Rattle.rules_shared.specs.House.{house1401}
use Rattle.rules_shared.specs.Refusals.{or_else}
use Rattle.rules_text.specs.Trees.{Form}
use Rattle.rules_text.specs.Cards.{right_digits}
use Rattle.rules_deck.specs.Judge.{Taken, wrong, right11, right12, right13, right14, judge_form}
use Rattle.rules_text.proofs.Shapes.{shaped}
use Rattle.read_items.specs.Parsed.{Put}
use Rattle.read_forms.specs.declared.Statement.{Statement}
use Rattle.take_draft.specs.declared.Counts.{Counts}
use Rattle.take_draft.specs.Parts.{items_words, form_first}
use Rattle.take_draft.specs.Kept.{Words}
use Rattle.take_draft.specs.Draft.{Draft}
use Rattle.take_limits.specs.Tests.{lowest, of_statement, exits_in}
use Rattle.take_limits.proofs.Book.{of_form, exits_fit}
use Rattle.take_plans.specs.declared.Plan.{Plan}
use Rattle.take_plans.specs.Plans.{Planned, Plans, words_first, first_words}
use Rattle.take_plans.proofs.Room.{target_room}
use Rattle.take_plans.proofs.Forms.{first_form, plans_of}
use Rattle.take_statement.specs.Taking.{Reading, Ready, Comes}
use Rattle.take_planned.specs.Judged.{Judged}
use Rattle.take_parts.specs.Steps.{Passed}
use Rattle.take_planned.specs.Planned.{Planning, ComesPlanned}

-- ---- 11 to 14

first_lowest : (a b c d : Bool) (e : Reason) (other : Option ℕ) → lowest a b c d ≡ Err e
    → or_else (wrong a 11) (or_else (wrong b 12) (or_else (wrong c 13) (or_else (wrong d 14) other))) ≡ some (number_of e)
first_lowest false b c d e other q = let x : Name ≡ e = cc in ap (λ (r : Reason). some (number_of r)) x
first_lowest true false c d e other q = let x : Constant ≡ e = cc in ap (λ (r : Reason). some (number_of r)) x
first_lowest true true false d e other q = let x : Number ≡ e = cc in ap (λ (r : Reason). some (number_of r)) x
first_lowest true true true false e other q = let x : Parentheses ≡ e = cc in ap (λ (r : Reason). some (number_of r)) x
first_lowest true true true true e other q = absurd cc

pub record AllRight (a b c d : Bool) : Type 0 where
  pub first : a ≡ true
  pub second : b ≡ true
  pub third : c ≡ true
  pub fourth : d ≡ true

all_right : (a b c d : Bool) (u : ⊤) → lowest a b c d ≡ Ok u → AllRight a b c d
all_right true true true true u e = record { first = refl; second = refl; third = refl; fourth = refl }
all_right true true true false u e = absurd cc
all_right true true false d u e = absurd cc
all_right true false c d u e = absurd cc
all_right false b c d u e = absurd cc

module _ {s : Statement} {items : List ℕ} (R : Reading s items) where
  pub exits_in_lem : exits_in s ≤ length items
  exits_in_lem = subst (λ (x : Statement). exits_in x ≤ length items) (sym R.says) (exits_fit R.form items R.table)

  lowest_is : (k : ℕ) → of_statement k items s ≡ lowest (right11 (house1401 k) R.form) (right12 (house1401 k) R.form) (right13 (house1401 k) R.form) (right14 R.form)
  lowest_is k = ap (of_statement k items) R.says ∙ of_form k R.form items R.table

  pub refused_low : (k q : ℕ) (e : Reason) (t : Taken) → of_statement k items s ≡ Err e → judge_form (house1401 k) q R.form t ≡ some (number_of e)
  unfolding judge_form
  refused_low k q e t h = first_lowest (right11 (house1401 k) R.form) (right12 (house1401 k) R.form) (right13 (house1401 k) R.form) (right14 R.form) e _ (sym (lowest_is k) ∙ h)

  pub passed_of : (k : ℕ) {u : ⊤} → 1 ≤ k → k ≤ 9 → of_statement k items s ≡ Ok u → Passed k R.form
  unfolding right_digits
  passed_of k {u} a b e =
      let w = all_right (right11 (house1401 k) R.form) (right12 (house1401 k) R.form) (right13 (house1401 k) R.form) (right14 R.form) u (sym (lowest_is k) ∙ e) in
      record {
        text = R.text;
        read = R.read;
        digits = let x : leb 1 k ≡ true = le-leb 1 k a in let y : leb k 9 ≡ true = le-leb k 9 b in rw (x, y);
        right_11 = w.first;
        right_12 = w.second;
        right_13 = w.third;
        right_14 = w.fourth;
      }

  pub plans_in : {after : List ℕ} {p : Plan} → 15 ≤ length items → length after ≡ length items → Planned s items after p → Plans R.form after p
  plans_in {after} {p} six long h =
      plans_of items after p six long R.form (shaped R.text R.form R.read) R.table (subst (λ (x : Statement). Planned x items after p) R.says h)

-- ---- what stands first

pub first_room : (p : Plan) → length (first_words p) ≤ 20
unfolding first_words
first_room p = go p.kind
  where
    go : (k : Kind) → length (words_first k p.target) ≤ 20
    go kind.Assignment = target_room p.target
    go kind.Computed = target_room p.target
    go kind.Do = target_room p.target
    go _ = omega arith

pub first_in_lem : {f : Form} {p : Plan} {items a b : List ℕ} {top : ℕ} → Plans f items p → Put a b 0 (first_words p) top → take top b ≡ items_words (form_first f)
first_in_lem {f} h q = q.table ∙ ap first_words h.plan ∙ first_form f

-- ---- outcomes

pub comes_low : (number k q : ℕ) (e : Reason) {s : Statement} {items : List ℕ} {D : Draft} (lent : Words) → of_statement k items s ≡ Err e
    → Comes s number k items q D lent (Err e)
unfolding Judged
comes_low number k q e lent h R t M fr = refused_low R k q e t h

pub comes_planned : (number k q : ℕ) {s : Statement} {items after a b : List ℕ} {p : Plan} {top : ℕ} {D : Draft} (lent : Words) (r : Result Counts Reason) {u : ⊤}
    → 1 ≤ k → k ≤ 9 → of_statement k items s ≡ Ok u → 15 ≤ length items → length after ≡ length items → Planned s items after p → Put a b 0 (first_words p) top
    → ComesPlanned p number (take top b) after q D lent r
    → Comes s number k items q D lent r
comes_planned number k q₀ lent r x y e six long h q c R t M fr =
    let pl = plans_in R six long h in
    c k R.form t pl (first_in_lem pl q) (passed_of R k x y e) M fr

pub planning : {s : Statement} {number k : ℕ} {items after a b : List ℕ} {p : Plan} {top : ℕ} {lent : Words} {n : Counts} {u : ⊤}
    → Ready s number k items lent n → of_statement k items s ≡ Ok u → length after ≡ length items → Planned s items after p
    → Put a b 0 (first_words p) top → Planning p (take top b) after lent n
planning {k = k} h e long pl q =
    let R = h.reading in
    let plans = plans_in R (omega (arith, h.items_long)) long pl in
    record {
      readied = record { form = R.form; plans = plans; first_are = first_in_lem plans q };
      digits = k;
      passed = passed_of R k h.digits_some h.digits_few e;
      room = h.room;
      fit = h.fit;
      few = h.statements_few;
      draft = h.draft;
      kept = h.kept;
      fresh = h.fresh;
    }
