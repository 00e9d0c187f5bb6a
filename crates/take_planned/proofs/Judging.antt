-- 15, 16 and 18 of a form that 11 to 14 do not refuse.
-- Assumes nothing.
use mathlib.Core.Path.{◌≡◌}
use mathlib.Core.Bool.{true, false}
use mathlib.Core.Option.{none, some}
use Prim.Native.Nat.{ℕ}
use mathlib.Core.List.{List}
use Rattle.rules_shared.specs.House.{house1401}
use Rattle.rules_shared.specs.Lists.{Each}
use Rattle.rules_text.specs.Trees.{Form, form_names}
use Rattle.rules_deck.specs.Translation.{Held}
use Rattle.rules_deck.specs.Judge.{Taken, takes, right15, right16, right18, judge_form}
use Rattle.rules_deck.proofs.Houses.{lawful1401}
use Rattle.take_draft.specs.Names.{Told}
use Rattle.take_draft.proofs.ReadForm.{read_told}
use Rattle.take_draft.proofs.Knowing.{brings_first, brings_items}
use Rattle.take_parts.specs.Steps.{Passed, Right}

pub told_of : {k : ℕ} {f : Form} → Passed k f → Each Told (form_names f)
told_of {k} {f} h = read_told (lawful1401 k) h.text f h.read h.right_11

pub right_of : {k : ℕ} {f : Form} (q : ℕ) (held : List Held) → Passed k f → right15 (house1401 k) held f ≡ true → right16 held f ≡ true → Right k q f held
right_of {k} {f} q held h a b =
    record {
      told = told_of h;
      right_13 = h.right_13;
      right_15 = a;
      known_first = brings_first (lawful1401 k) h.text f held h.read h.digits h.right_11 h.right_12 b q;
      known_items = brings_items (lawful1401 k) h.text f held h.read h.digits h.right_11 h.right_12 b q;
    }

module _ {k : ℕ} {f : Form} (q : ℕ) (t : Taken) (h : Passed k f) where
  pub judged_15 : right15 (house1401 k) t.held f ≡ false → judge_form (house1401 k) q f t ≡ some 15
  unfolding judge_form
  judged_15 a = rw (h.right_11, h.right_12, h.right_13, h.right_14, a)

  pub judged_16 : right15 (house1401 k) t.held f ≡ true → right16 t.held f ≡ false → judge_form (house1401 k) q f t ≡ some 16
  unfolding judge_form
  judged_16 a b = rw (h.right_11, h.right_12, h.right_13, h.right_14, a, b)

  pub judged_18 : right15 (house1401 k) t.held f ≡ true → right16 t.held f ≡ true → right18 (takes q f t) ≡ false → judge_form (house1401 k) q f t ≡ some 18
  unfolding judge_form
  judged_18 a b c = rw (h.right_11, h.right_12, h.right_13, h.right_14, a, b, c)

  pub judged_none : right15 (house1401 k) t.held f ≡ true → right16 t.held f ≡ true → right18 (takes q f t) ≡ true → judge_form (house1401 k) q f t ≡ none
  unfolding judge_form
  judged_none a b c = rw (h.right_11, h.right_12, h.right_13, h.right_14, a, b, c)
