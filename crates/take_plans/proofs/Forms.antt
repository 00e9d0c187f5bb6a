-- The plan of a form that was read, and its words in the table.
-- Assumes nothing.
use mathlib.Core.Path.{◌≡◌, refl, sym, ap, ◌∙◌}
use mathlib.Core.List.{List, ◌++◌, map, append-nil}
use mathlib.Core.Option.{Option, none, some}
use Prim.Native.Nat.{ℕ, ◌≤◌}
use native.Mathlib.Omega.{arith}
use lib.ListN.{length, take, length-take, length-append}
use Rattle.rules_text.specs.Trees.{Expr, Form, assign, go_to, computed, ifs, loop, continue, stop, end, dimension}
use Rattle.rules_deck.specs.Meaning.{third}
use Rattle.rules_text.specs.Shaped.{IsParameter, OptionalParameter, Shaped}
use Rattle.read_tokens.specs.Words.{capped}
use Rattle.read_items.specs.Items.{target_words, flat}
use Rattle.read_forms.specs.declared.Parameter.{Parameter}
use Rattle.read_forms.specs.Statements.{all_words, form_words, parameter_value, statement_of}
use Rattle.take_draft.specs.Parts.{items_of, item_words, items_words, parameter_words, target_item, form_first}
use Rattle.take_draft.proofs.FormParts.{words_append, flat_items}
use Rattle.take_draft.proofs.FormLaws.{target_words_lem, parameter_words_lem}
use Rattle.take_plans.specs.declared.Plan.{Plan}
use Rattle.take_plans.proofs.Room.{parameter_room}
use Rattle.take_plans.specs.Plans.{three_words, plan_of, Laid, Planned, form_plan, listed_words, Plans, first_words}

pub first_form : (f : Form) → first_words (form_plan f) ≡ items_words (form_first f)
unfolding first_words form_plan target_words
first_form (assign t e) = target_words_lem t ∙ sym (append-nil (item_words (target_item t)))
first_form (go_to n) = refl
first_form (computed ns v) = refl
first_form (ifs e a b c) = refl
first_form (loop n v p q r) = refl
first_form continue = refl
first_form stop = refl
first_form end = refl
first_form (dimension arrays) = refl

third_parameter : (p : Option Expr) → OptionalParameter p → IsParameter (third p)
third_parameter none h = IsParameter.constant
third_parameter (some e) h = h

three_words_lem : (p q r : Expr) → IsParameter p → IsParameter q → IsParameter r
    → three_words (parameter_value p) (parameter_value q) (parameter_value r)
    ≡ items_words (items_of p ++ (items_of q ++ items_of r))
three_words_lem p q r a b c =
    let x = parameter_words_lem p a in
    let y = parameter_words_lem q b in
    let z = parameter_words_lem r c in
    rw (words_append (items_of p) (items_of q ++ items_of r), words_append (items_of q) (items_of r), ← x, ← y, ← z)

three_room : (a b c : Parameter) → length (three_words a b c) ≤ 15
three_room a b c =
    omega (arith, parameter_room a, parameter_room b, parameter_room c, length-append (parameter_words a) (parameter_words b ++ parameter_words c), length-append (parameter_words b) (parameter_words c))

long_enough : (ws a : List ℕ) → take (length ws) a ≡ ws → length ws ≤ length a
long_enough ws a w = omega (arith, length-take (length ws) a, ap length w)

module _ (a b : List ℕ) (r : Plan) (fifteen : 15 ≤ length a) (long : length b ≡ length a) where
  pub plans_of : (f : Form) → Shaped f → take (length (form_words f)) a ≡ form_words f → Planned (statement_of f) a b r → Plans f b r
  unfolding plan_of statement_of form_plan Laid listed_words form_words
  plans_of (assign t e) sh w h =
      let p : r ≡ form_plan (assign t e) = h.says in
      let same : b ≡ a = h.table in
      let n : r.count ≡ length (flat e) = ap (λ (x : Plan). x.count) p in
      record {
        plan = p;
        operands = ap (λ (k : ℕ). take k b) n ∙ ap (take (length (flat e))) same ∙ w ∙ flat_items e;
        listed = refl;
        room = omega (arith, long_enough (flat e) a w);
      }
  plans_of (go_to n) sh w h =
      let p : r ≡ form_plan (go_to n) = h.says in
      let z : r.count ≡ 0 = ap (λ (x : Plan). x.count) p in
      record { plan = p; operands = ap (λ (k : ℕ). take k b) z; listed = refl; room = omega arith }
  plans_of (computed ns v) sh w h =
      let p : r ≡ form_plan (computed ns v) = h.says in
      let same : b ≡ a = h.table in
      let z : r.count ≡ 0 = ap (λ (x : Plan). x.count) p in
      record { plan = p; operands = ap (λ (k : ℕ). take k b) z; listed = ap (take (length (map capped ns))) same ∙ w; room = omega arith }
  plans_of (ifs e i j k) sh w h =
      let p : r ≡ form_plan (ifs e i j k) = h.says in
      let same : b ≡ a = h.table in
      let n : r.count ≡ length (flat e) = ap (λ (x : Plan). x.count) p in
      record {
        plan = p;
        operands = ap (λ (k : ℕ). take k b) n ∙ ap (take (length (flat e))) same ∙ w ∙ flat_items e;
        listed = refl;
        room = omega (arith, long_enough (flat e) a w);
      }
  plans_of (loop n v i j k) sh w h =
      let p : r ≡ form_plan (loop n v i j k) = h.says in
      let z : r.count ≡ length (three_words (parameter_value i) (parameter_value j) (parameter_value (third k))) = ap (λ (x : Plan). x.count) p in
      record {
        plan = p;
        operands = ap (λ (k : ℕ). take k b) z ∙ h.table ∙ three_words_lem i j (third k) sh.0 sh.1 (third_parameter k sh.2);
        listed = refl;
        room = omega (arith, three_room (parameter_value i) (parameter_value j) (parameter_value (third k)), z);
      }
  plans_of continue sh w h =
      let p : r ≡ form_plan continue = h.says in
      let z : r.count ≡ 0 = ap (λ (x : Plan). x.count) p in
      record { plan = p; operands = ap (λ (k : ℕ). take k b) z; listed = refl; room = omega arith }
  plans_of stop sh w h =
      let p : r ≡ form_plan stop = h.says in
      let z : r.count ≡ 0 = ap (λ (x : Plan). x.count) p in
      record { plan = p; operands = ap (λ (k : ℕ). take k b) z; listed = refl; room = omega arith }
  plans_of end sh w h =
      let p : r ≡ form_plan end = h.says in
      let z : r.count ≡ 0 = ap (λ (x : Plan). x.count) p in
      record { plan = p; operands = ap (λ (k : ℕ). take k b) z; listed = refl; room = omega arith }
  plans_of (dimension arrays) sh w h =
      let p : r ≡ form_plan (dimension arrays) = h.says in
      let same : b ≡ a = h.table in
      let z : r.count ≡ 0 = ap (λ (x : Plan). x.count) p in
      record { plan = p; operands = ap (λ (k : ℕ). take k b) z; listed = ap (take (length (all_words arrays))) same ∙ w; room = omega arith }
