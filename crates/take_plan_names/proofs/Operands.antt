-- The parts of the table that a plan names, and 15 and 16 of them.
-- Assumes nothing.
use mathlib.Core.Path.{◌≡◌, refl, sym, ap, ◌∙◌}
use Prim.Native.Nat.{ℕ, ◌*◌, ◌≤◌}
use native.Mathlib.Omega.{arith}
use mathlib.Core.Bool.{Bool, true, false}
use mathlib.Core.List.{List}
use lib.ListN.{length, take, length-take}
use Rattle.rules_shared.specs.House.{house1401}
use Rattle.rules_shared.specs.Lists.{Each}
use Rattle.rules_text.specs.Trees.{Array, array_names, Form, assign, go_to, computed, ifs, loop, continue, stop, end, dimension, form_names}
use Rattle.rules_deck.specs.Translation.{Held}
use Rattle.rules_deck.specs.Judge.{right_arrays, right15}
use Rattle.rules_deck.proofs.BodySeven.{each_here}
use Rattle.rules_deck.proofs.RightDeck.{each_among}
use Rattle.read_forms.specs.Statements.{all_words}
use Rattle.take_draft.specs.Parts.{items_names, form_first, form_items, Worded}
use Rattle.take_draft.specs.Names.{Told}
use Rattle.take_draft.proofs.FormLaws.{form_right16, first_names, items_names_lem}
use Rattle.take_arrays.specs.Arrays.{Dimensions}
use Rattle.take_arrays.proofs.News.{words_length}
use Rattle.take_cells.specs.Operands.{RightBoth}
use Rattle.take_plans.specs.declared.Plan.{Plan}
use Rattle.take_plans.specs.Plans.{form_plan, listed_words, Plans, Readied}
use Rattle.take_plans.proofs.ByKind.{at_dimension}
use Rattle.take_kinds.specs.declared.Kind.TheVariants.{Dimension}
use Rattle.take_plan_names.specs.Naming.{RightArrays, RightOperands}

-- ---- parts of the table

pub first_worded : {p : Plan} {first items : List ℕ} → Readied p first items → Worded first
first_worded h = record { items = form_first h.form; are = h.first_are }

pub items_worded : {p : Plan} {first items : List ℕ} → Readied p first items → Worded (take p.count items)
items_worded {p} {first} {items} h = record { items = form_items h.form; are = h.plans.operands }

pub kind_of_lem : {f : Form} {items : List ℕ} {p : Plan} → Plans f items p → (form_plan f).kind ≡ p.kind
kind_of_lem h = sym (ap (λ (x : Plan). x.kind) h.plan)

abbrev pub ArraysIn : List ℕ → Plan → Form → Type 0
ArraysIn items p f = Plans f items p → take (7 * p.listed) items ≡ listed_words f

pub arrays_in_lem : (items : List ℕ) (p : Plan) (f : Form) → (form_plan f).kind ≡ Dimension → ArraysIn items p f
unfolding form_plan listed_words
arrays_in_lem items p =
    at_dimension (ArraysIn items p)
    (λ arrays h.
    let n : p.listed ≡ length arrays = ap (λ (x : Plan). x.listed) h.plan in
    let m : 7 * p.listed ≡ length (all_words arrays) = omega (arith, words_length arrays) in
    ap (λ (k : ℕ). take k items) m ∙ h.listed)

abbrev ArraysRoom : List ℕ → Plan → Form → Type 0
ArraysRoom items p f = Plans f items p → 7 * p.listed ≤ length items

room_in : (items : List ℕ) (p : Plan) (f : Form) → (form_plan f).kind ≡ Dimension → ArraysRoom items p f
unfolding form_plan listed_words
room_in items p =
    at_dimension (ArraysRoom items p)
    (λ arrays h.
    let n : p.listed ≡ length arrays = ap (λ (x : Plan). x.listed) h.plan in
    omega (arith, words_length arrays, length-take (length (all_words arrays)) items, ap length h.listed))

-- a DIMENSION's words are within the table
pub arrays_room : {p : Plan} {first items : List ℕ} → Readied p first items → p.kind ≡ Dimension → 7 * p.listed ≤ length items
arrays_room {p} {first} {items} h z = room_in items p h.form (kind_of_lem h.plans ∙ z) h.plans

pub part_long : (items : List ℕ) (m : ℕ) → m ≤ length items → length (take m items) ≡ m
part_long items m h = omega (arith, length-take m items)

-- ---- names are told

pub told_first : (f : Form) → Each Told (form_names f) → Each Told (items_names (form_first f))
told_first f t = each_among (items_names (form_first f)) (λ v a. each_here t (first_names f a))

pub told_items : (f : Form) → Each Told (form_names f) → Each Told (items_names (form_items f))
told_items f t = each_among (items_names (form_items f)) (λ v a. each_here t (items_names_lem f a))

-- ---- 15

other_15 : (digits : ℕ) (held : List Held) (f : Form) → ((form_plan f).kind ≡ Dimension → ⊥) → true ≡ right15 (house1401 digits) held f
unfolding right15 form_plan
other_15 digits held (assign t e) z = refl
other_15 digits held (go_to n) z = refl
other_15 digits held (computed ns v) z = refl
other_15 digits held (ifs e a b c) z = refl
other_15 digits held (loop n v p q r) z = refl
other_15 digits held continue z = refl
other_15 digits held stop z = refl
other_15 digits held end z = refl
other_15 digits held (dimension arrays) z = absurd (z refl)

pub no_arrays : {p : Plan} {items table : List ℕ} {n : ℕ} → (p.kind ≡ Dimension → ⊥) → RightArrays p items table n true
no_arrays z digits f held cells h l t = other_15 digits held f (λ e. z (sym (kind_of_lem h) ∙ e))

abbrev pub Arrays15 : ℕ → List Held → List ℕ → Bool → Form → Type 0
Arrays15 digits held words r f = ((arrays : List Array) → words ≡ all_words arrays → Each Told (array_names arrays) → r ≡ right_arrays false held arrays) → words ≡ listed_words f → Each Told (form_names f) → r ≡ right15 (house1401 digits) held f

form_15 : (digits : ℕ) (held : List Held) (words : List ℕ) (r : Bool) (f : Form) → (form_plan f).kind ≡ Dimension → Arrays15 digits held words r f
unfolding right15 listed_words form_names
form_15 digits held words r = at_dimension (Arrays15 digits held words r) (λ arrays g e t. g arrays e t)

pub some_arrays : {p : Plan} {items table : List ℕ} {n : ℕ} {r : Bool} → p.kind ≡ Dimension → Dimensions (take (7 * p.listed) items) table n r → RightArrays p items table n r
some_arrays {p} {items} {table} {n} {r} z d digits f held cells h l t =
    let k : (form_plan f).kind ≡ Dimension = kind_of_lem h ∙ z in
    form_15 digits held (take (7 * p.listed) items) r f k (λ arrays e u. d held cells arrays l e u) (arrays_in_lem items p f k h) t

-- ---- 16

pub both_16 : {p : Plan} {first items table : List ℕ} {n : ℕ} {r : Bool} → RightBoth first (take p.count items) table n r → RightOperands p first items table n r
both_16 {p} {first} {items} b f held cells h e l t =
    b held cells (form_first f) (form_items f) l e (h.operands) (told_first f t) (told_items f t) ∙ sym (form_right16 held f)
