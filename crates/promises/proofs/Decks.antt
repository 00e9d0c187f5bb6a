-- The promises about decks: a run halts as the deck means, and everything compiled passes.
-- Assumes nothing.
use mathlib.Core.Path.{◌≡◌, refl, sym, ap, ◌∙◌, subst}
use mathlib.Core.Logic.{◌⊎◌, inl, inr}
use Prim.Native.Nat.{ℕ, zero, suc, ◌≤◌, ◌<◌}
use native.Mathlib.Decide.{ℕ_discrete}
use native.Mathlib.Omega.{arith}
use mathlib.Core.Bool.{Bool, true, false, ◌||◌, cond}
use mathlib.Core.List.{List, [], ◌∷◌}
use mathlib.Core.Option.{some}
use lib.ListN.{length, get_elem?}
use lib.IntN.{ℤ}
use Rattle.rules_shared.specs.House.{House}
use Rattle.rules_shared.specs.Runs.{Outcome, go, halt, run, steps}
use Rattle.rules_formats.specs.Walk.{Trays, no_trays, devices_of}
use Rattle.rules_object.specs.Halts.{Out}
use Rattle.rules_shared.specs.Choose.{positive}
use Rattle.rules_object.specs.Object.{Named, Object}
use Rattle.rules_object.specs.Machine.{State, fresh, cell, step}
use Rattle.rules_object.specs.Bytes.{read_object}
use Rattle.rules_shared.specs.Refusals.{accepted}
use Rattle.rules_object.specs.Calls.{checking, given, right50, right51, sequence_of, Ran, ran, run_from, running, taken}
use Rattle.rules_shared.proofs.RunLaws.{steps_go}
use Rattle.rules_object.specs.Passed.{Passed}
use Rattle.rules_object.proofs.Passed.{check_passed, both}
use Rattle.rules_object.proofs.Lents.{long_enough, fresh_stands, stands_52}
use Rattle.rules_object.proofs.Accepts.{Accepts, accepts_run}
use Rattle.rules_object.proofs.Refusals.{from_accepts}
use Rattle.rules_object.proofs.Runnable.{runs_exactly}
use Rattle.rules_object.specs.Safe.{fresh_lent}
use Rattle.rules_object.specs.Promised.{right_store_of, right_store}
use Rattle.rules_text.specs.Trees.{Name, Statement, form_names}
use Rattle.rules_deck.specs.Deck.{Do, same_name, Dims, dims_in, dims_of, endings}
use Rattle.rules_deck.specs.Meaning.{Cause, plain, bounds, Standing, begin, meaning}
use Rattle.rules_deck.specs.Cost.{meaning_steps}
use Rattle.rules_deck.specs.Translation.{Held, name, array, hidden, is_array, holds, cell_of, base_of, held_of, address_at, filled, names_from, translate}
use Rattle.rules_deck.specs.Accepted.{Among}
use Rattle.rules_deck.specs.Cells.{key, Has, Holds, SameMark, arrays_held, marked}
use Rattle.rules_deck.specs.Seen.{statements_of, meaning_read, meaning_of, halt_of, deck_steps, InStatement, names_in, deck_names, deck_dims, deck_levels, named_values, series, sum, line_in_object, line_of}
use Rattle.rules_deck.proofs.TestLaws.{among_left, among_right, among_append}
use Rattle.rules_deck.proofs.MapNames.{entry_of, no_dims}
use Rattle.rules_deck.proofs.ArrayLaws.{arrays_held_lem}
use Rattle.rules_deck.proofs.MapOnce.{never_both}
use Rattle.rules_deck.proofs.BodySeven.{InDeck, name_entry, entry_name, names_ordered}
use Rattle.rules_deck.proofs.CompiledWritable.{compiled_passes}
use Rattle.rules_deck.proofs.NeverAbove.{never_above}
use Rattle.rules_deck.proofs.SoundDeck.{sound}
use Rattle.rules_deck.proofs.Sequence.{same_sequence, dimension_empty}
use Rattle.rules_deck.proofs.Simulation.{goes_alike, halts_alike, halts_meant, ends_entered}
use Rattle.promises.specs.Promises.{Alike, HaltedAlike, HaltsAlike, GoesAlike, Meant, MeansAlike, NeverHalts, EndsAfterDo, EntryOf, OneEntry, NamesOnce, CompiledPasses, NeverAbove}
use Rattle.promises.proofs.Runs.{series_run}
use Rattle.promises.proofs.Made.{Made, made, right, reads_back, checks, named_has, holds_named}

some_same : {A : Type 0} {x y : A} → some x ≡ some y → x ≡ y
some_same e = cc

-- ---- a run of a compiled deck's object is the machine's

module _ {house : House} {deck object : List ℕ} (m : Made house deck object) (store : List ℤ) (stored : right_store object store ≡ true) where
  abbrev o : Object
  o = translate house m.statements

  passes : Passed object o (checks m).0
  passes = check_passed object o (checks m).0 (checks m).1

  rights : (right50 o store ≡ true) × (right51 o store ≡ true)
  unfolding right_store
  rights = both (right50 o store) (right51 o store) (sym (ap (λ x. right_store_of x store) (reads_back m)) ∙ stored)

  pub accepts : Accepts object store fresh_lent
  unfolding given
  accepts =
      record {
        object = o;
        table = (checks m).0;
        is = (checks m).1;
        passes = passes;
        right50 = rights.0;
        right51 = rights.1;
        right52 = stands_52 (fresh store (devices_of no_trays)) (fresh_stands passes store (devices_of no_trays) rights.0 rights.1);
      }

  pub runs : (trays : Trays) (a : ℕ) → running object store fresh_lent trays a ≡ run_from o trays (step o) a (fresh store (devices_of trays))
  unfolding taken accepts
  runs trays a = accepts_run accepts trays a

  pub not_refused : (trays : Trays) (a : ℕ) → (running object store fresh_lent trays a).refusal ≡ accepted
  not_refused trays a = ap (λ r. r.refusal) (runs trays a) ∙ from_accepts o trays (step o) a (fresh store (devices_of trays))

  starting : Holds (held_of m.statements) (named_values object store) store
  unfolding translate
  starting = holds_named m store (long_enough o store rights.0)

  means : (n : ℕ) → meaning_of house deck (named_values object store) n ≡ some (meaning house.rule m.statements (named_values object store) n)
  unfolding meaning_of
  means n = ap (λ r. meaning_read house r (named_values object store) n) m.reads

  meant_as : (n : ℕ) {x : Outcome Cause Standing} → meaning_of house deck (named_values object store) n ≡ some x → meaning house.rule m.statements (named_values object store) n ≡ x
  meant_as n e = some_same (sym (means n) ∙ e)

  steps_mean : (n : ℕ) → deck_steps house deck (named_values object store) n ≡ meaning_steps house.rule m.statements n (begin (named_values object store))
  unfolding deck_steps
  steps_mean n = ap (λ r. meaning_steps house.rule (statements_of r) n (begin (named_values object store))) m.reads

  answers : (trays : Trays) (a : ℕ) (x : Out State) → run (step o) a (fresh store (devices_of trays)) ≡ x → running object store fresh_lent trays a ≡ ran o trays (steps (step o) a (fresh store (devices_of trays))) x
  answers trays a x e = runs trays a ∙ ap (ran o trays (steps (step o) a (fresh store (devices_of trays)))) e

  -- an answer whose store holds a standing's values, and whose mark means its loss
  alike : (r : Ran) (t : State) (s : Standing) → r.refusal ≡ accepted → r.store ≡ t.store → r.sequence ≡ sequence_of o.lines t.mark → Holds (held_of m.statements) s.values t.store
      → SameMark m.statements s.lost t.mark → Alike object s r
  unfolding translate
  alike r t s e f g v w =
      record {
        accepts = e;
        values = λ x c n. let h = named_has m x c n in ap (λ z. cell z c) f ∙ ap (cell t.store) (sym h.1) ∙ v.same x h.0;
        lost = g ∙ same_sequence m.statements (dimension_empty house m.statements (right m)) s.lost t.mark w;
      }

  -- body 6 tells the statement of a word
  tells : (j i : ℕ) → InStatement m.statements j i → line_of object i ≡ suc j
  unfolding line_of translate
  tells j i w =
      ap (λ x. line_in_object x i) (reads_back m)
      ∙ same_sequence m.statements (dimension_empty house m.statements (right m)) (suc j) (suc i) (marked j refl (omega (arith, w.0)) (omega (arith, w.1)))

  halted_alike : (trays : Trays) (a n : ℕ) (h : Cause) (t : State) (s : Standing) → run (step o) a (fresh store (devices_of trays)) ≡ halt (halt_of h) t → steps (step o) a (fresh store (devices_of trays)) ≡ n → InStatement m.statements s.at t.index
      → Holds (held_of m.statements) s.values t.store → SameMark m.statements s.lost t.mark → HaltedAlike house deck object h s n (running object store fresh_lent trays a)
  unfolding given
  halted_alike trays a n h t s e f g v w =
      let q = answers trays a (halt (halt_of h) t) e in
      record {
        alike = alike (running object store fresh_lent trays a) t s (ap (λ x. x.refusal) q) (ap (λ x. x.store) q) (ap (λ x. x.sequence) q) v w;
        halts = ap (λ x. x.halt) q;
        at = subst (λ x. InStatement (statements_of x) s.at (running object store fresh_lent trays a).lent.index) (sym m.reads)
            (subst (λ i. InStatement m.statements s.at i) (sym (ap (λ x. x.lent.index) q)) g);
        line = ap (λ x. line_of object x.lent.index) q ∙ tells s.at t.index g;
        steps = ap (λ x. x.steps) q ∙ f;
      }

  serial : (trays : Trays) (allowances : List ℕ) → series object store fresh_lent trays allowances ≡ running object store fresh_lent trays (sum allowances)
  serial trays = series_run object store fresh_lent refl trays (not_refused trays 0)

pub halts_kept : HaltsAlike
halts_kept house deck object store trays c stored n h s e allowances =
    let m = made c in
    let a = sum allowances in
    let x = halts_alike house m.lawful m.statements (sound (right m)) (named_values object store) store (starting m store stored) (devices_of trays) n h s (meant_as m store stored n e) in
    let count = steps_mean m store stored n in (
      λ enough. subst (λ r. HaltedAlike house deck object h s (deck_steps house deck (named_values object store) n) r) (sym (serial m store stored trays allowances))
          (let l : meaning_steps house.rule m.statements n (begin (named_values object store)) ≤ a = omega arith in
          halted_alike m store stored trays a _ h x.at s (x.halted a l) (x.took a l ∙ sym count) x.among x.values x.mark),
      λ fewer. let l : a < meaning_steps house.rule m.statements n (begin (named_values object store)) = omega arith in
          let (t, g) = x.before a l in
          ap (λ r. r.halt) (serial m store stored trays allowances ∙ answers m store stored trays a (go t) g),
    )

pub goes_kept : GoesAlike
unfolding given
goes_kept house deck object store trays c stored n s e allowances just =
    let m = made c in
    let count = steps_mean m store stored n in
    let x = goes_alike house m.lawful m.statements (sound (right m)) (named_values object store) store (starting m store stored) (devices_of trays) n s (meant_as m store stored n e) in
    let f = step (translate house m.statements) in
    let g : run f (sum allowances) (fresh store (devices_of trays)) ≡ go x.at = ap (λ a. run f a (fresh store (devices_of trays))) (just ∙ count) ∙ x.goes in
    let q = serial m store stored trays allowances ∙ answers m store stored trays (sum allowances) (go x.at) g in
    record {
      alike = alike m store stored (series object store fresh_lent trays allowances) x.at s (ap (λ r. r.refusal) q) (ap (λ r. r.store) q) (ap (λ r. r.sequence) q) x.values x.mark;
      halts = ap (λ r. r.halt) q;
      at = ap (λ r. r.lent.index) q ∙ x.index ∙ ap (λ r. address_at (statements_of r) s.at) (sym m.reads);
      height = ap (λ r. r.lent.height) q ∙ ap length x.stack;
      steps = ap (λ r. r.steps) q ∙ steps_go f (sum allowances) (fresh store (devices_of trays)) x.at g ∙ just;
    }

-- a run that halts other than by 2 is the machine's, halted
module _ {house : House} {deck object : List ℕ} (m : Made house deck object) (store : List ℤ) (stored : right_store object store ≡ true) (trays : Trays) (a : ℕ) where
  meant : ((running object store fresh_lent trays a).halt ≡ 2 → ⊥) → Meant house deck object store (running object store fresh_lent trays a)
  meant other = by (run (step (translate house m.statements)) a (fresh store (devices_of trays))) refl
    where
      by : (x : Out State) → run (step (translate house m.statements)) a (fresh store (devices_of trays)) ≡ x → Meant house deck object store (running object store fresh_lent trays a)
      by (go t) e = absurd (other (ap (λ r. r.halt) (answers m store stored trays a (go t) e)))
      by (halt h t) e =
          let x = halts_meant house m.lawful m.statements (sound (right m)) (named_values object store) store (starting m store stored) (devices_of trays) a h t e in
          record {
            count = x.count;
            how = x.how;
            end = x.at;
            halts = means m store stored x.count ∙ ap some x.halted;
            alike = halted_alike m store stored trays a _ x.how t x.at (e ∙ ap (λ i. halt i t) (sym x.told)) (x.took ∙ sym (steps_mean m store stored x.count)) x.among x.values x.mark;
          }

pub means_kept : MeansAlike
means_kept house deck object store trays c stored allowances other =
    let m = made c in
    let q = serial m store stored trays allowances in
    subst (λ r. Meant house deck object store r) (sym q) (meant m store stored trays (sum allowances) (λ e. other (ap (λ r. r.halt) q ∙ e)))

pub never_kept : NeverHalts
never_kept house deck object store trays c stored never allowances = by (ℕ_discrete (series object store fresh_lent trays allowances).halt 2)
  where
    by : Dec ((series object store fresh_lent trays allowances).halt ≡ 2) → (series object store fresh_lent trays allowances).halt ≡ 2
    by (yes e) = e
    by (no e) = let x = means_kept house deck object store trays c stored allowances e in absurd (never x.count x.how x.end x.halts)

pub ends_kept : EndsAfterDo
ends_kept house deck object store c stored n s e =
    let m = made c in
    subst (λ r. (x : Statement) → get_elem? (statements_of r) s.at ≡ some x → (d : Do) → Among d (endings (statements_of r) x.number)
    → (limit : ℤ) × ((step : ℤ) × ((s.entered d.position ≡ bounds limit step) × (positive step ≡ true)))) (sym m.reads)
    (ends_entered house m.lawful m.statements (sound (right m)) (named_values object store) store (starting m store stored) n s (meant_as m store stored n e))

-- ---- body 7

true_not_false : true ≡ false → ⊥
true_not_false e = let z : ◌≡◌ {A = ℕ} 0 1 = cc in omega arith

not_true : (b : Bool) → (b ≡ true → ⊥) → b ≡ false
not_true true f = absurd (f refl)
not_true false f = refl

among_in : (deck : List Statement) (v : Name) → Among v (names_in deck) → InDeck deck v
among_in (s ∷ deck) v a = by (among_append (form_names s.form) (names_in deck) a) (among_in deck v)
  where
    by : Among v (form_names s.form) ⊎ Among v (names_in deck) → (Among v (names_in deck) → InDeck deck v) → InDeck (s ∷ deck) v
    by (inl b) f = record { position = 0; statement = s; at = refl; among = b }
    by (inr b) f = let i = f b in record { position = suc i.position; statement = i.statement; at = i.at; among = i.among }
among_in [] v a = elim a [ ]

in_among : (deck : List Statement) (v : Name) → InDeck deck v → Among v (names_in deck)
in_among deck v i = by deck i.position i.at
  where
    by : (deck : List Statement) (j : ℕ) → get_elem? deck j ≡ some i.statement → Among v (names_in deck)
    by [] j e = let z : ◌≡◌ {A = ℕ} 0 1 = cc in absurd (omega arith)
    by (s ∷ deck) zero e = among_left (names_in deck) (subst (λ (x : Statement). Among v (form_names x.form)) (sym (some_same e)) i.among)
    by (s ∷ deck) (suc j) e = among_right (form_names s.form) (by deck j e)

-- a name that is no array has no dimensions
no_dims_lem : (held : List Held) (v : Name) → holds (is_array v) held ≡ false → dims_in (arrays_held held) v ≡ no_dims
no_dims_lem [] v e = refl
no_dims_lem (name w ∷ held) v e = no_dims_lem held v e
no_dims_lem (array a ∷ held) v e = by (same_name a.name v) e (no_dims_lem held v)
  where
    by : (b : Bool) → (b || holds (is_array v) held) ≡ false → (holds (is_array v) held ≡ false → dims_in (arrays_held held) v ≡ no_dims) → cond b a.dims (dims_in (arrays_held held) v) ≡ no_dims
    by false e f = f e
    by true e f = absurd (true_not_false e)
no_dims_lem (hidden q ∷ held) v e = no_dims_lem held v e

module _ {house : House} {deck object : List ℕ} (m : Made house deck object) (o : Object) (r : read_object object ≡ some o) where
  is : o ≡ translate house m.statements
  is = some_same (sym r ∙ reads_back m)

  names : o.names ≡ names_from house 0 (held_of m.statements)
  unfolding translate
  names = ap (λ x. x.names) is

module _ {house : House} {deck object : List ℕ} (m : Made house deck object) (o : Object) (r : read_object object ≡ some o) (v : Name) where
  dims : deck_dims house deck v ≡ dims_of m.statements v
  unfolding deck_dims
  dims = ap (λ x. dims_of (statements_of x) v) m.reads

  plain_dims : Has (held_of m.statements) (key (plain v)) → dims_of m.statements v ≡ no_dims
  unfolding dims_of
  plain_dims h =
      ap (λ l. dims_in l v) (sym (arrays_held_lem m.statements))
      ∙ no_dims_lem (held_of m.statements) v (not_true (holds (is_array v) (held_of m.statements)) (never_both house m.statements (right m) v h))

  once : (first : ℕ) (d : Dims) → deck_dims house deck v ≡ d → Rattle.rules_deck.proofs.BodySeven.OneEntry house m.statements v (entry_of house v first d) → OneEntry house deck v o.names
  once first d e x =
      subst (λ l. OneEntry house deck v l) (sym (names m o r))
      (record { at = x.index; entry = entry_of house v first d; there = x.is; is = record { named = refl; rows = ap (λ z. z.rows) (sym e); columns = ap (λ z. z.columns) (sym e) }; only = x.only })

  one : InDeck m.statements v → OneEntry house deck v o.names
  one i = by (name_entry house m.statements (right m) v i)
    where
      by : (Has (held_of m.statements) (key (plain v)) × Rattle.rules_deck.proofs.BodySeven.OneEntry house m.statements v (entry_of house v (cell_of (held_of m.statements) v) no_dims))
          ⊎ ((holds (is_array v) (held_of m.statements) ≡ true) × Rattle.rules_deck.proofs.BodySeven.OneEntry house m.statements v (entry_of house v (base_of (held_of m.statements) v) (dims_of m.statements v)))
          → OneEntry house deck v o.names
      by (inl x) = once _ no_dims (dims ∙ plain_dims x.0) x.1
      by (inr x) = once _ _ dims x.1

  -- an entry with the name's bytes is the name's
  its : InDeck m.statements v → (i : ℕ) (e : Named) → get_elem? o.names i ≡ some e → e.name ≡ filled house.name_bytes v → EntryOf house deck v e
  its d i e f n =
      let x = one d in
      let q : x.entry ≡ e = some_same (sym x.there ∙ ap (λ j. get_elem? o.names j) (sym (x.only i e f n)) ∙ f) in
      subst (λ (y : Named). EntryOf house deck v y) q x.is

pub names_kept : NamesOnce
unfolding deck_names
names_kept house deck object c o r =
    let m = made c in
    let l = names m o r in
    record {
      each = λ v a. one m o r v (among_in m.statements v (subst (λ x. Among v (names_in (statements_of x))) m.reads a));
      others = λ i e f.
          let x = entry_name house m.statements i e (ap (λ n. get_elem? n i) (sym l) ∙ f) in
          (x.0, (subst (λ y. Among x.0 (names_in (statements_of y))) (sym m.reads) (in_among m.statements x.0 x.1), its m o r x.0 x.1 i e f x.2));
      order = λ i j e later h f g.
          names_ordered house m.statements (right m) i j e later h (ap (λ n. get_elem? n i) (sym l) ∙ f) (ap (λ n. get_elem? n j) (sym l) ∙ g);
    }

-- ---- everything compiled passes

pub passes_kept : CompiledPasses
passes_kept house deck object c = let m = made c in ap checking m.bytes ∙ compiled_passes house m.lawful deck m.statements m.reads

pub above_kept : NeverAbove
above_kept house deck object store l c r trays a =
    let m = made c in
    subst (λ x. (running x store l trays a).refusal ≡ accepted → (running x store l trays a).lent.height ≤ house.height (deck_levels house deck)) (sym m.bytes) (never_above house m.lawful deck m.statements m.reads store l r.forty trays a)
    ((runs_exactly object store l r.forty trays a).1 r)
