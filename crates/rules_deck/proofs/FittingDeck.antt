-- Each table of an accepted deck's object is within its limit: at the end the totals of right18 are the tables' sizes.
-- Assumes nothing.
use mathlib.Core.Path.{◌≡◌, refl, sym, ap, ◌∙◌, subst}
use Prim.Native.Nat.{ℕ, suc, ◌+◌, ◌-◌, ◌≤◌}
use native.Mathlib.Omega.{arith}
use mathlib.Core.Bool.{Bool, true, false, cond}
use mathlib.Core.List.{List, [], ◌∷◌, map}
use mathlib.Core.Option.{some}
use lib.Dec.{leb, eqb}
use lib.ListN.{length, get_elem?, length-append, length-map, length-reverse}
use borrow.Author.Tests.{leb-true, eqb-true}
use Rattle.rules_shared.specs.Limits.{limits}
use Rattle.rules_shared.specs.House.{House}
use Rattle.rules_object.specs.Operations.{Instr, DOE}
use Rattle.rules_text.specs.Trees.{Form, Statement, form_last, Range, parts_of}
use Rattle.rules_deck.specs.Deck.{position_of, Do, do_of, dos_from, dos_of, ending_with, endings, dims_of, do_at}
use Rattle.rules_deck.specs.Translation.{Held, name, array, hidden, array_size, cell_count, held_of, enter_code, address_of, statement_code, do_instr, code_from, code_of, Tables, no_tables, tables_of, names_from}
use Rattle.rules_deck.specs.Judge.{Taken, nothing_taken, takes, pool_all, form_pooled, form_references, form_exit_words, name_count, right18}
use Rattle.rules_deck.specs.Accepted.{Among, here, there, taken_from, taken_before, Accepted, Fitting}
use Rattle.rules_text.proofs.CardsLaws.{cases, and_both}
use Rattle.rules_deck.proofs.TestLaws.{last_at_lem}
use Rattle.rules_deck.proofs.TakenLaws.{before_all, held_all}
use Rattle.rules_deck.proofs.NestedDeck.{number_at, last_number}
use Rattle.rules_deck.proofs.TableLaws.{tables_append, Brings, statement_brings, form_length}

-- ---- right18 at the end

record Within (t : Taken) : Type 0 where
  names : name_count t.held ≤ limits.names
  dos : t.dos ≤ limits.dos
  constants : length t.constants ≤ limits.constants
  elements : t.elements ≤ limits.elements
  exits : t.exits ≤ limits.exits
  code : t.code ≤ limits.code
  cells : cell_count t.held ≤ limits.cells

within : (t : Taken) → right18 t ≡ true → Within t
unfolding right18
within t e =
    let a = and_both (leb (name_count t.held) limits.names) _ e in
    let b = and_both (leb t.dos limits.dos) _ a.1 in
    let c = and_both (leb (length t.constants) limits.constants) _ b.1 in
    let d = and_both (leb t.elements limits.elements) _ c.1 in
    let f = and_both (leb t.exits limits.exits) _ d.1 in
    let g = and_both (leb t.code limits.code) _ f.1 in
    record {
      names = leb-true (name_count t.held) limits.names a.0;
      dos = leb-true t.dos limits.dos b.0;
      constants = leb-true (length t.constants) limits.constants c.0;
      elements = leb-true t.elements limits.elements d.0;
      exits = leb-true t.exits limits.exits f.0;
      code = leb-true t.code limits.code g.0;
      cells = leb-true (cell_count t.held) limits.cells g.1;
    }

last_right : {house : House} (deck : List Statement) → Accepted house deck → right18 (taken_before deck (length deck)) ≡ true
unfolding taken_before right18
last_right [] h = refl
last_right (s ∷ deck) h =
    let l = last_at_lem s deck in
    (h.judged (length deck) l.0 l.1).passes18

-- ---- DOs, names and tables: the same sizes

dos_of_lem : (q : ℕ) (f : Form) → length (do_of q f) ≡ length (form_last f)
unfolding form_last
dos_of_lem q f = go (parts_of f).opens
  where
    go : (ds : List Range) → length (map (do_at q) ds) ≡ length (map (λ (d : Range). d.last) ds)
    go [] = refl
    go (d ∷ ds) = ap suc (go ds)

dos_from_lem : (q : ℕ) (deck : List Statement) (t : Taken) → (taken_from q deck t).dos ≡ t.dos + length (dos_from q deck)
unfolding takes
dos_from_lem q [] t = omega arith
dos_from_lem q (s ∷ deck) t =
    let h = dos_from_lem (suc q) deck (takes q s.form t) in
    let d = dos_of_lem q s.form in
    simp length-append (omega arith)

pub names_count : (house : House) (at : ℕ) (held : List Held) → length (names_from house at held) ≡ name_count held
names_count house at [] = refl
names_count house at (name v ∷ held) = ap suc (names_count house (suc at) held)
names_count house at (array a ∷ held) = ap suc (names_count house (at + array_size a.dims) held)
names_count house at (hidden q ∷ held) = names_count house (at + 2) held

-- the tables that the code makes, beside what its statements take
record Beside (T : Tables) (t : Taken) : Type 0 where
  constants : T.constants ≡ t.constants
  elements : length T.elements ≡ t.elements
  exits : length T.exits ≡ t.exits

beside_one : {code : List Instr} (q : ℕ) (f : Form) {T : Tables} {t : Taken} → Brings code (form_pooled f) (length (form_references f)) (form_exit_words f) → Beside T t → Beside (tables_of T code) (takes q f t)
unfolding takes
beside_one {code} q f {T} {t} b h =
    record {
      constants = b.constants T ∙ ap (λ (p : List ℕ). pool_all p (form_pooled f)) h.constants;
      elements = b.elements T ∙ ap (λ (n : ℕ). n + length (form_references f)) h.elements;
      exits = b.exits T ∙ ap (λ (n : ℕ). n + form_exit_words f) h.exits;
    }

beside_from : (deck : List Statement) (q : ℕ) (more : List Statement) (T : Tables) (t : Taken) → Beside T t → Beside (tables_of T (code_from deck q more)) (taken_from q more t)
beside_from deck q [] T t h = h
beside_from deck q (s ∷ more) T t h =
    let r = beside_from deck (suc q) more (tables_of T (statement_code deck q s)) (takes q s.form t) (beside_one q s.form (statement_brings deck q s) h) in
    subst (λ (U : Tables). Beside U (taken_from (suc q) more (takes q s.form t))) (sym (tables_append T (statement_code deck q s) (code_from deck (suc q) more))) r

beside : (deck : List Statement) → Beside (tables_of no_tables (code_of deck)) (taken_before deck (length deck))
unfolding code_of
beside deck =
    subst (λ (t : Taken). Beside (tables_of no_tables (code_from deck 0 deck)) t) (sym (before_all deck))
    (beside_from deck 0 deck no_tables nothing_taken (record { constants = refl; elements = refl; exits = refl }))

-- ---- DOEs: a statement's number ends at most as many as there are DOs

-- how many DOs end, over all statements
ended : List Do → List Statement → ℕ
ended ds [] = 0
ended ds (s ∷ more) = length (ending_with s.number ds) + ended ds more

-- how many statements have a number
numbered : ℕ → List Statement → ℕ
numbered n [] = 0
numbered n (s ∷ more) = cond (eqb n s.number) (suc (numbered n more)) (numbered n more)

ended_none : (more : List Statement) → ended [] more ≡ 0
unfolding ended
ended_none [] = refl
ended_none (s ∷ more) = let h = ended_none more in omega arith

ended_one : (d : Do) (ds : List Do) (more : List Statement) → ended (d ∷ ds) more ≡ numbered d.last more + ended ds more
unfolding ended numbered
ended_one d ds [] = omega arith
ended_one d ds (s ∷ more) = go (eqb d.last s.number) (ended_one d ds more)
  where
    go : (t : Bool) → ended (d ∷ ds) more ≡ numbered d.last more + ended ds more →
        length (cond t (d ∷ ending_with s.number ds) (ending_with s.number ds)) + ended (d ∷ ds) more ≡
        cond t (suc (numbered d.last more)) (numbered d.last more) + (length (ending_with s.number ds) + ended ds more)
    go true h = omega arith
    go false h = omega arith

-- a number that no statement has, and one that is found at one position only
not_numbered : (n : ℕ) (more : List Statement) → ((j : ℕ) (s : Statement) → get_elem? more j ≡ some s → n ≡ s.number → ⊥) → numbered n more ≡ 0
unfolding numbered
not_numbered n [] h = refl
not_numbered n (s ∷ more) h =
    cases (λ (m : ℕ). m ≡ 0) (eqb n s.number) (suc (numbered n more)) (numbered n more) (λ e. absurd (h 0 s refl (eqb-true n s.number e)))
    (λ e. not_numbered n more (λ j t a. h (suc j) t a))

once_numbered : (n p : ℕ) (more : List Statement) → ((j : ℕ) (s : Statement) → get_elem? more j ≡ some s → n ≡ s.number → j ≡ p) → numbered n more ≤ 1
unfolding numbered
once_numbered n p [] h = omega arith
once_numbered n p (s ∷ more) h =
    cases (λ (m : ℕ). m ≤ 1) (eqb n s.number) (suc (numbered n more)) (numbered n more)
    (λ e.
    let z = h 0 s refl (eqb-true n s.number e) in
    let r = not_numbered n more (λ j t a b. let y = h (suc j) t a b in omega arith) in
    omega arith)
    (λ e. once_numbered n (p - 1) more (λ j t a b. let y = h (suc j) t a b in omega arith))

few_ended : (deck : List Statement) (ds : List Do) → ((d : Do) → Among d ds → numbered d.last deck ≤ 1) → ended ds deck ≤ length ds
few_ended deck [] h = let e = ended_none deck in omega arith
few_ended deck (d ∷ ds) h =
    let e = ended_one d ds deck in
    let one = h d here in
    let r = few_ended deck ds (λ x a. h x (there a)) in
    omega arith

few_ends : {house : House} {deck : List Statement} → Accepted house deck → ended (dos_of deck) deck ≤ length (dos_of deck)
few_ends {house} {deck} accepted = few_ended deck (dos_of deck) (λ d a. once_numbered d.last (position_of deck d.last) deck (λ j s e n. found d a j s e n))
  where
    found : (d : Do) → Among d (dos_of deck) → (j : ℕ) (s : Statement) → get_elem? deck j ≡ some s → d.last ≡ s.number → j ≡ position_of deck d.last
    found d a j s e n =
        let z = last_number accepted d a in
        let p = number_at accepted j s e (omega arith) in
        sym (ap (position_of deck) n ∙ p)

-- ---- code

code_from_lem : (deck : List Statement) (q : ℕ) (more : List Statement) (t : Taken) →
    t.code + length (code_from deck q more) + length (dos_from q more) ≡ (taken_from q more t).code + ended (dos_of deck) more
unfolding takes endings ended
code_from_lem deck q [] t = omega arith
code_from_lem deck q (s ∷ more) t =
    let h = code_from_lem deck (suc q) more (takes q s.form t) in
    let f = form_length (held_of deck) (dims_of deck) (address_of deck) (enter_code deck q s.form) s.form in
    let d = dos_of_lem q s.form in
    let l = length-map (endings deck s.number) (do_instr deck DOE) in
    let r = length-reverse (ending_with s.number (dos_of deck)) in
    simp length-append (omega arith)

code_fits : {house : House} {deck : List Statement} → Accepted house deck → length (code_of deck) ≤ (taken_before deck (length deck)).code
unfolding code_of dos_of
code_fits {house} {deck} accepted =
    let h = code_from_lem deck 0 deck nothing_taken in
    let f = few_ends accepted in
    let e = ap (λ (t : Taken). t.code) (before_all deck) in
    omega arith

pub fitting : {house : House} {deck : List Statement} → Accepted house deck → Fitting deck
unfolding dos_of
fitting {house} {deck} accepted =
    let w = within (taken_before deck (length deck)) (last_right deck accepted) in
    let b = beside deck in
    let m = held_all deck in
    let c = code_fits accepted in
    let d = ap (λ (t : Taken). t.dos) (before_all deck) ∙ dos_from_lem 0 deck nothing_taken in
    let e = b.elements in
    let x = b.exits in
    record {
      cells = subst (λ (held : List Held). cell_count held ≤ limits.cells) m w.cells;
      code = omega (arith, w.code);
      constants = subst (λ (l : List ℕ). length l ≤ limits.constants) (sym b.constants) w.constants;
      elements = omega (arith, w.elements);
      exits = omega (arith, w.exits);
      dos = omega (arith, w.dos);
      names = subst (λ (held : List Held). name_count held ≤ limits.names) m w.names;
    }
