-- The draft of an accepted deck against its translation: DOs without bodies, constants, elements, and how many.
-- Assumes nothing.
use mathlib.Core.Path.{◌≡◌, refl, sym, ap, ◌∙◌, subst}
use Prim.Native.Nat.{ℕ, suc, ◌+◌}
use mathlib.Core.Bool.{Bool, false, ◌||◌}
use mathlib.Core.List.{List, [], ◌∷◌, ◌++◌, map, append-nil, append_assoc}
use lib.ListN.{length}
use borrow.Author.Tests.{eq-eqb}
use Rattle.rules_shared.specs.House.{House}
use Rattle.rules_object.specs.Object.{Loop, Element}
use Rattle.rules_object.specs.Operations.{Instr, HLT, CON, LOD, STO, LDE, STE, OP, NEG, JMP, BR3, BRC, DOI, DOE, READ, PRINT}
use Rattle.rules_shared.proofs.EachLaws.{each_head}
use Rattle.rules_text.specs.Trees.{Name, value_of, Form, assign, go_to, computed, ifs, loop, continue, stop, end, dimension, Statement, form_last, Range, parts_of}
use Rattle.rules_deck.specs.Deck.{Do, Dims, do_of, dos_from, dos_of, endings, dims_of}
use Rattle.rules_deck.specs.Meaning.{third}
use Rattle.rules_deck.specs.Translation.{Held, hidden, is_hidden, cell_of, limit_of, appear, form_plain, brings, held_from, held_of, expr_code, form_code, do_instr, enter_code, address_of, statement_code, code_from, code_of, Tables, no_tables, list_elements, tables_after, tables_of, translate, doi_for}
use Rattle.rules_deck.specs.Judge.{form_pooled, pool_all, Taken, nothing_taken, takes}
use Rattle.rules_deck.specs.Accepted.{taken_from, Accepted}
use Rattle.rules_deck.proofs.CellLaws.{holds_right}
use Rattle.rules_deck.proofs.TableLaws.{tables_append, statement_brings}
use Rattle.rules_deck.proofs.DeckCells.{grown_held}
use Rattle.take_draft.specs.Names.{Known}
use Rattle.take_draft.specs.Parts.{form_first}
use Rattle.take_draft.specs.Draft.{entries_of, no_loop, Draft, no_draft, drafts, draft_from, draft_of}
use Rattle.take_draft.specs.Sketch.{plain_from, plain_code, open_entry}
use Rattle.take_draft.proofs.Matching.{matches_deck}
use Rattle.take_draft.proofs.Steady.{cell_stays, limit_stays}
use Rattle.take_draft.proofs.FinalDraft.{Knows, done, next, knows_deck, final_tables}

-- ---- DOs

abbrev entries_from_lem : ℕ → List Held → List Statement → List Loop
entries_from_lem q held [] = []
entries_from_lem q held (s ∷ more) = entries_of (brings q s.form held) q s.form ++ entries_from_lem (suc q) (brings q s.form held) more

dos_made : (q : ℕ) (deck : List Statement) (D : Draft) → (draft_from q deck D).dos ≡ D.dos ++ entries_from_lem q D.held deck
unfolding drafts
dos_made q [] D = sym (append-nil D.dos)
dos_made q (s ∷ deck) D =
    let later = brings q s.form D.held in
    dos_made (suc q) deck (drafts q s D) ∙ append_assoc D.dos (entries_of later q s.form) (entries_from_lem (suc q) later deck)

-- an entry with the cells of a map
abbrev entry_in_lem : List Held → Do → Loop
entry_in_lem held d =
    record {
      variable = cell_of held d.variable;
      limit = limit_of held d.position;
      step = suc (limit_of held d.position);
      body = 0;
    }

entry_stays : (held more : List Held) (q : ℕ) (f : Form) → Known (brings q f held) (form_first f) → entries_of (brings q f held) q f ≡ map (entry_in_lem (brings q f held ++ more)) (do_of q f)
entry_stays held more q (assign t e) w = refl
entry_stays held more q (go_to n) w = refl
entry_stays held more q (computed ns v) w = refl
entry_stays held more q (ifs e a b c) w = refl
entry_stays held more q (loop n v p₁ p₂ p₃) w =
    let f = loop n v p₁ p₂ p₃ in
    let h = holds_right (is_hidden q) (appear held (form_plain f)) (hidden q ∷ []) (ap (λ (b : Bool). b || false) (eq-eqb q q refl)) in
    rw (cell_stays (brings q f held) more v (each_head w.plains), limit_stays (brings q f held) more q h)
entry_stays held more q continue w = refl
entry_stays held more q stop w = refl
entry_stays held more q end w = refl
entry_stays held more q (dimension arrays) w = refl

map_append : {A B : Type 0} (f : A → B) (a b : List A) → map f (a ++ b) ≡ map f a ++ map f b
map_append f [] b = refl
map_append {A} {B} f (x ∷ a) b = ap (λ (l : List B). f x ∷ l) (map_append f a b)

entries_last : (q : ℕ) (held last : List Held) (deck : List Statement) → Knows q held deck → held_from q deck held ≡ last → entries_from_lem q held deck ≡ map (entry_in_lem last) (dos_from q deck)
entries_last q held last [] done e = refl
entries_last q held last (s ∷ deck) (next w x h) e =
    let later = brings q s.form held in
    let g = grown_held (suc q) deck later in
    let is : last ≡ later ++ g.more = sym e ∙ g.is in
    let same : entries_of later q s.form ≡ map (entry_in_lem last) (do_of q s.form) =
    subst (λ (l : List Held). entries_of later q s.form ≡ map (entry_in_lem l) (do_of q s.form)) (sym is) (entry_stays held g.more q s.form w) in
    rw (same, entries_last (suc q) later last deck h e) (sym (map_append (entry_in_lem last) (do_of q s.form) (dos_from (suc q) deck)))

pub final_dos : {house : House} {deck : List Statement} → Accepted house deck → (draft_of deck).dos ≡ map (open_entry deck) (dos_of deck)
unfolding draft_of held_of dos_of
final_dos {house} {deck} accepted = dos_made 0 deck no_draft ∙ entries_last 0 [] (held_of deck) deck (knows_deck accepted) refl

-- ---- constants

constants_from : (deck : List Statement) (q : ℕ) (more : List Statement) (T : Tables) (t : Taken) → T.constants ≡ t.constants
    → (tables_of T (code_from deck q more)).constants ≡ (taken_from q more t).constants
unfolding takes
constants_from deck q [] T t e = e
constants_from deck q (s ∷ more) T t e =
    ap (λ (U : Tables). U.constants) (tables_append T (statement_code deck q s) (code_from deck (suc q) more)) ∙
    constants_from deck (suc q) more (tables_of T (statement_code deck q s)) (takes q s.form t)
    ((statement_brings deck q s).constants T ∙ ap (λ (p : List ℕ). pool_all p (form_pooled s.form)) e)

-- of any deck
pub final_constants : (house : House) (deck : List Statement) → (draft_of deck).tables.constants ≡ (translate house deck).constants
unfolding translate code_of
final_constants house deck = sym (constants_from deck 0 deck no_tables nothing_taken refl ∙ (matches_deck deck).constants)

-- ---- elements

abbrev elements_of : Instr → List Element
elements_of (HLT x) = []
elements_of (CON c) = []
elements_of (LOD a) = []
elements_of (STO a) = []
elements_of (LDE e) = e ∷ []
elements_of (STE e) = e ∷ []
elements_of (OP o) = []
elements_of NEG = []
elements_of (JMP a) = []
elements_of (BR3 a b c) = []
elements_of (BRC ts) = []
elements_of (DOI n d) = []
elements_of (DOE n d) = []
elements_of (READ n f list) = list_elements list
elements_of (PRINT n f list) = list_elements list

abbrev elements_in : List Instr → List Element
elements_in [] = []
elements_in (i ∷ is) = elements_of i ++ elements_in is

elements_append : (a b : List Instr) → elements_in (a ++ b) ≡ elements_in a ++ elements_in b
elements_append [] b = refl
elements_append (i ∷ a) b = ap (λ (l : List Element). elements_of i ++ l) (elements_append a b) ∙ sym (append_assoc (elements_of i) (elements_in a) (elements_in b))

element_after : (T : Tables) (i : Instr) → (tables_after T i).elements ≡ T.elements ++ elements_of i
element_after T (HLT x) = sym (append-nil T.elements)
element_after T (CON c) = sym (append-nil T.elements)
element_after T (LOD a) = sym (append-nil T.elements)
element_after T (STO a) = sym (append-nil T.elements)
element_after T (LDE e) = refl
element_after T (STE e) = refl
element_after T (OP o) = sym (append-nil T.elements)
element_after T NEG = sym (append-nil T.elements)
element_after T (JMP a) = sym (append-nil T.elements)
element_after T (BR3 a b c) = sym (append-nil T.elements)
element_after T (BRC ts) = sym (append-nil T.elements)
element_after T (DOI n d) = sym (append-nil T.elements)
element_after T (DOE n d) = sym (append-nil T.elements)
element_after T (READ n f list) = refl
element_after T (PRINT n f list) = refl

elements_after : (T : Tables) (is : List Instr) → (tables_of T is).elements ≡ T.elements ++ elements_in is
elements_after T [] = sym (append-nil T.elements)
elements_after T (i ∷ is) =
    elements_after (tables_after T i) is ∙ ap (λ (l : List Element). l ++ elements_in is) (element_after T i) ∙ append_assoc T.elements (elements_of i) (elements_in is)

-- neither addresses nor a DO's number matter
module _ (held : List Held) (dims : Name → Dims) where
  form_elements : (address address' : ℕ → ℕ) (entry entry' : Instr) → elements_of entry ≡ elements_of entry' → (f : Form)
      → elements_in (form_code held dims address entry f) ≡ elements_in (form_code held dims address' entry' f)
  form_elements address address' entry entry' same (assign t e) = refl
  form_elements address address' entry entry' same (go_to n) = refl
  form_elements address address' entry entry' same (computed ns v) = refl
  form_elements address address' entry entry' same (ifs e a b c) =
      elements_append (expr_code held dims e) _ ∙ sym (elements_append (expr_code held dims e) (BR3 (address' (value_of a)) (address' (value_of b)) (address' (value_of c)) ∷ []))
  form_elements address address' entry entry' same (loop n v p₁ p₂ p₃) =
      rw (
        elements_append (expr_code held dims p₁) (expr_code held dims p₂ ++ (expr_code held dims (third p₃) ++ (entry ∷ []))),
        elements_append (expr_code held dims p₁) (expr_code held dims p₂ ++ (expr_code held dims (third p₃) ++ (entry' ∷ []))),
        elements_append (expr_code held dims p₂) (expr_code held dims (third p₃) ++ (entry ∷ [])),
        elements_append (expr_code held dims p₂) (expr_code held dims (third p₃) ++ (entry' ∷ [])),
        elements_append (expr_code held dims (third p₃)) (entry ∷ []),
        elements_append (expr_code held dims (third p₃)) (entry' ∷ []),
        same,
      )
  form_elements address address' entry entry' same continue = refl
  form_elements address address' entry entry' same stop = refl
  form_elements address address' entry entry' same end = refl
  form_elements address address' entry entry' same (dimension arrays) = refl

enter_elements : (deck : List Statement) (q : ℕ) (f : Form) → elements_of (enter_code deck q f) ≡ []
enter_elements deck q f = go (parts_of f).opens
  where
    go : (ds : List Range) → elements_of (doi_for deck q ds) ≡ []
    go [] = refl
    go (d ∷ ds) = refl

ends_elements : (deck : List Statement) (ds : List Do) → elements_in (map (do_instr deck DOE) ds) ≡ []
ends_elements deck [] = refl
ends_elements deck (d ∷ ds) = ends_elements deck ds

code_elements : (deck : List Statement) (q d : ℕ) (more : List Statement) → elements_in (code_from deck q more) ≡ elements_in (plain_from (held_of deck) (dims_of deck) d more)
code_elements deck q d [] = refl
code_elements deck q d (s ∷ more) =
    let held = held_of deck in
    let own = form_code held (dims_of deck) (address_of deck) (enter_code deck q s.form) s.form in
    let ends = map (do_instr deck DOE) (endings deck s.number) in
    let plain = form_code held (dims_of deck) (λ n. n) (DOI d no_loop) s.form in
    let n = d + length (form_last s.form) in
    let same : elements_in own ≡ elements_in plain =
    form_elements held (dims_of deck) (address_of deck) (λ n. n) (enter_code deck q s.form) (DOI d no_loop) (enter_elements deck q s.form) s.form in
    elements_append (own ++ ends) (code_from deck (suc q) more) ∙
    ap (λ (l : List Element). l ++ elements_in (code_from deck (suc q) more)) (elements_append own ends ∙ ap (λ (l : List Element). elements_in own ++ l) (ends_elements deck (endings deck s.number)) ∙ append-nil (elements_in own) ∙ same) ∙
    ap (λ (l : List Element). elements_in plain ++ l) (code_elements deck (suc q) n more) ∙ sym (elements_append plain (plain_from held (dims_of deck) n more))

pub final_elements : {house : House} {deck : List Statement} → Accepted house deck → (draft_of deck).tables.elements ≡ (translate house deck).elements
unfolding translate code_of plain_code
final_elements {house} {deck} accepted =
    ap (λ (T : Tables). T.elements) (final_tables accepted) ∙ elements_after no_tables (plain_code deck) ∙ sym (code_elements deck 0 0 deck) ∙
    sym (elements_after no_tables (code_from deck 0 deck))
