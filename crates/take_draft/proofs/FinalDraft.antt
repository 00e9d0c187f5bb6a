-- The draft of an accepted deck: its code, tables and DOs are those of the deck's own map, though each was made with the names up to its statement.
-- Assumes nothing.
use mathlib.Core.Path.{◌≡◌, refl, sym, ap, ◌∙◌, subst}
use Prim.Native.Nat.{ℕ, suc, ◌+◌}
use native.Mathlib.Nat.{zero-add, add-zero}
use native.Mathlib.Omega.{arith}
use mathlib.Core.List.{List, [], ◌∷◌, ◌++◌, append-nil, append_assoc}
use mathlib.Core.Option.{some}
use lib.ListN.{length, get_elem?, length-append}
use Rattle.rules_shared.specs.House.{House}
use Rattle.rules_object.specs.Operations.{Instr, DOI}
use Rattle.rules_text.specs.Trees.{Name, Statement, form_last}
use Rattle.rules_deck.specs.Deck.{Dims, dims_in, dims_of}
use Rattle.rules_deck.specs.Translation.{Held, brings, held_from, held_of, form_code, Tables, no_tables, tables_after, tables_of, word_of, emit}
use Rattle.rules_deck.specs.Judge.{Taken, takes}
use Rattle.rules_deck.specs.Accepted.{taken_before, Accepted}
use Rattle.rules_deck.proofs.ArrayLaws.{arrays_held_lem}
use Rattle.rules_deck.proofs.TakenLaws.{before_next}
use Rattle.rules_deck.proofs.TableLaws.{tables_append}
use Rattle.rules_deck.proofs.DeckCells.{grown_held}
use Rattle.take_draft.specs.Parts.{form_first, form_items}
use Rattle.take_draft.specs.Names.{dims_held, Known}
use Rattle.take_draft.specs.Draft.{entries_of, no_loop, draft_code, Draft, no_draft, drafts, draft_from, draft_of}
use Rattle.take_draft.specs.Sketch.{plain_from, plain_code}
use Rattle.take_draft.proofs.Knowing.{brings_first, brings_items}
use Rattle.take_draft.proofs.Matching.{entries_count}
use Rattle.take_draft.proofs.Steady.{form_stays}

-- ---- the code as it was made, statement after statement

abbrev made_from : ℕ → ℕ → List Held → List Statement → List Instr
made_from q d held [] = []
made_from q d held (s ∷ more) =
    draft_code d (brings q s.form held) s.form ++ made_from (suc q) (d + length (form_last s.form)) (brings q s.form held) more

pub emit_append : (T : Tables) (a b : List Instr) → emit T (a ++ b) ≡ emit T a ++ emit (tables_of T a) b
emit_append T [] b = refl
emit_append T (i ∷ a) b = ap (λ (l : List ℕ). word_of T i ∷ l) (emit_append (tables_after T i) a b)

pub dos_next : (q : ℕ) (s : Statement) (D : Draft) → length (drafts q s D).dos ≡ length D.dos + length (form_last s.form)
unfolding drafts
dos_next q s D = length-append D.dos (entries_of (brings q s.form D.held) q s.form) ∙ ap (λ (n : ℕ). length D.dos + n) (entries_count (brings q s.form D.held) q s.form)

tables_made : (q : ℕ) (deck : List Statement) (D : Draft) → (draft_from q deck D).tables ≡ tables_of D.tables (made_from q (length D.dos) D.held deck)
unfolding drafts
tables_made q [] D = refl
tables_made q (s ∷ deck) D =
    let later = brings q s.form D.held in
    let first = draft_code (length D.dos) later s.form in
    tables_made (suc q) deck (drafts q s D) ∙ ap (λ (n : ℕ). tables_of (tables_of D.tables first) (made_from (suc q) n later deck)) (dos_next q s D) ∙
    sym (tables_append D.tables first (made_from (suc q) (length D.dos + length (form_last s.form)) later deck))

code_made : (q : ℕ) (deck : List Statement) (D : Draft) → (draft_from q deck D).code ≡ D.code ++ emit D.tables (made_from q (length D.dos) D.held deck)
unfolding drafts
code_made q [] D = sym (append-nil D.code)
code_made q (s ∷ deck) D =
    let later = brings q s.form D.held in
    let first = draft_code (length D.dos) later s.form in
    let rest = made_from (suc q) (length D.dos + length (form_last s.form)) later deck in
    code_made (suc q) deck (drafts q s D) ∙
    ap (λ (n : ℕ). (D.code ++ emit D.tables first) ++ emit (tables_of D.tables first) (made_from (suc q) n later deck)) (dos_next q s D) ∙
    append_assoc D.code (emit D.tables first) (emit (tables_of D.tables first) rest) ∙ ap (λ (l : List ℕ). D.code ++ l) (sym (emit_append D.tables first rest))

-- ---- each statement's operands are known when its code is made

pub data Knows : ℕ → List Held → List Statement → Type 0 where
  done : {q : ℕ} {held : List Held} → Knows q held []
  next : {q : ℕ} {held : List Held} {s : Statement} {more : List Statement} → Known (brings q s.form held) (form_first s.form)
      → Known (brings q s.form held) (form_items s.form) → Knows (suc q) (brings q s.form held) more → Knows q held (s ∷ more)

module _ {house : House} {deck : List Statement} (accepted : Accepted house deck) where
  next_held : (q : ℕ) (s : Statement) → get_elem? deck q ≡ some s → (taken_before deck (suc q)).held ≡ brings q s.form (taken_before deck q).held
  unfolding takes
  next_held q s e = ap (λ (t : Taken). t.held) (before_next deck q s e)

  knows_from : (q : ℕ) (more : List Statement) → ((j : ℕ) (s : Statement) → get_elem? more j ≡ some s → get_elem? deck (q + j) ≡ some s) → Knows q (taken_before deck q).held more
  knows_from q [] at = done
  knows_from q (s ∷ more) at =
      let e = subst (λ (n : ℕ). get_elem? deck n ≡ some s) (add-zero q) (at 0 s refl) in
      let j = accepted.judged q s e in
      let held = (taken_before deck q).held in
      let rest = knows_from (suc q) more (λ i t f. subst (λ (n : ℕ). get_elem? deck n ≡ some t) (let m : q + suc i ≡ suc q + i = omega arith in m) (at (suc i) t f)) in
      next (brings_first accepted.lawful j.text s.form held j.form accepted.digits j.passes11 j.passes12 j.passes16 q)
      (brings_items accepted.lawful j.text s.form held j.form accepted.digits j.passes11 j.passes12 j.passes16 q)
      (subst (λ (l : List Held). Knows (suc q) l more) (next_held q s e) rest)

  pub knows_deck : Knows 0 [] deck
  unfolding taken_before
  knows_deck = knows_from 0 deck (λ j s e. subst (λ (n : ℕ). get_elem? deck n ≡ some s) (sym (zero-add j)) e)

-- ---- so the code is as the last map has it

made_plain : (q d : ℕ) (held last : List Held) (deck : List Statement) → Knows q held deck → held_from q deck held ≡ last → made_from q d held deck ≡ plain_from last (dims_held last) d deck
made_plain q d held last [] done e = refl
made_plain q d held last (s ∷ deck) (next w x h) e =
    let later = brings q s.form held in
    let g = grown_held (suc q) deck later in
    let is : last ≡ later ++ g.more = sym e ∙ g.is in
    let same : form_code last (dims_held last) (λ n. n) (DOI d no_loop) s.form ≡ draft_code d later s.form =
    subst (λ (l : List Held). form_code l (dims_held l) (λ n. n) (DOI d no_loop) s.form ≡ draft_code d later s.form) (sym is) (form_stays later g.more (DOI d no_loop) s.form w x) in
    rw (same, made_plain (suc q) (d + length (form_last s.form)) later last deck h e)

pub dims_deck : (deck : List Statement) → dims_held (held_of deck) ≡ dims_of deck
unfolding dims_of
dims_deck deck = ap {B = Name → Dims} dims_in (arrays_held_lem deck)

made_deck : {house : House} {deck : List Statement} → Accepted house deck → made_from 0 0 [] deck ≡ plain_code deck
unfolding plain_code held_of
made_deck {house} {deck} accepted =
    made_plain 0 0 [] (held_of deck) deck (knows_deck accepted) refl ∙ ap (λ (dims : Name → Dims). plain_from (held_of deck) dims 0 deck) (dims_deck deck)

pub final_tables : {house : House} {deck : List Statement} → Accepted house deck → (draft_of deck).tables ≡ tables_of no_tables (plain_code deck)
unfolding draft_of
final_tables {house} {deck} accepted = tables_made 0 deck no_draft ∙ ap (tables_of no_tables) (made_deck accepted)

pub final_code : {house : House} {deck : List Statement} → Accepted house deck → (draft_of deck).code ≡ emit no_tables (plain_code deck)
unfolding draft_of
final_code {house} {deck} accepted = code_made 0 deck no_draft ∙ ap (emit no_tables) (made_deck accepted)
