-- Every promise, each under a sentence in plain words. Decks and objects are bytes here; `compiling`, `checking`, `running`, `benching` and `mapping` are the calls,
-- `meaning_of` is what a deck means, `printed` what the program prints. A deck is compiled in a house: the calls have the 1401's with k digits, `house1401 k`. A run is lent trays, the bytes of its cards and the room for its lines. `Judged`, `Runnable`, `TouchesOnly` and `StepsOf` stand in `rules_object`, in `Promised.antt`. `proofs/Kept.antt` has the proof of each.
-- Assumes nothing.
use Rattle.std.specs.Prelude.{◌≡◌, ◌↔◌, ℕ, suc, ◌+◌, ◌*◌, ◌≤◌, ◌<◌, true, List, [], ◌∷◌, ◌++◌, length, take, drop, ℤ, pos}
use Rattle.std.proofs.Math.Option.{none, some}
use Rattle.std.proofs.Math.ListN.{get_elem?}
use Rattle.number.specs.Number.{Rule, Fits}
use Rattle.rules_shared.specs.Limits.{limits}
use Rattle.rules_shared.specs.House.{House, house1401}
use Rattle.rules_shared.specs.Runs.{go, halt, run}
use Rattle.rules_formats.specs.Fields.{holds, printed as printedNumber, field_read}
use Rattle.rules_formats.specs.Walk.{Trays, no_trays, devices_of}
use Rattle.rules_object.specs.Halts.{halt_number}
use Rattle.rules_shared.specs.Choose.{positive, SubscriptParts, subscript_value, place}
use Rattle.rules_object.specs.Object.{Named, Object}
use Rattle.rules_object.specs.Check.{span, right41}
use Rattle.rules_object.specs.Operations.{flow_of}
use Rattle.rules_object.specs.Machine.{State, cell, step, bench_step}
use Rattle.rules_object.specs.Bytes.{object_bytes, read_object}
use Rattle.rules_object.specs.Writable.{IsByte, Writable}
use Rattle.rules_object.specs.Flow.{height_at, Valid, NoTable, Reached, PathsAgree}
use Rattle.rules_object.specs.Heights.{heights}
use Rattle.rules_shared.specs.Refusals.{refusal, accepted, Refusal}
use Rattle.rules_shared.specs.Output.{not_written}
use Rattle.rules_object.specs.Calls.{checking, Lent, taken, Ran, not_run, running, benching, mapping}
use Rattle.rules_object.specs.Safe.{Right, NoFaultHalt, ran_with_cells, fresh_lent, rest, after_run, In}
use Rattle.rules_object.specs.Small.{word_hlt, word_con, word_add, word_jmp, object, code_only}
use Rattle.rules_shared.specs.Lists.{Each}
use Rattle.rules_object.specs.Promised.{Judged, right_store, Runnable, TouchesOnly, StepsOf}
use Rattle.rules_text.specs.Trees.{Name, Statement, Form}
use Rattle.rules_deck.specs.Deck.{Do, endings}
use Rattle.rules_text.specs.Cards.{card_length}
use Rattle.rules_text.specs.Grammar.{form_of}
use Rattle.rules_deck.specs.Meaning.{Cause, Key, bounds, Standing}
use Rattle.rules_deck.specs.Translation.{address_at, filled}
use Rattle.rules_deck.specs.Compile.{deck_of, compiling}
use Rattle.rules_deck.specs.Lawful.{Lawful}
use Rattle.rules_deck.specs.Accepted.{Among}
use Rattle.rules_text.specs.Spelling.{spell_form, Spells, Spellable, without_pluses}
use Rattle.rules_deck.specs.Unspelled.{NoForm}
use Rattle.rules_deck.specs.Seen.{statements_of, meaning_of, halt_of, deck_steps, InStatement, deck_names, deck_dims, deck_levels, object_in, named_cell, named_values, line_of, series, sum}
use Rattle.rules_deck.specs.Worked.{decks, DecksRight}
use Rattle.rules_program.specs.Text.{halt_line, refused_line, name_lines}
use Rattle.rules_program.specs.Program.{control_of, zero_store, printed}

-- compiling the deck in a house that is lawful gives the object
pub record Compiled (house : House) (deck object : List ℕ) : Type 0 where
  pub lawful : Lawful house
  pub output : List ℕ
  pub accepts : (compiling house deck output).refusal ≡ accepted
  pub writes : object_in (compiling house deck output) ≡ object

-- The 1401's house is lawful, whatever k is: what is promised of any lawful house is promised of it.
abbrev pub HouseLawful : Type 0
HouseLawful = (k : ℕ) → Lawful (house1401 k)

-- ---- 1, 2. A run does as the deck means

-- the answer has the meaning's named values, and its first statement that lost digits
pub record Alike (object : List ℕ) (m : Standing) (r : Ran) : Type 0 where
  pub accepts : r.refusal ≡ accepted
  pub values : (x : Key) (c : ℕ) → named_cell object x ≡ some c → cell r.store c ≡ m.values x
  pub lost : r.sequence ≡ m.lost

-- and the same halt, at a word of the statement at which the meaning halted, which body 6 tells, after n steps
pub record HaltedAlike (house : House) (deck object : List ℕ) (h : Cause) (m : Standing) (n : ℕ) (r : Ran) : Type 0 where
  pub alike : Alike object m r
  pub halts : r.halt ≡ halt_number (halt_of h)
  pub at : InStatement (statements_of (deck_of house deck)) m.at r.lent.index
  pub line : line_of object r.lent.index ≡ suc m.at
  pub steps : r.steps ≡ n

-- If the meaning, which starts from the named values alone, halts, then runs one after the other halt alike, after just the steps that its statements take; allowed fewer, they halt by 2.
abbrev pub HaltsAlike : Type 0
HaltsAlike =
    (house : House) (deck object : List ℕ) (store : List ℤ) (trays : Trays) → Compiled house deck object → right_store object store ≡ true → (n : ℕ) (h : Cause) (m : Standing) →
    meaning_of house deck (named_values object store) n ≡ some (halt h m) → (allowances : List ℕ) →
    (deck_steps house deck (named_values object store) n ≤ sum allowances →
    HaltedAlike house deck object h m (deck_steps house deck (named_values object store) n) (series object store fresh_lent trays allowances)) ×
    (sum allowances < deck_steps house deck (named_values object store) n → (series object store fresh_lent trays allowances).halt ≡ 2)

-- the meaning halts, and the run with it
pub record Meant (house : House) (deck object : List ℕ) (store : List ℤ) (r : Ran) : Type 0 where
  pub count : ℕ
  pub how : Cause
  pub end : Standing
  pub halts : meaning_of house deck (named_values object store) count ≡ some (halt how end)
  pub alike : HaltedAlike house deck object how end (deck_steps house deck (named_values object store) count) r

-- If runs one after the other halt other than by 2, the meaning halts alike.
abbrev pub MeansAlike : Type 0
MeansAlike =
    (house : House) (deck object : List ℕ) (store : List ℤ) (trays : Trays) → Compiled house deck object → right_store object store ≡ true → (allowances : List ℕ) →
    ((series object store fresh_lent trays allowances).halt ≡ 2 → ⊥) → Meant house deck object store (series object store fresh_lent trays allowances)

-- or the allowance is used, at the first word of the statement that comes next in the meaning, after n steps
pub record StandsAlike (house : House) (deck object : List ℕ) (m : Standing) (n : ℕ) (r : Ran) : Type 0 where
  pub alike : Alike object m r
  pub halts : r.halt ≡ 2
  pub at : r.lent.index ≡ address_at (statements_of (deck_of house deck)) m.at
  pub height : r.lent.height ≡ 0
  pub steps : r.steps ≡ n

-- While the meaning goes on, runs that are allowed just the steps that its statements take stand where it stands.
abbrev pub GoesAlike : Type 0
GoesAlike =
    (house : House) (deck object : List ℕ) (store : List ℤ) (trays : Trays) → Compiled house deck object → right_store object store ≡ true → (n : ℕ) (m : Standing) →
    meaning_of house deck (named_values object store) n ≡ some (go m) → (allowances : List ℕ) → sum allowances ≡ deck_steps house deck (named_values object store) n →
    StandsAlike house deck object m (deck_steps house deck (named_values object store) n) (series object store fresh_lent trays allowances)

-- A deck that never halts is never made to halt.
abbrev pub NeverHalts : Type 0
NeverHalts =
    (house : House) (deck object : List ℕ) (store : List ℤ) (trays : Trays) → Compiled house deck object → right_store object store ≡ true →
    ((n : ℕ) (h : Cause) (m : Standing) → meaning_of house deck (named_values object store) n ≡ some (halt h m) → ⊥) →
    (allowances : List ℕ) → (series object store fresh_lent trays allowances).halt ≡ 2

-- A DO's end is reached only after its DO, with a step above 0: so nothing depends on what hidden cells held at the start.
abbrev pub EndsAfterDo : Type 0
EndsAfterDo =
    (house : House) (deck object : List ℕ) (store : List ℤ) → Compiled house deck object → right_store object store ≡ true → (n : ℕ) (m : Standing) →
    meaning_of house deck (named_values object store) n ≡ some (go m) → (s : Statement) → get_elem? (statements_of (deck_of house deck)) m.at ≡ some s →
    (d : Do) → Among d (endings (statements_of (deck_of house deck)) s.number) → (limit : ℤ) × ((step : ℤ) × ((m.entered d.position ≡ bounds limit step) × (positive step ≡ true)))

-- an entry of body 7 that is a name's, with what the deck says of the name
pub record EntryOf (house : House) (deck : List ℕ) (v : Name) (e : Named) : Type 0 where
  pub named : e.name ≡ filled house.name_bytes v
  pub rows : e.rows ≡ (deck_dims house deck v).rows
  pub columns : e.columns ≡ (deck_dims house deck v).columns

pub record OneEntry (house : House) (deck : List ℕ) (v : Name) (names : List Named) : Type 0 where
  pub at : ℕ
  pub entry : Named
  pub there : get_elem? names at ≡ some entry
  pub is : EntryOf house deck v entry
  pub only : (i : ℕ) (other : Named) → get_elem? names i ≡ some other → other.name ≡ filled house.name_bytes v → i ≡ at

pub record NamesOf (house : House) (deck : List ℕ) (names : List Named) : Type 0 where
  pub each : (v : Name) → Among v (deck_names house deck) → OneEntry house deck v names
  pub others : (i : ℕ) (e : Named) → get_elem? names i ≡ some e → (v : Name) × (Among v (deck_names house deck) × EntryOf house deck v e)
  pub order : (i j : ℕ) (e later : Named) → i < j → get_elem? names i ≡ some e → get_elem? names j ≡ some later → e.first + span e.rows e.columns ≤ later.first

-- Body 7 has one entry for each name of the deck, with its dimensions (0 and 0 for a plain one, columns 0 for one dimension), no other entry, and an entry's cells before those of the next.
abbrev pub NamesOnce : Type 0
NamesOnce = (house : House) (deck object : List ℕ) → Compiled house deck object → (o : Object) → read_object object ≡ some o → NamesOf house deck o.names

-- ---- 3. What may be run is run, and a run can be split

-- What passes the check is run: from a fresh state and a store that 50 and 51 let pass it is never refused.
abbrev pub CheckedRuns : Type 0
CheckedRuns =
    (object : List ℕ) (store : List ℤ) → checking object ≡ accepted → right_store object store ≡ true → (trays : Trays) (a : ℕ) → (running object store fresh_lent trays a).refusal ≡ accepted

-- From any state a run is accepted exactly if object, store and state may be run. 52 asks for no more than a path to the state with its height, numbers that fit, and a mark of the code.
abbrev pub RunsExactly : Type 0
RunsExactly =
    (object : List ℕ) (store : List ℤ) (l : Lent) → length l.places ≡ limits.stack → (trays : Trays) (a : ℕ) → ((running object store l trays a).refusal ≡ accepted) ↔ Runnable object store l

-- A fresh state may be run with whatever passes the check, and a right store.
abbrev pub FreshRunnable : Type 0
FreshRunnable = (object : List ℕ) (store : List ℤ) → checking object ≡ accepted → right_store object store ≡ true → Runnable object store fresh_lent

-- A run of a steps stopped by halt 2, then one of b with the rest of cards and lines, equals one of a + b: steps, cards and lines are added.
abbrev pub GoesOn : Type 0
GoesOn =
    (object : List ℕ) (store : List ℤ) (l : Lent) → Runnable object store l → (trays : Trays) (a b : ℕ) → (running object store l trays a).halt ≡ 2 →
    running object store l trays (a + b) ≡
    after_run (running object store l trays a) (running object (running object store l trays a).store (running object store l trays a).lent (rest trays (running object store l trays a)) b)

-- Runs one after the other are one run of all their allowances together.
abbrev pub SeriesIsRun : Type 0
SeriesIsRun =
    (object : List ℕ) (store : List ℤ) (l : Lent) → length l.places ≡ limits.stack → (trays : Trays) → (running object store l trays 0).refusal ≡ accepted → (allowances : List ℕ) →
    series object store l trays allowances ≡ running object store l trays (sum allowances)

-- What a run leaves may be run again: it is never refused.
abbrev pub NeverRefused : Type 0
NeverRefused =
    (object : List ℕ) (store : List ℤ) (l : Lent) → Runnable object store l → (trays : Trays) (a : ℕ) →
    Runnable object (running object store l trays a).store (running object store l trays a).lent

-- ---- 4. The steps reported are the machine's, and a halt leaves all as before its instruction

-- of a run and of a bench run
abbrev pub StepsTrue : Type 0
StepsTrue =
    (object : List ℕ) (store : List ℤ) (l : Lent) (trays : Trays) (a : ℕ) →
    ((running object store l trays a).refusal ≡ accepted → StepsOf (running object store l trays) a) ×
    ((benching object store l trays a).refusal ≡ accepted → StepsOf (benching object store l trays) a)

-- ---- 5. The check

-- It accepts exactly the bytes of an object that passes 41, 42 and 43, and has a table of heights.
abbrev pub CheckExactly : Type 0
CheckExactly = (object : List ℕ) → (checking object ≡ accepted) ↔ ((o : Object) × (Judged object o × ((H : List ℕ) × Valid (flow_of o) H)))

-- The stack test passes exactly when a table of heights exists, and that is exactly when all paths agree.
pub record Exactly (object : List ℕ) (o : Object) : Type 0 where
  pub table : (checking object ≡ accepted) ↔ ((H : List ℕ) × Valid (flow_of o) H)
  pub paths : ((H : List ℕ) × Valid (flow_of o) H) ↔ PathsAgree (flow_of o)
  pub refused : (checking object ≡ refusal 44 0 0) ↔ NoTable (flow_of o)
  -- the least table has a height exactly where a path reaches
  pub heights : (H : List ℕ) → heights (flow_of o) ≡ some H → (a h : ℕ) → ((a < (flow_of o).n) × ((height_at H a ≡ h) × (h ≤ limits.stack))) ↔ Reached (flow_of o) a h

abbrev pub HeightsExactly : Type 0
HeightsExactly = (object : List ℕ) (o : Object) → Judged object o → Exactly object o

-- ---- 6. What may be run never faults, unguarded, at any allowance

-- at every state of the unguarded run: the index is in the code, what is popped is there, the height after is at most 40, the instruction passes 43 and its entry 42, and
-- every cell that it reads or writes is below the cell count
abbrev pub NoFault : Type 0
NoFault =
    (object : List ℕ) (store : List ℤ) (l : Lent) → Runnable object store l → (o : Object) → read_object object ≡ some o →
    (trays : Trays) (n : ℕ) (t : State) → run (step o) n (taken l store (devices_of trays)) ≡ go t → Right o t

-- so the run that tests everything is the run that tests nothing, and 7 and 8 never come
abbrev pub TestsNothing : Type 0
TestsNothing =
    (object : List ℕ) (store : List ℤ) (l : Lent) → Runnable object store l → (o : Object) → read_object object ≡ some o →
    (trays : Trays) (n : ℕ) →
    (run (bench_step o) n (taken l store (devices_of trays)) ≡ run (step o) n (taken l store (devices_of trays))) × NoFaultHalt (running object store l trays n).halt

-- The list of the cells that a step reads or writes is whole: what the step does hangs on no other cell, and it changes no other.
abbrev pub TouchesListed : Type 0
TouchesListed = (o : Object) (t : State) → TouchesOnly o t

-- cells past the count neither change nor matter
abbrev pub CellsPast : Type 0
CellsPast =
    (object : List ℕ) (store extra : List ℤ) (l : Lent) → Runnable object store l → (trays : Trays) (a : ℕ) →
    running object (store ++ extra) l trays a ≡ ran_with_cells extra (running object store l trays a)

-- the bench run of what passes the check is the run from a fresh state
abbrev pub BenchIsRun : Type 0
BenchIsRun = (object : List ℕ) → checking object ≡ accepted → (store : List ℤ) (trays : Trays) (a : ℕ) → benching object store fresh_lent trays a ≡ running object store fresh_lent trays a

-- Whatever state is lent to a bench run, it is the one from a fresh state: refused alike, or with the same answer.
abbrev pub BenchStartsFresh : Type 0
BenchStartsFresh =
    (object : List ℕ) (store : List ℤ) (l : Lent) (trays : Trays) (a : ℕ) → ((benching object store l trays a).refusal ≡ (benching object store fresh_lent trays a).refusal) ×
    ((benching object store l trays a).refusal ≡ accepted → benching object store l trays a ≡ benching object store fresh_lent trays a)

-- A bench run is accepted exactly if the bytes are an object that passes 41, and the store is right; it refuses only by 40, 41, 50 and 51.
abbrev pub BenchesExactly : Type 0
BenchesExactly =
    (object : List ℕ) (store : List ℤ) (l : Lent) (trays : Trays) (a : ℕ) → ((benching object store l trays a).refusal ≡ accepted) ↔
    ((o : Object) × (read_object object ≡ some o) × (right41 o ≡ true) × (right_store object store ≡ true))

abbrev pub BenchRefuses : Type 0
BenchRefuses = (object : List ℕ) (store : List ℤ) (l : Lent) (trays : Trays) (a : ℕ) → In (benching object store l trays a).refusal.number (0 ∷ 40 ∷ 41 ∷ 50 ∷ 51 ∷ [])

-- Every pair of subscripts from 1 to its dimension has a place in the array, another one for each pair; no other pair has one.
pub record Places (rows columns : ℕ) : Type 0 where
  pub each : (s t : SubscriptParts) (i j : ℕ) → subscript_value s ≡ pos (suc i) → i < rows → subscript_value t ≡ pos (suc j) → j < columns
      → (p : ℕ) × (place rows columns s t ≡ some p)
  pub below : (s t : SubscriptParts) (p : ℕ) → place rows columns s t ≡ some p → p < rows * columns
  pub apart : (s t s' t' : SubscriptParts) (p : ℕ) → place rows columns s t ≡ some p → place rows columns s' t' ≡ some p
      → (subscript_value s ≡ subscript_value s') × (subscript_value t ≡ subscript_value t')
  pub only : (s t : SubscriptParts) (p : ℕ) → place rows columns s t ≡ some p
      → (i j : ℕ) × (subscript_value s ≡ pos (suc i)) × (i < rows) × (subscript_value t ≡ pos (suc j)) × (j < columns)

abbrev pub PlacesApart : Type 0
PlacesApart = (rows columns : ℕ) → Places rows columns

-- ---- 7. Everything compiled passes

abbrev pub CompiledPasses : Type 0
CompiledPasses = (house : House) (deck object : List ℕ) → Compiled house deck object → checking object ≡ accepted

-- a compiled deck never stands higher than its house has for its levels of parentheses (2p+3 for p in the 1401's), from whatever state it is run
abbrev pub NeverAbove : Type 0
NeverAbove =
    (house : House) (deck object : List ℕ) (store : List ℤ) (l : Lent) → Compiled house deck object → Runnable object store l → (trays : Trays) (a : ℕ) →
    (running object store l trays a).lent.height ≤ house.height (deck_levels house deck)

-- ---- 8. A refusal changes nothing; each call is a function, so that each input has one outcome

abbrev pub RefusalKeeps : Type 0
RefusalKeeps =
    ((house : House) (deck output : List ℕ) → ((compiling house deck output).refusal ≡ accepted → ⊥) → compiling house deck output ≡ not_written (compiling house deck output).refusal output) ×
    ((object : List ℕ) (store : List ℤ) (l : Lent) (trays : Trays) (a : ℕ) → ((running object store l trays a).refusal ≡ accepted → ⊥) → running object store l trays a ≡ not_run (running object store l trays a).refusal l store trays) ×
    ((object : List ℕ) (store : List ℤ) (l : Lent) (trays : Trays) (a : ℕ) → ((benching object store l trays a).refusal ≡ accepted → ⊥) → benching object store l trays a ≡ not_run (benching object store l trays a).refusal l store trays) ×
    ((object table : List ℕ) → ((mapping object table).refusal ≡ accepted → ⊥) → mapping object table ≡ not_written (mapping object table).refusal table)

-- ---- 9. The bytes that are written read back as the same lists, and the other way round

abbrev pub RoundTrip : Type 0
RoundTrip =
    ((o : Object) → Writable o → read_object (object_bytes o) ≡ some o) ×
    ((object : List ℕ) (o : Object) → Each IsByte object → read_object object ≡ some o → object_bytes o ≡ object) ×
    ((house : House) (deck object : List ℕ) → Compiled house deck object → (o : Object) × (Writable o × (object_bytes o ≡ object)))

-- ---- 10. The grammar, both ways

-- A text is read as a form exactly if it spells the form.
abbrev pub ReadExactly : Type 0
ReadExactly = (text : List ℕ) (f : Form) → (form_of text ≡ some f) ↔ Spells text f

-- Every form written out is read back as itself, and what is read is its form's own text but for plus signs that no tree keeps.
abbrev pub ReadBack : Type 0
ReadBack =
    ((f : Form) → Spellable f → form_of (spell_form f) ≡ some f) ×
    ((text : List ℕ) (f : Form) → form_of text ≡ some f → Spellable f × (without_pluses text ≡ spell_form f))

-- No text is of two statement forms.
abbrev pub NoTwoForms : Type 0
NoTwoForms = (text : List ℕ) (f g : Form) → Spells text f → Spells text g → f ≡ g

-- 10 is given exactly for a statement whose text spells no form, where the cards are right and the statements before it pass.
abbrev pub TenExactly : Type 0
TenExactly = (house : House) (deck output : List ℕ) (q : ℕ) → ((compiling house deck output).refusal ≡ refusal 10 (suc q) 0) ↔ NoForm house deck q

-- ---- 11. P1 to P12

-- P1 to P8 as decks through the meaning and through compiling and running, P9 to P12 as objects' bytes through the check
pub record Table : Type 0 where
  pub decks : DecksRight decks
  pub p9 : checking (object_bytes (code_only (word_add 0 ∷ word_hlt 0 ∷ []))) ≡ refusal 44 0 0
  pub p10 : checking (object_bytes (code_only (word_hlt 0 ∷ word_add 0 ∷ []))) ≡ accepted
  pub p11 : checking (object_bytes (object 0 (1 ∷ []) [] [] [] (word_con 0 ∷ word_jmp 0 ∷ []))) ≡ refusal 44 0 0
  pub p12 : checking (object_bytes (code_only (word_jmp 0 ∷ []))) ≡ accepted

-- ---- 12. The program

-- what is printed of a control card and a deck
pub data Prints (card deck : List ℕ) : List ℕ → Type 0 where
  -- the card is no control card: REFUSED 1 0
  no_card : control_of card ≡ none → Prints card deck (refused_line 1 0)
  -- the deck is refused whatever room its object has, by a number that only decks are refused by: never by 30, nor by 40 and above
  no_deck : (k : ℕ) (r : Refusal) → control_of card ≡ some k → ((output : List ℕ) → (compiling (house1401 k) deck output).refusal ≡ r) → (1 ≤ r.number) × (r.number ≤ 25)
      → Prints card deck (refused_line r.number r.place)
  -- its object is run with a zero store, no cards and no lines, and not refused: the halt, and the values of the names
  ran : (k : ℕ) (object : List ℕ) (o : Object) (r : Ran) → control_of card ≡ some k → Compiled (house1401 k) deck object → read_object object ≡ some o
      → running object zero_store fresh_lent no_trays 1000000 ≡ r → r.refusal ≡ accepted → Prints card deck (halt_line r.halt r.steps r.sequence ++ name_lines o.names r.store)

-- Of every input one of these is printed, the first 80 bytes being the control card.
abbrev pub ProgramPrints : Type 0
ProgramPrints = (input : List ℕ) → Prints (take card_length input) (drop card_length input) (printed input)

-- ---- 13. What is printed reads back

-- A number printed in a field that can hold it, its digits and minus, reads back as the same number from the same columns, the blanks before it and all.
abbrev pub PrintedReadsBack : Type 0
PrintedReadsBack =
    (rule : Rule) (v : ℤ) → Fits rule v → (width : ℕ) → holds width v ≡ true → (before after : List ℕ) →
    field_read rule.ceiling (take width (drop (length before) ((before ++ printedNumber width v) ++ after))) ≡ some v

-- ---- all of them

pub record Kept : Type 0 where
  pub house_lawful : HouseLawful
  pub halts_alike : HaltsAlike
  pub means_alike : MeansAlike
  pub goes_alike : GoesAlike
  pub never_halts : NeverHalts
  pub ends_after_do : EndsAfterDo
  pub names_once : NamesOnce
  pub checked_runs : CheckedRuns
  pub runs_exactly : RunsExactly
  pub fresh_runnable : FreshRunnable
  pub goes_on : GoesOn
  pub series_is_run : SeriesIsRun
  pub never_refused : NeverRefused
  pub steps_true : StepsTrue
  pub check_exactly : CheckExactly
  pub heights_exactly : HeightsExactly
  pub no_fault : NoFault
  pub tests_nothing : TestsNothing
  pub touches_listed : TouchesListed
  pub cells_past : CellsPast
  pub bench_is_run : BenchIsRun
  pub bench_starts_fresh : BenchStartsFresh
  pub benches_exactly : BenchesExactly
  pub bench_refuses : BenchRefuses
  pub places_apart : PlacesApart
  pub compiled_passes : CompiledPasses
  pub never_above : NeverAbove
  pub refusal_keeps : RefusalKeeps
  pub round_trip : RoundTrip
  pub read_exactly : ReadExactly
  pub read_back : ReadBack
  pub no_two_forms : NoTwoForms
  pub ten_exactly : TenExactly
  pub table : Table
  pub program_prints : ProgramPrints
  pub printed_reads_back : PrintedReadsBack
