-- What is known of a deck that compiling accepts. These are facts that theorems use: no outcome is defined by them.
-- Assumes nothing.
use Rattle.std.specs.Prelude.{◌≡◌, ℕ, suc, ◌+◌, ◌*◌, ◌≤◌, ◌<◌, true, List, [], ◌∷◌, length, take}
use Rattle.std.proofs.Math.Option.{none, some}
use Rattle.std.proofs.Math.ListN.{get_elem?}
use Rattle.rules_shared.specs.Limits.{limits}
use Rattle.rules_shared.specs.House.{House}
use Rattle.rules_text.specs.Trees.{Digits, value_of, Statement, form_exits}
use Rattle.rules_text.specs.Cards.{text_length, characters, right_digits}
use Rattle.rules_text.specs.Grammar.{form_of}
use Rattle.rules_deck.specs.Deck.{position_of, Do, dos_of, endings}
use Rattle.rules_deck.specs.Translation.{cell_count, held_of, code_of, no_tables, tables_of}
use Rattle.rules_deck.specs.Lawful.{Lawful}
use Rattle.rules_deck.specs.Judge.{Taken, nothing_taken, takes, right11, right12, right13, right14, right15, right16, name_count, right18}
use Rattle.rules_deck.specs.Whole.{last_of, judge_deck}

pub data Among {A : Type 0} (x : A) : List A → Type 0 where
  here : {xs : List A} → Among x (x ∷ xs)
  there : {y : A} {xs : List A} → Among x xs → Among x (y ∷ xs)

-- ---- as compiling finds it

abbrev pub taken_from : ℕ → List Statement → Taken → Taken
taken_from q [] t = t
taken_from q (s ∷ more) t = taken_from (suc q) more (takes q s.form t)

-- what the statements before position q have taken
unfoldable pub taken_before : List Statement → ℕ → Taken
taken_before deck q = taken_from 0 (take q deck) nothing_taken

-- the statement at position q passed 10 to 18
pub record JudgedAt (house : House) (deck : List Statement) (q : ℕ) (s : Statement) : Type 0 where
  pub text : List ℕ
  -- of at most a first card and its continuations
  pub short : length text ≤ (1 + house.continuations) * text_length
  pub written : characters text ≡ true
  pub form : form_of text ≡ some s.form
  pub passes11 : right11 house s.form ≡ true
  pub passes12 : right12 house s.form ≡ true
  pub passes13 : right13 house s.form ≡ true
  pub passes14 : right14 s.form ≡ true
  pub passes15 : right15 house (taken_before deck q).held s.form ≡ true
  pub passes16 : right16 (taken_before deck q).held s.form ≡ true
  pub passes18 : right18 (taken_before deck (suc q)) ≡ true
  pub number : s.number ≤ limits.statement_number

pub record Accepted (house : House) (deck : List Statement) : Type 0 where
  pub lawful : Lawful house
  pub digits : right_digits house ≡ true
  pub count : length deck ≤ limits.statements
  pub judged : (q : ℕ) (s : Statement) → get_elem? deck q ≡ some s → JudgedAt house deck q s
  pub whole : judge_deck deck ≡ none

-- ---- as theorems use it

-- each table of its object is within its limit
pub record Fitting (deck : List Statement) : Type 0 where
  pub cells : cell_count (held_of deck) ≤ limits.cells
  pub code : length (code_of deck) ≤ limits.code
  pub constants : length (tables_of no_tables (code_of deck)).constants ≤ limits.constants
  pub elements : length (tables_of no_tables (code_of deck)).elements ≤ limits.elements
  pub exits : length (tables_of no_tables (code_of deck)).exits ≤ limits.exits
  pub dos : length (dos_of deck) ≤ limits.dos
  pub names : name_count (held_of deck) ≤ limits.names

-- position j is in the range of the DO d: after the DO through its last statement
pub record InRange (deck : List Statement) (d : Do) (j : ℕ) : Type 0 where
  pub after : d.position < j
  pub through : j ≤ last_of deck d

-- ranges lie one in another, and no jump leads into one from outside
pub record Nested (deck : List Statement) : Type 0 where
  -- a DO that ends with the statement at j has it as its last statement, and it comes after the DO
  pub last : (j : ℕ) (s : Statement) → get_elem? deck j ≡ some s → (d : Do) → Among d (endings deck s.number) → last_of deck d ≡ j
  pub after : (d : Do) → Among d (dos_of deck) → d.position < last_of deck d
  pub inner : (d outer : Do) → Among d (dos_of deck) → Among outer (dos_of deck) → InRange deck outer d.position → last_of deck d ≤ last_of deck outer
  pub jumps : (j : ℕ) (s : Statement) → get_elem? deck j ≡ some s → (n : Digits) → Among n (form_exits s.form) → (d : Do) → Among d (dos_of deck) →
      InRange deck d (position_of deck (value_of n)) → InRange deck d j
