-- What the functions ensure, for whatever the lent tables hold.
-- Assumes nothing.
use Rattle.std.specs.Prelude.{◌≡◌, ℕ, ◌<◌, ◌^◌, List, [], ◌∷◌, length, Option}
use Rattle.rules_object.specs.Object.{Loop}
use Rattle.rules_object.specs.Operations.{Instr, HLT, JMP, BR3, BRC, DOI}
use Rattle.rules_deck.specs.Translation.{Tables}
use Rattle.take_draft.specs.declared.Counts.{Counts}
use Rattle.take_draft.specs.Kept.{Tabled}
use Rattle.take_instructions.specs.Emits.{Emits, EmitsWith}

-- one instruction, whatever the tables hold
abbrev pub EmitsOne : Instr → List ℕ → List ℕ → Counts → Option Counts → Type 0
EmitsOne i words words' n r =
    (T : Tables) (constants elements : List ℕ) → Tabled T constants elements n → Emits T (i ∷ []) words constants elements words' n r

abbrev pub EmitsJump : ℕ → List ℕ → List ℕ → Counts → Option Counts → Type 0
EmitsJump number words words' n r = number < 2 ^ 24 → EmitsOne (JMP number) words words' n r

abbrev pub EmitsHalt : ℕ → List ℕ → List ℕ → Counts → Option Counts → Type 0
EmitsHalt x words words' n r = x < 2 ^ 24 → EmitsOne (HLT x) words words' n r

-- exits are only counted: any three
abbrev pub EmitsThree : List ℕ → List ℕ → Counts → Option Counts → Type 0
EmitsThree words words' n r = (a b c : ℕ) → EmitsOne (BR3 a b c) words words' n r

-- and any so many
abbrev pub EmitsChoose : ℕ → List ℕ → List ℕ → Counts → Option Counts → Type 0
EmitsChoose count words words' n r = (exits : List ℕ) → length exits ≡ count → EmitsOne (BRC exits) words words' n r

-- the DOI of the next DO; its DOE has room too
abbrev pub EmitsEnter : List ℕ → List ℕ → Counts → Option Counts → Type 0
EmitsEnter words words' n r =
    (d : Loop) (T : Tables) (constants elements : List ℕ) → Tabled T constants elements n
    → EmitsWith 1 T (DOI n.dos d ∷ []) words constants elements words' n r
