-- A FORMAT as punched, with counts and groups, and the fields that it is written out to. 02, 004 and, for repetition, 001.
-- Assumes nothing.
use Rattle.std.specs.Prelude.{ℕ, zero, suc, ◌+◌, Bool, true, false, ◌||◌, List, [], ◌∷◌, ◌++◌, map, length, replicate, drop}

-- what stands from here to the closing parenthesis: rIw, nX, nH and its columns, a slash, r(list); each with what follows it
pub data Format : Type 0 where
  close : Format
  number : ℕ → ℕ → Format → Format
  skip : ℕ → Format → Format
  text : List ℕ → Format → Format
  slash : Format → Format
  group : ℕ → Format → Format → Format

-- ---- written out

-- a number of so many columns, so many columns passed over, one character, the record's end
pub data Field : Type 0 where
  I : ℕ → Field
  X : ℕ → Field
  H : ℕ → Field
  new_record : Field

-- "the same effect as specifying the item r times" (001)
abbrev pub times : {A : Type 0} → ℕ → List A → List A
times zero fs = []
times (suc r) fs = fs ++ times r fs

abbrev pub written_out : Format → List Field
written_out close = []
written_out (number r w f) = replicate r (I w) ++ written_out f
written_out (skip n f) = X n ∷ written_out f
written_out (text cs f) = map H cs ++ written_out f
written_out (slash f) = new_record ∷ written_out f
written_out (group r inner f) = times r (written_out inner) ++ written_out f

-- whether a number is among the fields
abbrev pub has_number : Format → Bool
has_number close = false
has_number (number r w f) = true
has_number (skip n f) = has_number f
has_number (text cs f) = has_number f
has_number (slash f) = has_number f
has_number (group r inner f) = has_number inner || has_number f

-- ---- where a new scan begins

-- The last group among the outermost fields, its count applying again (001, 004); rIw is no group. `found` is the answer so far, `before` the number of
-- fields before.
abbrev pub again_from : ℕ → ℕ → Format → ℕ
again_from found before close = found
again_from found before (number r w f) = again_from found (before + r) f
again_from found before (skip n f) = again_from found (suc before) f
again_from found before (text cs f) = again_from found (before + length cs) f
again_from found before (slash f) = again_from found (suc before) f
again_from found before (group r inner f) = again_from before (before + length (times r (written_out inner))) f

-- no group: at the beginning
unfoldable pub again : Format → ℕ
again f = again_from 0 0 f

-- a FORMAT as the object has it: its fields, and the index where a new scan begins
pub record Flat : Type 0 where
  pub fields : List Field
  pub again : ℕ

unfoldable pub flat : Format → Flat
flat f = record { fields = written_out f; again = again f }

-- the fields of every scan but the first
unfoldable pub new_scan : Flat → List Field
new_scan f = drop f.again f.fields
