-- Reading from the start of a text: bytes, runs, and how readers are joined. No reader goes back. 01 "Statements".
-- A statement's text is ASCII bytes with blanks gone and `$` read as `*`.
-- Assumes nothing.
use Rattle.std.specs.Prelude.{ℕ, zero, suc, ◌+◌, Bool, true, false, ◌||◌, cond, List, [], ◌∷◌, eqb, length, take, drop}
use Rattle.std.proofs.Math.Option.{Option, none, some}
use Rattle.rules_object.specs.Check.{is_letter, is_digit}
use Rattle.rules_text.specs.Trees.{Name, Digits}

-- ---- bytes: ( ) * + , - / =

abbrev pub left_paren : ℕ
left_paren = 40

abbrev pub right_paren : ℕ
right_paren = 41

abbrev pub star : ℕ
star = 42

abbrev pub plus_sign : ℕ
plus_sign = 43

abbrev pub comma : ℕ
comma = 44

abbrev pub minus_sign : ℕ
minus_sign = 45

abbrev pub slash : ℕ
slash = 47

abbrev pub equals : ℕ
equals = 61

unfoldable pub is_letter_or_digit : ℕ → Bool
is_letter_or_digit c = is_letter c || is_digit c

-- ---- words

-- GOTO
abbrev pub word_go_to : List ℕ
word_go_to = 71 ∷ 79 ∷ 84 ∷ 79 ∷ []

-- IF
abbrev pub word_if : List ℕ
word_if = 73 ∷ 70 ∷ []

-- DO
abbrev pub word_do : List ℕ
word_do = 68 ∷ 79 ∷ []

-- CONTINUE
abbrev pub word_continue : List ℕ
word_continue = 67 ∷ 79 ∷ 78 ∷ 84 ∷ 73 ∷ 78 ∷ 85 ∷ 69 ∷ []

-- STOP
abbrev pub word_stop : List ℕ
word_stop = 83 ∷ 84 ∷ 79 ∷ 80 ∷ []

-- END
abbrev pub word_end : List ℕ
word_end = 69 ∷ 78 ∷ 68 ∷ []

-- DIMENSION
abbrev pub word_dimension : List ℕ
word_dimension = 68 ∷ 73 ∷ 77 ∷ 69 ∷ 78 ∷ 83 ∷ 73 ∷ 79 ∷ 78 ∷ []

-- ---- readers

-- what stands at the start of a text and how many bytes it takes, or that the text does not start so
pub data Found (A : Type 0) : Type 0 where
  found : A → ℕ → Found A
  bad : Found A

abbrev pub Reader : Type 0 → Type 0
Reader A = List ℕ → Found A

-- nothing is read, and this is the answer
unfoldable pub give : {A : Type 0} → A → Reader A
give a s = found a 0

unfoldable pub give_if : {A : Type 0} → Bool → A → Reader A
give_if true a s = found a 0
give_if false a s = bad

-- what is found after k bytes more
unfoldable pub ahead : {A : Type 0} → ℕ → Found A → Found A
ahead k (found a j) = found a (k + j)
ahead k bad = bad

unfoldable pub follow : {A B : Type 0} → Found A → (A → Reader B) → Reader B
follow (found a k) h s = ahead k (h a (drop k s))
follow bad h s = bad

-- one reader, and then the reader that its answer gives, on the rest
unfoldable pub and_then : {A B : Type 0} → Reader A → (A → Reader B) → Reader B
and_then r h s = follow (r s) h s

-- the byte c, and then the reader
unfoldable pub after : {A : Type 0} → ℕ → Reader A → Reader A
after c r [] = bad
after c r (x ∷ s) = cond (eqb x c) (ahead 1 (r s)) bad

unfoldable pub after_word : {A : Type 0} → List ℕ → Reader A → Reader A
after_word [] r = r
after_word (c ∷ word) r = after c (after_word word r)

-- the first reader where the text passes the test, else the second
unfoldable pub choose : {A : Type 0} → (List ℕ → Bool) → Reader A → Reader A → Reader A
choose test r q s = cond (test s) (r s) (q s)

unfoldable pub starts : ℕ → List ℕ → Bool
starts c [] = false
starts c (x ∷ s) = eqb x c

unfoldable pub starts_digit : List ℕ → Bool
starts_digit [] = false
starts_digit (x ∷ s) = is_digit x

-- the reader has to take the whole text
unfoldable pub all_of : {A : Type 0} → ℕ → Found A → Option A
all_of n (found a k) = cond (eqb k n) (some a) none
all_of n bad = none

unfoldable pub whole : {A : Type 0} → Reader A → List ℕ → Option A
whole r s = all_of (length s) (r s)

-- ---- runs

-- how many bytes pass a test, from the start
unfoldable pub run : (ℕ → Bool) → List ℕ → ℕ
run test [] = 0
run test (c ∷ s) = cond (test c) (suc (run test s)) 0

unfoldable pub digit_run : List ℕ → ℕ
digit_run s = run is_digit s

-- a letter, then letters or digits
unfoldable pub name_run : List ℕ → ℕ
name_run [] = 0
name_run (c ∷ s) = cond (is_letter c) (suc (run is_letter_or_digit s)) 0

-- the first k bytes, at least one
unfoldable pub taken : ℕ → Reader (List ℕ)
taken zero s = bad
taken (suc k) s = found (take (suc k) s) (suc k)

-- c or n, as far as digits go
unfoldable pub number : Reader Digits
number s = taken (digit_run s) s

-- v, as far as letters and digits go
unfoldable pub name : Reader Name
name s = taken (name_run s) s

-- ---- lists

-- one or more with a comma between any two. The number bounds how many; `listed` takes one that is always enough.
unfoldable pub listed_up_to : {A : Type 0} → ℕ → Reader A → Reader (List A)
listed_up_to zero r s = bad
listed_up_to (suc n) r s =
    and_then r (λ a. choose (starts comma) (after comma (and_then (listed_up_to n r) (λ more. give (a ∷ more)))) (give (a ∷ []))) s

unfoldable pub listed : {A : Type 0} → Reader A → Reader (List A)
listed r s = listed_up_to (suc (length s)) r s
