-- Writing out is what 001 says: a group with a count is its fields so many times, and a new scan begins at the last outermost group.
-- Assumes nothing.
use mathlib.Core.Path.{◌≡◌, refl, sym, ap, ◌∙◌}
use Prim.Native.Nat.{ℕ, zero, suc, ◌+◌, ◌*◌, ◌≤◌}
use mathlib.Core.List.{List, [], ◌∷◌, ◌++◌, map, append_assoc, append-nil}
use native.Mathlib.Nat.{zero-mul, suc-mul}
use native.Mathlib.Omega.{arith}
use lib.ListN.{length, take, drop, replicate, length-take, take-append-drop, length-append, length-replicate, length-map}
use Rattle.rules_formats.specs.Format.{Format, close, number, skip, text, slash, group, Field, I, X, H, new_record, times, written_out, again_from, again, flat, new_scan}

-- ---- one FORMAT after another

-- f, and then g in place of f's closing parenthesis
abbrev pub followed_by : Format → Format → Format
followed_by close g = g
followed_by (number r w f) g = number r w (followed_by f g)
followed_by (skip n f) g = skip n (followed_by f g)
followed_by (text cs f) g = text cs (followed_by f g)
followed_by (slash f) g = slash (followed_by f g)
followed_by (group r inner f) g = group r inner (followed_by f g)

pub written_append : (f g : Format) → written_out (followed_by f g) ≡ written_out f ++ written_out g
written_append close g = refl
written_append (number r w f) g = ap (λ (l : List Field). replicate r (I w) ++ l) (written_append f g) ∙ sym (append_assoc (replicate r (I w)) (written_out f) (written_out g))
written_append (skip n f) g = ap (λ (l : List Field). X n ∷ l) (written_append f g)
written_append (text cs f) g = ap (λ (l : List Field). map H cs ++ l) (written_append f g) ∙ sym (append_assoc (map H cs) (written_out f) (written_out g))
written_append (slash f) g = ap (λ (l : List Field). new_record ∷ l) (written_append f g)
written_append (group r inner f) g = ap (λ (l : List Field). times r (written_out inner) ++ l) (written_append f g) ∙ sym (append_assoc (times r (written_out inner)) (written_out f) (written_out g))

-- ---- repetition

-- the list written r times, then f
abbrev pub repeated : ℕ → Format → Format → Format
repeated zero inner f = f
repeated (suc r) inner f = followed_by inner (repeated r inner f)

-- a group with a count is its list so many times
pub group_repeated : (r : ℕ) (inner f : Format) → written_out (group r inner f) ≡ written_out (repeated r inner f)
group_repeated zero inner f = refl
group_repeated (suc r) inner f =
    append_assoc (written_out inner) (times r (written_out inner)) (written_out f)
    ∙ ap (λ (l : List Field). written_out inner ++ l) (group_repeated r inner f)
    ∙ sym (written_append inner (repeated r inner f))

-- so is a number with a count
pub number_repeated : (r w : ℕ) (f : Format) → written_out (number r w f) ≡ written_out (repeated r (number 1 w close) f)
number_repeated zero w f = refl
number_repeated (suc r) w f = ap (λ (l : List Field). I w ∷ l) (number_repeated r w f)

-- every group and count taken away, from the inside out
abbrev pub plain : Format → Format
plain close = close
plain (number r w f) = repeated r (number 1 w close) (plain f)
plain (skip n f) = skip n (plain f)
plain (text cs f) = text cs (plain f)
plain (slash f) = slash (plain f)
plain (group r inner f) = repeated r (plain inner) (plain f)

repeated_written : (r : ℕ) (inner f : Format) → written_out (repeated r inner f) ≡ times r (written_out inner) ++ written_out f
repeated_written r inner f = sym (group_repeated r inner f)

pub plain_written : (f : Format) → written_out (plain f) ≡ written_out f
plain_written close = refl
plain_written (number r w f) = sym (number_repeated r w (plain f)) ∙ ap (λ (l : List Field). replicate r (I w) ++ l) (plain_written f)
plain_written (skip n f) = ap (λ (l : List Field). X n ∷ l) (plain_written f)
plain_written (text cs f) = ap (λ (l : List Field). map H cs ++ l) (plain_written f)
plain_written (slash f) = ap (λ (l : List Field). new_record ∷ l) (plain_written f)
plain_written (group r inner f) =
    repeated_written r (plain inner) (plain f)
    ∙ ap (λ (l : List Field). times r l ++ written_out (plain f)) (plain_written inner)
    ∙ ap (λ (l : List Field). times r (written_out inner) ++ l) (plain_written f)

-- how many fields it is
pub times_length : {A : Type 0} (r : ℕ) (fs : List A) → length (times r fs) ≡ r * length fs
times_length zero fs = sym (zero-mul (length fs))
times_length (suc r) fs = simp length-append (omega (arith, times_length r fs, suc-mul r (length fs)))

-- ---- where a new scan begins

-- no group among the outermost fields
abbrev pub NoGroup : Format → Type 0
NoGroup close = Unit {0}
NoGroup (number r w f) = NoGroup f
NoGroup (skip n f) = NoGroup f
NoGroup (text cs f) = NoGroup f
NoGroup (slash f) = NoGroup f
NoGroup (group r inner f) = ⊥

from_no_group : (found before : ℕ) (f : Format) → NoGroup f → again_from found before f ≡ found
from_no_group found before close h = refl
from_no_group found before (number r w f) h = from_no_group found (before + r) f h
from_no_group found before (skip n f) h = from_no_group found (suc before) f h
from_no_group found before (text cs f) h = from_no_group found (before + length cs) f h
from_no_group found before (slash f) h = from_no_group found (suc before) f h
from_no_group found before (group r inner f) h = absurd h

-- `before` counts the fields written out
from_append : (found before n : ℕ) (f g : Format) → n ≡ before + length (written_out f) → again_from found before (followed_by f g) ≡ again_from (again_from found before f) n g
from_append found before n close g e = ap (λ (b : ℕ). again_from found b g) (omega arith)
from_append found before n (number r w f) g e = from_append found (before + r) n f g (let e' = simp (length-append, length-replicate) at e in omega arith)
from_append found before n (skip m f) g e = from_append found (suc before) n f g (omega arith)
from_append found before n (text cs f) g e = from_append found (before + length cs) n f g (let e' = simp (length-append, length-map) at e in omega arith)
from_append found before n (slash f) g e = from_append found (suc before) n f g (omega arith)
from_append found before n (group r inner f) g e = from_append before (before + length (times r (written_out inner))) n f g (let e' = simp length-append at e in omega arith)

drop_front : {A : Type 0} (xs ys : List A) → drop (length xs) (xs ++ ys) ≡ ys
drop_front [] ys = refl
drop_front (x ∷ xs) ys = drop_front xs ys

-- at the last group among the outermost fields, its count applying again
pub scan_at_last_group : (f : Format) (r : ℕ) (inner g : Format) → NoGroup g → new_scan (flat (followed_by f (group r inner g))) ≡ written_out (group r inner g)
unfolding new_scan flat again
scan_at_last_group f r inner g h =
    ap (λ (n : ℕ). drop n (written_out (followed_by f (group r inner g)))) begins
    ∙ ap (λ (l : List Field). drop (length (written_out f)) l) (written_append f (group r inner g))
    ∙ drop_front (written_out f) (written_out (group r inner g))
  where
    begins : again_from 0 0 (followed_by f (group r inner g)) ≡ length (written_out f)
    begins =
        from_append 0 0 (length (written_out f)) f (group r inner g) (omega arith)
        ∙ from_no_group (length (written_out f)) (length (written_out f) + length (times r (written_out inner))) g h

-- no group: at the beginning
pub scan_at_front : (f : Format) → NoGroup f → new_scan (flat f) ≡ written_out f
unfolding new_scan flat again
scan_at_front f h = ap (λ (n : ℕ). drop n (written_out f)) (from_no_group 0 0 f h)

-- ---- every list of fields, with any place in it for the new scan, is written by a FORMAT

-- the fields one by one
abbrev pub listed : List Field → Format → Format
listed [] f = f
listed (I w ∷ fs) f = number 1 w (listed fs f)
listed (X n ∷ fs) f = skip n (listed fs f)
listed (H c ∷ fs) f = text (c ∷ []) (listed fs f)
listed (new_record ∷ fs) f = slash (listed fs f)

listed_written : (fs : List Field) (f : Format) → written_out (listed fs f) ≡ fs ++ written_out f
listed_written [] f = refl
listed_written (I w ∷ fs) f = ap (λ (l : List Field). I w ∷ l) (listed_written fs f)
listed_written (X n ∷ fs) f = ap (λ (l : List Field). X n ∷ l) (listed_written fs f)
listed_written (H c ∷ fs) f = ap (λ (l : List Field). H c ∷ l) (listed_written fs f)
listed_written (new_record ∷ fs) f = ap (λ (l : List Field). new_record ∷ l) (listed_written fs f)

listed_again : (found before n : ℕ) (fs : List Field) (f : Format) → n ≡ before + length fs → again_from found before (listed fs f) ≡ again_from found n f
listed_again found before n [] f e = let z : before ≡ n = omega arith in ap (λ (b : ℕ). again_from found b f) z
listed_again found before n (I w ∷ fs) f e = listed_again found (before + 1) n fs f (omega arith)
listed_again found before n (X m ∷ fs) f e = listed_again found (suc before) n fs f (omega arith)
listed_again found before n (H c ∷ fs) f e = listed_again found (before + 1) n fs f (omega arith)
listed_again found before n (new_record ∷ fs) f e = listed_again found (suc before) n fs f (omega arith)

-- the fields up to the place, then a group of the others
abbrev pub format_of : List Field → ℕ → Format
format_of fs at = listed (take at fs) (group 1 (listed (drop at fs) close) close)

pub every_flat : (fs : List Field) (at : ℕ) → at ≤ length fs → flat (format_of fs at) ≡ record { fields = fs; again = at }
unfolding flat again
every_flat fs at h = λ i. record { fields = whole i; again = place i }
  where
    inner : written_out (listed (drop at fs) close) ≡ drop at fs
    inner = listed_written (drop at fs) close ∙ append-nil (drop at fs)

    whole : written_out (format_of fs at) ≡ fs
    whole =
        listed_written (take at fs) (group 1 (listed (drop at fs) close) close)
        ∙ ap (λ (l : List Field). take at fs ++ l) (append-nil (written_out (listed (drop at fs) close) ++ []) ∙ append-nil (written_out (listed (drop at fs) close)) ∙ inner)
        ∙ take-append-drop at fs

    long : length (take at fs) ≡ at
    long = simp length-take (omega arith)

    place : again_from 0 0 (format_of fs at) ≡ at
    place = listed_again 0 0 at (take at fs) (group 1 (listed (drop at fs) close) close) (omega (arith, long))
