-- A word tells its field; and a FORMAT that is read has a number exactly if one is among its fields.
-- Assumes nothing.
use mathlib.Core.Path.{◌≡◌, refl, sym, ap, ◌∙◌}
use mathlib.Core.Bool.{Bool, true, false, ◌||◌}
use mathlib.Core.List.{List, [], ◌∷◌, ◌++◌, map}
use mathlib.Core.Option.{some}
use Prim.Native.Nat.{ℕ, zero, suc, ◌+◌, ◌*◌, ◌/◌, ◌%◌, ◌^◌, ◌≤◌, ◌<◌}
use native.Mathlib.Omega.{arith}
use lib.ListN.{replicate}
use Rattle.rules_formats.specs.Format.{Format, close, number, skip, text, slash, group, Field, I, X, H, new_record, times, written_out, has_number}
use Rattle.rules_formats.specs.Words.{field_word, field_of, word_field}
use Rattle.rules_formats.specs.Punched.{format_of}
use Rattle.rules_formats.specs.Spelled.{PunchableList}
use Rattle.rules_formats.proofs.PunchedExactly.{read_punchable}

-- ---- words

-- what the low bits hold
abbrev operand : Field → ℕ
operand (I w) = w
operand (X n) = n
operand (H c) = c
operand new_record = 0

told : (kind n : ℕ) → n < 2 ^ 24 → word_field (kind * 2 ^ 24 + n) ≡ field_of kind n
unfolding word_field
told kind n l =
    let q : (kind * 2 ^ 24 + n) / 2 ^ 24 ≡ kind = omega arith in
    let r : (kind * 2 ^ 24 + n) % 2 ^ 24 ≡ n = omega arith in
    λ i. field_of (q i) (r i)

pub word_tells : (f : Field) → operand f < 2 ^ 24 → word_field (field_word f) ≡ f
unfolding field_of
word_tells (I w) l = told 1 w l
word_tells (X n) l = told 2 n l
word_tells (H c) l = told 3 c l
word_tells new_record l = told 4 0 l

-- ---- numbers

abbrev is_number : Field → Bool
is_number (I w) = true
is_number (X n) = false
is_number (H c) = false
is_number new_record = false

abbrev pub number_among : List Field → Bool
number_among [] = false
number_among (f ∷ fs) = is_number f || number_among fs

or_assoc : (a b c : Bool) → ((a || b) || c) ≡ (a || (b || c))
or_assoc true b c = refl
or_assoc false b c = refl

or_same : (a : Bool) → (a || a) ≡ a
or_same true = refl
or_same false = refl

or_false : (a : Bool) → (a || false) ≡ a
or_false true = refl
or_false false = refl

among_both : (fs gs : List Field) → number_among (fs ++ gs) ≡ (number_among fs || number_among gs)
among_both [] gs = refl
among_both (f ∷ fs) gs = ap (λ (b : Bool). is_number f || b) (among_both fs gs) ∙ sym (or_assoc (is_number f) (number_among fs) (number_among gs))

among_times : (r : ℕ) (fs : List Field) → 1 ≤ r → number_among (times r fs) ≡ number_among fs
among_times zero fs l = absurd (omega arith)
among_times (suc zero) fs l = among_both fs [] ∙ or_false (number_among fs)
among_times (suc (suc r)) fs l =
    among_both fs (times (suc r) fs) ∙ ap (λ (b : Bool). number_among fs || b) (among_times (suc r) fs (omega arith)) ∙ or_same (number_among fs)

among_number : (r w : ℕ) (fs : List Field) → 1 ≤ r → true ≡ number_among (replicate r (I w) ++ fs)
among_number zero w fs l = absurd (omega arith)
among_number (suc r) w fs l = refl

among_text : (cs : List ℕ) (fs : List Field) → number_among fs ≡ number_among (map H cs ++ fs)
among_text [] fs = refl
among_text (c ∷ cs) fs = among_text cs fs

has_number_lem : (f : Format) → PunchableList f → has_number f ≡ number_among (written_out f)
has_number_lem close p = refl
has_number_lem (number r w f) p = among_number r w (written_out f) p.0.least
has_number_lem (skip n f) p = has_number_lem f p.1
has_number_lem (text cs f) p = has_number_lem f p.1 ∙ among_text cs (written_out f)
has_number_lem (slash f) p = has_number_lem f p
has_number_lem (group r inner f) p =
    (λ i. has_number_lem inner p.2 i || has_number_lem f p.3 i)
    ∙ ap (λ (b : Bool). b || number_among (written_out f)) (sym (among_times r (written_out inner) p.0.least))
    ∙ sym (among_both (times r (written_out inner)) (written_out f))

pub read_number : (cs : List ℕ) (f : Format) → format_of cs ≡ some f → has_number f ≡ number_among (written_out f)
read_number cs f e = has_number_lem f (read_punchable cs f e).list
