-- Words and their bytes are each other's inverse, and so are signed numbers and their words.
-- Assumes nothing.
use mathlib.Core.Path.{◌≡◌, refl, sym, ap, ◌∙◌}
use Prim.Native.Nat.{ℕ, ◌+◌, ◌-◌, ◌*◌, ◌/◌, ◌%◌, ◌^◌, ◌≤◌, ◌<◌}
use native.Mathlib.Nat.{div-div-eq-div-mul, mod-eq_of_lt, add_comm}
use native.Mathlib.Omega.{arith}
use mathlib.Core.Bool.{Bool, true, false, cond}
use mathlib.Core.List.{List, [], ◌∷◌, ◌++◌}
use lib.Arith.{digits_div, digits_mod}
use lib.Dec.{ltb}
use lib.ListN.{length}
use lib.IntN.{ℤ, pos, negsuc}
use borrow.Author.Tests.{ltb-true, ltb-false, lt-ltb, le-ltb}
use Rattle.rules_object.specs.Bytes.{word_bytes, bytes_of, words_of, signed_of, signed_word}
use Rattle.rules_object.specs.Writable.{IsByte, IsWord, IsSigned}
use Rattle.rules_shared.specs.Lists.{Each, each_none, each_more}

-- ---- bytes of words

pub digits_of_lem : (w : ℕ) → IsWord w → w % 256 + w / 256 % 256 * 256 + w / 65536 % 256 * 65536 + w / 16777216 % 256 * 16777216 ≡ w
digits_of_lem w h =
    let a : w / 65536 ≡ w / 256 / 256 = sym (div-div-eq-div-mul w 256 256) in
    let b : w / 16777216 ≡ w / 256 / 256 / 256 = sym (div-div-eq-div-mul w 65536 256) ∙ ap (λ x. x / 256) a in
    let c : w / 256 / 256 / 256 < 256 = omega arith in
    rw (a, b, mod-eq_of_lt c) (omega arith)

pub words_cons : (w : ℕ) (s : List ℕ) → IsWord w → words_of (word_bytes w ++ s) ≡ w ∷ words_of s
words_cons w s h = ap (λ x. x ∷ words_of s) (digits_of_lem w h)

pub words_bytes : (ws : List ℕ) → Each IsWord ws → words_of (bytes_of ws) ≡ ws
words_bytes [] h = refl
words_bytes (w ∷ ws) (each_more p ps) = words_cons w (bytes_of ws) p ∙ ap (λ r. w ∷ r) (words_bytes ws ps)

pub length_bytes : (ws : List ℕ) → length (bytes_of ws) ≡ 4 * length ws
length_bytes [] = refl
length_bytes (w ∷ ws) = omega (arith, length_bytes ws)

pub each_byte : (ws : List ℕ) → Each IsByte (bytes_of ws)
each_byte [] = each_none
each_byte (w ∷ ws) =
    let byte : (n : ℕ) → IsByte (n % 256) = λ n. omega arith in
    each_more (byte w) (each_more (byte (w / 256)) (each_more (byte (w / 65536)) (each_more (byte (w / 16777216)) (each_byte ws))))

-- ---- words of bytes

pub bytes_cons : (a b c d : ℕ) → IsByte a → IsByte b → IsByte c → IsByte d → word_bytes (a + b * 256 + c * 65536 + d * 16777216) ≡ a ∷ b ∷ c ∷ d ∷ []
bytes_cons a b c d ha hb hc hd =
    let w : ℕ = a + b * 256 + c * 65536 + d * 16777216 in
    let p : w ≡ (b + c * 256 + d * 65536) * 256 + a = omega arith in
    let q : b + c * 256 + d * 65536 ≡ (c + d * 256) * 256 + b = omega arith in
    let e0 : w % 256 ≡ a = ap (λ x. x % 256) p ∙ digits_mod (b + c * 256 + d * 65536) ha in
    let f1 : w / 256 ≡ (c + d * 256) * 256 + b = ap (λ x. x / 256) p ∙ digits_div (b + c * 256 + d * 65536) ha ∙ q in
    let f2 : w / 65536 ≡ d * 256 + c = sym (div-div-eq-div-mul w 256 256) ∙ ap (λ x. x / 256) f1 ∙ digits_div (c + d * 256) hb ∙ add_comm c (d * 256) in
    let f3 : w / 16777216 ≡ d = sym (div-div-eq-div-mul w 65536 256) ∙ ap (λ x. x / 256) f2 ∙ digits_div d hc in
    let e1 : w / 256 % 256 ≡ b = ap (λ x. x % 256) f1 ∙ digits_mod (c + d * 256) hb in
    let e2 : w / 65536 % 256 ≡ c = ap (λ x. x % 256) f2 ∙ digits_mod d hc in
    let e3 : w / 16777216 % 256 ≡ d = ap (λ x. x % 256) f3 ∙ mod-eq_of_lt hd in
    cc

pub bytes_words : (s : List ℕ) → Each IsByte s → length s ≡ 4 * length (words_of s) → bytes_of (words_of s) ≡ s
bytes_words [] h e = refl
bytes_words (a ∷ []) h e = absurd (omega arith)
bytes_words (a ∷ b ∷ []) h e = absurd (omega arith)
bytes_words (a ∷ b ∷ c ∷ []) h e = absurd (omega arith)
bytes_words (a ∷ b ∷ c ∷ d ∷ s) (each_more ha (each_more hb (each_more hc (each_more hd h)))) e =
    let k : bytes_of (words_of s) ≡ s = bytes_words s h (omega arith) in
    let f = bytes_cons a b c d ha hb hc hd in
    ap (λ x. x ++ bytes_of (words_of s)) f ∙ ap (λ r. a ∷ b ∷ c ∷ d ∷ r) k

pub each_word : (s : List ℕ) → Each IsByte s → Each IsWord (words_of s)
each_word [] h = each_none
each_word (a ∷ []) h = each_none
each_word (a ∷ b ∷ []) h = each_none
each_word (a ∷ b ∷ c ∷ []) h = each_none
each_word (a ∷ b ∷ c ∷ d ∷ s) (each_more ha (each_more hb (each_more hc (each_more hd h)))) =
    let word : IsWord (a + b * 256 + c * 65536 + d * 16777216) = omega arith in
    each_more word (each_word s h)

pub length_words : (s : List ℕ) → length (words_of s) ≡ length s / 4
length_words [] = refl
length_words (a ∷ []) = refl
length_words (a ∷ b ∷ []) = refl
length_words (a ∷ b ∷ c ∷ []) = refl
length_words (a ∷ b ∷ c ∷ d ∷ s) = omega (arith, length_words s)

-- ---- signed words

pub signed_word_lem : (z : ℤ) → IsSigned z → signed_of (signed_word z) ≡ z
unfolding signed_of signed_word
signed_word_lem (pos n) h = rw (lt-ltb n (2 ^ 31) h)
signed_word_lem (negsuc n) h =
    let l : 2 ^ 31 ≤ 2 ^ 32 - 1 - n = omega arith in
    let e : 2 ^ 32 - 1 - (2 ^ 32 - 1 - n) ≡ n = omega arith in
    rw (le-ltb (2 ^ 32 - 1 - n) (2 ^ 31) l) (ap negsuc e)

pub word_signed : (w : ℕ) → IsWord w → signed_word (signed_of w) ≡ w
unfolding signed_of signed_word
word_signed w h = go (ltb w (2 ^ 31))
  where
    go : (t : Bool) → signed_word (cond t (pos w) (negsuc (2 ^ 32 - 1 - w))) ≡ w
    go true = refl
    go false = omega arith

pub signed_is : (w : ℕ) → IsWord w → IsSigned (signed_of w)
unfolding signed_of
signed_is w h = go (ltb w (2 ^ 31)) refl
  where
    go : (t : Bool) → ltb w (2 ^ 31) ≡ t → IsSigned (cond t (pos w) (negsuc (2 ^ 32 - 1 - w)))
    go true e = ltb-true w (2 ^ 31) e
    go false e = omega (arith, ltb-false w (2 ^ 31) e)

pub signed_is_word : (z : ℤ) → IsSigned z → IsWord (signed_word z)
unfolding signed_word
signed_is_word (pos n) h = omega arith
signed_is_word (negsuc n) h = omega arith
