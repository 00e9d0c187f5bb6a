-- Texts written one after the other, byte by byte, and a numeral's digits.
-- Assumes nothing.
use Prim.Native.Nat.{ℕ, ◌+◌, ◌-◌, ◌/◌, ◌%◌, ◌≤◌, ◌<◌}
use mathlib.Core.Path.{◌≡◌, refl, sym, ap, ◌∙◌, subst}
use mathlib.Core.List.{List, [], ◌∷◌, ◌++◌, append_assoc}
use native.Mathlib.Omega.{arith}
use borrow.Rule.Slice.PartMut.{put_mid}
use lib.ListN.{take, length, set, drop, length-append}
use lib.Seq.{sets-eq, drop-drop, length-sets}
use Rattle.read_texts.specs.Taking.{over}
use Rattle.read_texts.proofs.TextLaws.{over_none, over_more, over_append}
use Rattle.rules_program.specs.Text.{numeral}
use Rattle.rules_program.proofs.Numerals.{numeral_one, numeral_more, numeral_more_length}
use Rattle.print_numbers.specs.Puts.{Room, Puts}

-- ---- two texts

length_over : (at : ℕ) (text o : List ℕ) → length (over at text o) ≡ length o
unfolding over
length_over at text o = length-sets o at text

pub puts_length : (text : List ℕ) {at r : ℕ} {o o' : List ℕ} → Puts text at o o' r → length o' ≡ length o
puts_length text {at} {r} {o} {o'} p = ap (length {A = ℕ}) p.put ∙ length_over at text o

pub puts_as : {a b : List ℕ} {at r : ℕ} {o o' : List ℕ} → a ≡ b → Puts a at o o' r → Puts b at o o' r
puts_as {a} {b} {at} {r} {o} {o'} e p = subst (λ (l : List ℕ). Puts l at o o' r) e p

pub room_as : {a b : List ℕ} {at : ℕ} {o : List ℕ} → a ≡ b → Room a at o → Room b at o
room_as {a} {b} {at} {o} e r = subst (λ (l : List ℕ). Room l at o) e r

-- nothing written
pub puts_none : (at : ℕ) (o : List ℕ) → Puts [] at o o at
puts_none at o = record { end = omega arith; put = sym (over_none at o) }

pub puts_both : (a b : List ℕ) {at m n : ℕ} {o o' o'' : List ℕ} → Puts a at o o' m → Puts b m o' o'' n → Puts (a ++ b) at o o'' n
puts_both a b {at} {m} {n} {o} {o'} {o''} p q =
    record {
      end = omega (arith, p.end, q.end, length-append a b);
      put =
          q.put
          ∙ ap (λ (l : List ℕ). over m b l) p.put
          ∙ ap (λ (k : ℕ). over k b (over at a o)) p.end
          ∙ sym (over_append at a b o);
    }

pub room_first : (a b : List ℕ) {at : ℕ} {o : List ℕ} → Room (a ++ b) at o → Room a at o
room_first a b r = record { fits = omega (arith, r.fits, length-append a b) }

pub room_then : (a b : List ℕ) {at m : ℕ} {o o' : List ℕ} → Puts a at o o' m → Room (a ++ b) at o → Room b m o'
room_then a b p r = record { fits = omega (arith, r.fits, length-append a b, p.end, puts_length a p) }

-- ---- a text at once

pub puts_at : (words : List ℕ) (at : ℕ) (o : List ℕ) → Room words at o → Puts words at o (put_mid at (at + length words - at) o words) (at + length words)
unfolding over
puts_at words at o r =
    let same : at + (at + length words - at) ≡ at + length words = omega arith in
    record {
      end = refl;
      put =
          ap (λ (l : List ℕ). take at o ++ (words ++ l)) (drop-drop (at + length words - at) at o ∙ ap (λ (n : ℕ). drop n o) same)
          ∙ sym (append_assoc (take at o) words (drop (at + length words) o))
          ∙ sym (sets-eq words o at r.fits);
    }

-- ---- a numeral

pub one_byte : (x at : ℕ) (o : List ℕ) → over at (x ∷ []) o ≡ set o at x
one_byte x at o = over_more at x [] o ∙ over_none (at + 1) (set o at x)

pub room_one : (n : ℕ) {at : ℕ} {o : List ℕ} → n < 10 → Room (numeral n) at o → at < length o
room_one n h r = let l = ap (length {A = ℕ}) (numeral_one n h) in omega (arith, r.fits)

pub puts_one : (n : ℕ) {at : ℕ} {o : List ℕ} (d : ℕ) → n < 10 → d ≡ 48 + n % 10 → Puts (numeral n) at o (set o at d) (at + 1)
puts_one n {at} {o} d h e =
    let v : d ≡ 48 + n = omega arith in
    let is : numeral n ≡ d ∷ [] = numeral_one n h ∙ ap (λ (x : ℕ). x ∷ []) (sym v) in
    record {
      end = omega (arith, ap (length {A = ℕ}) is);
      put = sym (ap (λ (l : List ℕ). over at l o) is ∙ one_byte d at o);
    }

pub room_before : (n : ℕ) {at : ℕ} {o : List ℕ} → 10 ≤ n → Room (numeral n) at o → Room (numeral (n / 10)) at o
room_before n h r = record { fits = omega (arith, r.fits, numeral_more_length n h) }

pub room_last : (n : ℕ) {at m : ℕ} {o o' : List ℕ} → 10 ≤ n → Room (numeral n) at o → Puts (numeral (n / 10)) at o o' m → m < length o'
room_last n h r p = omega (arith, r.fits, numeral_more_length n h, p.end, puts_length (numeral (n / 10)) p)

pub puts_last : (n : ℕ) {at m : ℕ} {o o' : List ℕ} (d : ℕ) → 10 ≤ n → Puts (numeral (n / 10)) at o o' m → d ≡ 48 + n % 10 → Puts (numeral n) at o (set o' m d) (m + 1)
puts_last n {at} {m} {o} {o'} d h p e =
    let last : Puts (d ∷ []) m o' (set o' m d) (m + 1) = record { end = refl; put = sym (one_byte d m o') } in
    let is : numeral (n / 10) ++ (d ∷ []) ≡ numeral n = ap (λ (x : ℕ). numeral (n / 10) ++ (x ∷ [])) e ∙ sym (numeral_more n h) in
    subst (λ (l : List ℕ). Puts l at o (set o' m d) (m + 1)) is (puts_both (numeral (n / 10)) (d ∷ []) p last)
