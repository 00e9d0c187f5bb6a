-- An addend as a word.
-- Assumes nothing.
use mathlib.Core.Path.{◌≡◌, refl, sym, ap, ◌∙◌}
use Prim.Native.Nat.{ℕ, zero, suc, ◌+◌, ◌-◌, ◌%◌, ◌^◌, ◌<◌}
use native.Mathlib.Omega.{arith}
use native.Mathlib.Nat.{mod-eq_of_lt}
use lib.IntN.{pos, neg_ℤ}
use Rattle.rules_object.specs.Bytes.{signed_word}
use Rattle.take_entries.specs.Places.{Signed}

low_small : {word value : ℕ} → word ≡ value % 2 ^ 32 → value < 2 ^ 32 → word ≡ value
low_small e h = e ∙ mod-eq_of_lt h

less : (value r : ℕ) → (r + value) % 2 ^ 32 ≡ 0 → r < 2 ^ 32 → value < 2 ^ 32 → r ≡ signed_word (neg_ℤ (pos value))
unfolding signed_word
less zero r e h k = omega (arith, e, h)
less (suc v) r e h k = omega (arith, e, h, k)

pub signed_less : {minus value word r : ℕ} → word ≡ value % 2 ^ 32 → (minus ≡ 0 → ⊥) → (r + word) % 2 ^ 32 ≡ 0 → r < 2 ^ 32 → Signed minus value r
signed_less {minus} {value} {word} {r} e n q l =
    record { plus = λ p. absurd (n p); less = λ o h. less value r (ap (λ (x : ℕ). (r + x) % 2 ^ 32) (sym (low_small e h)) ∙ q) l h }
