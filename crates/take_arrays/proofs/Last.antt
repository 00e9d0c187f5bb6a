-- A name's last character is the last byte of its word that is no blank.
-- Assumes nothing.
use mathlib.Core.Path.{◌≡◌, refl, sym, ap, ◌∙◌, subst}
use Prim.Native.Nat.{ℕ, zero, suc, ◌+◌, ◌-◌, ◌*◌, ◌/◌, ◌%◌, ◌≤◌, ◌<◌}
use native.Mathlib.Omega.{arith}
use mathlib.Core.Bool.{Bool}
use mathlib.Core.List.{List, [], ◌∷◌, ◌++◌, append-nil, append_assoc}
use lib.Dec.{eqb}
use lib.ListN.{length, take, replicate}
use Rattle.rules_shared.specs.Lists.{Each, each_more}
use Rattle.rules_text.specs.Trees.{Name}
use Rattle.rules_deck.specs.Judge.{ends_in_f}
use Rattle.read_tokens.specs.Words.{bytes_from, name_word, name_of}
use Rattle.read_tokens.specs.declared.Name as code
use Rattle.take_draft.specs.Names.{Told}
use Rattle.take_arrays.specs.One.{EndsInF}

-- ---- the last of a list

pub record Ends (s : List ℕ) : Type 0 where
  pub front : List ℕ
  pub last : ℕ
  pub is : s ≡ front ++ (last ∷ [])

ending : (c : ℕ) (s : List ℕ) → Ends (c ∷ s)
ending c [] = record { front = []; last = c; is = refl }
ending c (d ∷ s) = let e = ending d s in record { front = c ∷ e.front; last = e.last; is = ap (λ (x : List ℕ). c ∷ x) e.is }

all_last : {P : ℕ → Type 0} (s : List ℕ) {c : ℕ} → Each P (s ++ (c ∷ [])) → P c
all_last [] (each_more p a) = p
all_last (d ∷ s) (each_more p a) = all_last s a

ends_last : (s : List ℕ) (c : ℕ) → ends_in_f (s ++ (c ∷ [])) ≡ eqb c 70
ends_last [] c = refl
ends_last (a ∷ []) c = refl
ends_last (a ∷ b ∷ s) c = ends_last (b ∷ s) c

bytes_last : (w : ℕ) (s : List ℕ) (c : ℕ) → bytes_from w (s ++ (c ∷ [])) ≡ bytes_from w s * 256 + c
unfolding bytes_from
bytes_last w [] c = refl
bytes_last w (d ∷ s) c = bytes_last (w * 256 + d) s c

-- ---- a name and some blanks

abbrev blanks : ℕ → List ℕ
blanks k = replicate k 32

pad : (k m : ℕ) (v : Name) → length v ≤ k → k ≤ length v + m → take k (v ++ blanks m) ≡ v ++ blanks (k - length v)
pad zero m [] h l = refl
pad (suc k) zero [] h l = absurd (omega (arith, l))
pad (suc k) (suc m) [] h l =
    let e : suc k - 0 ≡ suc k = omega arith in
    let f : k - 0 ≡ k = omega arith in
    ap (λ (x : List ℕ). 32 ∷ x) (pad k m [] (omega arith) (omega (arith, l)) ∙ ap blanks f) ∙ ap blanks (sym e)
pad zero m (c ∷ v) h l = absurd (omega (arith, h))
pad (suc k) m (c ∷ v) h l =
    let e : suc k - suc (length v) ≡ k - length v = omega arith in
    ap (λ (x : List ℕ). c ∷ x) (pad k m v (omega (arith, h)) (omega (arith, l))) ∙ ap (λ (j : ℕ). c ∷ (v ++ blanks j)) (sym e)

one_blank : (k : ℕ) → blanks (suc k) ≡ blanks k ++ (32 ∷ [])
one_blank zero = refl
one_blank (suc k) = ap (λ (x : List ℕ). 32 ∷ x) (one_blank k)

pub record Blanked (v : Name) (w : ℕ) : Type 0 where
  pub count : ℕ
  pub is : w ≡ bytes_from 0 (v ++ blanks count)

abbrev pub Stripping : ℕ → ℕ → Type 0
Stripping word w = (v : Name) → Told v → word ≡ name_word v → Blanked v w

pub strip_start : (word : ℕ) → Stripping word word
unfolding name_word
strip_start word v t e =
    record { count = 8 - length v; is = e ∙ ap (bytes_from 0) (pad 8 8 v (let s = t.short in omega (arith, s)) (omega arith)) }

blank_byte : (v : Name) (k : ℕ) → bytes_from 0 (v ++ blanks (suc k)) ≡ bytes_from 0 (v ++ blanks k) * 256 + 32
blank_byte v k = ap (λ (x : List ℕ). bytes_from 0 (v ++ x)) (one_blank k) ∙ ap (bytes_from 0) (sym (append_assoc v (blanks k) (32 ∷ []))) ∙ bytes_last 0 (v ++ blanks k) 32

-- a name with no blank after it: its last byte is no blank, and ends it
pub record Bare (v : Name) (w : ℕ) : Type 0 where
  pub byte : w % 256 ≡ 32 → ⊥
  pub ends : eqb (w % 256) 70 ≡ ends_in_f v

low_byte : (x c : ℕ) → c < 256 → (x * 256 + c) % 256 ≡ c
low_byte x c h = omega (arith, h)

bare : (v : Name) (w : ℕ) → Told v → w ≡ bytes_from 0 (v ++ blanks 0) → Bare v w
unfolding bytes_from
bare [] w t e = record { byte = λ p. omega (arith, p, e); ends = ap (λ (x : ℕ). eqb (x % 256) 70) e }
bare (d ∷ v) w t e = go (ending d v)
  where
    go : Ends (d ∷ v) → Bare (d ∷ v) w
    go s =
        let small = all_last s.front (subst (λ (x : List ℕ). Each (λ (y : ℕ). y < 256) x) s.is t.bytes) in
        let solid = all_last s.front (subst (λ (x : List ℕ). Each (λ (y : ℕ). y ≡ 32 → ⊥) x) s.is t.solid) in
        let is : w ≡ bytes_from 0 s.front * 256 + s.last = e ∙ ap (bytes_from 0) (append-nil (d ∷ v) ∙ s.is) ∙ bytes_last 0 s.front s.last in
        let low : w % 256 ≡ s.last = ap (λ (x : ℕ). x % 256) is ∙ low_byte (bytes_from 0 s.front) s.last small in
        record { byte = λ p. solid (sym low ∙ p); ends = ap (λ (x : ℕ). eqb x 70) low ∙ sym (ends_last s.front s.last) ∙ ap ends_in_f (sym s.is) }

half : (w x : ℕ) → w ≡ x * 256 + 32 → w / 256 ≡ x
half w x e = omega (arith, e)

pub strip_more : (word w : ℕ) → Stripping word w → w % 256 ≡ 32 → Stripping word (w / 256)
strip_more word w s p v t e = go (s v t e).count (s v t e).is
  where
    go : (k : ℕ) → w ≡ bytes_from 0 (v ++ blanks k) → Blanked v (w / 256)
    go zero i = absurd ((bare v w t i).byte p)
    go (suc k) i = record { count = k; is = half w (bytes_from 0 (v ++ blanks k)) (i ∙ blank_byte v k) }

abbrev pub EndsWord : ℕ → Bool → Type 0
EndsWord word r = (v : Name) → Told v → word ≡ name_word v → r ≡ ends_in_f v

pub strip_end : (word w : ℕ) → Stripping word w → (w % 256 ≡ 32 → ⊥) → EndsWord word (eqb (w % 256) 70)
strip_end word w s n v t e = go (s v t e).count (s v t e).is
  where
    go : (k : ℕ) → w ≡ bytes_from 0 (v ++ blanks k) → eqb (w % 256) 70 ≡ ends_in_f v
    go zero i = (bare v w t i).ends
    go (suc k) i = absurd (n (ap (λ (x : ℕ). x % 256) (i ∙ blank_byte v k) ∙ low_byte (bytes_from 0 (v ++ blanks k)) 32 (omega arith)))

pub first_ends : (name : code.Name) {r : Bool} → EndsWord name.0 r → EndsInF name r
unfolding name_of
first_ends name h v t e = h v t (ap (λ (n : code.Name). n.0) e)
