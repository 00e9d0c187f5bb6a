-- What every reader keeps to: how far it reads, over which bytes, and what it gives. One lemma for each way of joining readers.
-- Assumes nothing.
use mathlib.Core.Path.{◌≡◌, refl, sym, subst}
use mathlib.Core.List.{List, [], ◌∷◌}
use mathlib.Core.Bool.{Bool, true, false, ◌&&◌, ◌||◌, cond}
use Prim.Native.Nat.{ℕ, zero, suc, ◌+◌, ◌≤◌}
use native.Mathlib.Omega.{arith}
use lib.ListN.{length, take, drop, length-drop}
use lib.Seq.{take-add}
use lib.Dec.{leb, eqb}
use borrow.Author.Tests.{leb-true, eqb-true, ne_eqb}
use Rattle.rules_object.specs.Check.{is_letter, is_digit}
use Rattle.rules_shared.specs.Lists.{Each, each_none, each_more}
use Rattle.rules_shared.proofs.EachLaws.{each_one, each_map, each_append}
use Rattle.rules_text.specs.Tokens.{equals, comma, is_letter_or_digit, Found, found, bad, Reader, give, give_if, ahead, follow, and_then, after, after_word, choose, run, digit_run, name_run, taken, number, name, listed_up_to, listed}
use Rattle.rules_text.specs.Spelling.{Passes, IsDigits, is_digits, IsName, is_name}

-- ---- bytes

-- a byte that is no =
abbrev pub NotEquals : ℕ → Type 0
NotEquals c = eqb c equals ≡ false

abbrev pub Any : ℕ → Type 0
Any c = Unit {0}

pub both_true : (a b : Bool) → a && b ≡ true → (a ≡ true) × (b ≡ true)
both_true true b e = (refl, e)
both_true false b e = (e, cc)

pub digit_bounds : (c : ℕ) → is_digit c ≡ true → (48 ≤ c) × (c ≤ 57)
digit_bounds c e =
    let two = both_true (leb 48 c) (leb c 57) e in
    (leb-true 48 c two.0, leb-true c 57 two.1)

pub letter_bounds : (c : ℕ) → is_letter c ≡ true → (65 ≤ c) × (c ≤ 90)
letter_bounds c e =
    let two = both_true (leb 65 c) (leb c 90) e in
    (leb-true 65 c two.0, leb-true c 90 two.1)

digit_plain : (c : ℕ) → is_digit c ≡ true → NotEquals c
digit_plain c e = ne_eqb c 61 (λ q. omega (arith, digit_bounds c e))

letter_plain : (c : ℕ) → is_letter c ≡ true → NotEquals c
letter_plain c e = ne_eqb c 61 (λ q. omega (arith, letter_bounds c e))

either_plain : (c : ℕ) → is_letter_or_digit c ≡ true → NotEquals c
unfolding is_letter_or_digit
either_plain c e = go (is_letter c) refl e
  where
    go : (b : Bool) → is_letter c ≡ b → b || is_digit c ≡ true → NotEquals c
    go true p q = letter_plain c p
    go false p q = digit_plain c q

-- ---- what a reader finds on s: at most all of s, over bytes of P, and it gives things of Q

pub data Sound {A : Type 0} (P : ℕ → Type 0) (Q : A → Type 0) (s : List ℕ) : Found A → Type 0 where
  sound : {a : A} (k : ℕ) → Q a → k ≤ length s → Each P (take k s) → Sound P Q s (found a k)
  sound_bad : Sound P Q s bad

pub record Good {A : Type 0} (P : ℕ → Type 0) (Q : A → Type 0) (r : Reader A) : Type 0 where
  pub on : (s : List ℕ) → Sound P Q s (r s)

module _ {P : ℕ → Type 0} where
  pub sound_ahead : {B : Type 0} {R : B → Type 0} (s : List ℕ) (k : ℕ) (o : Found B) → k ≤ length s → Each P (take k s)
      → Sound P R (drop k s) o → Sound P R s (ahead k o)
  unfolding ahead
  sound_ahead s k (found b _) l p (sound j q m p') =
      sound (k + j) q (omega (arith, length-drop k s)) (subst (Each P) (sym (take-add k j s)) (each_append p p'))
  sound_ahead s k bad l p sound_bad = sound_bad

  pub good_then : {A B : Type 0} {Q : A → Type 0} {R : B → Type 0} {r : Reader A} {h : A → Reader B}
      → Good P Q r → ((a : A) → Q a → Good P R (h a)) → Good P R (and_then r h)
  unfolding and_then follow
  good_then {A} {B} {Q} {R} {r} {h} g f = record { on = λ s. go s (r s) (g.on s) }
    where
      go : (s : List ℕ) (o : Found A) → Sound P Q s o → Sound P R s (follow o h s)
      go s (found a _) (sound k q l p) = sound_ahead s k (h a (drop k s)) l p ((f a q).on (drop k s))
      go s bad sound_bad = sound_bad

  pub good_give : {A : Type 0} {Q : A → Type 0} (a : A) → Q a → Good P Q (give a)
  unfolding give
  good_give a q = record { on = λ s. sound 0 q (omega arith) each_none }

  pub good_give_if : {A : Type 0} {Q : A → Type 0} (b : Bool) (a : A) → (b ≡ true → Q a) → Good P Q (give_if b a)
  unfolding give_if
  good_give_if true a q = record { on = λ s. sound 0 (q refl) (omega arith) each_none }
  good_give_if false a q = record { on = λ s. sound_bad }

  pub good_after : {A : Type 0} {Q : A → Type 0} (c : ℕ) {r : Reader A} → P c → Good P Q r → Good P Q (after c r)
  unfolding after
  good_after {A} {Q} c {r} pc g = record { on = go }
    where
      go : (s : List ℕ) → Sound P Q s (after c r s)
      go [] = sound_bad
      go (x ∷ s) = when (eqb x c) refl
        where
          when : (b : Bool) → eqb x c ≡ b → Sound P Q (x ∷ s) (cond b (ahead 1 (r s)) bad)
          when true e = sound_ahead (x ∷ s) 1 (r s) (omega arith) (each_one (subst P (sym (eqb-true x c e)) pc)) (g.on s)
          when false e = sound_bad

  pub good_word : {A : Type 0} {Q : A → Type 0} {w : List ℕ} {r : Reader A} → Each P w → Good P Q r → Good P Q (after_word w r)
  unfolding after_word
  good_word each_none g = g
  good_word (each_more {x = c} p ps) g = good_after c p (good_word ps g)

  pub good_choose : {A : Type 0} {Q : A → Type 0} (test : List ℕ → Bool) {r q : Reader A} → Good P Q r → Good P Q q → Good P Q (choose test r q)
  unfolding choose
  good_choose {A} {Q} test {r} {q} f g = record { on = λ s. go s (test s) }
    where
      go : (s : List ℕ) (b : Bool) → Sound P Q s (cond b (r s) (q s))
      go s true = f.on s
      go s false = g.on s

  good_up_to : {A : Type 0} {Q : A → Type 0} {r : Reader A} (n : ℕ) → P comma → Good P Q r → Good P (Each Q) (listed_up_to n r)
  unfolding listed_up_to
  good_up_to zero pc g = record { on = λ s. sound_bad }
  good_up_to (suc n) pc g =
      record {
        on = (good_then g (λ a q.
            good_choose _ (good_after comma pc (good_then (good_up_to n pc g) (λ l qs. good_give _ (each_more q qs)))) (good_give _ (each_one q)))
            ).on;
      }

  pub good_listed : {A : Type 0} {Q : A → Type 0} {r : Reader A} → P comma → Good P Q r → Good P (Each Q) (listed r)
  unfolding listed
  good_listed pc g = record { on = λ s. (good_up_to (suc (length s)) pc g).on s }

pub good_any : {A : Type 0} {P : ℕ → Type 0} {Q : A → Type 0} {r : Reader A} → Good P Q r → Good Any Q r
good_any {A} {P} {Q} {r} g = record { on = λ s. go s (r s) (g.on s) }
  where
    go : (s : List ℕ) (o : Found A) → Sound P Q s o → Sound Any Q s o
    go s (found a _) (sound k q l p) = sound k q l (each_map (λ c x. tt) p)
    go s bad sound_bad = sound_bad

-- ---- runs

pub run_all : (test : ℕ → Bool) (s : List ℕ) → Each (Passes test) (take (run test s) s)
unfolding run
run_all test [] = each_none
run_all test (c ∷ s) = go (test c) refl (run_all test s)
  where
    go : (b : Bool) → test c ≡ b → Each (Passes test) (take (run test s) s) → Each (Passes test) (take (cond b (suc (run test s)) 0) (c ∷ s))
    go true e p = each_more e p
    go false e p = each_none

pub run_le : (test : ℕ → Bool) (s : List ℕ) → run test s ≤ length s
unfolding run
run_le test [] = omega arith
run_le test (c ∷ s) = go (test c) (run_le test s)
  where
    go : (b : Bool) → run test s ≤ length s → cond b (suc (run test s)) 0 ≤ suc (length s)
    go true l = omega arith
    go false l = omega arith

pub good_number : Good NotEquals IsDigits number
unfolding number digit_run taken
good_number = record { on = λ s. go (run is_digit s) s (run_le is_digit s) (run_all is_digit s) }
  where
    go : (k : ℕ) (s : List ℕ) → k ≤ length s → Each (Passes is_digit) (take k s) → Sound NotEquals IsDigits s (taken k s)
    go zero s l p = sound_bad
    go (suc k) [] l p = absurd (omega arith)
    go (suc k) (c ∷ s) l (each_more p ps) = sound (suc k) (is_digits p ps) l (each_more (digit_plain c p) (each_map digit_plain ps))

pub good_name : Good NotEquals IsName name
unfolding name name_run taken
good_name = record { on = go }
  where
    go : (s : List ℕ) → Sound NotEquals IsName s (taken (name_run s) s)
    go [] = sound_bad
    go (c ∷ s) = when (is_letter c) refl
      where
        when : (b : Bool) → is_letter c ≡ b → Sound NotEquals IsName (c ∷ s) (taken (cond b (suc (run is_letter_or_digit s)) 0) (c ∷ s))
        when true e =
            sound (suc (run is_letter_or_digit s)) (is_name e (run_all is_letter_or_digit s)) (omega (arith, run_le is_letter_or_digit s))
            (each_more (letter_plain c e) (each_map either_plain (run_all is_letter_or_digit s)))
        when false e = sound_bad
