-- What it says of the parts that joined readers found something, and the other way; and what a text starts with.
-- Assumes nothing.
use mathlib.Core.Path.{◌≡◌, refl, sym, ap, ◌∙◌}
use mathlib.Core.List.{List, [], ◌∷◌, ◌++◌}
use mathlib.Core.Bool.{Bool, true, false, cond}
use Prim.Native.Nat.{ℕ, suc, ◌+◌}
use native.Mathlib.Omega.{arith}
use native.Mathlib.Nat.{zero-add, add-zero, add_assoc}
use lib.ListN.{drop}
use lib.Dec.{eqb}
use borrow.Author.Tests.{eqb-true}
use Rattle.rules_object.specs.Check.{is_letter, is_digit}
use Rattle.rules_text.specs.Tokens.{is_letter_or_digit, Found, found, bad, Reader, ahead, follow, and_then, after, after_word, run, digit_run, name_run, taken, number, name}

pub not_found : {A : Type 0} {a : A} {k : ℕ} → bad ≡ found a k → ⊥
not_found e =
    let clash : ◌≡◌ {A = ℕ} 0 1 = cc in
    omega arith

-- ---- joined readers

pub ahead_none : {A : Type 0} (o : Found A) → ahead 0 o ≡ o
unfolding ahead
ahead_none (found a k) = ap (found a) (zero-add k)
ahead_none bad = refl

pub ahead_ahead : {A : Type 0} (j k : ℕ) (o : Found A) → ahead j (ahead k o) ≡ ahead (j + k) o
unfolding ahead
ahead_ahead j k (found a i) = ap (found a) (sym (add_assoc j k i))
ahead_ahead j k bad = refl

-- a reader, then one that finds b, taking nothing more
pub then_ends : {A B : Type 0} (r : Reader A) (h : A → Reader B) (s : List ℕ) (a : A) (b : B) (k : ℕ)
    → r s ≡ found a k → h a (drop k s) ≡ found b 0 → and_then r h s ≡ found b k
unfolding and_then follow ahead
then_ends {A} {B} r h s a b k e f =
    ap (λ (o : Found A). follow o h s) e ∙ ap (ahead k) f ∙ ap (found b) (add-zero k)

-- a reader that takes nothing, then another
pub then_goes_on : {A B : Type 0} (r : Reader A) (h : A → Reader B) (s : List ℕ) (a : A) → r s ≡ found a 0 → and_then r h s ≡ h a s
unfolding and_then follow
then_goes_on {A} {B} r h s a e = ap (λ (o : Found A). follow o h s) e ∙ ahead_none (h a s)

pub record Then {A B : Type 0} (r : Reader A) (h : A → Reader B) (s : List ℕ) (b : B) (n : ℕ) : Type 0 where
  pub first : A
  pub took : ℕ
  pub more : ℕ
  pub one : r s ≡ found first took
  pub other : h first (drop took s) ≡ found b more
  pub adds : n ≡ took + more

pub then_found : {A B : Type 0} (r : Reader A) (h : A → Reader B) (s : List ℕ) (b : B) (n : ℕ) → and_then r h s ≡ found b n → Then r h s b n
unfolding and_then follow ahead
then_found {A} {B} r h s b n e = go (r s) refl e
  where
    further : (a : A) (k : ℕ) → r s ≡ found a k → (o : Found B) → h a (drop k s) ≡ o → ahead k o ≡ found b n → Then r h s b n
    further a k p (found c j) q f =
        let same : c ≡ b = cc in
        let long : k + j ≡ n = cc in
        record { first = a; took = k; more = j; one = p; other = q ∙ ap (λ (x : B). found x j) same; adds = sym long }
    further a k p bad q f = absurd (not_found f)

    go : (o : Found A) → r s ≡ o → follow o h s ≡ found b n → Then r h s b n
    go (found a k) p f = further a k p (h a (drop k s)) refl f
    go bad p f = absurd (not_found f)

pub record After {A : Type 0} (c : ℕ) (r : Reader A) (s : List ℕ) (a : A) (n : ℕ) : Type 0 where
  pub rest : List ℕ
  pub more : ℕ
  pub is : s ≡ c ∷ rest
  pub other : r rest ≡ found a more
  pub adds : n ≡ 1 + more

pub after_found : {A : Type 0} (c : ℕ) (r : Reader A) (s : List ℕ) (a : A) (n : ℕ) → after c r s ≡ found a n → After c r s a n
unfolding after ahead
after_found c r [] a n e = absurd (not_found e)
after_found {A} c r (x ∷ s) a n e = go (eqb x c) refl (r s) refl e
  where
    go : (b : Bool) → eqb x c ≡ b → (o : Found A) → r s ≡ o → cond b (ahead 1 o) bad ≡ found a n → After c r (x ∷ s) a n
    go true p (found d j) q f =
        let same : d ≡ a = cc in
        let long : 1 + j ≡ n = cc in
        record { rest = s; more = j; is = ap (λ (y : ℕ). y ∷ s) (eqb-true x c p); other = q ∙ ap (λ (y : A). found y j) same; adds = sym long }
    go true p bad q f = absurd (not_found f)
    go false p o q f = absurd (not_found f)

pub record Word {A : Type 0} (w : List ℕ) (r : Reader A) (s : List ℕ) (a : A) : Type 0 where
  pub rest : List ℕ
  pub more : ℕ
  pub is : s ≡ w ++ rest
  pub other : r rest ≡ found a more

pub word_found : {A : Type 0} (w : List ℕ) (r : Reader A) (s : List ℕ) (a : A) (n : ℕ) → after_word w r s ≡ found a n → Word w r s a
unfolding after_word
word_found [] r s a n e = record { rest = s; more = n; is = refl; other = e }
word_found (c ∷ w) r s a n e =
    let one = after_found c (after_word w r) s a n e in
    let others = word_found w r one.rest a one.more one.other in
    record { rest = others.rest; more = others.more; is = one.is ∙ ap (λ (l : List ℕ). c ∷ l) others.is; other = others.other }

-- ---- what a number or a name starts with

pub record Starts (test : ℕ → Bool) (s : List ℕ) : Type 0 where
  pub byte : ℕ
  pub rest : List ℕ
  pub is : s ≡ byte ∷ rest
  pub passes : test byte ≡ true

pub number_starts : (s : List ℕ) (n : List ℕ) (k : ℕ) → number s ≡ found n k → Starts is_digit s
unfolding number digit_run run taken
number_starts [] n k e = absurd (not_found e)
number_starts (x ∷ s) n k e = go (is_digit x) refl e
  where
    go : (b : Bool) → is_digit x ≡ b → taken (cond b (suc (run is_digit s)) 0) (x ∷ s) ≡ found n k → Starts is_digit (x ∷ s)
    go true p f = record { byte = x; rest = s; is = refl; passes = p }
    go false p f = absurd (not_found f)

pub name_starts : (s : List ℕ) (v : List ℕ) (k : ℕ) → name s ≡ found v k → Starts is_letter s
unfolding name name_run taken
name_starts [] v k e = absurd (not_found e)
name_starts (x ∷ s) v k e = go (is_letter x) refl e
  where
    go : (b : Bool) → is_letter x ≡ b → taken (cond b (suc (run is_letter_or_digit s)) 0) (x ∷ s) ≡ found v k → Starts is_letter (x ∷ s)
    go true p f = record { byte = x; rest = s; is = refl; passes = p }
    go false p f = absurd (not_found f)
