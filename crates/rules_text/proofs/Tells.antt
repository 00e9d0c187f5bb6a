-- What the text is that a reader took: one law for each way of joining readers.
-- Assumes nothing.
use mathlib.Core.Path.{◌≡◌, refl, sym, ap, ◌∙◌, subst}
use mathlib.Core.List.{List, [], ◌∷◌, ◌++◌, append_assoc, append-nil}
use mathlib.Core.Bool.{Bool, true, false, cond}
use mathlib.Core.Option.{some}
use Prim.Native.Nat.{ℕ, zero, suc, ◌+◌, ◌≤◌}
use native.Mathlib.Omega.{arith}
use lib.ListN.{length, take, drop, length-append, take-append-drop}
use lib.Seq.{drop_at, length-take-le}
use lib.Dec.{eqb}
use borrow.Author.Tests.{eqb-true}
use Rattle.rules_object.specs.Check.{is_letter, is_digit}
use Rattle.rules_shared.specs.Lists.{Each, each_more}
use Rattle.rules_shared.proofs.EachLaws.{each_one}
use Rattle.rules_text.specs.Tokens.{comma, is_letter_or_digit, Found, found, bad, Reader, give, give_if, ahead, follow, and_then, after, after_word, choose, whole, run, digit_run, name_run, taken, number, name, listed_up_to, listed}
use Rattle.rules_text.specs.Spelling.{Passes, IsDigits, is_digits, IsName, is_name, spell_more, spell_list}
use Rattle.rules_text.proofs.Parse.{list_step}
use Rattle.rules_text.proofs.Readers.{run_all, run_le}
use Rattle.rules_text.proofs.ReadForms.{whole_found}
use Rattle.rules_text.proofs.Found.{not_found}

-- s starts with a text t, and Q holds of t and what was found
pub data Told {A : Type 0} (Q : List ℕ → A → Type 0) (s : List ℕ) : Found A → Type 0 where
  told : {a : A} (k : ℕ) (t rest : List ℕ) → s ≡ t ++ rest → k ≡ length t → Q t a → Told Q s (found a k)
  told_bad : Told Q s bad

pub record Tells {A : Type 0} (Q : List ℕ → A → Type 0) (r : Reader A) : Type 0 where
  pub on : (s : List ℕ) → Told Q s (r s)

-- ---- joined readers

pub told_ahead : {B : Type 0} (R : List ℕ → B → Type 0) (s t rest : List ℕ) (k : ℕ) (o : Found B) → s ≡ t ++ rest → k ≡ length t
    → Told (λ u. R (t ++ u)) (drop k s) o → Told R s (ahead k o)
unfolding ahead
told_ahead R s t rest k (found b _) e l (told j u rest' f m q) =
    let left : drop k s ≡ rest = ap (drop k) e ∙ drop_at t rest k (sym l) in
    told (k + j) (t ++ u) rest' (e ∙ ap (λ (x : List ℕ). t ++ x) (sym left ∙ f) ∙ sym (append_assoc t u rest')) (omega (arith, length-append t u)) q
told_ahead R s t rest k bad e l told_bad = told_bad

pub tells_map : {A : Type 0} {Q R : List ℕ → A → Type 0} {r : Reader A} → ((t : List ℕ) (a : A) → Q t a → R t a) → Tells Q r → Tells R r
tells_map {A} {Q} {R} {r} f g = record { on = λ s. go s (r s) (g.on s) }
  where
    go : (s : List ℕ) (o : Found A) → Told Q s o → Told R s o
    go s (found a _) (told k t rest e l q) = told k t rest e l (f t a q)
    go s bad told_bad = told_bad

pub tells_then : {A B : Type 0} {Q : List ℕ → A → Type 0} {R : List ℕ → B → Type 0} {r : Reader A} {h : A → Reader B}
    → Tells Q r → ((a : A) (t : List ℕ) → Q t a → Tells (λ u. R (t ++ u)) (h a)) → Tells R (and_then r h)
unfolding and_then follow
tells_then {A} {B} {Q} {R} {r} {h} g f = record { on = λ s. go s (r s) (g.on s) }
  where
    go : (s : List ℕ) (o : Found A) → Told Q s o → Told R s (follow o h s)
    go s (found a _) (told k t rest e l q) = told_ahead R s t rest k (h a (drop k s)) e l ((f a t q).on (drop k s))
    go s bad told_bad = told_bad

pub tells_give : {A : Type 0} {Q : List ℕ → A → Type 0} (a : A) → Q [] a → Tells Q (give a)
unfolding give
tells_give a q = record { on = λ s. told 0 [] s refl refl q }

pub tells_give_if : {A : Type 0} {Q : List ℕ → A → Type 0} (b : Bool) (a : A) → (b ≡ true → Q [] a) → Tells Q (give_if b a)
unfolding give_if
tells_give_if true a q = record { on = λ s. told 0 [] s refl refl (q refl) }
tells_give_if false a q = record { on = λ s. told_bad }

-- a reader, and the answer made of what it gives
pub tells_last : {A B : Type 0} {Q : List ℕ → A → Type 0} {R : List ℕ → B → Type 0} {r : Reader A} (f : A → B)
    → Tells Q r → ((a : A) (t : List ℕ) → Q t a → R t (f a)) → Tells R (and_then r (λ a. give (f a)))
tells_last {R} f g q = tells_then g (λ a t p. tells_give (f a) (subst (λ (w : List ℕ). R w (f a)) (sym (append-nil t)) (q a t p)))

pub tells_after : {A : Type 0} {R : List ℕ → A → Type 0} (c : ℕ) {r : Reader A} → Tells (λ u. R (c ∷ u)) r → Tells R (after c r)
unfolding after
tells_after {A} {R} c {r} g = record { on = go }
  where
    go : (s : List ℕ) → Told R s (after c r s)
    go [] = told_bad
    go (x ∷ s) = when (eqb x c) refl
      where
        when : (b : Bool) → eqb x c ≡ b → Told R (x ∷ s) (cond b (ahead 1 (r s)) bad)
        when true e = told_ahead R (x ∷ s) (c ∷ []) s 1 (r s) (ap (λ (y : ℕ). y ∷ s) (eqb-true x c e)) refl (g.on s)
        when false e = told_bad

pub tells_word : {A : Type 0} (R : List ℕ → A → Type 0) (w : List ℕ) {r : Reader A} → Tells (λ u. R (w ++ u)) r → Tells R (after_word w r)
unfolding after_word
tells_word R [] g = g
tells_word R (c ∷ w) g = tells_after c (tells_word (λ u. R (c ∷ u)) w g)

pub tells_choose : {A : Type 0} {R : List ℕ → A → Type 0} (test : List ℕ → Bool) {r q : Reader A} → Tells R r → Tells R q → Tells R (choose test r q)
unfolding choose
tells_choose {A} {R} test {r} {q} f g = record { on = λ s. go s (test s) }
  where
    go : (s : List ℕ) (b : Bool) → Told R s (cond b (r s) (q s))
    go s true = f.on s
    go s false = g.on s

-- a reader that takes the whole text tells of the text
pub tells_whole : {A : Type 0} {Q : List ℕ → A → Type 0} (r : Reader A) (s : List ℕ) (a : A) → Tells Q r → whole r s ≡ some a → Q s a
tells_whole {A} {Q} r s a g e = go (r s) (g.on s) (whole_found r s a e)
  where
    nothing_left : (t rest : List ℕ) → s ≡ t ++ rest → length s ≡ length t → s ≡ t
    nothing_left t [] p l = p ∙ append-nil t
    nothing_left t (x ∷ rest) p l = absurd (omega (arith, ap length p, length-append t (x ∷ rest)))

    go : (o : Found A) → Told Q s o → o ≡ found a (length s) → Q s a
    go (found b _) (told k t rest p l q) f =
        let same : b ≡ a = cc in
        let long : k ≡ length s = cc in
        let all : s ≡ t = nothing_left t rest p (omega arith) in
        subst (λ (w : List ℕ). Q w a) (sym all) (subst (Q t) same q)
    go bad told_bad f = absurd (not_found f)

-- ---- names and numbers

pub tells_number : Tells (λ t n. (t ≡ n) × IsDigits n) number
unfolding number digit_run taken
tells_number = record { on = λ s. go (run is_digit s) s (run_le is_digit s) (run_all is_digit s) }
  where
    go : (k : ℕ) (s : List ℕ) → k ≤ length s → Each (Passes is_digit) (take k s) → Told (λ t n. (t ≡ n) × IsDigits n) s (taken k s)
    go zero s l p = told_bad
    go (suc k) [] l p = absurd (omega arith)
    go (suc k) (c ∷ s) l (each_more p ps) =
        told (suc k) (take (suc k) (c ∷ s)) (drop (suc k) (c ∷ s)) (sym (take-append-drop (suc k) (c ∷ s))) (sym (length-take-le (suc k) (c ∷ s) l))
        (refl, is_digits p ps)

pub tells_name : Tells (λ t v. (t ≡ v) × IsName v) name
unfolding name name_run taken
tells_name = record { on = go }
  where
    go : (s : List ℕ) → Told (λ t v. (t ≡ v) × IsName v) s (taken (name_run s) s)
    go [] = told_bad
    go (c ∷ s) = when (is_letter c) refl
      where
        when : (b : Bool) → is_letter c ≡ b → Told (λ t v. (t ≡ v) × IsName v) (c ∷ s) (taken (cond b (suc (run is_letter_or_digit s)) 0) (c ∷ s))
        when true e =
            told (suc (run is_letter_or_digit s)) (c ∷ take (run is_letter_or_digit s) s) (drop (run is_letter_or_digit s) s)
            (ap (λ (l : List ℕ). c ∷ l) (sym (take-append-drop (run is_letter_or_digit s) s)))
            (ap suc (sym (length-take-le (run is_letter_or_digit s) s (run_le is_letter_or_digit s))))
            (refl, is_name e (run_all is_letter_or_digit s))
        when false e = told_bad

-- ---- lists

abbrev pub NotEmpty : {A : Type 0} → List A → Type 0
NotEmpty [] = ⊥
NotEmpty (a ∷ others) = Unit {0}

module _ {A : Type 0} (P : A → Type 0) (spell : A → List ℕ) where
  abbrev pub SpelledList : List ℕ → List A → Type 0
  SpelledList t l = (t ≡ spell_list spell l) × Each P l × NotEmpty l

more_is : {A : Type 0} (spell : A → List ℕ) (l : List A) → NotEmpty l → comma ∷ spell_list spell l ≡ spell_more spell l
more_is spell [] n = absurd n
more_is spell (a ∷ others) n = refl

module _ {A : Type 0} {P : A → Type 0} {r : Reader A} (spell : A → List ℕ) (each : Tells (λ t a. (t ≡ spell a) × P a) r) where
  tells_step : (rest : Reader (List A)) → Tells (SpelledList P spell) rest → Tells (SpelledList P spell) (list_step r rest)
  unfolding list_step
  tells_step rest g =
      tells_then each (λ a t p.
      tells_choose _
      (tells_after comma (tells_last _ g (λ l u q.
      ((λ i. p.0 i ++ comma ∷ q.0 i) ∙ ap (λ (x : List ℕ). spell a ++ x) (more_is spell l q.2), each_more p.1 q.1, tt))))
      (tells_give _ (ap (λ (x : List ℕ). x ++ []) p.0, each_one p.1, tt)))

  tells_up_to : (n : ℕ) → Tells (SpelledList P spell) (listed_up_to n r)
  unfolding listed_up_to list_step
  tells_up_to zero = record { on = λ s. told_bad }
  tells_up_to (suc n) = record { on = (tells_step (listed_up_to n r) (tells_up_to n)).on }

  pub tells_listed : Tells (SpelledList P spell) (listed r)
  unfolding listed
  tells_listed = record { on = λ s. (tells_up_to (suc (length s))).on s }
