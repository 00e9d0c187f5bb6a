-- What a reader takes from the start of a text, and what it leaves: one law for each way of joining readers.
-- Assumes nothing.
use mathlib.Core.Path.{◌≡◌, refl, sym, ap, ◌∙◌, subst}
use mathlib.Core.List.{List, [], ◌∷◌, ◌++◌, append_assoc, append-nil}
use mathlib.Core.Bool.{Bool, true, false, ◌&&◌, ◌||◌, cond}
use mathlib.Core.Option.{some, none}
use Prim.Native.Nat.{ℕ, suc, ◌+◌, ◌≤◌}
use native.Mathlib.Omega.{arith}
use lib.ListN.{length, drop, length-append}
use lib.Seq.{take-append_seam, drop-append_seam}
use lib.Dec.{leb}
use borrow.Author.Tests.{eq-eqb, ne_eqb, lt-leb}
use Rattle.rules_object.specs.Check.{is_letter, is_digit}
use Rattle.rules_shared.specs.Lists.{Each, each_none, each_more}
use Rattle.rules_text.specs.Tokens.{comma, is_letter_or_digit, Found, found, bad, Reader, give, give_if, ahead, follow, and_then, after, after_word, choose, starts, starts_digit, all_of, whole, run, digit_run, name_run, taken, number, name, listed}
use Rattle.rules_text.specs.Spelling.{Passes, IsDigits, is_digits, IsName, is_name, spell_more, spell_list}
use Rattle.rules_text.proofs.Parse.{list_step, listed_step}
use Rattle.rules_text.proofs.Readers.{digit_bounds, letter_bounds}

-- of s, r reads a, and rest is left
pub record Takes {A : Type 0} (r : Reader A) (s : List ℕ) (a : A) (rest : List ℕ) : Type 0 where
  pub text : List ℕ
  pub is : s ≡ text ++ rest
  pub reads : r s ≡ found a (length text)

-- ---- joined readers

pub takes_as : {A : Type 0} {r q : Reader A} {s rest : List ℕ} {a : A} → r s ≡ q s → Takes q s a rest → Takes r s a rest
takes_as e p = record { text = p.text; is = p.is; reads = e ∙ p.reads }

pub takes_give : {A : Type 0} (a : A) (s : List ℕ) → Takes (give a) s a s
unfolding give
takes_give a s = record { text = []; is = refl; reads = refl }

pub takes_give_if : {A : Type 0} (b : Bool) (a : A) (s : List ℕ) → b ≡ true → Takes (give_if b a) s a s
unfolding give_if
takes_give_if b a s e = record { text = []; is = refl; reads = ap (λ (t : Bool). give_if t a s) e }

pub takes_then : {A B : Type 0} {r : Reader A} (h : A → Reader B) {s mid rest : List ℕ} {a : A} {b : B}
    → Takes r s a mid → Takes (h a) mid b rest → Takes (and_then r h) s b rest
unfolding and_then follow ahead
takes_then {A} {B} {r} h {s} {mid} {rest} {a} {b} p q =
    record {
      text = p.text ++ q.text;
      is = p.is ∙ ap (λ (l : List ℕ). p.text ++ l) q.is ∙ sym (append_assoc p.text q.text rest);
      reads = ap (λ (o : Found A). follow o h s) p.reads
          ∙ ap (λ (l : List ℕ). ahead (length p.text) (h a l)) (ap (drop (length p.text)) p.is ∙ drop-append_seam p.text mid)
          ∙ ap (ahead (length p.text)) q.reads
          ∙ ap (found b) (sym (length-append p.text q.text));
    }

-- the same where the text is t and then u
pub takes_both : {A B : Type 0} {r : Reader A} (h : A → Reader B) (t u rest : List ℕ) {a : A} {b : B}
    → Takes r (t ++ (u ++ rest)) a (u ++ rest) → Takes (h a) (u ++ rest) b rest → Takes (and_then r h) ((t ++ u) ++ rest) b rest
takes_both {A} {B} {r} h t u rest {a} {b} p q = subst (λ (s : List ℕ). Takes (and_then r h) s b rest) (sym (append_assoc t u rest)) (takes_then h p q)

pub takes_after : {A : Type 0} {r : Reader A} (c : ℕ) {s rest : List ℕ} {a : A} → Takes r s a rest → Takes (after c r) (c ∷ s) a rest
unfolding after ahead
takes_after {A} {r} c {s} {rest} {a} p =
    let one : 1 + length p.text ≡ suc (length p.text) = omega arith in
    record {
      text = c ∷ p.text;
      is = ap (λ (l : List ℕ). c ∷ l) p.is;
      reads = ap (λ (b : Bool). cond b (ahead 1 (r s)) bad) (eq-eqb c c refl) ∙ ap (ahead 1) p.reads ∙ ap (found a) one;
    }

pub takes_word : {A : Type 0} {r : Reader A} (w : List ℕ) {s rest : List ℕ} {a : A} → Takes r s a rest → Takes (after_word w r) (w ++ s) a rest
unfolding after_word
takes_word [] p = p
takes_word (c ∷ w) p = takes_after c (takes_word w p)

pub takes_yes : {A : Type 0} (test : List ℕ → Bool) {r : Reader A} (q : Reader A) {s rest : List ℕ} {a : A} → test s ≡ true → Takes r s a rest → Takes (choose test r q) s a rest
unfolding choose
takes_yes {A} test {r} q {s} e p = record { text = p.text; is = p.is; reads = ap (λ (b : Bool). cond b (r s) (q s)) e ∙ p.reads }

pub takes_no : {A : Type 0} (test : List ℕ → Bool) (r : Reader A) {q : Reader A} {s rest : List ℕ} {a : A} → test s ≡ false → Takes q s a rest → Takes (choose test r q) s a rest
unfolding choose
takes_no {A} test r {q} {s} e p = record { text = p.text; is = p.is; reads = ap (λ (b : Bool). cond b (r s) (q s)) e ∙ p.reads }

-- what leaves nothing reads the whole text
pub takes_whole : {A : Type 0} {r : Reader A} {s : List ℕ} {a : A} → Takes r s a [] → whole r s ≡ some a
unfolding whole all_of
takes_whole {A} {r} {s} {a} p =
    ap (all_of (length s)) p.reads
    ∙ ap (λ (b : Bool). cond b (some a) none) (eq-eqb (length p.text) (length s) (sym (ap length (p.is ∙ append-nil p.text))))

-- ---- names and numbers

-- the text does not start with such a byte
pub data Clear (test : ℕ → Bool) : List ℕ → Type 0 where
  clear_none : Clear test []
  clear_byte : {c : ℕ} {s : List ℕ} → test c ≡ false → Clear test (c ∷ s)

run_clear : (test : ℕ → Bool) (rest : List ℕ) → Clear test rest → run test rest ≡ 0
unfolding run
run_clear test [] clear_none = refl
run_clear test (c ∷ s) (clear_byte e) = ap (λ (b : Bool). cond b (suc (run test s)) 0) e

run_through : (test : ℕ → Bool) (s rest : List ℕ) → Each (Passes test) s → Clear test rest → run test (s ++ rest) ≡ length s
unfolding run
run_through test [] rest each_none k = run_clear test rest k
run_through test (c ∷ s) rest (each_more p ps) k =
    ap (λ (b : Bool). cond b (suc (run test (s ++ rest))) 0) p ∙ ap suc (run_through test s rest ps k)

taken_all : (s rest : List ℕ) (c n : ℕ) → n ≡ suc (length s) → taken n (c ∷ s ++ rest) ≡ found (c ∷ s) (suc (length s))
unfolding taken
taken_all s rest c n e =
    ap (λ (k : ℕ). taken k (c ∷ s ++ rest)) e ∙ ap (λ (l : List ℕ). found (c ∷ l) (suc (length s))) (take-append_seam s rest)

pub takes_number : (n rest : List ℕ) → IsDigits n → Clear is_digit rest → Takes number (n ++ rest) n rest
unfolding number digit_run run
takes_number (c ∷ s) rest (is_digits p ps) k =
    record {
      text = c ∷ s;
      is = refl;
      reads = taken_all s rest c _ (ap (λ (b : Bool). cond b (suc (run is_digit (s ++ rest))) 0) p ∙ ap suc (run_through is_digit s rest ps k));
    }
takes_number [] rest x'' k = elim x'' [ ]

pub takes_name : (v rest : List ℕ) → IsName v → Clear is_letter_or_digit rest → Takes name (v ++ rest) v rest
unfolding name name_run
takes_name (c ∷ s) rest (is_name p ps) k =
    record {
      text = c ∷ s;
      is = refl;
      reads = taken_all s rest c _ (ap (λ (b : Bool). cond b (suc (run is_letter_or_digit (s ++ rest))) 0) p ∙ ap suc (run_through is_letter_or_digit s rest ps k));
    }
takes_name [] rest x'' k = elim x'' [ ]

neither : (a b : Bool) → a || b ≡ false → b ≡ false
neither true b e = cc
neither false b e = e

pub no_digit : {rest : List ℕ} → Clear is_letter_or_digit rest → Clear is_digit rest
unfolding is_letter_or_digit
no_digit clear_none = clear_none
no_digit (clear_byte {c} e) = clear_byte (neither (is_letter c) (is_digit c) e)

-- what words start with
pub starts_digit_lem : (n rest : List ℕ) → IsDigits n → starts_digit (n ++ rest) ≡ true
unfolding starts_digit
starts_digit_lem (c ∷ s) rest (is_digits p ps) = p
starts_digit_lem [] rest x' = elim x' [ ]

pub letter_no_digit : (c : ℕ) → is_letter c ≡ true → is_digit c ≡ false
letter_no_digit c p =
    let l = letter_bounds c p in
    both_no (leb 48 c) (leb c 57) (lt-leb c 57 (omega (arith, l.0)))
  where
    both_no : (a b : Bool) → b ≡ false → a && b ≡ false
    both_no true b e = e
    both_no false b e = refl

pub starts_no_digit : (v rest : List ℕ) → IsName v → starts_digit (v ++ rest) ≡ false
unfolding starts_digit
starts_no_digit (c ∷ s) rest (is_name p ps) = letter_no_digit c p
starts_no_digit [] rest x' = elim x' [ ]

-- a byte below the digits is not what a word starts with
pub number_not : (b : ℕ) (n rest : List ℕ) → suc b ≤ 48 → IsDigits n → starts b (n ++ rest) ≡ false
unfolding starts
number_not b (c ∷ s) rest l (is_digits p ps) = let k = digit_bounds c p in ne_eqb c b (λ e. omega (arith, k.0))
number_not b [] rest l x'' = elim x'' [ ]

pub name_not : (b : ℕ) (v rest : List ℕ) → suc b ≤ 48 → IsName v → starts b (v ++ rest) ≡ false
unfolding starts
name_not b (c ∷ s) rest l (is_name p ps) = let k = letter_bounds c p in ne_eqb c b (λ e. omega (arith, k.0))
name_not b [] rest l x'' = elim x'' [ ]

-- ---- lists

module _ {A : Type 0} {P : A → Type 0} {r : Reader A} (spell : A → List ℕ) where
  pub takes_list : ((a : A) (rest : List ℕ) → P a → Clear is_letter_or_digit rest → Takes r (spell a ++ rest) a rest)
      → (a : A) (others : List A) (rest : List ℕ) → P a → Each P others → Clear is_letter_or_digit rest → starts comma rest ≡ false
      → Takes (listed r) (spell_list spell (a ∷ others) ++ rest) (a ∷ others) rest
  unfolding list_step starts is_letter_or_digit
  takes_list each a [] rest p each_none k n =
      takes_as (listed_step r _) (takes_both _ (spell a) [] rest (each a rest p k) (takes_no _ _ n (takes_give _ _)))
  takes_list each a (b ∷ others) rest p (each_more q qs) k n =
      takes_as (listed_step r _) (takes_both _ (spell a) (spell_more spell (b ∷ others)) rest (each a _ p (clear_byte refl))
      (takes_yes _ _ refl (takes_after comma (takes_then _ (takes_list each b others rest q qs k n) (takes_give _ _)))))
