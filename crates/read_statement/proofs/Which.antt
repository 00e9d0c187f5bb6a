-- Which form a text is of, by the readers that were tried.
-- Assumes nothing.
use mathlib.Core.Path.{◌≡◌, refl, sym, ap, ◌∙◌, subst}
use mathlib.Core.List.{List, [], ◌∷◌}
use mathlib.Core.Bool.{Bool, true, false, cond}
use mathlib.Core.Option.{Option, none, some}
use Prim.Native.Nat.{ℕ}
use native.Mathlib.Omega.{arith}
use lib.ListN.{length, take}
use Rattle.rules_shared.specs.Lists.{each_more}
use Rattle.rules_shared.proofs.EachLaws.{each_one}
use Rattle.rules_text.specs.Trees.{Form, continue, stop, end}
use Rattle.rules_text.specs.Tokens.{comma, equals, word_continue, word_stop, word_end, Reader, give, after_word, whole}
use Rattle.rules_text.specs.Grammar.{plain_go_to, do_loop, read_assignment, read_go_to, read_computed, read_if, read_do, read_continue, read_stop, read_end, read_dimension, present, readings, first_of, form_of}
use Rattle.rules_text.proofs.Readers.{Any, Good, good_then, good_give, good_after, good_word, good_choose, good_any, good_number, good_name}
use Rattle.rules_text.proofs.ReadForms.{whole_good, good_parameter}
use Rattle.rules_text.proofs.OneForm.{form_is}
use Rattle.std.proofs.Common.{Option as Maybe, Some, None}
use Rattle.read_forms.specs.declared.Statement.{Statement}
use Rattle.read_forms.specs.Statements.{form_words, answer, words, Reads, only_word, word_form}
use Rattle.read_forms.proofs.Forms.{only_is}

-- ---- an answer, of the form that was tried or not

pub settled : {b : List ℕ} {o p : Option Form} {r : Maybe Statement} {x : Statement} → ((f : Form) → o ≡ some f → p ≡ some f) → Reads b o r → r ≡ Some x → Reads b p (Some x)
unfolding answer
settled {b} {o} {p} {r} {x} law h t = subst (λ (y : Maybe Statement). Reads b p y) t (go o refl h)
  where
    go : (y : Option Form) → o ≡ y → Reads b y r → Reads b p r
    go none e g = let says : r ≡ None = g.says in let z : ◌≡◌ {A = ℕ} 0 1 = cc in absurd (omega arith)
    go (some f) e g = subst (λ (y : Option Form). Reads b y r) (sym (law f e)) g

pub not_this : {o : Option Form} {r : Maybe Statement} → r ≡ answer o → r ≡ None → o ≡ none
unfolding answer
not_this {o} {r} h t = go o refl h
  where
    go : (x : Option Form) → o ≡ x → r ≡ answer x → o ≡ none
    go none e g = e
    go (some f) e g = let z : ◌≡◌ {A = ℕ} 0 1 = cc in absurd (omega arith)

pub reads_as : {b : List ℕ} {o p : Option Form} {r : Maybe Statement} → p ≡ o → Reads b o r → Reads b p r
reads_as {b} {o} {p} {r} e h = subst (λ (x : Option Form). Reads b x r) (sym e) h

-- ---- the forms that leave no words

pub with_words : {b : List ℕ} {o : Option Form} {r : Maybe Statement} → words o ≡ [] → r ≡ answer o → Reads b o r
with_words {b} {o} {r} e q = record { says = q; table = ap (λ (l : List ℕ). take (length l) b) e ∙ sym e }

abbrev Wordless : Form → Type 0
Wordless f = form_words f ≡ []

wordless : (r : Reader Form) (s : List ℕ) → Good Any Wordless r → words (whole r s) ≡ []
unfolding words
wordless r s g = go (whole r s) refl
  where
    go : (o : Option Form) → whole r s ≡ o → words o ≡ []
    go none e = refl
    go (some f) e = (whole_good r s f g e).0

pub go_to_words : (s : List ℕ) → words (read_go_to s) ≡ []
unfolding read_go_to plain_go_to form_words
go_to_words s = wordless plain_go_to s (good_word (each_more tt (each_more tt (each_more tt (each_one tt)))) (good_then (good_any good_number) (λ n q. good_give _ refl)))

pub do_words : (s : List ℕ) → words (read_do s) ≡ []
unfolding read_do do_loop form_words
do_words s =
    wordless do_loop s
    (good_word (each_more tt (each_one tt)) (good_then (good_any good_number) (λ n qn. good_then (good_any good_name) (λ v qv.
    good_after equals tt (good_then (good_any good_parameter) (λ p qp. good_after comma tt (good_then (good_any good_parameter) (λ q qq.
    good_choose _ (good_after comma tt (good_then (good_any good_parameter) (λ r qr. good_give _ refl))) (good_give _ refl)))))))))

pub word_words : (s : List ℕ) → words (word_form s) ≡ []
unfolding word_form words form_words
word_words s = go (only_word word_continue s) (only_word word_stop s) (only_word word_end s)
  where
    go : (p q r : Bool) → words (cond p (some continue) (cond q (some stop) (cond r (some end) none))) ≡ []
    go true q r = refl
    go false true r = refl
    go false false true = refl
    go false false false = refl

-- ---- the text's form

module _ (s : List ℕ) (f : Form) where
  pub is_assignment : read_assignment s ≡ some f → form_of s ≡ some f
  is_assignment e = form_is s 0 f (ap some e)

  pub is_go_to : read_go_to s ≡ some f → form_of s ≡ some f
  is_go_to e = form_is s 1 f (ap some e)

  pub is_computed : read_computed s ≡ some f → form_of s ≡ some f
  is_computed e = form_is s 2 f (ap some e)

  pub is_if : read_if s ≡ some f → form_of s ≡ some f
  is_if e = form_is s 3 f (ap some e)

  pub is_do : read_do s ≡ some f → form_of s ≡ some f
  is_do e = form_is s 4 f (ap some e)

  pub is_word : word_form s ≡ some f → form_of s ≡ some f
  unfolding word_form read_continue read_stop read_end
  is_word e = go (only_word word_continue s) (only_word word_stop s) (only_word word_end s) refl refl refl e
    where
      at : (w : List ℕ) (g : Form) → only_word w s ≡ true → whole (after_word w (give g)) s ≡ some g
      at w g t = only_is w s g ∙ ap (λ (b : Bool). cond b (some g) none) t

      go : (p q r : Bool) → only_word word_continue s ≡ p → only_word word_stop s ≡ q → only_word word_end s ≡ r
          → cond p (some continue) (cond q (some stop) (cond r (some end) none)) ≡ some f → form_of s ≡ some f
      go true q r ep eq er x = form_is s 5 f (ap some (at word_continue continue ep ∙ x))
      go false true r ep eq er x = form_is s 6 f (ap some (at word_stop stop eq ∙ x))
      go false false true ep eq er x = form_is s 7 f (ap some (at word_end end er ∙ x))
      go false false false ep eq er x = let z : ◌≡◌ {A = ℕ} 0 1 = cc in absurd (omega arith)

skip : {o : Option Form} (os : List (Option Form)) → o ≡ none → first_of (present (o ∷ os)) ≡ first_of (present os)
unfolding present
skip os e = ap (λ (x : Option Form). first_of (present (x ∷ os))) e

last_one : (o : Option Form) → first_of (present (o ∷ [])) ≡ o
unfolding present first_of
last_one none = refl
last_one (some f) = refl

no_words_lem : (s : List ℕ) → word_form s ≡ none → (read_continue s ≡ none) × (read_stop s ≡ none) × (read_end s ≡ none)
unfolding word_form read_continue read_stop read_end
no_words_lem s e = go (only_word word_continue s) (only_word word_stop s) (only_word word_end s) refl refl refl e
  where
    at : (w : List ℕ) (g : Form) → only_word w s ≡ false → whole (after_word w (give g)) s ≡ none
    at w g t = only_is w s g ∙ ap (λ (b : Bool). cond b (some g) none) t

    go : (p q r : Bool) → only_word word_continue s ≡ p → only_word word_stop s ≡ q → only_word word_end s ≡ r
        → cond p (some continue) (cond q (some stop) (cond r (some end) none)) ≡ none
        → (whole (after_word word_continue (give continue)) s ≡ none) × (whole (after_word word_stop (give stop)) s ≡ none) × (whole (after_word word_end (give end)) s ≡ none)
    go true q r ep eq er x = let z : ◌≡◌ {A = ℕ} 0 1 = cc in absurd (omega arith)
    go false true r ep eq er x = let z : ◌≡◌ {A = ℕ} 0 1 = cc in absurd (omega arith)
    go false false true ep eq er x = let z : ◌≡◌ {A = ℕ} 0 1 = cc in absurd (omega arith)
    go false false false ep eq er x = (at word_continue continue ep, at word_stop stop eq, at word_end end er)

-- none of the others: DIMENSION or none at all
pub is_last : (s : List ℕ) → read_assignment s ≡ none → read_go_to s ≡ none → read_computed s ≡ none → read_if s ≡ none → read_do s ≡ none → word_form s ≡ none
    → form_of s ≡ read_dimension s
unfolding form_of readings
is_last s a b c d e w =
    let n = no_words_lem s w in
    skip _ a ∙ skip _ b ∙ skip _ c ∙ skip _ d ∙ skip _ e ∙ skip _ n.0 ∙ skip _ n.1 ∙ skip _ n.2 ∙ last_one (read_dimension s)
