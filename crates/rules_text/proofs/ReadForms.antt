-- What was read as a statement is as the grammar says: its names, constants, exits, and a DO's parameters.
-- Assumes nothing.
use mathlib.Core.Path.{◌≡◌, refl, sym, subst}
use mathlib.Core.List.{List, [], ◌∷◌, ◌++◌}
use mathlib.Core.Bool.{Bool, true, false, cond}
use mathlib.Core.Option.{Option, some, none}
use Prim.Native.Nat.{ℕ, ◌≤◌}
use native.Mathlib.Omega.{arith}
use lib.ListN.{length, take}
use lib.Dec.{leb, eqb}
use borrow.Author.Tests.{leb-true, eqb-true}
use Rattle.rules_shared.specs.Limits.{limits}
use Rattle.rules_shared.specs.Lists.{Each, each_none, each_more}
use Rattle.rules_shared.proofs.EachLaws.{each_one, each_append}
use Rattle.rules_text.specs.Trees.{Expr, con, var, elm, neg, par, bin, optional, Array, array, array_names, array_constants, Form, assign, go_to, computed, ifs, loop, continue, stop, end, dimension, form_names, form_constants, form_exits, form_last}
use Rattle.rules_text.specs.Tokens.{left_paren, right_paren, comma, equals, word_continue, word_stop, word_end, Found, found, bad, Reader, give, after_word, all_of, whole}
use Rattle.rules_text.specs.Grammar.{assignment, plain_go_to, right_exits, computed_go_to, arithmetic_if, is_parameter, parameter, do_loop, array_shape, dimensions, read_assignment, read_go_to, read_computed, read_if, read_do, read_continue, read_stop, read_end, read_dimension, present, readings, first_of, form_of}
use Rattle.rules_text.specs.Shaped.{IsParameter}
use Rattle.rules_text.specs.Spelling.{IsDigits, IsName}
use Rattle.rules_text.proofs.Readers.{NotEquals, Any, both_true, Sound, sound, sound_bad, Good, good_then, good_give, good_give_if, good_after, good_word, good_choose, good_listed, good_any, good_number, good_name}
use Rattle.rules_text.proofs.ReadTrees.{Right, right_join, RightExpr, good_place, good_expression}

pub data MaybeParameter : Option Expr → Type 0 where
  not_written_lem : MaybeParameter none
  is_written : {e : Expr} → IsParameter e → MaybeParameter (some e)

-- the parts of a form that have a type of their own
abbrev pub Parameters : Form → Type 0
Parameters (assign t e) = Unit {0}
Parameters (go_to n) = Unit {0}
Parameters (computed ns v) = Unit {0}
Parameters (ifs e a b c) = Unit {0}
Parameters (loop n v p q r) = IsParameter p × IsParameter q × MaybeParameter r
Parameters continue = Unit {0}
Parameters stop = Unit {0}
Parameters end = Unit {0}
Parameters (dimension arrays) = Unit {0}

abbrev pub ExitCount : Form → Type 0
ExitCount (assign t e) = Unit {0}
ExitCount (go_to n) = Unit {0}
ExitCount (computed ns v) = (limits.fewest_exits ≤ length ns) × (length ns ≤ limits.most_exits)
ExitCount (ifs e a b c) = Unit {0}
ExitCount (loop n v p q r) = Unit {0}
ExitCount continue = Unit {0}
ExitCount stop = Unit {0}
ExitCount end = Unit {0}
ExitCount (dimension arrays) = Unit {0}

pub record RightForm (f : Form) : Type 0 where
  pub names : Each IsName (form_names f)
  pub constants : Each IsDigits (form_constants f)
  pub exits : Each IsDigits (form_exits f)
  pub last : Each IsDigits (form_last f)
  pub parameters : Parameters f
  pub exit_count : ExitCount f

-- ---- each form

pub good_assignment : Good Any RightForm assignment
unfolding assignment form_names form_constants form_exits form_last
good_assignment =
    good_then (good_any good_place) (λ t p. good_after equals tt (good_then (good_any good_expression) (λ e q.
    let r = right_join p q in
    good_give _ record { names = r.0; constants = r.1; exits = each_none; last = each_none; parameters = tt; exit_count = tt })))

pub good_go_to : Good NotEquals RightForm plain_go_to
unfolding plain_go_to form_names form_constants form_exits form_last
good_go_to =
    good_word word (good_then good_number (λ n q.
    good_give _ record { names = each_none; constants = each_none; exits = each_one q; last = each_none; parameters = tt; exit_count = tt }))
  where
    word : Each NotEquals (71 ∷ 79 ∷ 84 ∷ 79 ∷ [])
    word = each_more refl (each_more refl (each_more refl (each_one refl)))

pub good_computed : Good NotEquals RightForm computed_go_to
unfolding computed_go_to right_exits form_names form_constants form_exits form_last
good_computed =
    good_word word (good_after left_paren refl (good_then (good_listed refl good_number) (λ ns qs.
    good_after right_paren refl (good_after comma refl (good_then good_name (λ v q. good_give_if _ _ (λ e.
    let two = both_true (leb limits.fewest_exits (length ns)) (leb (length ns) limits.most_exits) e in
    record {
      names = each_one q;
      constants = each_none;
      exits = qs;
      last = each_none;
      parameters = tt;
      exit_count = (leb-true limits.fewest_exits (length ns) two.0, leb-true (length ns) limits.most_exits two.1);
    })))))))
  where
    word : Each NotEquals (71 ∷ 79 ∷ 84 ∷ 79 ∷ [])
    word = each_more refl (each_more refl (each_more refl (each_one refl)))

pub good_if : Good NotEquals RightForm arithmetic_if
unfolding arithmetic_if form_names form_constants form_exits form_last
good_if =
    good_word (each_more refl (each_one refl)) (good_after left_paren refl (good_then good_expression (λ e q. good_after right_paren refl
    (good_then good_number (λ a p. good_after comma refl (good_then good_number (λ b p'. good_after comma refl (good_then good_number (λ c p''.
    good_give _ record {
      names = q.0;
      constants = q.1;
      exits = each_more p (each_more p' (each_one p''));
      last = each_none;
      parameters = tt;
      exit_count = tt;
    })))))))))

pub clash : false ≡ true → ⊥
clash e = let z : ◌≡◌ {A = ℕ} 0 1 = cc in omega arith

pub is_parameter_lem : (e : Expr) → is_parameter e ≡ true → IsParameter e
is_parameter_lem (con c) t = IsParameter.constant
is_parameter_lem (var v) t = IsParameter.name
is_parameter_lem (elm v s) t = absurd (clash t)
is_parameter_lem (neg e) t = absurd (clash t)
is_parameter_lem (par e) t = absurd (clash t)
is_parameter_lem (bin o a b) t = absurd (clash t)

pub good_parameter : Good NotEquals (λ e. IsParameter e × RightExpr e) parameter
unfolding parameter
good_parameter = good_choose _ (record { on = λ s. sound_bad }) (good_then good_expression (λ e q. good_give_if _ _ (λ t. (is_parameter_lem e t, q))))

pub good_do : Good Any RightForm do_loop
unfolding do_loop form_names form_constants form_exits form_last
good_do =
    good_word (each_more tt (each_one tt)) (good_then (good_any good_number) (λ n qn. good_then (good_any good_name) (λ v qv.
    good_after equals tt (good_then (good_any good_parameter) (λ p qp. good_after comma tt (good_then (good_any good_parameter) (λ q qq.
    good_choose _
    (good_after comma tt (good_then (good_any good_parameter) (λ r qr.
    let three = right_join qp.1 (right_join qq.1 qr.1) in
    good_give _ record {
      names = each_more qv three.0;
      constants = three.1;
      exits = each_none;
      last = each_one qn;
      parameters = (qp.0, qq.0, is_written qr.0);
      exit_count = tt;
    })))
    (let two = right_join qp.1 (right_join qq.1 (each_none, each_none)) in
    good_give _ record {
      names = each_more qv two.0;
      constants = two.1;
      exits = each_none;
      last = each_one qn;
      parameters = (qp.0, qq.0, not_written_lem);
      exit_count = tt;
    }))))))))

abbrev RightArray : Array → Type 0
RightArray (array v r c) = IsName v × Each IsDigits (r ∷ optional c)

good_array : Good NotEquals RightArray array_shape
unfolding array_shape
good_array =
    good_then good_name (λ v q. good_after left_paren refl (good_then good_number (λ r p. good_choose _
    (good_after comma refl (good_then good_number (λ c p'. good_after right_paren refl (good_give _ (q, each_more p (each_one p'))))))
    (good_after right_paren refl (good_give _ (q, each_one p))))))

right_arrays_lem : (arrays : List Array) → Each RightArray arrays → Right (array_names arrays) (array_constants arrays)
right_arrays_lem [] each_none = (each_none, each_none)
right_arrays_lem (array v r c ∷ others) (each_more q qs) = add q.1 (right_arrays_lem others qs)
  where
    add : Each IsDigits (r ∷ optional c) → Right (array_names others) (array_constants others) → Right (v ∷ array_names others) (r ∷ (optional c ++ array_constants others))
    add (each_more p ps) rest = (each_more q.0 rest.0, each_more p (each_append ps rest.1))

pub good_dimension : Good NotEquals RightForm dimensions
unfolding dimensions form_names form_constants form_exits form_last
good_dimension =
    good_word word (good_then (good_listed refl good_array) (λ arrays q.
    let r = right_arrays_lem arrays q in
    good_give _ record { names = r.0; constants = r.1; exits = each_none; last = each_none; parameters = tt; exit_count = tt }))
  where
    word : Each NotEquals (68 ∷ 73 ∷ 77 ∷ 69 ∷ 78 ∷ 83 ∷ 73 ∷ 79 ∷ 78 ∷ [])
    word =
        each_more refl (each_more refl (each_more refl (each_more refl (each_more refl (each_more refl (each_more refl (each_more refl (each_one refl))))))))

-- CONTINUE, STOP and END have no parts
module _ (f : Form) (names-none : form_names f ≡ []) (constants-none : form_constants f ≡ []) (exits-none : form_exits f ≡ []) (last_none : form_last f ≡ []) where
  right_bare : Parameters f → ExitCount f → RightForm f
  right_bare p c =
      record {
        names = subst (Each IsName) (sym names-none) each_none;
        constants = subst (Each IsDigits) (sym constants-none) each_none;
        exits = subst (Each IsDigits) (sym exits-none) each_none;
        last = subst (Each IsDigits) (sym last_none) each_none;
        parameters = p;
        exit_count = c;
      }

pub right_continue : RightForm continue
unfolding form_names form_constants form_exits form_last
right_continue = right_bare continue refl refl refl refl tt tt

pub right_stop : RightForm stop
unfolding form_names form_constants form_exits form_last
right_stop = right_bare stop refl refl refl refl tt tt

pub right_end : RightForm end
unfolding form_names form_constants form_exits form_last
right_end = right_bare end refl refl refl refl tt tt

pub good_continue : Good NotEquals RightForm (after_word word_continue (give continue))
good_continue =
    good_word (each_more refl (each_more refl (each_more refl (each_more refl (each_more refl (each_more refl (each_more refl (each_one refl))))))))
    (good_give _ right_continue)

pub good_stop : Good NotEquals RightForm (after_word word_stop (give stop))
good_stop = good_word (each_more refl (each_more refl (each_more refl (each_one refl)))) (good_give _ right_stop)

pub good_end : Good NotEquals RightForm (after_word word_end (give end))
good_end = good_word (each_more refl (each_more refl (each_one refl))) (good_give _ right_end)

-- ---- the whole text

pub whole_found : {A : Type 0} (r : Reader A) (s : List ℕ) (a : A) → whole r s ≡ some a → r s ≡ found a (length s)
unfolding whole all_of
whole_found {A} r s a e = go (r s) e
  where
    go : (o : Found A) → all_of (length s) o ≡ some a → o ≡ found a (length s)
    go bad q = cc
    go (found b k) q = when (eqb k (length s)) refl q
      where
        when : (t : Bool) → eqb k (length s) ≡ t → cond t (some b) none ≡ some a → found b k ≡ found a (length s)
        when true p q =
            let same : k ≡ length s = eqb-true k (length s) p in
            let is : b ≡ a = cc in
            cc
        when false p q = cc

pub sound_is : {A : Type 0} {P : ℕ → Type 0} {Q : A → Type 0} (s : List ℕ) (o : Found A) (a : A) (k : ℕ) → Sound P Q s o → o ≡ found a k → Q a × Each P (take k s)
sound_is {A} {P} {Q} s (found b _) a k (sound j q l p) e =
    let same : b ≡ a = cc in
    let long : j ≡ k = cc in
    (subst Q same q, subst (λ (n : ℕ). Each P (take n s)) long p)
sound_is s bad a k sound_bad e =
    let clash : ◌≡◌ {A = ℕ} 0 1 = cc in
    absurd (omega arith)

-- what a reader gives of the whole text, and over what bytes
pub whole_good : {A : Type 0} {P : ℕ → Type 0} {Q : A → Type 0} (r : Reader A) (s : List ℕ) (a : A) → Good P Q r → whole r s ≡ some a → Q a × Each P (take (length s) s)
whole_good r s a g e = sound_is s (r s) a (length s) (g.on s) (whole_found r s a e)

abbrev Gives : Option Form → Type 0
Gives o = (f : Form) → o ≡ some f → RightForm f

first_right : (os : List (Option Form)) (f : Form) → Each Gives os → first_of (present os) ≡ some f → RightForm f
unfolding first_of present
first_right [] f each_none e =
    let clash : ◌≡◌ {A = ℕ} 0 1 = cc in
    absurd (omega arith)
first_right (none ∷ os) f (each_more p ps) e = first_right os f ps e
first_right (some g ∷ os) f (each_more p ps) e = p f e

-- WHAT WAS READ IS RIGHT
pub read_right : (s : List ℕ) (f : Form) → form_of s ≡ some f → RightForm f
unfolding form_of readings read_assignment read_go_to read_computed read_if read_do read_continue read_stop read_end read_dimension
read_right s f e =
    first_right _ f
    (each_more (λ g q. (whole_good assignment s g good_assignment q).0)
    (each_more (λ g q. (whole_good plain_go_to s g good_go_to q).0)
    (each_more (λ g q. (whole_good computed_go_to s g good_computed q).0)
    (each_more (λ g q. (whole_good arithmetic_if s g good_if q).0)
    (each_more (λ g q. (whole_good do_loop s g good_do q).0)
    (each_more (λ g q. (whole_good _ s g good_continue q).0)
    (each_more (λ g q. (whole_good _ s g good_stop q).0)
    (each_more (λ g q. (whole_good _ s g good_end q).0)
    (each_one (λ g q. (whole_good dimensions s g good_dimension q).0))))))))))
    e

pub read_names : (s : List ℕ) (f : Form) → form_of s ≡ some f → Each IsName (form_names f)
read_names s f e = (read_right s f e).names

pub read_constants : (s : List ℕ) (f : Form) → form_of s ≡ some f → Each IsDigits (form_constants f)
read_constants s f e = (read_right s f e).constants

pub read_exits : (s : List ℕ) (f : Form) → form_of s ≡ some f → Each IsDigits (form_exits f)
read_exits s f e = (read_right s f e).exits

pub read_last : (s : List ℕ) (f : Form) → form_of s ≡ some f → Each IsDigits (form_last f)
read_last s f e = (read_right s f e).last

pub read_parameters : (s : List ℕ) (f : Form) → form_of s ≡ some f → Parameters f
read_parameters s f e = (read_right s f e).parameters

pub read_exit_count : (s : List ℕ) (f : Form) → form_of s ≡ some f → ExitCount f
read_exit_count s f e = (read_right s f e).exit_count
