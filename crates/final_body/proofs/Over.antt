-- A write over a part of a list, and two writes one after the other.
-- Assumes nothing.
use mathlib.Core.Path.{◌≡◌, sym, ap, ◌∙◌}
use mathlib.Core.List.{List, ◌++◌, append_assoc}
use Prim.Native.Nat.{ℕ, ◌+◌, ◌-◌, ◌≤◌}
use native.Mathlib.Omega.{arith}
use lib.ListN.{length, take, drop, length-append, length-drop}
use lib.Seq.{take_at, drop_at, length-take-le, drop-drop}
use borrow.Rule.Slice.PartMut.{put_mid}
use Rattle.final_body.specs.Bodies.{over}

-- the part from a to e, lent and given back with xs in it
pub put_over : (a e : ℕ) (o xs : List ℕ) → a ≤ e → length xs ≡ e - a → put_mid a (e - a) o xs ≡ over a xs o
unfolding over
put_over a e o xs h l =
    ap (λ (r : List ℕ). take a o ++ (xs ++ r))
    (drop-drop (e - a) a o ∙ ap (λ (k : ℕ). drop (a + k) o) (sym l))

pub length_over : (a : ℕ) (xs o : List ℕ) → a + length xs ≤ length o → length (over a xs o) ≡ length o
unfolding over
length_over a xs o h =
    length-append (take a o) (xs ++ drop (a + length xs) o)
    ∙ ap (λ (k : ℕ). length (take a o) + k) (length-append xs (drop (a + length xs) o))
    ∙ omega (arith, length-take-le a o (omega arith), length-drop (a + length xs) o)

-- xs at a, then ys right after them: xs ++ ys at a
pub over_over : (a b : ℕ) (xs ys o : List ℕ) → a + length xs ≡ b → b + length ys ≤ length o → over b ys (over a xs o) ≡ over a (xs ++ ys) o
unfolding over
over_over a b xs ys o e h =
    let p : List ℕ = take a o ++ xs in
    let lp : length p ≡ b = length-append (take a o) xs ∙ omega (arith, length-take-le a o (omega arith)) in
    let whole : take a o ++ (xs ++ drop (a + length xs) o) ≡ p ++ drop (a + length xs) o = sym (append_assoc (take a o) xs (drop (a + length xs) o)) in
    let lxy : length (xs ++ ys) ≡ length xs + length ys = length-append xs ys in
    let far : (a + length xs) + length ys ≡ a + length (xs ++ ys) = omega arith in
    ap (λ (w : List ℕ). take b w ++ (ys ++ drop (b + length ys) w)) whole
    ∙ ap (λ (l : List ℕ). l ++ (ys ++ drop (b + length ys) (p ++ drop (a + length xs) o))) (take_at p (drop (a + length xs) o) b lp)
    ∙ ap (λ (l : List ℕ). p ++ (ys ++ l))
    (sym (drop-drop (length ys) b (p ++ drop (a + length xs) o))
    ∙ ap (drop (length ys)) (drop_at p (drop (a + length xs) o) b lp)
    ∙ drop-drop (length ys) (a + length xs) o
    ∙ ap (λ (k : ℕ). drop k o) far)
    ∙ append_assoc (take a o) xs (ys ++ drop (a + length (xs ++ ys)) o)
    ∙ ap (λ (l : List ℕ). take a o ++ l) (sym (append_assoc xs ys (drop (a + length (xs ++ ys)) o)))
