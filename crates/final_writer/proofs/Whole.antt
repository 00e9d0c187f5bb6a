-- The whole object: its contents and its bodies, and the book's answer to a write.
-- Assumes nothing.
use mathlib.Core.Path.{◌≡◌, refl, sym, ap, ◌∙◌}
use mathlib.Core.List.{List, [], ◌∷◌, ◌++◌}
use Prim.Native.Nat.{ℕ, suc, ◌+◌, ◌*◌, ◌≤◌, ◌<◌}
use native.Mathlib.Omega.{arith}
use lib.ListN.{length, drop, length-append}
use borrow.Author.Tests.{le-leb, lt-leb}
use Rattle.std.specs.Prelude.{Ok, Err}
use Rattle.rules_object.specs.Bytes.{bytes_of, concat, body_table}
use Rattle.rules_shared.specs.Refusals.{no_room}
use Rattle.rules_shared.specs.Output.{write}
use Rattle.rules_object.proofs.Words.{length_bytes}
use Rattle.refusals.specs.declared.Reason.TheVariants.{Room}
use Rattle.object_bodies.specs.Edition.{count, head}
use Rattle.final_body.specs.Bodies.{over, PutBody}
use Rattle.final_body.proofs.Over.{over_over}
use Rattle.final_body.proofs.Words.{bytes_append}
use Rattle.final_contents.specs.Contents.{words_of_bodies, contents_words}
use Rattle.final_writer.specs.Answer.{answer}

-- ---- the book's answer

pub too_short : (bytes o : List ℕ) → length o < length bytes → answer (Err Room) o ≡ write no_room bytes o
unfolding write
too_short bytes o h = rw (lt-leb (length bytes) (length o) h)

pub wrote : (bytes o o' : List ℕ) (n : ℕ) → n ≡ length bytes → length bytes ≤ length o → o' ≡ over 0 bytes o → answer (Ok n) o' ≡ write no_room bytes o
unfolding write over
wrote bytes o o' n l h e =
    let z : 0 + length bytes ≡ length bytes = omega arith in
    let out : over 0 bytes o ≡ bytes ++ drop (length bytes) o = ap (λ (k : ℕ). bytes ++ drop k o) z in
    rw (le-leb (length bytes) (length o) h) (ap (λ (k : ℕ). answer (Ok k) o') l ∙ ap (answer (Ok (length bytes))) (e ∙ out))

-- ---- the contents and the bodies

table_length : (k at : ℕ) (bs : List (List ℕ)) → length (body_table k at bs) ≡ 3 * length bs
table_length k at [] = refl
table_length k at (b ∷ bs) = omega (arith, table_length (suc k) (at + 4 * length b) bs)

module _ (digits cells : ℕ) (bs : List (List ℕ)) (all : length bs ≡ count) where
  contents_length : 4 * length (contents_words digits cells bs) ≡ head
  contents_length = omega (arith, table_length 1 (4 * (4 + 3 * length bs)) bs)

  pub length_whole : length (bytes_of (words_of_bodies digits cells bs)) ≡ head + 4 * length (concat bs)
  unfolding words_of_bodies
  length_whole =
      omega (arith, length_bytes (contents_words digits cells bs ++ concat bs), length-append (contents_words digits cells bs) (concat bs), contents_length)

  -- what the writer leaves where all fits
  pub both_parts : {o w v : List ℕ} {end : ℕ} → end ≡ head + 4 * length (concat bs) → end ≤ length o → PutBody o 0 (contents_words digits cells bs) w head
      → v ≡ over head (bytes_of (concat bs)) w → answer (Ok end) v ≡ write no_room (bytes_of (words_of_bodies digits cells bs)) o
  unfolding words_of_bodies
  both_parts {o} {w} {v} {end} size room p rest =
      let c : List ℕ = contents_words digits cells bs in
      wrote (bytes_of (c ++ concat bs)) o v end (size ∙ sym length_whole) (omega (arith, length_whole))
      (rest ∙ ap (over head (bytes_of (concat bs))) p.is
      ∙ over_over 0 head (bytes_of c) (bytes_of (concat bs)) o (omega (arith, length_bytes c, contents_length)) (omega (arith, length_bytes (concat bs)))
      ∙ ap (λ (l : List ℕ). over 0 l o) (sym (bytes_append c (concat bs))))
