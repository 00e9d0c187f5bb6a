-- The bytes of words written one after the other, and of bodies one after the other.
-- Assumes nothing.
use mathlib.Core.Path.{◌≡◌, refl, sym, ap, ◌∙◌}
use mathlib.Core.List.{List, [], ◌∷◌, ◌++◌, append_assoc, append-nil}
use Prim.Native.Nat.{ℕ, ◌+◌, ◌-◌, ◌*◌, ◌≤◌, ◌<◌}
use native.Mathlib.Omega.{arith}
use native.Mathlib.Nat.{add-zero}
use lib.ListN.{length, take, drop, get_or, length-append, drop_of_length-le}
use lib.Seq.{take_all}
use borrow.Rule.Slice.PartMut.{put_mid}
use Rattle.std.proofs.lemmas.List.{take_more, take-append-drop}
use Rattle.std.specs.Borrow.{Bor}
use Rattle.rules_object.specs.Bytes.{word_bytes, bytes_of, concat}
use Rattle.rules_object.proofs.Words.{length_bytes}
use Rattle.final_body.specs.Bodies.{over, PutBody, tables}
use Rattle.final_body.proofs.Over.{over_over, length_over, put_over}

pub bytes_append : (xs ys : List ℕ) → bytes_of (xs ++ ys) ≡ bytes_of xs ++ bytes_of ys
bytes_append [] ys = refl
bytes_append (x ∷ xs) ys = ap (λ (l : List ℕ). word_bytes x ++ l) (bytes_append xs ys)

-- ---- a write after a write

pub put_none : (o : List ℕ) (at : ℕ) → at ≤ length o → PutBody o at [] o at
unfolding over
put_none o at h =
    record { is = sym (ap (λ (k : ℕ). take at o ++ drop k o) (add-zero at) ∙ take-append-drop at o); ends = omega arith; inside = h }

pub put_long : {o w xs : List ℕ} {at next : ℕ} → PutBody o at xs w next → length w ≡ length o
put_long {o} {w} {xs} {at} p = ap length p.is ∙ length_over at (bytes_of xs) o (omega (arith, length_bytes xs, p.ends, p.inside))

pub put_next : {o w v xs ys : List ℕ} {at next end : ℕ} → PutBody o at xs w next → PutBody w next ys v end → PutBody o at (xs ++ ys) v end
put_next {o} {w} {v} {xs} {ys} {at} {next} {end} p q =
    let lx : length (bytes_of xs) ≡ 4 * length xs = length_bytes xs in
    let ly : length (bytes_of ys) ≡ 4 * length ys = length_bytes ys in
    let lw : length w ≡ length o = put_long p in
    record {
      is = q.is ∙ ap (over next (bytes_of ys)) p.is
          ∙ over_over at next (bytes_of xs) (bytes_of ys) o (omega (arith, p.ends)) (omega (arith, q.ends, q.inside))
          ∙ ap (λ (l : List ℕ). over at l o) (sym (bytes_append xs ys));
      ends = omega (arith, length-append xs ys, p.ends, q.ends);
      inside = omega (arith, q.inside);
    }

pub put_as : {o w xs ys : List ℕ} {at next : ℕ} → xs ≡ ys → PutBody o at xs w next → PutBody o at ys w next
put_as e p = rw (← e) p

-- a word that is stored
pub put_word : {v : List ℕ} (w : List ℕ) (next x : ℕ) → next + 4 ≤ length w → v ≡ take next w ++ (word_bytes x ++ drop (next + 4) w) → PutBody w next (x ∷ []) v (next + 4)
unfolding over
put_word w next x h e = record { is = e; ends = refl; inside = h }

-- words that fill the list that they are written into
pub put_whole : {o w : List ℕ} {next : ℕ} (ws : List ℕ) (i : ℕ) → length ws ≤ i → 4 * length ws ≡ length o → PutBody o 0 (take i ws) w next → w ≡ bytes_of ws
unfolding over
put_whole {o} ws i h l p =
    let all : length o ≤ 0 + length (bytes_of ws) = omega (arith, length_bytes ws) in
    p.is ∙ ap (λ (v : List ℕ). over 0 (bytes_of v) o) (take_all i ws h) ∙ ap (λ (r : List ℕ). bytes_of ws ++ r) (drop_of_length-le o all) ∙ append-nil (bytes_of ws)

-- the part of a body, lent and given back with its words in it
pub put_part : (o ws : List ℕ) (at : ℕ) (part : List ℕ) → at + 4 * length ws ≤ length o → part ≡ bytes_of ws → PutBody o at ws (put_mid at (at + 4 * length ws - at) o part) (at + 4 * length ws)
put_part o ws at part h e =
    record {
      is = put_over at (at + 4 * length ws) o part (omega arith) (ap length e ∙ length_bytes ws ∙ omega arith) ∙ ap (λ (p : List ℕ). over at p o) e;
      ends = refl;
      inside = h;
    }

-- ---- words of a list, and bodies of a list

pub words_more : (ws : List ℕ) (i : ℕ) → i < length ws → take i ws ++ (get_or ws i 0 ∷ []) ≡ take (i + 1) ws
words_more ws i h = sym (take_more ws i 0 h)

pub concat_append : (a b : List (List ℕ)) → concat (a ++ b) ≡ concat a ++ concat b
concat_append [] b = refl
concat_append (x ∷ a) b = ap (λ (l : List ℕ). x ++ l) (concat_append a b) ∙ sym (append_assoc x (concat a) (concat b))

pub tables_append : (a b : List (Bor (List ℕ))) → tables (a ++ b) ≡ tables a ++ tables b
tables_append [] b = refl
tables_append (x ∷ a) b = ap (λ (l : List (List ℕ)). x.now ∷ l) (tables_append a b)

words_append : (a b : List (Bor (List ℕ))) → concat (tables (a ++ b)) ≡ concat (tables a) ++ concat (tables b)
words_append a b = ap concat (tables_append a b) ∙ concat_append (tables a) (tables b)

module _ (bodies : List (Bor (List ℕ))) where
  pub bodies_more : (i : ℕ) (d : Bor (List ℕ)) → i < length bodies → concat (tables (take i bodies)) ++ (get_or bodies i d).now ≡ concat (tables (take (i + 1) bodies))
  bodies_more i d h =
      let b : Bor (List ℕ) = get_or bodies i d in
      sym (ap (λ (l : List (Bor (List ℕ))). concat (tables l)) (take_more bodies i d h)
      ∙ words_append (take i bodies) (b ∷ [])
      ∙ ap (λ (l : List ℕ). concat (tables (take i bodies)) ++ l) (append-nil b.now))

  pub bodies_room : (i : ℕ) (d : Bor (List ℕ)) → i < length bodies → length (concat (tables (take i bodies))) + length (get_or bodies i d).now ≤ length (concat (tables bodies))
  bodies_room i d h =
      let whole = ap (λ (l : List (Bor (List ℕ))). length (concat (tables l))) (take-append-drop (i + 1) bodies) in
      let parts = ap length (words_append (take (i + 1) bodies) (drop (i + 1) bodies)) in
      let more = ap length (bodies_more i d h) in
      omega (arith, length-append (concat (tables (take i bodies))) (get_or bodies i d).now, length-append (concat (tables (take (i + 1) bodies))) (concat (tables (drop (i + 1) bodies))))
