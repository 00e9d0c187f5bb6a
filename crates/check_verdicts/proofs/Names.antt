-- The map is the bytes of body 7, as they stand in the object.
-- Assumes nothing.
use mathlib.Core.Path.{◌≡◌, sym, ap, ◌∙◌}
use mathlib.Core.List.{List, [], ◌∷◌, ◌++◌, map}
use Prim.Native.Nat.{ℕ, suc, ◌+◌, ◌*◌, ◌/◌, ◌≤◌, ◌<◌}
use native.Mathlib.Omega.{arith}
use lib.ListN.{length, get_or, take, drop, length-drop}
use lib.Seq.{get_or-take, length-take-le}
use borrow.Author.Tests.{le-leb, lt-leb}
use Rattle.rules_object.specs.Bytes.{words_of, bytes_of, concat, name_words, named_of, entries}
use Rattle.rules_object.specs.Writable.{IsByte}
use Rattle.rules_shared.specs.Refusals.{no_room}
use Rattle.rules_shared.specs.Output.{write}
use Rattle.rules_object.specs.Calls.{map_of}
use Rattle.rules_shared.specs.Lists.{Each, each_none, each_more}
use Rattle.rules_shared.proofs.EachLaws.{each_take, each_drop}
use Rattle.rules_object.proofs.Words.{each_word, length_words, bytes_words}
use Rattle.rules_object.proofs.RoundTrip.{flat_entries, name_forth}
use Rattle.object_words.specs.Word.{word_at}
use Rattle.object_words.proofs.Laws.{word_at_lem, word_drop}
use Rattle.object_contents.specs.declared.Layout.{Layout}
use Rattle.object_contents.specs.Layout.{list_from, named_at, object_at, Placed}
use Rattle.object_contents.proofs.Reading.{Agrees, all_entries, named_one}
use Rattle.check_verdicts.specs.Outcomes.{Writes}

each_byte : (s : List ℕ) → ((i : ℕ) → get_or s i 0 < 256) → Each IsByte s
each_byte [] h = each_none
each_byte (a ∷ s) h = each_more (h 0) (each_byte s (λ i. h (suc i)))

-- a word in the first m bytes
word_take : (m : ℕ) (s : List ℕ) (a : ℕ) → a + 4 ≤ m → word_at (take m s) a ≡ word_at s a
unfolding word_at
word_take m s a h =
    rw (get_or-take m s a 0 (omega arith), get_or-take m s (a + 1) 0 (omega arith), get_or-take m s (a + 2) 0 (omega arith), get_or-take m s (a + 3) 0 (omega arith))

module _ (e : Layout) (s : List ℕ) (bytes : (i : ℕ) → get_or s i 0 < 256) (p : Placed e s) where
  abbrev n : ℕ
  n = e.name_count

  abbrev body : List ℕ
  body = take (20 * n) (drop e.names s)

  inside : e.names + 20 * n ≤ length s
  inside = omega (arith, p.formats, p.items, p.transfers, p.whole)

  body_length : length body ≡ 20 * n
  body_length = length-take-le (20 * n) (drop e.names s) (omega (arith, length-drop e.names s, inside))

  words_length : length (words_of body) ≡ 20 * n / 4
  words_length = length_words body ∙ ap (λ (l : ℕ). l / 4) body_length

  agrees : Agrees (words_of body) (20 * n / 4) s e.names
  agrees i l = sym (word_at_lem body i (omega (arith, body_length))) ∙ word_take (20 * n) (drop e.names s) (4 * i) (omega arith) ∙ word_drop e.names s (4 * i)

  names_are : map named_of (entries n 5 (words_of body)) ≡ (object_at e s).names
  unfolding object_at
  names_are =
      let a : length (words_of body) / 5 ≡ n = omega (arith, words_length) in
      let b : 20 * n / 20 ≡ n = omega arith in
      ap (λ (m : ℕ). map named_of (entries m 5 (words_of body))) (sym a)
      ∙ all_entries named_of (named_at s) 5 s (named_one s bytes) (words_of body) (20 * n) e.names words_length agrees (omega arith) inside
      ∙ ap (λ (m : ℕ). list_from m 0 (λ (i : ℕ). named_at s (e.names + 20 * i))) b

  pub map_bytes : map_of (object_at e s) ≡ body
  unfolding map_of
  map_bytes =
      let w : length (words_of body) ≡ n * 5 = words_length ∙ (omega arith) in
      let b : Each IsByte body = each_take (20 * n) (drop e.names s) (each_drop e.names s (each_byte s bytes)) in
      ap (λ l. bytes_of (concat (map name_words l))) (sym names_are)
      ∙ ap bytes_of (flat_entries 5 name_words named_of name_forth n (words_of body) w (each_word body b))
      ∙ bytes_words body b (omega (arith, body_length, words_length))

-- ---- written, or too short

module _ (bytes output : List ℕ) where
  pub too_short : length output < length bytes → Writes bytes output output (record { number = no_room; place = 0; kind = 0; length = 0 })
  unfolding write
  too_short l = record { is = rw (lt-leb (length bytes) (length output) l) }

  pub written : (output' : List ℕ) → length bytes ≤ length output → output' ≡ bytes ++ drop (length bytes) output → Writes bytes output output' (record { number = 0; place = 0; kind = 0; length = length bytes })
  unfolding write
  written output' l w = record { is = rw (le-leb (length bytes) (length output) l, w) }
