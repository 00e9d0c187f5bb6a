-- The bodies by what the contents say of them: for the first n kinds, from 0 on, three words each after the first sixteen bytes. A body of another kind stands empty at the end.
-- Assumes nothing.
use Rattle.std.specs.Prelude.{◌≡◌, ℕ, zero, suc, ◌+◌, ◌-◌, ◌*◌, ◌/◌, ◌%◌, ◌≤◌, ◌<◌, Bool, true, false, ◌&&◌, cond, List, ltb, leb, eqb, length, get_or, drop, take}
use Rattle.std.proofs.Math.Option.{Option, none, some}
use Rattle.rules_object.specs.Kinds.{kinds_of, contents_length}
use Rattle.rules_object.specs.Bytes.{read_bodies, words_of}
use Rattle.object_bodies.specs.Edition.{most_kinds, sizes}
use Rattle.object_words.specs.Word.{word_at}
use Rattle.object_contents.specs.declared.Layout.{Layout}
use Rattle.object_contents.specs.Layout.{list_from}

abbrev pub kind_in : List ℕ → ℕ → ℕ
kind_in s k = word_at s (16 + 12 * k)

unfoldable pub first_in : List ℕ → ℕ → ℕ → ℕ
first_in s n k = cond (ltb k n) (word_at s (20 + 12 * k)) (length s)

unfoldable pub length_in : List ℕ → ℕ → ℕ → ℕ
length_in s n k = cond (ltb k n) (word_at s (24 + 12 * k)) 0

-- bytes in an entry
abbrev pub size_of : ℕ → ℕ
size_of k = 4 * get_or sizes k 0

-- the book's test of one body, which is to begin at byte `at`
unfoldable pub body_fits : List ℕ → ℕ → ℕ → ℕ → Bool
body_fits s n k at = eqb (kind_in s k) (suc k) && (eqb (first_in s n k) at && (eqb (length_in s n k % size_of k) 0 && leb (length_in s n k) (length s - at)))

-- where the bodies before kind k end
abbrev pub end_in : List ℕ → ℕ → ℕ → ℕ
end_in s n zero = contents_length n
end_in s n (suc k) = end_in s n k + length_in s n k

-- a body's words
abbrev pub body_in : List ℕ → ℕ → ℕ → List ℕ
body_in s n k = take (length_in s n k / 4) (drop (first_in s n k / 4) (words_of s))

-- what the book reads from kind k on, where the bodies before it end at byte `at`
unfoldable pub rest_in : List ℕ → ℕ → ℕ → ℕ → Option (List (List ℕ))
rest_in s n k at = read_bodies (drop k (take n sizes)) (suc k) at (drop (3 * k) (take (3 * n) (drop 4 (words_of s)))) (drop (at / 4) (words_of s))

-- each body begins where those before it end, and the last ends at the end
pub record InOrder (s : List ℕ) (n : ℕ) : Type 0 where
  pub firsts : (k : ℕ) → first_in s n k ≡ end_in s n k
  pub whole : (k : ℕ) → length_in s n k % size_of k ≡ 0
  pub are : rest_in s n 0 (contents_length n) ≡ some (list_from n 0 (body_in s n))

abbrev pub AllFit : List ℕ → ℕ → Bool → Type 0
AllFit s n true = InOrder s n
AllFit s n false = rest_in s n 0 (contents_length n) ≡ none

unfoldable pub layout_in : List ℕ → ℕ → Layout
layout_in s n =
    record {
      edition = word_at s 0;
      digits = word_at s 4;
      cells = word_at s 8;
      constants = first_in s n 0;
      constant_count = length_in s n 0 / size_of 0;
      elements = first_in s n 1;
      element_count = length_in s n 1 / size_of 1;
      exits = first_in s n 2;
      exit_count = length_in s n 2 / size_of 2;
      dos = first_in s n 3;
      do_count = length_in s n 3 / size_of 3;
      code = first_in s n 4;
      code_count = length_in s n 4 / size_of 4;
      lines = first_in s n 5;
      line_count = length_in s n 5 / size_of 5;
      names = first_in s n 6;
      name_count = length_in s n 6 / size_of 6;
      formats = first_in s n 7;
      format_count = length_in s n 7 / size_of 7;
      items = first_in s n 8;
      item_count = length_in s n 8 / size_of 8;
      transfers = first_in s n 9;
      transfer_count = length_in s n 9 / size_of 9;
    }

-- the first four words are there and right, and n is how many kinds the edition has
pub record Begun (s : List ℕ) (n : ℕ) : Type 0 where
  pub long : 16 ≤ length s
  pub four : length s % 4 ≡ 0
  pub some : 0 < n
  pub few : n ≤ most_kinds
  pub kinds : n ≡ length (kinds_of (word_at s 0))
  pub count : word_at s 12 ≡ n
