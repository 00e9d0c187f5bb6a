-- The words of each body are the translation's, and so are the bytes.
-- Assumes nothing.
use mathlib.Core.Path.{◌≡◌, refl, sym, ap, ◌∙◌}
use Prim.Native.Nat.{ℕ, ◌*◌, ◌≤◌}
use mathlib.Core.List.{List, [], ◌∷◌, map}
use native.Mathlib.Omega.{arith}
use lib.ListN.{length, take, length-take}
use Rattle.rules_shared.specs.House.{house1401}
use Rattle.rules_object.specs.Kinds.{edition}
use Rattle.rules_object.specs.Bytes.{bytes_of, concat, loop_words, line_words, name_words, object_bytes, body_words}
use Rattle.rules_text.specs.Trees.{Statement}
use Rattle.rules_deck.specs.Deck.{dos_of}
use Rattle.rules_deck.specs.Translation.{held_of, lines_from, names_from, loop_entry, translate}
use Rattle.take_draft.specs.declared.Counts.{Counts}
use Rattle.take_draft.specs.Kept.{Words}
use Rattle.final_addresses.specs.Given.{Judged, Starts, Holds}
use Rattle.final_lines.specs.Names.{Names}
use Rattle.final_code.specs.Settling.{Settling, Leading}
use Rattle.rules_object.proofs.RoundTrip.{ones}
use Rattle.final_contents.specs.Contents.{words_of_bodies}
use Rattle.final_contents.proofs.Words.{object_bytes_lem}
use Rattle.final_object.specs.Finishing.{Finished, with_dos, parts}

seven : {a b c d e f g a' b' c' d' e' f' g' : List ℕ} → a ≡ a' → b ≡ b' → c ≡ c' → d ≡ d' → e ≡ e' → f ≡ f' → g ≡ g'
    → ◌≡◌ {A = List (List ℕ)} (a ∷ b ∷ c ∷ d ∷ e ∷ f ∷ g ∷ []) (a' ∷ b' ∷ c' ∷ d' ∷ e' ∷ f' ∷ g' ∷ [])
seven p q r s t u v = cc

-- a table that holds some words is as long
pub holds_fits : {table ws : List ℕ} {r : ℕ} → Holds table r ws → r ≤ length table
holds_fits {table} {ws} {r} h = let e = ap (length {A = ℕ}) h.words in omega (arith, length-take r table, h.count)

module _ {k : ℕ} {deck : List Statement} {n : Counts} {t : Words} (f : Finished k deck n t) where
  cells_are : n.cells ≡ (translate (house1401 k) deck).cells
  unfolding translate
  cells_are = f.kept.cells_count

  edition_is : (translate (house1401 k) deck).edition ≡ edition
  unfolding translate
  edition_is = refl

  digits_are : bytes_of (words_of_bodies k (translate (house1401 k) deck).cells (body_words (translate (house1401 k) deck))) ≡ bytes_of (words_of_bodies (translate (house1401 k) deck).digits (translate (house1401 k) deck).cells (body_words (translate (house1401 k) deck)))
  unfolding translate
  digits_are = refl

  bodies_are : {exits code lines : List ℕ} {x c l : ℕ} (dos names : List ℕ) → Holds exits x (translate (house1401 k) deck).exits
      → take (4 * n.dos) dos ≡ concat (map loop_words (map (loop_entry deck) (dos_of deck))) → Holds code c (translate (house1401 k) deck).code
      → Holds lines l (concat (map line_words (lines_from deck 0 deck))) → take (5 * n.names) names ≡ concat (map name_words (names_from (house1401 k) 0 (held_of deck)))
      → parts n (with_dos t dos) (take x exits) (take c code) (take l lines) (take (5 * n.names) names) ≡ body_words (translate (house1401 k) deck)
  unfolding translate
  bodies_are dos names hx hd hc hl hn = seven (f.kept.constants_are ∙ sym (ones _)) f.kept.elements_are (hx.words ∙ sym (ones _)) hd (hc.words ∙ sym (ones _)) hl.words hn

  pub bytes_are : {exits code lines : List ℕ} {x c l : ℕ} (dos names : List ℕ) → Holds exits x (translate (house1401 k) deck).exits
      → take (4 * n.dos) dos ≡ concat (map loop_words (map (loop_entry deck) (dos_of deck))) → Holds code c (translate (house1401 k) deck).code
      → Holds lines l (concat (map line_words (lines_from deck 0 deck))) → take (5 * n.names) names ≡ concat (map name_words (names_from (house1401 k) 0 (held_of deck)))
      → bytes_of (words_of_bodies k n.cells (parts n (with_dos t dos) (take x exits) (take c code) (take l lines) (take (5 * n.names) names))) ≡ object_bytes (translate (house1401 k) deck)
  bytes_are dos names hx hd hc hl hn =
      ap (λ (b : List (List ℕ)). bytes_of (words_of_bodies k n.cells b)) (bodies_are dos names hx hd hc hl hn)
      ∙ ap (λ (i : ℕ). bytes_of (words_of_bodies k i (body_words (translate (house1401 k) deck)))) cells_are
      ∙ digits_are
      ∙ sym (object_bytes_lem (translate (house1401 k) deck) edition_is)

  -- ---- what the parts ask for

  pub judged : Judged (house1401 k) deck t.rows n.statements t.loops n.dos t.jumps
  judged =
      record {
        in_rows = record { accepted = f.accepted; counted = f.counted; rows_are = f.kept.rows_are };
        in_loops = record { accepted = f.accepted; dos_counted = f.kept.dos_count; loops_are = f.kept.loops_are };
        jumps_are = ap (λ (i : ℕ). take i t.jumps) (sym f.kept.jumps_count) ∙ f.placed;
      }

  pub settling : {starts : List ℕ} → Starts deck starts → Settling (house1401 k) deck t.rows n.statements t.loops n.dos t.jumps starts t.code
  settling s =
      record { judged = judged; starts_are = s; drafted = ap (λ (i : ℕ). take i t.code) (sym f.kept.code_count) ∙ f.kept.code_is }

  pub leading : {starts : List ℕ} → Starts deck starts → Leading (house1401 k) deck t.rows n.statements t.jumps starts
  leading s = record { in_rows = judged.in_rows; jumps_are = judged.jumps_are; starts_are = s }

  pub listing : Names (house1401 k) deck t.names n.names
  listing = record { accepted = f.accepted; counted = f.kept.names_count; words_are = f.kept.names_are }
