-- The table of names as the entries of body 7, one entry more.
-- Assumes nothing.
use mathlib.Core.Path.{◌≡◌, refl, sym, ap, ◌∙◌, subst}
use Prim.Native.Nat.{ℕ, zero, suc, ◌+◌, ◌*◌, ◌/◌, ◌%◌, ◌≤◌, ◌<◌, ◌^◌}
use native.Mathlib.Omega.{arith}
use native.Mathlib.Numerals.{add-one}
use mathlib.Core.List.{List, [], ◌∷◌, ◌++◌, map, append-nil}
use mathlib.Core.Option.{some}
use lib.ListN.{length, take, get_or, get_elem?}
use lib.Seq.{take-length}
use Rattle.rules_shared.specs.House.{House}
use Rattle.rules_object.specs.Object.{Named}
use Rattle.rules_object.specs.Bytes.{concat, words_of, name_words}
use Rattle.rules_object.specs.Writable.{IsByte, WritableNamed}
use Rattle.rules_shared.specs.Lists.{Each, each_none, each_more}
use Rattle.rules_text.specs.Trees.{Name, Statement}
use Rattle.rules_deck.specs.Translation.{Held, name, array, hidden, array_size, held_of, filled, names_from, translate}
use Rattle.rules_deck.specs.Judge.{name_count}
use Rattle.rules_deck.proofs.TestLaws.{clash, at_before}
use Rattle.rules_deck.proofs.Addresses.{at_some}
use Rattle.rules_deck.proofs.Emitted.{each_at}
use Rattle.rules_deck.proofs.FittingDeck.{names_count}
use Rattle.rules_deck.proofs.CompiledWritable.{compiled_writable}
use Rattle.read_tokens.specs.Words.{bytes_from, name_word, name_of}
use Rattle.take_draft.specs.Names.{entry_words, held_words}
use Rattle.read_items.specs.Parsed.{Put}
use Rattle.final_addresses.proofs.Told.{begins_long, begins_at}
use Rattle.final_addresses.proofs.Lasts.{take_more}
use Rattle.final_addresses.proofs.Holding.{concat_append, map_append}
use Rattle.final_lines.specs.Names.{Names}
use Rattle.final_entries.specs.Turned.{turned}

-- ---- the table's words, by the entries of body 7

-- what the table's entry i says of a name
record EntryAt (words : List ℕ) (i : ℕ) (e : Named) : Type 0 where
  pub word : get_or words (7 * i) 0 ≡ bytes_from 0 e.name
  pub first : get_or words (7 * i + 4) 0 ≡ e.first
  pub rows : get_or words (7 * i + 5) 0 ≡ e.rows
  pub columns : get_or words (7 * i + 6) 0 ≡ e.columns

-- one entry more before it
entry_past : (v : Name) (a b c : ℕ) {ws : List ℕ} {i : ℕ} {e : Named} → EntryAt ws i e → EntryAt (entry_words v a b c ++ ws) (suc i) e
entry_past v a b c {ws} {i} {e} r =
    record { word = past (7 * suc i) (7 * i) (omega arith) ∙ r.word; first = past (7 * suc i + 4) (7 * i + 4) (omega arith) ∙ r.first; rows = past (7 * suc i + 5) (7 * i + 5) (omega arith) ∙ r.rows; columns = past (7 * suc i + 6) (7 * i + 6) (omega arith) ∙ r.columns }
  where
    past : (m n : ℕ) → m ≡ suc (suc (suc (suc (suc (suc (suc n)))))) → get_or (entry_words v a b c ++ ws) m 0 ≡ get_or ws n 0
    past m n e = ap (λ (j : ℕ). get_or (entry_words v a b c ++ ws) j 0) e

entry_here : (house : House) → house.name_bytes ≡ 8 → (v : Name) (a b c : ℕ) (ws : List ℕ) → EntryAt (entry_words v a b c ++ ws) 0 (record { name = filled house.name_bytes v; first = a; rows = b; columns = c })
unfolding name_of name_word
entry_here house eight v a b c ws = record { word = ap (λ (n : ℕ). bytes_from 0 (filled n v)) (sym eight); first = refl; rows = refl; columns = refl }

entry_at : (house : House) → house.name_bytes ≡ 8 → (at : ℕ) (held : List Held) (i : ℕ) (e : Named) → get_elem? (names_from house at held) i ≡ some e → EntryAt (held_words at held) i e
entry_at house eight at [] i e h = absurd (clash (sym h))
entry_at house eight at (name v ∷ held) zero e h = let same : record { name = filled house.name_bytes v; first = at; rows = 0; columns = 0 } ≡ e = cc in subst (EntryAt _ 0) same (entry_here house eight v at 0 0 _)
entry_at house eight at (name v ∷ held) (suc i) e h = entry_past v at 0 0 (entry_at house eight (suc at) held i e h)
entry_at house eight at (array a ∷ held) zero e h =
    let same : record { name = filled house.name_bytes a.name; first = at; rows = a.dims.rows; columns = a.dims.columns } ≡ e = cc in
    subst (EntryAt _ 0) same (entry_here house eight a.name at a.dims.rows a.dims.columns _)
entry_at house eight at (array a ∷ held) (suc i) e h = entry_past a.name at a.dims.rows a.dims.columns (entry_at house eight (at + array_size a.dims) held i e h)
entry_at house eight at (hidden q ∷ held) i e h = entry_at house eight (at + 2) held i e h

held_length : (at : ℕ) (held : List Held) → length (held_words at held) ≡ 7 * name_count held
held_length at [] = refl
held_length at (name v ∷ held) = omega (arith, held_length (suc at) held)
held_length at (array a ∷ held) = omega (arith, held_length (at + array_size a.dims) held)
held_length at (hidden q ∷ held) = held_length (at + 2) held

-- ---- a name's eight bytes

low_bytes : (h a b c d : ℕ) → a < 256 → b < 256 → c < 256 → d < 256
    → turned ((((h * 256 + a) * 256 + b) * 256 + c) * 256 + d) ≡ a + b * 256 + c * 65536 + d * 16777216
low_bytes h a b c d la lb lc ld =
    let w : ℕ = (((h * 256 + a) * 256 + b) * 256 + c) * 256 + d in
    let p : w / 16777216 % 256 ≡ a = omega arith in
    let q : w / 65536 % 256 ≡ b = omega arith in
    let r : w / 256 % 256 ≡ c = omega arith in
    let s : w % 256 ≡ d = omega arith in
    rw (p, q, r, s)

high_bytes : (h a b c d : ℕ) → a < 256 → b < 256 → c < 256 → d < 256 → ((((h * 256 + a) * 256 + b) * 256 + c) * 256 + d) / 4294967296 ≡ h
high_bytes h a b c d la lb lc ld = omega arith

-- the two halves of a name's word
two_words_lem : (s : List ℕ) → length s ≡ 8 → Each IsByte s → turned (bytes_from 0 s / 4294967296) ∷ turned (bytes_from 0 s) ∷ [] ≡ words_of s
unfolding bytes_from
two_words_lem [] l p = absurd (omega arith)
two_words_lem (a ∷ []) l p = absurd (omega arith)
two_words_lem (a ∷ b ∷ []) l p = absurd (omega arith)
two_words_lem (a ∷ b ∷ c ∷ []) l p = absurd (omega arith)
two_words_lem (a ∷ b ∷ c ∷ d ∷ []) l p = absurd (omega arith)
two_words_lem (a ∷ b ∷ c ∷ d ∷ e ∷ []) l p = absurd (omega arith)
two_words_lem (a ∷ b ∷ c ∷ d ∷ e ∷ f ∷ []) l p = absurd (omega arith)
two_words_lem (a ∷ b ∷ c ∷ d ∷ e ∷ f ∷ g ∷ []) l p = absurd (omega arith)
two_words_lem (a ∷ b ∷ c ∷ d ∷ e ∷ f ∷ g ∷ h ∷ []) l
    (each_more pa (each_more pb (each_more pc (each_more pd (each_more pe (each_more pf (each_more pg (each_more ph each_none)))))))) =
    let top : ℕ = ((((0 * 256 + a) * 256 + b) * 256 + c) * 256 + d) in
    ap (λ (w : ℕ). turned w ∷ turned (bytes_from 0 (a ∷ b ∷ c ∷ d ∷ e ∷ f ∷ g ∷ h ∷ [])) ∷ []) (high_bytes top e f g h pe pf pg ph)
    ∙ ap (λ (w : ℕ). w ∷ turned (bytes_from 0 (a ∷ b ∷ c ∷ d ∷ e ∷ f ∷ g ∷ h ∷ [])) ∷ []) (low_bytes 0 a b c d pa pb pc pd)
    ∙ ap (λ (w : ℕ). (a + b * 256 + c * 65536 + d * 16777216) ∷ w ∷ []) (low_bytes top e f g h pe pf pg ph)
two_words_lem (a ∷ b ∷ c ∷ d ∷ e ∷ f ∷ g ∷ h ∷ i ∷ s) l p = absurd (omega arith)

-- ---- the deck's names

module _ {house : House} {deck : List Statement} {table : List ℕ} {n : ℕ} (told : Names house deck table n) where
  pub entries_counted : n ≡ length (names_from house 0 (held_of deck))
  entries_counted = told.counted ∙ sym (names_count house 0 (held_of deck))

  long : length (held_words 0 (held_of deck)) ≡ 7 * n
  long = held_length 0 (held_of deck) ∙ ap (λ (m : ℕ). 7 * m) (sym told.counted)

  pub table_long : 7 * n ≤ length table
  table_long = begins_long table (held_words 0 (held_of deck)) (7 * n) told.words_are (omega (arith, long))

  writable : (i : ℕ) (e : Named) → get_elem? (names_from house 0 (held_of deck)) i ≡ some e → WritableNamed e
  unfolding translate
  writable i e h = each_at WritableNamed (names_from house 0 (held_of deck)) i e h (compiled_writable told.accepted).names

  at_word : (j : ℕ) → j < 7 * n → get_or table j 0 ≡ get_or (held_words 0 (held_of deck)) j 0
  at_word j l = begins_at table (held_words 0 (held_of deck)) (7 * n) told.words_are j l

  at_entry : (i : ℕ) (e : Named) → get_elem? (names_from house 0 (held_of deck)) i ≡ some e → EntryAt table i e
  at_entry i e h =
      let b = at_before (names_from house 0 (held_of deck)) i h in
      let r = entry_at house told.accepted.lawful.entries 0 (held_of deck) i e h in
      record {
        word = at_word (7 * i) (omega (arith, entries_counted, b)) ∙ r.word;
        first = at_word (7 * i + 4) (omega (arith, entries_counted, b)) ∙ r.first;
        rows = at_word (7 * i + 5) (omega (arith, entries_counted, b)) ∙ r.rows;
        columns = at_word (7 * i + 6) (omega (arith, entries_counted, b)) ∙ r.columns;
      }

  pub small_words : (i : ℕ) → i < n → (get_or table (7 * i + 4) 0 < 2 ^ 32) × (get_or table (7 * i + 5) 0 < 2 ^ 32) × (get_or table (7 * i + 6) 0 < 2 ^ 32)
  small_words i h =
      let e = at_some (names_from house 0 (held_of deck)) i (omega (arith, entries_counted)) in
      let w = writable i e.0 e.1 in
      (omega (arith, (at_entry i e.0 e.1).first, w.first), omega (arith, (at_entry i e.0 e.1).rows, w.rows), omega (arith, (at_entry i e.0 e.1).columns, w.columns))

  pub names_more : {a b : List ℕ} {r first rows columns : ℕ} (i : ℕ) → i < n → first ≡ get_or table (7 * i + 4) 0 → rows ≡ get_or table (7 * i + 5) 0 → columns ≡ get_or table (7 * i + 6) 0
      → Put a b (5 * i) (turned (get_or table (7 * i) 0 / 4294967296) ∷ turned (get_or table (7 * i) 0) ∷ first ∷ rows ∷ columns ∷ []) r
      → take (5 * i) a ≡ concat (map name_words (take i (names_from house 0 (held_of deck))))
      → take (5 * (i + 1)) b ≡ concat (map name_words (take (i + 1) (names_from house 0 (held_of deck))))
  names_more {a} {b} {r} {first} {rows} {columns} i h f g c p held =
      let es = names_from house 0 (held_of deck) in
      let e = at_some es i (omega (arith, entries_counted)) in
      let w = writable i e.0 e.1 in
      let word = (at_entry i e.0 e.1).word in
      let two = ap (λ (v : ℕ). turned (v / 4294967296) ∷ turned v ∷ []) word ∙ two_words_lem e.0.name w.eight w.bytes in
      let three = words_three (f ∙ (at_entry i e.0 e.1).first) (g ∙ (at_entry i e.0 e.1).rows) (c ∙ (at_entry i e.0 e.1).columns) in
      let five : 5 * (i + 1) ≡ r = omega (arith, p.top) in
      ap (λ (m : ℕ). take m b) five ∙ p.table ∙ ap (λ (l : List ℕ). l ++ (turned (get_or table (7 * i) 0 / 4294967296) ∷ turned (get_or table (7 * i) 0) ∷ first ∷ rows ∷ columns ∷ [])) held
      ∙ ap (λ (l : List ℕ). concat (map name_words (take i es)) ++ l) (ap (λ (l : List ℕ). l ++ (first ∷ rows ∷ columns ∷ [])) two ∙ ap (λ (l : List ℕ). words_of e.0.name ++ l) three)
      ∙ sym (entry_more es i e.0 e.1)
    where
      words_three : {x y z u v t : ℕ} → x ≡ u → y ≡ v → z ≡ t → x ∷ y ∷ z ∷ [] ≡ u ∷ v ∷ t ∷ []
      words_three p q r = rw (p, q, r)

      entry_more : (es : List Named) (i : ℕ) (e : Named) → get_elem? es i ≡ some e → concat (map name_words (take (i + 1) es)) ≡ concat (map name_words (take i es)) ++ name_words e
      entry_more es i e h =
          ap (λ (m : ℕ). concat (map name_words (take m es))) (add-one i)
          ∙ ap (λ (l : List Named). concat (map name_words l)) (take_more es i e h)
          ∙ ap concat (map_append name_words (take i es) (e ∷ []))
          ∙ concat_append (map name_words (take i es)) (name_words e ∷ [])
          ∙ ap (λ (l : List ℕ). concat (map name_words (take i es)) ++ l) (append-nil (name_words e))

  pub names_all : (b : List ℕ) (i : ℕ) → i ≡ n → take (5 * i) b ≡ concat (map name_words (take i (names_from house 0 (held_of deck)))) → take (5 * n) b ≡ concat (map name_words (names_from house 0 (held_of deck)))
  names_all b i e h =
      ap (λ (m : ℕ). take (5 * m) b) (sym e) ∙ h
      ∙ ap (λ (m : ℕ). concat (map name_words (take m (names_from house 0 (held_of deck))))) (e ∙ entries_counted)
      ∙ ap (λ (l : List Named). concat (map name_words l)) (take-length (names_from house 0 (held_of deck)))
