-- An object's bytes and its lists determine each other. Assumes nothing.
use mathlib.Core.Path.{◌≡◌, refl, sym, ap, ◌∙◌, subst}
use Prim.Native.Nat.{ℕ, ◌+◌, ◌*◌, ◌/◌, ◌^◌, ◌≤◌, ◌<◌}
use native.Mathlib.Omega.{arith}
use mathlib.Core.List.{List, [], ◌∷◌, ◌++◌, map}
use mathlib.Core.Option.{some}
use lib.Dec.{eqb}
use lib.ListN.{length, take, drop, length-drop, length-map, take-append-drop}
use lib.Seq.{take_at, length-take-le}
use borrow.Author.Tests.{eqb-false, eq-eqb, ne_eqb}
use Rattle.rules_object.specs.Object.{ListItem, Transfer, Object}
use Rattle.rules_object.specs.Kinds.{Kind, first_kinds, transfer_kinds, kinds_of, entry_sizes, contents_length}
use Rattle.rules_object.specs.Bytes.{bytes_of, words_of, concat, one_word, element_words, loop_words, line_words, name_words, item_words, transfer_words, bodies, body_words, word, element_of, loop_of, line_of, named_of, item_of, transfer_of, entries, body_table, object_words, object_bytes, read_bodies, body, object_of, read_words, read_object}
use Rattle.rules_object.specs.Writable.{IsByte, IsWord, WritableElement, WritableLoop, WritableLine, WritableNamed, WritableItem, WritableTransfer, NoTransfers, Edition, one, two, Writable}
use Rattle.rules_shared.specs.Lists.{Each, each_none, each_more}
use Rattle.rules_shared.proofs.EachLaws.{each_one, each_append, each_left, each_right, each_take, each_drop}
use Rattle.rules_object.proofs.Words.{words_bytes, length_bytes, each_byte, bytes_words, each_word}
use Rattle.rules_object.proofs.Entries.{read_flat, each_entries, is_word, element_back, element_forth, loop_forth, line_forth, item_forth, transfer_forth, name_size_lem, name_back, each_flat, element_words_lem, loop_words_lem, line_words_lem, item_words_lem, transfer_words_lem, name_words_lem, element_fine, loop_fine, line_fine, name_fine, item_fine, transfer_fine}
pub use Rattle.rules_object.proofs.Entries.{ones, flat_entries, name_forth}
use Rattle.rules_object.proofs.ReadBodies.{Whole, no_more, whole, read_bodies_lem, whole_length, body_within, table_words}
use Rattle.rules_object.proofs.ObjectLength.{body_count, object_sized, whole_of}
pub use Rattle.rules_object.proofs.ObjectLength.{all_eight, object_length, object_most}
use Rattle.rules_object.proofs.ReadEdition.{no_test, contents_in, rest_of, ReadAs, Known, as_one, as_two, known, found_in, edition_one, edition_two, whole_file}
pub use Rattle.rules_object.proofs.ReadEdition.{read_edition}

-- ---- the words of an object

-- of all lists, those without a body too
lists_words : (o : Object) → Writable o → Each (λ b. Each IsWord (concat b)) (bodies o)
lists_words o h =
    each_more (ones_words h.constants)
    (each_more (each_flat WritableElement element_words element_words_lem o.elements h.elements)
    (each_more (ones_words h.exits)
    (each_more (each_flat WritableLoop loop_words loop_words_lem o.dos h.dos)
    (each_more (ones_words h.code)
    (each_more (each_flat WritableLine line_words line_words_lem o.lines h.lines)
    (each_more (each_flat WritableNamed name_words name_words_lem o.names h.names)
    (each_more (ones_words h.formats)
    (each_more (each_flat WritableItem item_words item_words_lem o.items h.items)
    (each_one (each_flat WritableTransfer transfer_words transfer_words_lem o.transfers h.transfers))))))))))
  where
    ones_words : {ws : List ℕ} → Each IsWord ws → Each IsWord (concat (map one_word ws))
    ones_words {ws} k = subst (Each IsWord) (sym (ones ws)) k

bodies_words : (o : Object) → Writable o → Each IsWord (concat (body_words o))
bodies_words o h = joined (take (length (kinds_of o.edition)) (bodies o)) (each_take (length (kinds_of o.edition)) (bodies o) (lists_words o h))
  where
    joined : (bs : List (List (List ℕ))) → Each (λ b. Each IsWord (concat b)) bs → Each IsWord (concat (map concat bs))
    joined [] k = each_none
    joined (b ∷ bs) (each_more k ks) = each_append k (joined bs ks)

object_words_lem : (o : Object) → Writable o → Each IsWord (object_words o)
unfolding object_words
object_words_lem o h =
    let few = few_kinds h.edition in
    let t = table_words 1 (contents_length (length (body_words o))) (body_words o) (omega (arith, body_count o)) (omega (arith, body_count o, object_length o, h.small)) in
    let count : IsWord (length (body_words o)) = omega (arith, body_count o) in
    each_more few.0 (each_more h.digits (each_more h.cells (each_more count (each_append t (bodies_words o h)))))
  where
    few_kinds : Edition o → IsWord o.edition × (length (kinds_of o.edition) ≤ 10)
    few_kinds (one e n) = subst (λ (e : ℕ). IsWord e × (length (kinds_of e) ≤ 10)) (sym e) (omega arith, omega arith)
    few_kinds (two e) = subst (λ (e : ℕ). IsWord e × (length (kinds_of e) ≤ 10)) (sym e) (omega arith, omega arith)

-- ---- read as the edition that was written

-- the words of the bodies that an edition has, and the whole object's
abbrev bodies_as : ℕ → Object → List (List ℕ)
bodies_as e o = map concat (take (length (kinds_of e)) (bodies o))

abbrev words_as : ℕ → Object → List ℕ
words_as e o = e ∷ o.digits ∷ o.cells ∷ length (bodies_as e o) ∷ (body_table 1 (contents_length (length (bodies_as e o))) (bodies_as e o) ++ concat (bodies_as e o))

-- with another edition and other lists for READ and PRINT
abbrev with_lists : Object → ℕ → List ℕ → List ListItem → List Transfer → Object
with_lists o e formats items transfers =
    record {
      edition = e;
      digits = o.digits;
      cells = o.cells;
      constants = o.constants;
      elements = o.elements;
      exits = o.exits;
      dos = o.dos;
      code = o.code;
      lines = o.lines;
      names = o.names;
      formats = formats;
      items = items;
      transfers = transfers;
    }

module _ (o : Object) (h : Writable o) where
  read_as_lem : (e : ℕ) → read_bodies (entry_sizes (kinds_of e)) 1 (contents_length (length (kinds_of e))) (body_table 1 (contents_length (length (kinds_of e))) (bodies_as e o)) (concat (bodies_as e o)) ≡ some (bodies_as e o)
  read_as_lem e = read_bodies_lem 1 (contents_length (length (kinds_of e))) (whole_of (object_sized o (all_eight o.names h.names) e))

  some_code : length o.code ≡ 0 → ⊥
  some_code e = omega (arith, h.some_code)

  elements_read : map element_of (entries (length (concat (map element_words o.elements)) / 9) 9 (concat (map element_words o.elements))) ≡ o.elements
  elements_read = read_flat WritableElement 9 element_words element_of (omega arith) (λ e k. refl) element_back o.elements h.elements

  dos_read : map loop_of (entries (length (concat (map loop_words o.dos)) / 4) 4 (concat (map loop_words o.dos))) ≡ o.dos
  dos_read = read_flat WritableLoop 4 loop_words loop_of (omega arith) (λ d k. refl) (λ d k. refl) o.dos h.dos

  lines_read : map line_of (entries (length (concat (map line_words o.lines)) / 3) 3 (concat (map line_words o.lines))) ≡ o.lines
  lines_read = read_flat WritableLine 3 line_words line_of (omega arith) (λ l k. refl) (λ l k. refl) o.lines h.lines

  names_read : map named_of (entries (length (concat (map name_words o.names)) / 5) 5 (concat (map name_words o.names))) ≡ o.names
  names_read = read_flat WritableNamed 5 name_words named_of (omega arith) (λ n k. name_size_lem n k.eight) name_back o.names h.names

  items_read : map item_of (entries (length (concat (map item_words o.items)) / 2) 2 (concat (map item_words o.items))) ≡ o.items
  items_read = read_flat WritableItem 2 item_words item_of (omega arith) (λ i k. refl) (λ i k. refl) o.items h.items

  transfers_read : map transfer_of (entries (length (concat (map transfer_words o.transfers)) / 3) 3 (concat (map transfer_words o.transfers))) ≡ o.transfers
  transfers_read = read_flat WritableTransfer 3 transfer_words transfer_of (omega arith) (λ t k. refl) (λ t k. refl) o.transfers h.transfers

  read_one : object_of first_kinds 1 o.digits o.cells (some (bodies_as 1 o)) ≡ some (with_lists o 1 [] [] [])
  read_one = rw (ones o.constants, ones o.exits, ones o.code, ne_eqb (length o.code) 0 some_code, elements_read, dos_read, lines_read, names_read)

  read_two : object_of (first_kinds ++ transfer_kinds) 2 o.digits o.cells (some (bodies_as 2 o)) ≡ some (with_lists o 2 o.formats o.items o.transfers)
  read_two =
      rw (
        ones o.constants,
        ones o.exits,
        ones o.code,
        ones o.formats,
        ne_eqb (length o.code) 0 some_code,
        elements_read,
        dos_read,
        lines_read,
        names_read,
        items_read,
        transfers_read,
      )

  read_words_lem : read_words (object_words o) ≡ some o
  unfolding object_words
  read_words_lem = by h.edition
    where
      no_lists : NoTransfers o → with_lists o o.edition [] [] [] ≡ o
      no_lists n =
          ap (λ l. with_lists o o.edition l [] []) (sym n.formats)
          ∙ ap (λ l. with_lists o o.edition o.formats l []) (sym n.items)
          ∙ ap (λ l. with_lists o o.edition o.formats o.items l) (sym n.transfers)

      by : Edition o → read_words (words_as o.edition o) ≡ some o
      by (one e n) =
          ap (λ (e : ℕ). read_words (words_as e o)) e
          ∙ ap (object_of first_kinds 1 o.digits o.cells) (read_as_lem 1)
          ∙ read_one
          ∙ ap (λ (e : ℕ). some (with_lists o e [] [] [])) (sym e)
          ∙ ap some (no_lists n)
      by (two e) =
          ap (λ (e : ℕ). read_words (words_as e o)) e
          ∙ ap (object_of (first_kinds ++ transfer_kinds) 2 o.digits o.cells) (read_as_lem 2)
          ∙ read_two
          ∙ ap (λ (e : ℕ). some (with_lists o e o.formats o.items o.transfers)) (sym e)

-- Reading the bytes that are written gives the same object.
pub reads_back : (o : Object) → Writable o → read_object (object_bytes o) ≡ some o
unfolding object_bytes read_object
reads_back o h =
    let e : words_of (bytes_of (object_words o)) ≡ object_words o = words_bytes (object_words o) (object_words_lem o h) in
    rw (e, eq-eqb (length (bytes_of (object_words o))) (4 * length (object_words o)) (length_bytes (object_words o))) (read_words_lem o h)

-- ---- and back: what is read is what was written

each_concat : (bs : List (List ℕ)) → Each IsWord (concat bs) → Each (λ b. Each IsWord b) bs
each_concat [] h = each_none
each_concat (b ∷ bs) h = each_more (each_left b (concat bs) h) (each_concat bs (each_right b (concat bs) h))

-- the object of ten bodies
record Made (e k c : ℕ) (bs : List (List ℕ)) (o : Object) : Type 0 where
  edition : o.edition ≡ e
  digits : o.digits ≡ k
  cells : o.cells ≡ c
  are : map concat (bodies o) ≡ bs
  code : 0 < length o.code
  names : Each WritableNamed o.names
  fine : Edition o → IsWord k → IsWord c → length (object_bytes o) < 2 ^ 32 → Writable o

made : (e k c : ℕ) (bs : List (List ℕ)) (o : Object) → Whole (entry_sizes (kinds_of 2)) bs → Each (λ b. Each IsWord b) bs → object_of (kinds_of 2) e k c (some bs) ≡ some o → Made e k c bs o
made e k c bs o (whole {b = b1} n1 e1 (whole {b = b2} n2 e2 (whole {b = b3} n3 e3 (whole {b = b4} n4 e4 (whole {b = b5} n5 e5 (whole {b = b6} n6 e6 (whole {b = b7} n7 e7
    (whole {b = b8} n8 e8 (whole {b = b9} n9 e9 (whole {b = b10} n10 e10 no_more))))))))))
    (each_more h1 (each_more h2 (each_more h3 (each_more h4 (each_more h5 (each_more h6 (each_more h7 (each_more h8 (each_more h9 (each_more h10 each_none)))))))))) q =
    let p = no_test (eqb (length b5) 0) _ o q in
    let some5 : length b5 ≡ 0 → ⊥ = eqb-false (length b5) 0 p.0 in
    let q2 : length b2 ≡ length b2 / 9 * 9 = omega arith in
    let q4 : length b4 ≡ length b4 / 4 * 4 = omega arith in
    let q6 : length b6 ≡ length b6 / 3 * 3 = omega arith in
    let q7 : length b7 ≡ length b7 / 5 * 5 = omega arith in
    let q9 : length b9 ≡ length b9 / 2 * 2 = omega arith in
    let q10 : length b10 ≡ length b10 / 3 * 3 = omega arith in
    let named = each_entries WritableNamed 5 named_of name_fine (length b7 / 5) b7 q7 h7 in
    subst (λ r. Made e k c bs r) p.1
    (record {
      edition = refl;
      digits = refl;
      cells = refl;
      are =
          rw (
            ones b1,
            ones b3,
            ones b5,
            ones b8,
            flat_entries 9 element_words element_of element_forth (length b2 / 9) b2 q2 h2,
            flat_entries 4 loop_words loop_of (λ e l w. loop_forth e l) (length b4 / 4) b4 q4 h4,
            flat_entries 3 line_words line_of (λ e l w. line_forth e l) (length b6 / 3) b6 q6 h6,
            flat_entries 5 name_words named_of name_forth (length b7 / 5) b7 q7 h7,
            flat_entries 2 item_words item_of (λ e l w. item_forth e l) (length b9 / 2) b9 q9 h9,
            flat_entries 3 transfer_words transfer_of (λ e l w. transfer_forth e l) (length b10 / 3) b10 q10 h10,
          );
      code = omega arith;
      names = named;
      fine = λ he hk hc small.
          record {
            edition = he;
            digits = hk;
            cells = hc;
            constants = h1;
            elements = each_entries WritableElement 9 element_of element_fine (length b2 / 9) b2 q2 h2;
            exits = h3;
            dos = each_entries WritableLoop 4 loop_of loop_fine (length b4 / 4) b4 q4 h4;
            code = h5;
            lines = each_entries WritableLine 3 line_of line_fine (length b6 / 3) b6 q6 h6;
            names = named;
            formats = h8;
            items = each_entries WritableItem 2 item_of item_fine (length b9 / 2) b9 q9 h9;
            transfers = each_entries WritableTransfer 3 transfer_of transfer_fine (length b10 / 3) b10 q10 h10;
            some_code = omega arith;
            small = small;
          };
    })

-- seven bodies are ten of which three are empty
abbrev no_bodies : List (List ℕ)
no_bodies = [] ∷ [] ∷ [] ∷ []

whole_ten : {bs : List (List ℕ)} → Whole (entry_sizes first_kinds) bs → Whole (entry_sizes (kinds_of 2)) (bs ++ no_bodies)
whole_ten (whole n1 e1 (whole n2 e2 (whole n3 e3 (whole n4 e4 (whole n5 e5 (whole n6 e6 (whole n7 e7 no_more))))))) =
    whole n1 e1 (whole n2 e2 (whole n3 e3 (whole n4 e4 (whole n5 e5 (whole n6 e6 (whole n7 e7 (whole 0 refl (whole 0 refl (whole 0 refl no_more)))))))))

object_ten : (e k c : ℕ) {bs : List (List ℕ)} → Whole (entry_sizes first_kinds) bs → object_of first_kinds e k c (some bs) ≡ object_of (kinds_of 2) e k c (some (bs ++ no_bodies))
object_ten e k c (whole n1 e1 (whole n2 e2 (whole n3 e3 (whole n4 e4 (whole n5 e5 (whole n6 e6 (whole n7 e7 no_more))))))) = refl

four : (c : List ℕ) → 4 ≤ length c → c ≡ word c 0 ∷ word c 1 ∷ word c 2 ∷ word c 3 ∷ drop 4 c
four [] l = absurd (omega arith)
four (x ∷ []) l = absurd (omega arith)
four (x ∷ y ∷ []) l = absurd (omega arith)
four (x ∷ y ∷ z ∷ []) l = absurd (omega arith)
four (x ∷ y ∷ z ∷ w ∷ c) l = refl

-- ---- the words of what was read

record Back (ws : List ℕ) (o : Object) : Type 0 where
  words : object_words o ≡ ws
  names : Each WritableNamed o.names
  fine : length (object_bytes o) < 2 ^ 32 → Writable o

words_are : (e : ℕ) (ws : List ℕ) (o : Object) (bs : List (List ℕ)) → o.edition ≡ e → o.digits ≡ word ws 1 → o.cells ≡ word ws 2 → bodies_as e o ≡ bs → length bs ≡ length (kinds_of e)
    → contents_in e ws ≡ body_table 1 (contents_length (length (kinds_of e))) bs → concat bs ≡ rest_of e ws → ws ≡ e ∷ word ws 1 ∷ word ws 2 ∷ length (kinds_of e) ∷ drop 4 ws → object_words o ≡ ws
unfolding object_words
words_are e ws o bs de dk dc are n tab flat head =
    ap (λ (e : ℕ). words_as e o) de
    ∙ ap (λ (b : List (List ℕ)). e ∷ o.digits ∷ o.cells ∷ length b ∷ (body_table 1 (contents_length (length b)) b ++ concat b)) are
    ∙ rw (dk, dc, n, ← tab, flat, take-append-drop (3 * length (kinds_of e)) (drop 4 ws)) (sym head)

-- an object by the words of its edition's bodies
record Meant (e k c : ℕ) (bs : List (List ℕ)) (o : Object) : Type 0 where
  edition : o.edition ≡ e
  digits : o.digits ≡ k
  cells : o.cells ≡ c
  are : bodies_as e o ≡ bs
  names : Each WritableNamed o.names
  fine : IsWord k → IsWord c → length (object_bytes o) < 2 ^ 32 → Writable o

meant_one : (k c : ℕ) (bs : List (List ℕ)) (o : Object) → Whole (entry_sizes first_kinds) bs → Each (λ b. Each IsWord b) bs → object_of first_kinds 1 k c (some bs) ≡ some o → Meant 1 k c bs o
meant_one k c bs o w h q =
    let m = made 1 k c (bs ++ no_bodies) o (whole_ten w) (each_append h (each_more each_none (each_more each_none (each_one each_none)))) (sym (object_ten 1 k c w) ∙ q) in
    record {
      edition = m.edition;
      digits = m.digits;
      cells = m.cells;
      are = ap (take 7) m.are ∙ take_at bs no_bodies 7 (whole_length w);
      names = m.names;
      fine = m.fine (edition_one k c o w q);
    }

meant_two : (k c : ℕ) (bs : List (List ℕ)) (o : Object) → Whole (entry_sizes (kinds_of 2)) bs → Each (λ b. Each IsWord b) bs → object_of (kinds_of 2) 2 k c (some bs) ≡ some o → Meant 2 k c bs o
meant_two k c bs o w h q =
    let m = made 2 k c bs o w h q in
    record { edition = m.edition; digits = m.digits; cells = m.cells; are = m.are; names = m.names; fine = m.fine (edition_two k c bs o q) }

back_of : (e : ℕ) (ws : List ℕ) (o : Object) → Each IsWord ws → (r : ReadAs e ws o) → (Each (λ b. Each IsWord b) r.bodies → Meant e (word ws 1) (word ws 2) r.bodies o) → Back ws o
back_of e ws o h r meant =
    let count : ℕ = length (kinds_of e) in
    let bs : List (List ℕ) = r.bodies in
    let f = found_in r in
    let m = meant (each_concat bs (rw f.flat (each_drop (3 * count) (drop 4 ws) (each_drop 4 ws h)))) in
    let some5 : length (body bs 5) ≡ 0 → ⊥ = eqb-false (length (body bs 5)) 0 (no_test (eqb (length (body bs 5)) 0) _ o r.is).0 in
    let l : 4 + 3 * count ≤ length ws = omega (arith, body_within bs 4, ap length f.flat, length-drop (3 * count) (drop 4 ws), length-drop 4 ws) in
    let tl : length (contents_in e ws) ≡ 3 * count = length-take-le (3 * count) (drop 4 ws) (omega (arith, length-drop 4 ws)) in
    let sizes : length (entry_sizes (kinds_of e)) ≡ count = length-map (kinds_of e) (λ (k : Kind). k.words) in
    let tab : contents_in e ws ≡ body_table 1 (contents_length count) bs = f.table (tl ∙ ap (λ n. 3 * n) (sym sizes)) in
    let n : length bs ≡ count = whole_length f.fits ∙ sizes in
    record {
      words = words_are e ws o bs m.edition m.digits m.cells m.are n tab f.flat (rw (r.edition, r.count) at (four ws (omega arith)));
      names = m.names;
      fine = m.fine (is_word ws 1 h) (is_word ws 2 h);
    }

back : (ws : List ℕ) (o : Object) → Each IsWord ws → Known ws o → Back ws o
back ws o h (as_one r) = back_of 1 ws o h r (λ w. meant_one (word ws 1) (word ws 2) r.bodies o (found_in r).fits w r.is)
back ws o h (as_two r) = back_of 2 ws o h r (λ w. meant_two (word ws 1) (word ws 2) r.bodies o (found_in r).fits w r.is)

-- Bytes that read as an object are that object's bytes.
pub writes_back : (s : List ℕ) (o : Object) → Each IsByte s → read_object s ≡ some o → object_bytes o ≡ s
unfolding object_bytes
writes_back s o h e =
    let w = whole_file s o e in
    let b = back (words_of s) o (each_word s h) (known (words_of s) o w.1) in
    ap bytes_of b.words ∙ bytes_words s h w.0

pub read_writable : (s : List ℕ) (o : Object) → Each IsByte s → read_object s ≡ some o → length s < 2 ^ 32 → Writable o
read_writable s o h e l =
    let w = whole_file s o e in
    let b = back (words_of s) o (each_word s h) (known (words_of s) o w.1) in
    b.fine (omega (arith, ap length (writes_back s o h e)))

-- an object's bytes are bytes
pub object_bytes_lem : (o : Object) → Each IsByte (object_bytes o)
unfolding object_bytes
object_bytes_lem o = each_byte (object_words o)
