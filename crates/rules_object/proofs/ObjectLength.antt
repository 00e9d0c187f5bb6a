-- How long an object's bytes are, and how long they can be by the limits of its kinds.
-- Assumes nothing.
use mathlib.Core.Path.{◌≡◌, refl, ◌∙◌}
use Prim.Native.Nat.{ℕ, ◌+◌, ◌*◌, ◌≤◌}
use native.Mathlib.Nat.{mul-le-mul}
use native.Mathlib.Omega.{arith}
use mathlib.Core.Bool.{Bool, true, false, cond}
use mathlib.Core.List.{List, [], ◌∷◌, ◌++◌, map}
use lib.Dec.{leb, eqb}
use lib.ListN.{length, take, length-append}
use borrow.Author.Tests.{leb-true}
use Rattle.rules_object.specs.Object.{Named, Object}
use Rattle.rules_object.specs.Kinds.{Kind, first_kinds, transfer_kinds, kinds_of, entry_sizes, most_words, contents_length}
use Rattle.rules_object.specs.Bytes.{concat, one_word, element_words, loop_words, line_words, name_words, item_words, transfer_words, bodies, body_words, body_table, object_words, object_bytes}
use Rattle.rules_object.specs.Check.{counts_within}
use Rattle.rules_object.specs.Writable.{WritableNamed}
use Rattle.rules_shared.specs.Lists.{Each}
use Rattle.rules_shared.proofs.EachLaws.{each_of, each_map}
use Rattle.rules_object.proofs.Words.{length_bytes}
use Rattle.rules_object.proofs.Entries.{length_entries, each_entry, name_size_lem}
use Rattle.rules_object.proofs.ReadBodies.{and_left, and_right, Whole, no_more, whole, table_length}

-- an edition has no more kinds than an object has lists
pub body_count : (o : Object) → length (body_words o) ≡ length (kinds_of o.edition)
body_count o = by (eqb o.edition 1) (eqb o.edition 2)
  where
    kinds : Bool → Bool → List Kind
    kinds b c = cond b first_kinds (cond c (first_kinds ++ transfer_kinds) [])

    by : (b c : Bool) → length (map concat (take (length (kinds b c)) (bodies o))) ≡ length (kinds b c)
    by true c = refl
    by false true = refl
    by false false = refl

-- the length of an object's bytes
pub object_length : (o : Object) → length (object_bytes o) ≡ contents_length (length (kinds_of o.edition)) + 4 * length (concat (body_words o))
unfolding object_bytes object_words
object_length o =
    let bs : List (List ℕ) = body_words o in
    let t = table_length 1 (contents_length (length bs)) bs in
    let a = length-append (body_table 1 (contents_length (length bs)) bs) (concat bs) in
    length_bytes (object_words o) ∙ omega (arith, body_count o)

-- of the first bodies, the words of an entry are as many as its kind says
pub data Sized : List Kind → List (List (List ℕ)) → Type 0 where
  no_kind : {bs : List (List (List ℕ))} → Sized [] bs
  sized : {k : Kind} {ks : List Kind} {b : List (List ℕ)} {bs : List (List (List ℕ))} → Each (λ e. length e ≡ k.words) b → Sized ks bs → Sized (k ∷ ks) (b ∷ bs)

pub all_eight : (ns : List Named) → Each WritableNamed ns → Each (λ n. length n.name ≡ 8) ns
all_eight ns h = each_map (λ n k. k.eight) h

pub object_sized : (o : Object) → Each (λ n. length n.name ≡ 8) o.names → (edition : ℕ) → Sized (kinds_of edition) (bodies o)
object_sized o h edition = by (eqb edition 1) (eqb edition 2)
  where
    -- with more kinds after the first
    first : (kinds : List Kind) → Sized kinds (map one_word o.formats ∷ map item_words o.items ∷ map transfer_words o.transfers ∷ []) → Sized (first_kinds ++ kinds) (bodies o)
    first kinds s =
        sized (each_entry 1 one_word o.constants (each_of (λ w. refl) o.constants))
        (sized (each_entry 9 element_words o.elements (each_of (λ e. refl) o.elements))
        (sized (each_entry 1 one_word o.exits (each_of (λ w. refl) o.exits))
        (sized (each_entry 4 loop_words o.dos (each_of (λ d. refl) o.dos))
        (sized (each_entry 1 one_word o.code (each_of (λ w. refl) o.code))
        (sized (each_entry 3 line_words o.lines (each_of (λ l. refl) o.lines))
        (sized (each_entry 5 name_words o.names (each_map name_size_lem h)) s))))))

    by : (b c : Bool) → Sized (cond b first_kinds (cond c (first_kinds ++ transfer_kinds) [])) (bodies o)
    by true c = first [] no_kind
    by false true =
        first transfer_kinds
        (sized (each_entry 1 one_word o.formats (each_of (λ w. refl) o.formats))
        (sized (each_entry 2 item_words o.items (each_of (λ i. refl) o.items))
        (sized (each_entry 3 transfer_words o.transfers (each_of (λ t. refl) o.transfers)) no_kind)))
    by false false = no_kind

pub whole_of : {ks : List Kind} {bs : List (List (List ℕ))} → Sized ks bs → Whole (entry_sizes ks) (map concat (take (length ks) bs))
whole_of no_kind = no_more
whole_of (sized {k = k} {b = b} e h) = whole (length b) (length_entries k.words b e) (whole_of h)

-- within their kinds' limits the bodies have at most so many words
words_most : {ks : List Kind} {bs : List (List (List ℕ))} → Sized ks bs → counts_within ks (map length bs) ≡ true → length (concat (map concat (take (length ks) bs))) ≤ most_words ks
words_most no_kind w = omega arith
words_most (sized {k = k} {ks = ks} {b = b} {bs = bs} e h) w =
    let l : length b ≤ k.most = leb-true (length b) k.most (and_left (leb (length b) k.most) (counts_within ks (map length bs)) w) in
    let s : k.words ≤ k.words = omega arith in
    let m : length b * k.words ≤ k.most * k.words = mul-le-mul l s in
    let r = words_most h (and_right (leb (length b) k.most) (counts_within ks (map length bs)) w) in
    omega (arith, length-append (concat b) (concat (map concat (take (length ks) bs))), length_entries k.words b e)

-- and an object that passes 41 at most so many bytes
pub object_most : (o : Object) → Each (λ n. length n.name ≡ 8) o.names → counts_within (kinds_of o.edition) (map length (bodies o)) ≡ true
    → length (object_bytes o) ≤ contents_length (length (kinds_of o.edition)) + 4 * most_words (kinds_of o.edition)
object_most o h w = omega (arith, object_length o, words_most (object_sized o h o.edition) w)
