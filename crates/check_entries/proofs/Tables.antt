-- The counts of all kinds within their limits, one kind after the other.
-- Assumes nothing.
use mathlib.Core.Path.{◌≡◌, refl, sym, ap, ◌∙◌}
use Prim.Native.Nat.{ℕ, zero, suc, ◌+◌, ◌≤◌, ◌<◌}
use native.Mathlib.Numerals.{add-one}
use native.Mathlib.Omega.{arith}
use mathlib.Core.Bool.{true, false, ◌&&◌}
use mathlib.Core.List.{List, [], ◌∷◌, map}
use lib.Dec.{leb}
use lib.ListN.{length, get_or, take, drop, length-map, drop_of_length-le}
use lib.Seq.{length-take-le}
use borrow.Author.Tests.{le-leb, lt-leb}
use Rattle.rules_shared.specs.Limits.{limits}
use Rattle.rules_object.specs.Kinds.{Kind, kinds_of}
use Rattle.rules_object.specs.Check.{counts_within, right41}
use Rattle.rules_object.specs.Object.{Object}
use Rattle.rules_object.specs.Bytes.{one_word, element_words, loop_words, line_words, name_words, item_words, transfer_words, bodies}
use Rattle.object_bodies.specs.Edition.{every_kind, most_kinds, mosts}
use Rattle.object_bodies.proofs.Editions.{first_kinds_lem}
use Rattle.object_contents.specs.declared.Layout.{Layout}
use Rattle.object_contents.specs.Layout.{object_at}
use Rattle.object_contents.proofs.Entries.{constant_length, element_length, exit_length, do_length, code_length, line_length, name_length, format_length, item_length_lem, transfer_length}

one_kind : (ks : List Kind) (ns : List ℕ) (n k : ℕ) → k < n → k < length ks → k < length ns
    → counts_within (drop k (take n ks)) (drop k ns) ≡ (leb (get_or ns k 0) (get_or (map (λ (x : Kind). x.most) ks) k 0) && counts_within (drop (suc k) (take n ks)) (drop (suc k) ns))
one_kind ks ns zero k m h l = absurd (omega arith)
one_kind [] ns (suc n) k m h l = absurd (omega arith)
one_kind (x ∷ ks) [] (suc n) k m h l = absurd (omega arith)
one_kind (x ∷ ks) (y ∷ ns) (suc n) zero m h l = refl
one_kind (x ∷ ks) (y ∷ ns) (suc n) (suc k) m h l = one_kind ks ns n k (omega arith) (omega arith) (omega arith)

-- what the first k of n kinds say is settled
pub record Going (n : ℕ) (ns : List ℕ) (k : ℕ) : Type 0 where
  pub few : k ≤ n
  pub left : counts_within (take n every_kind) ns ≡ counts_within (drop k (take n every_kind)) (drop k ns)

pub begins : (n : ℕ) (ns : List ℕ) → Going n ns 0
begins n ns = record { few = omega arith; left = refl }

module _ (n : ℕ) (ns : List ℕ) (all : n ≤ most_kinds) (l : length ns ≡ most_kinds) (k most : ℕ) (h : k < n) (g : Going n ns k) (is : most ≡ get_or mosts k 0) where
  pub goes : get_or ns k 0 ≤ most → Going n ns (k + 1)
  goes low =
      rw (add-one k)
      (record { few = omega arith; left = g.left ∙ one_kind every_kind ns n k h (omega arith) (omega arith) ∙ rw (le-leb (get_or ns k 0) (get_or mosts k 0) (omega arith)) refl })

  pub stops : most < get_or ns k 0 → false ≡ counts_within (take n every_kind) ns
  stops high =
      sym (g.left ∙ one_kind every_kind ns n k h (omega arith) (omega arith) ∙ rw (lt-leb (get_or ns k 0) (get_or mosts k 0) (omega arith)) refl)

pub ends : (n : ℕ) (ns : List ℕ) (k : ℕ) → n ≤ most_kinds → Going n ns k → n ≤ k → true ≡ counts_within (take n every_kind) ns
ends n ns k all g h =
    let none : drop k (take n every_kind) ≡ [] = drop_of_length-le (take n every_kind) {i = k} (omega (arith, length-take-le n every_kind all)) in
    sym (g.left ∙ ap (λ (ks : List Kind). counts_within ks (drop k ns)) none)

abbrev counts_of : Layout → List ℕ
counts_of e =
    e.constant_count ∷ e.element_count ∷ e.exit_count ∷ e.do_count ∷ e.code_count ∷ e.line_count ∷ e.name_count ∷ e.format_count ∷ e.item_count ∷ e.transfer_count ∷ []

-- the counts of the layout are those of the object's bodies
counts_are : (e : Layout) (s : List ℕ) → map length (bodies (object_at e s)) ≡ counts_of e
counts_are e s =
    let o : Object = object_at e s in
    rw (
      length-map o.constants one_word ∙ constant_length e s,
      length-map o.elements element_words ∙ element_length e s,
      length-map o.exits one_word ∙ exit_length e s,
      length-map o.dos loop_words ∙ do_length e s,
      length-map o.code one_word ∙ code_length e s,
      length-map o.lines line_words ∙ line_length e s,
      length-map o.names name_words ∙ name_length e s,
      length-map o.formats one_word ∙ format_length e s,
      length-map o.items item_words ∙ item_length_lem e s,
      length-map o.transfers transfer_words ∙ transfer_length e s,
    )

pub limits_are : (e : Layout) (s : List ℕ) (n : ℕ) → n ≡ length (kinds_of e.edition)
    → right41 (object_at e s) ≡ (leb 1 e.digits && (leb e.digits limits.digits && (leb e.cells limits.cells && counts_within (take n every_kind) (counts_of e))))
unfolding right41 object_at
limits_are e s n q =
    let kinds : take n every_kind ≡ kinds_of e.edition = ap (λ (m : ℕ). take m every_kind) q ∙ sym (first_kinds_lem e.edition) in
    rw (kinds, counts_are e s)
