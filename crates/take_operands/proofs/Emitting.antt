-- Items one after the other.
-- Assumes nothing.
use mathlib.Core.Path.{◌≡◌, refl, sym, ap, ◌∙◌, subst}
use Prim.Native.Nat.{ℕ, ◌+◌, ◌-◌, ◌≤◌, ◌<◌}
use native.Mathlib.Omega.{arith}
use mathlib.Core.List.{List, [], ◌∷◌, ◌++◌, append_assoc, append-nil}
use lib.ListN.{length, get_or, take, drop, length-drop}
use Rattle.rules_shared.specs.Limits.{limits}
use Rattle.rules_object.specs.Operations.{Instr}
use Rattle.rules_deck.specs.Translation.{Held, Tables, tables_of}
use Rattle.take_draft.specs.declared.Counts.{Counts}
use Rattle.take_draft.specs.Parts.{Item, items_words, item_code, items_code, Worded}
use Rattle.take_draft.specs.Names.{dims_held, Lists, Known}
use Rattle.take_draft.specs.Kept.{Tabled, Fit}
use Rattle.take_name_table.specs.Find.{item_length}
use Rattle.take_name_table.proofs.Fronts.{front, none_left, Ahead, step_on, lent}
use Rattle.std.specs.Prelude.{Option, Some, None}
use Rattle.take_instructions.specs.Emits.{Beside, Grows, Wrote, Emits}
use Rattle.take_operands.specs.Operands.{EmitsItem, EmitsItems}
use Rattle.take_instructions.proofs.Both.{beside_both, wrote_both, emits_both, full_then, has_room}
use Rattle.take_instructions.proofs.One.{no_counts_lem}
use Rattle.take_operands.proofs.Operands.{known_first, known_rest}

-- what stands in the code, and the items that are left
pub record Rest (held : List Held) (T : Tables) (items c e w : List ℕ) (at : ℕ) (is : List Item) (w₀ : List ℕ) (n m : Counts) : Type 0 where
  pub done : List Instr
  pub left : List Item
  pub are : drop at items ≡ items_words left
  pub known : Known held left
  pub same : items_code held (dims_held held) is ≡ done ++ items_code held (dims_held held) left
  pub wrote : Wrote T done w₀ c e w n m

pub record Emitting (items names c₀ e₀ w₀ : List ℕ) (n : Counts) (c e w : List ℕ) (at : ℕ) (m : Counts) : Type 0 where
  pub within : at ≤ length items
  pub worded : Worded (drop at items)
  pub fit : Fit m
  pub beside : Beside n m
  pub part : (held : List Held) (is : List Item) (T : Tables) → Lists held names n.names n.cells → Tabled T c₀ e₀ n → items ≡ items_words is → Known held is
      → Rest held T items c e w at is w₀ n m

module _ (items names c₀ e₀ w₀ : List ℕ) (n : Counts) where
  pub emit_start : Worded items → Fit n → Emitting items names c₀ e₀ w₀ n c₀ e₀ w₀ 0 n
  emit_start w f =
      let b : Beside n n = record { names = refl; cells = refl; dos = refl; jumps = refl; statements = refl } in
      record {
        within = omega arith;
        worded = w;
        fit = f;
        beside = b;
        part = λ held is T l t q k.
            record {
              done = [];
              left = is;
              are = q;
              known = k;
              same = refl;
              wrote = record { tables = t; words_are = sym (append-nil (take n.code w₀)); code_count = omega arith; beside = b; fit = f };
            };
      }

  module _ {c e w : List ℕ} {at : ℕ} {m : Counts} (p : Emitting items names c₀ e₀ w₀ n c e w at m) where
    lists : {held : List Held} → Lists held names n.names n.cells → Lists held names m.names m.cells
    lists {held} l =
        subst (λ (x : ℕ). Lists held names x m.cells) (sym p.beside.names)
        (subst (λ (x : ℕ). Lists held names n.names x) (sym p.beside.cells) l)

    pub emit_end : length items ≤ at → Grows 0 n (Some m) × EmitsItems items names c₀ e₀ w₀ c e w n (Some m)
    emit_end h =
        let room : m.code + (m.dos + 0) ≤ limits.code = omega (arith, p.fit.code) in (
          record {
            fit = λ k q. let same : m ≡ k = cc in subst (λ (x : Counts). Fit x) same p.fit;
            beside = λ k q. let same : m ≡ k = cc in subst (λ (x : Counts). Beside n x) same p.beside;
            room = λ k q. let same : m ≡ k = cc in subst (λ (x : Counts). x.code + (x.dos + 0) ≤ limits.code) same room;
          },
          λ held is T l t q k.
              let g = p.part held is T l t q k in
              let none = none_left (drop at items) g.left g.are (let d = length-drop at items in omega (arith, d, h)) in
              let code = g.same ∙ ap (λ (x : List Item). g.done ++ items_code held (dims_held held) x) none ∙ append-nil g.done in
              subst (λ (x : List Instr). Emits T x w₀ c e w n (Some m)) (sym code) (has_room g.wrote room),
        )

    -- of the words from here on, as they are lent
    pub emit_full : {c' e' w' : List ℕ} {r : Option Counts} → at < length items → EmitsItem (take (length items - at) (drop at items)) names c e w c' e' w' m None → r ≡ None
        → Grows 0 n r × EmitsItems items names c₀ e₀ w₀ c' e' w' n r
    emit_full {c'} {e'} {w'} {r} h f z = subst (λ (x : Option Counts). Grows 0 n x × EmitsItems items names c₀ e₀ w₀ c' e' w' n x) (sym z) (
      no_counts_lem 0 n,
      λ held is T l t q k.
          let g = p.part held is T l t q k in
          let d = length-drop at items in
          let fr = front (drop at items) g.left g.are (omega (arith, d, h)) in
          let known = subst (λ (x : List Item). Known held x) fr.both g.known in
          let i = item_code held (dims_held held) fr.first in
          let more = items_code held (dims_held held) fr.rest in
          let one = f held fr.first (items_words fr.rest) (tables_of T g.done) (lists l) g.wrote.tables (lent items at ∙ fr.are) (known_first known) in
          let both = emits_both T g.done (i ∷ []) g.wrote one in
          let full = full_then T (g.done ++ (i ∷ [])) more both refl in
          let code = g.same ∙ ap (λ (x : List Item). g.done ++ items_code held (dims_held held) x) fr.both ∙ sym (append_assoc g.done (i ∷ []) more) in
          subst (λ (x : List Instr). Emits T x w₀ c' e' w' n None) (sym code) full,
    )

    pub emit_on : {c' e' w' : List ℕ} {k : ℕ} {m' : Counts} → at < length items
        → Grows 0 m (Some m') × EmitsItem (take (length items - at) (drop at items)) names c e w c' e' w' m (Some m') → k ≡ item_length (get_or items at 0) → Ahead items at
        → Emitting items names c₀ e₀ w₀ n c' e' w' (at + k) m'
    emit_on {c'} {e'} {w'} {k} {m'} h f ek ah =
        subst (λ (j : ℕ). Emitting items names c₀ e₀ w₀ n c' e' w' (at + j) m') (sym ek)
        (record {
          within = ah.within;
          worded = ah.worded;
          fit = f.0.fit m' refl;
          beside = beside_both p.beside (f.0.beside m' refl);
          part = λ held is T l t q kn.
              let g = p.part held is T l t q kn in
              let d = length-drop at items in
              let fr = front (drop at items) g.left g.are (omega (arith, d, h)) in
              let known = subst (λ (x : List Item). Known held x) fr.both g.known in
              let i = item_code held (dims_held held) fr.first in
              let more = items_code held (dims_held held) fr.rest in
              let one = f.1 held fr.first (items_words fr.rest) (tables_of T g.done) (lists l) g.wrote.tables (lent items at ∙ fr.are) (known_first known) in
              record {
                done = g.done ++ (i ∷ []);
                left = fr.rest;
                are = step_on items at g.left h fr;
                known = known_rest known;
                same = g.same ∙ ap (λ (x : List Item). g.done ++ items_code held (dims_held held) x) fr.both ∙ sym (append_assoc g.done (i ∷ []) more);
                wrote = wrote_both T g.done (i ∷ []) g.wrote (one.wrote m' refl);
              };
        })
