-- One statement: of no text, of no form, refused by 11 to 18, or kept.
-- Assumes nothing.
use mathlib.Core.Path.{◌≡◌, refl, sym, ap, ◌∙◌, subst}
use Prim.Native.Nat.{ℕ, suc, ◌≤◌}
use mathlib.Core.List.{List, [], ◌∷◌}
use mathlib.Core.Option.{Option, none, some}
use native.Mathlib.Omega.{arith}
use lib.ListN.{length, take, length-take}
use lib.Seq.{length-sets}
use Rattle.std.specs.Prelude.{Some, None, Result, Ok, Err}
use Rattle.std.specs.Prelude.{Option as Maybe}
use Rattle.refusals.specs.declared.Reason.{Reason}
use Rattle.refusals.specs.declared.Reason.TheVariants.{Empty}
use Rattle.refusals.specs.declared.Reason.TheVariants as reason
use Rattle.refusals.specs.Numbers.{number_of}
use Rattle.rules_shared.specs.House.{house1401}
use Rattle.rules_shared.specs.Refusals.{refusal}
use Rattle.rules_shared.specs.Lists.{Each}
use Rattle.rules_shared.proofs.EachLaws.{each_head}
use Rattle.rules_text.specs.Trees.{Form}
use Rattle.rules_text.specs.Trees as trees
use Rattle.rules_text.specs.Cards.{cards_of, text_of}
use Rattle.rules_text.specs.Grammar.{form_of}
use Rattle.rules_deck.specs.Judge.{Taken, takes, judge_form}
use Rattle.rules_deck.specs.Compile.{Read, not_read, read_text, after_reading, after_judging}
use Rattle.rules_text.proofs.CardsLaws.{RightStatement}
use Rattle.read_cards.specs.declared.Number.{Number}
use Rattle.read_texts.specs.Taking.{Accepted, over}
use Rattle.read_texts.proofs.Onward.{Onward}
use Rattle.read_texts.proofs.StatementLaws.{each_from, all_right}
use Rattle.read_forms.specs.declared.Statement.{Statement}
use Rattle.read_forms.specs.Statements.{statement_of, answer, words, form_words, Reads}
use Rattle.take_draft.specs.declared.Counts.{Counts}
use Rattle.take_draft.specs.Draft.{Draft}
use Rattle.take_draft.specs.Kept.{Words, Matches}
use Rattle.take_statement.specs.Taking.{Reading, Comes}
use Rattle.take_planned.specs.Judged.{Took, Judged}
use Rattle.take_parts.specs.Fresh.{Fresh}
use Rattle.take_next.specs.Steps.{punched_as, to_come, Steps, refused, taken}

-- ---- what the reader gave

no_form : {b : List ℕ} {r : Maybe Statement} (o : Option Form) → Reads b o r → r ≡ None → o ≡ none
unfolding answer
no_form none r e = refl
no_form (some f) r e = let z : Some (statement_of f) ≡ None = sym r.says ∙ e in absurd cc

a_form : {b : List ℕ} {r : Maybe Statement} {s : Statement} (o : Option Form) → Reads b o r → r ≡ Some s → (f : Form) × (o ≡ some f)
unfolding answer
a_form {s = s} none r e = let z : Some s ≡ None = sym e ∙ r.says in absurd cc
a_form (some f) r e = (f, refl)

-- with the form that it gave; seen through, so that its form is known
reads_words : (b : List ℕ) (o : Option Form) (f : Form) → o ≡ some f → take (length (words o)) b ≡ words o → take (length (form_words f)) b ≡ form_words f
unfolding words
reads_words b o f e h = subst (λ (o : Option Form). take (length (words o)) b ≡ words o) e h

reads_says : {r : Maybe Statement} {s : Statement} (o : Option Form) (f : Form) → o ≡ some f → r ≡ answer o → r ≡ Some s → s ≡ statement_of f
unfolding answer
reads_says {s = s} o f e h q = let z : Some s ≡ Some (statement_of f) = sym q ∙ h ∙ ap answer e in cc

abbrev reading_of : {r : Maybe Statement} {s : Statement} (b : List ℕ) (text : List ℕ) (f : Form) → form_of text ≡ some f → Reads b (form_of text) r → r ≡ Some s → length text ≤ 660 → Reading s b
reading_of b text f e r q short =
    record {
      text = text;
      form = f;
      read = e;
      short = short;
      says = reads_says (form_of text) f e r.says q;
      table = reads_words b (form_of text) f e r.table;
    }

pub reading : {r : Maybe Statement} {s : Statement} {b : List ℕ} (text : List ℕ) → Reads b (form_of text) r → r ≡ Some s → length text ≤ 660 → Reading s b
reading {b = b} text r e short = let f = a_form (form_of text) r e in reading_of b text f.0 f.1 r e short

-- ---- one more statement

module _ (k : ℕ) {deck : List ℕ} {card : ℕ} {text text' : List ℕ} {number : Number} {len next : ℕ} (o : Onward deck card text text' number len next) where
  -- of no text: 6
  pub next_empty : {t : Taken} {D : Draft} {n : Counts} {lent : Words} → len ≡ 0
      → Steps k deck card t D n lent (Err Empty)
  next_empty {t} {D} {n} e = refused Empty o.taken (to_come deck next) o.others (λ rest. go (text_of o.taken.raw) (sym o.length_is ∙ e) rest)
    where
      go : (l : List ℕ) → length l ≡ 0 → (rest : Taken → Read) → read_text (house1401 k) n.statements o.taken.number t rest l ≡ not_read (refusal 6 (suc n.statements) 0)
      go [] e rest = refl
      go (c ∷ l) e rest = absurd (omega arith)

  -- with some text it goes by its form
  by_form : (q : ℕ) (t : Taken) (rest : Taken → Read) (l : List ℕ) → 1 ≤ length l → (f : Option Form) → form_of l ≡ f
      → read_text (house1401 k) q o.taken.number t rest l ≡ after_reading (house1401 k) q o.taken.number t rest f
  by_form q t rest [] some_text f e = absurd (omega arith)
  by_form q t rest (c ∷ l) some_text f e = ap (after_reading (house1401 k) q o.taken.number t rest) e

  read_by_lem : length text ≡ 660 → 1 ≤ len → (q : ℕ) (t : Taken) (rest : Taken → Read) (f : Option Form) → form_of (take len text') ≡ f
      → read_text (house1401 k) q o.taken.number t rest (text_of o.taken.raw) ≡ after_reading (house1401 k) q o.taken.number t rest f
  read_by_lem full some_text q t rest f e = by_form q t rest (text_of o.taken.raw) (omega (arith, o.length_is)) f (ap form_of (sym (o.stands full)) ∙ e)

  -- of no form: 10
  pub next_unread : {t : Taken} {D : Draft} {n : Counts} {b : List ℕ} {lent : Words} {r : Maybe Statement} → length text ≡ 660 → 1 ≤ len
      → Reads b (form_of (take len text')) r → r ≡ None → Steps k deck card t D n lent (Err reason.Form)
  next_unread {t} {D} {n} full some_text r e =
      refused reason.Form o.taken (to_come deck next) o.others (λ rest. read_by_lem full some_text n.statements t rest none (no_form (form_of (take len text')) r e))

  -- refused by 11 to 18, or kept
  pub next_judged : {D : Draft} {t : Taken} {n : Counts} {lent : Words} (f : Form) (m : Reason) → length text ≡ 660 → 1 ≤ len
      → form_of (take len text') ≡ some f → judge_form (house1401 k) n.statements f t ≡ some (number_of m) → Steps k deck card t D n lent (Err m)
  next_judged {D} {t} {n} f m full some_text e j =
      refused m o.taken (to_come deck next) o.others
      (λ rest. read_by_lem full some_text n.statements t rest (some f) e
      ∙ ap (after_judging n.statements (punched_as o.taken f) (rest (takes n.statements f t))) j)

  pub next_kept : {D : Draft} {t : Taken} {n m : Counts} {lent : Words} (f : Form) → length text ≡ 660 → 1 ≤ len
      → form_of (take len text') ≡ some f → Took k n.statements (punched_as o.taken f) t D lent m
      → Steps k deck card t D n lent (Ok (Some (record { next = next; counts = m })))
  next_kept {D} {t} {n} {m} f full some_text e h =
      taken o.taken (record { next = next; counts = m }) o.others o.further o.within
      (record {
        form = f;
        reads = λ rest. read_by_lem full some_text n.statements t rest (some f) e
            ∙ ap (after_judging n.statements (punched_as o.taken f) (rest (takes n.statements f t))) h.right;
        kept = h.kept;
        fit = h.fit;
        counted = h.counted;
      })

  pub part_short : length (take len text') ≤ 660
  part_short = omega (arith, o.short, length-take len text')

  named : (f : Form) → record { number = number.0; form = f } ≡ punched_as o.taken f
  named f = ap (λ (i : ℕ). record { number = i; form = f }) (sym o.number_is)

  pub comes_refused : {D : Draft} {n : Counts} {b : List ℕ} {lent : Words} {v : Maybe Statement} {s : Statement} (r : Result Counts Reason) (m : Reason) → length text ≡ 660 → 1 ≤ len
      → Reads b (form_of (take len text')) v → v ≡ Some s → Comes s number.0 k b n.statements D lent r → r ≡ Err m
      → (t : Taken) → Matches t D → Fresh n.statements D → Steps k deck card t D n lent (Err m)
  unfolding Judged
  comes_refused {D} {n} {b} {lent} r m full some_text h y comes e t matches fresh =
      let f = a_form (form_of (take len text')) h y in
      next_judged f.0 m full some_text f.1 (subst (Judged k n.statements (record { number = number.0; form = f.0 }) t D lent) e (comes (reading_of b (take len text') f.0 f.1 h y part_short) t matches fresh))

  pub comes_kept : {D : Draft} {n : Counts} {b : List ℕ} {lent : Words} {v : Maybe Statement} {s : Statement} (r : Result Counts Reason) (m : Counts) → length text ≡ 660 → 1 ≤ len
      → Reads b (form_of (take len text')) v → v ≡ Some s → Comes s number.0 k b n.statements D lent r
      → r ≡ Ok m → (t : Taken) → Matches t D → Fresh n.statements D → Steps k deck card t D n lent (Ok (Some (record { next = next; counts = m })))
  unfolding Judged
  comes_kept {D} {n} {b} {lent} r m full some_text h y comes e t matches fresh =
      let f = a_form (form_of (take len text')) h y in
      next_kept f.0 full some_text f.1
      (subst (λ (st : trees.Statement). Took k n.statements st t D lent m) (named f.0)
      (subst (Judged k n.statements (record { number = number.0; form = f.0 }) t D lent) e (comes (reading_of b (take len text') f.0 f.1 h y part_short) t matches fresh)))

  pub small_number : Accepted deck → number.0 ≤ 99999
  small_number a = omega (arith, (each_head (subst (Each (RightStatement (house1401 a.digits))) o.others (each_from card (cards_of deck) (all_right deck a)))).number_small, o.number_is)

  -- the text stays as long as it is
  pub text_long : length text ≡ 660 → length text' ≡ 660
  unfolding over
  text_long full = ap (length {A = ℕ}) o.put ∙ length-sets text 0 (text_of o.taken.raw) ∙ full
