-- The parts of a statement: assignments, jumps and DOs, each from the runs of its expressions.
-- Assumes nothing.
use mathlib.Core.Path.{◌≡◌, refl, sym, ap, ◌∙◌, subst}
use mathlib.Core.Logic.{inl}
use Prim.Native.Nat.{ℕ, zero, suc, ◌+◌, ◌≤◌, ◌<◌}
use native.Mathlib.Omega.{arith}
use mathlib.Core.Bool.{Bool, true, false, ◌&&◌, false≢true}
use mathlib.Core.List.{List, [], ◌∷◌, map}
use mathlib.Core.Option
use mathlib.Core.Option.{Option, none, some}
use lib.ListN.{length, get_elem?}
use lib.IntN.{ℤ, pos, negsuc}
use Rattle.rules_shared.specs.House.{House}
use Rattle.number.specs.Number.{Loss}
use Rattle.number.specs.Number as numbers
use Rattle.rules_shared.specs.Runs.{go}
use Rattle.rules_shared.specs.Choose.{sign3, exit, positive, all_positive}
use Rattle.rules_formats.specs.Walk.{Devices}
use Rattle.rules_object.specs.Operations.{STO, STE, BR3, BRC, DOI, DOE}
use Rattle.rules_object.specs.Machine.{place_of, element_stored, branched}
use Rattle.rules_object.proofs.States.{state}
use Rattle.rules_object.specs.Machine
use Rattle.rules_text.specs.Trees.{Name, Digits, value_of, Subscripts, subscripts_names, cell, element, Form, Statement, form_exits}
use Rattle.rules_deck.specs.Deck.{position_of, Do, do_of, dos_of, endings, dims_of}
use Rattle.rules_deck.specs.Meaning.{plain, element_at, Values, Evaluated, val, place_in, Bounds, stored, assigned, tested, chosen, begun, read}
use Rattle.rules_deck.specs.Cost.{and_one, stored_steps, assigned_steps, begun_steps, read_steps}
use Rattle.rules_deck.specs.Translation.{cell_of, held_of, form_plain, element_entry, address_at, address_of, loop_entry, do_instr, code_of}
use Rattle.rules_deck.specs.Whole.{is_end, ends_well}
use Rattle.rules_deck.specs.Accepted.{Among, here, there}
use Rattle.rules_deck.specs.Cells.{key, Has, Holds, SameMark}
use Rattle.rules_deck.specs.Sound.{Sound}
use Rattle.rules_text.proofs.CardsLaws.{and_both}
use Rattle.rules_deck.proofs.CellLaws.{holds_put, holds_hidden, holds_step}
use Rattle.rules_deck.proofs.DeckCells.{plain_has, hidden_has, variable_has, element_has}
use Rattle.rules_deck.proofs.Addresses.{At}
use Rattle.rules_deck.proofs.Marks.{Marked, widen, marked_then, same_mark}
use Rattle.rules_deck.proofs.DoLaws.{among_endings}
use Rattle.rules_deck.proofs.Ranges.{not_do}
use Rattle.rules_deck.proofs.MachineRuns.{Runs, stay, and_then, on, out}
use Rattle.rules_deck.proofs.ExprSim.{Known, Gives, gives, stops, place_value}
use Rattle.rules_deck.proofs.Standings.{standing, Inside, Stands, inside_put, inside_next, inside_now, inside_entered}
use Rattle.rules_deck.proofs.EndSim.{Sim, goes, halts, first, Ending, Ready, ends_sim}

-- ---- both sides choose alike

sign3_map : {A B : Type 0} (f : A → B) (v : ℤ) (a b c : A) → sign3 v (f a) (f b) (f c) ≡ f (sign3 v a b c)
sign3_map f (negsuc n) a b c = refl
sign3_map f (pos zero) a b c = refl
sign3_map f (pos (suc n)) a b c = refl

sign3_among : {A : Type 0} (v : ℤ) (a b c : A) → Among (sign3 v a b c) (a ∷ b ∷ c ∷ [])
sign3_among (negsuc n) a b c = here
sign3_among (pos zero) a b c = there here
sign3_among (pos (suc n)) a b c = there (there here)

get_elem?_map : {A B : Type 0} (f : A → B) (l : List A) (n : ℕ) → get_elem? (map f l) n ≡ Option.map f (get_elem? l n)
get_elem?_map f [] n = refl
get_elem?_map f (x ∷ l) zero = refl
get_elem?_map f (x ∷ l) (suc n) = get_elem?_map f l n

exit_map : {A B : Type 0} (f : A → B) (l : List A) (v : ℤ) → exit (map f l) v ≡ Option.map f (exit l v)
exit_map f l (pos zero) = refl
exit_map f l (pos (suc n)) = get_elem?_map f l n
exit_map f l (negsuc n) = refl

get_elem?_among : {A : Type 0} (l : List A) (n : ℕ) (x : A) → get_elem? l n ≡ some x → Among x l
get_elem?_among [] n x e = let z : ◌≡◌ {A = ℕ} 0 1 = cc in absurd (omega arith)
get_elem?_among (y ∷ l) zero x e = let z : y ≡ x = cc in subst (λ w. Among w (y ∷ l)) z here
get_elem?_among (y ∷ l) (suc n) x e = there (get_elem?_among l n x e)

exit_among : {A : Type 0} (l : List A) (v : ℤ) (x : A) → exit l v ≡ some x → Among x l
exit_among l (pos zero) x e = let z : ◌≡◌ {A = ℕ} 0 1 = cc in absurd (omega arith)
exit_among l (pos (suc n)) x e = get_elem?_among l n x e
exit_among l (negsuc n) x e = let z : ◌≡◌ {A = ℕ} 0 1 = cc in absurd (omega arith)

-- ---- a statement that is not the END has one after it

pub not_last : (deck : List Statement) (j : ℕ) (s : Statement) → ends_well deck ≡ true → get_elem? deck j ≡ some s → is_end s.form ≡ false → suc j < length deck
not_last [] j s w e f = absurd (false≢true w)
not_last (t ∷ []) zero s w e f = let z : t ≡ s = cc in absurd (false≢true (sym f ∙ ap (λ (u : Statement). is_end u.form) (sym z) ∙ w))
not_last (t ∷ []) (suc j) s w e f = let z : ◌≡◌ {A = ℕ} 0 1 = cc in absurd (omega arith)
not_last (t ∷ u ∷ deck) zero s w e f = omega arith
not_last (t ∷ u ∷ deck) (suc j) s w e f = omega (arith, not_last (u ∷ deck) j s w e f)

-- the statement at j
abbrev pub stated : ℕ → Form → Statement
stated n f = record { number = n; form = f }

module _ (house : House) {deck : List Statement} (sound : Sound deck) {j lost m : ℕ} {env : Values} {inside : ℕ → Bounds} {c : List ℤ} (st : Stands deck j env inside lost c m)
    {number : ℕ} {f : Form} (at : get_elem? deck j ≡ some (stated number f)) where
  pub known : Known (held_of deck) (form_plain f)
  known = record { has = λ v a. plain_has deck j (stated number f) v at a }

  pub ending : (d : Do) → Among d (endings deck number) → Ending deck j d
  ending d a = record { among = (among_endings deck number d a).0; last = sound.nested.last j (stated number f) at d a }

  -- no DO: the same DOs are around the next statement
  pub ready : {env' : Values} {lost' m' : ℕ} {c' : List ℤ} → is_end f ≡ false → do_of j f ≡ [] → Holds (held_of deck) env' c' → SameMark deck lost' m' → Inside deck inside c' j
      → Ready deck j env' inside lost' c' m'
  ready e z h s i =
      record {
        holds = h;
        mark = s;
        now = i;
        next = inside_next i (λ d a p. absurd (not_do deck at z a p));
        more = not_last deck j (stated number f) sound.ends at e;
      }

  -- where a jump leads
  pub jumped : {lost' m' : ℕ} (n : Digits) → Among n (form_exits f) → SameMark deck lost' m' → Stands deck (position_of deck (value_of n)) env inside lost' c m'
  jumped n a s =
      record {
        holds = st.holds;
        mark = s;
        around = record { bound = λ d b r. st.around.bound d b (sound.nested.jumps j (stated number f) at n a d b r) };
        here = sound.targets j (stated number f) at n a;
      }

  module _ {devices : Devices} where
    -- ---- assignment

    pub assign_cell : (v : Name) {p n : ℕ} {r : Evaluated} → is_end f ≡ false → do_of j f ≡ [] → Has (held_of deck) (key (plain v)) → Gives house deck devices (address_at deck j) p [] c m n r
        → get_elem? (code_of deck) p ≡ some (STO (cell_of (held_of deck) v)) → At (code_of deck) (suc p) (map (do_instr deck DOE) (endings deck number))
        → suc p + length (endings deck number) ≡ address_at deck (suc j)
        → Sim house deck j (state (address_at deck j) [] c m devices) (assigned_steps deck (endings deck number) j env inside (cell v) r n) (assigned deck (endings deck number) (standing j env inside lost) (cell v) r)
    assign_cell v e z h (gives {v = x} r y q) a b l =
        first (and_then r (on sound.fitting a refl stay)) (omega arith)
        (ends_sim house sound
        (ready e z (holds_put st.holds (plain v) x h) (same_mark j (omega arith) (omega arith) q st.mark) (inside_put st.around (plain v) x h))
        (endings deck number) ending b l)
    assign_cell v e z h (stops r y x q) a b l = halts r (omega arith) x st.holds (same_mark j (omega arith) (omega arith) q st.mark)

    -- the value is on the stack, the place is still to be found
    stored_sim : (v : Name) (ss : Subscripts) (o : Option ℕ) {x : ℤ} {n p m' : ℕ} {d : Loss} → is_end f ≡ false → do_of j f ≡ []
        → Runs house deck n (state (address_at deck j) [] c m devices) (go (state p (x ∷ []) c m' devices)) → address_at deck j + n ≡ p → Marked (address_at deck j) p m m' d
        → place_of c (element_entry (held_of deck) (dims_of deck) v ss) ≡ o → place_in env (dims_of deck v) ss ≡ o
        → get_elem? (code_of deck) p ≡ some (STE (element_entry (held_of deck) (dims_of deck) v ss)) → At (code_of deck) (suc p) (map (do_instr deck DOE) (endings deck number))
        → suc p + length (endings deck number) ≡ address_at deck (suc j)
        → Sim house deck j (state (address_at deck j) [] c m devices) (stored_steps deck (endings deck number) j env inside v x o n) (stored deck (endings deck number) (standing j env inside lost) v x d o)
    stored_sim v ss none {x} {p = p} {m' = m'} e z r y q u w a b l =
        halts {p = p} (and_then r (out sound.fitting a (ap (λ o. element_stored o (element_entry (held_of deck) (dims_of deck) v ss) (state p (x ∷ []) c m' devices)) u))) (omega arith) (omega arith) st.holds
        (same_mark j (omega arith) (omega arith) q st.mark)
    stored_sim v ss (some i) {x} {p = p} {m' = m'} e z r y q u w a b l =
        let h = element_has deck env v ss i w in
        first (and_then r (on sound.fitting a (ap (λ o. element_stored o (element_entry (held_of deck) (dims_of deck) v ss) (state p (x ∷ []) c m' devices)) u) stay)) (omega arith)
        (ends_sim house sound
        (ready e z (holds_put st.holds (element_at v i) x h) (same_mark j (omega arith) (omega arith) q st.mark) (inside_put st.around (element_at v i) x h))
        (endings deck number) ending b l)

    pub assign_element : (v : Name) (ss : Subscripts) {p n : ℕ} {r : Evaluated} → is_end f ≡ false → do_of j f ≡ [] → Known (held_of deck) (subscripts_names ss) → Gives house deck devices (address_at deck j) p [] c m n r
        → get_elem? (code_of deck) p ≡ some (STE (element_entry (held_of deck) (dims_of deck) v ss)) → At (code_of deck) (suc p) (map (do_instr deck DOE) (endings deck number))
        → suc p + length (endings deck number) ≡ address_at deck (suc j)
        → Sim house deck j (state (address_at deck j) [] c m devices) (assigned_steps deck (endings deck number) j env inside (element v ss) r n) (assigned deck (endings deck number) (standing j env inside lost) (element v ss) r)
    assign_element v ss e z h (gives r y q) a b l = stored_sim v ss (place_in env (dims_of deck v) ss) e z r y q (place_value deck st.holds v ss h) refl a b l
    assign_element v ss e z h (stops r y x q) a b l = halts r (omega arith) x st.holds (same_mark j (omega arith) (omega arith) q st.mark)

    -- ---- jumps

    pub tested_sim : (n₁ n₂ n₃ : Digits) {p n : ℕ} {r : Evaluated} → ((n : Digits) → Among n (n₁ ∷ n₂ ∷ n₃ ∷ []) → Among n (form_exits f)) → Gives house deck devices (address_at deck j) p [] c m n r
        → get_elem? (code_of deck) p ≡ some (BR3 (address_of deck (value_of n₁)) (address_of deck (value_of n₂)) (address_of deck (value_of n₃))) → suc p ≤ address_at deck (suc j)
        → Sim house deck j (state (address_at deck j) [] c m devices) (and_one r n) (tested deck (endings deck number) (standing j env inside lost) n₁ n₂ n₃ r)
    tested_sim n₁ n₂ n₃ x (gives {v = v} {m' = m'} r y q) a l =
        goes (and_then r (on sound.fitting a (ap (λ t. go (state t [] c m' devices)) (sign3_map (λ n. address_of deck (value_of n)) v n₁ n₂ n₃)) stay)) (omega arith)
        (jumped (sign3 v n₁ n₂ n₃) (x _ (sign3_among v n₁ n₂ n₃)) (same_mark j (omega arith) (omega arith) q st.mark)) (inl (omega arith))
    tested_sim n₁ n₂ n₃ x (stops r y z q) a l = halts r (omega arith) z st.holds (same_mark j (omega arith) (omega arith) q st.mark)

    pub chosen_sim : (ns : List Digits) (v : ℤ) (o : Option Digits) → ((n : Digits) → Among n ns → Among n (form_exits f)) → exit ns v ≡ o
        → Runs house deck 1 (state (address_at deck j) [] c m devices) (go (state (suc (address_at deck j)) (v ∷ []) c m devices))
        → get_elem? (code_of deck) (suc (address_at deck j)) ≡ some (BRC (map (λ n. address_of deck (value_of n)) ns)) → address_at deck j + 2 ≤ address_at deck (suc j)
        → Sim house deck j (state (address_at deck j) [] c m devices) 2 (chosen deck (endings deck number) (standing j env inside lost) o)
    chosen_sim ns v none x e r a l =
        halts {p = suc (address_at deck j)} (and_then r (out sound.fitting a (ap (λ o. branched o (state (suc (address_at deck j)) (v ∷ []) c m devices)) (exit_map (λ n. address_of deck (value_of n)) ns v ∙ ap (Option.map (λ n. address_of deck (value_of n))) e)))) (omega arith) (omega arith)
        st.holds st.mark
    chosen_sim ns v (some n) x e r a l =
        goes (and_then r (on sound.fitting a (ap (λ o. branched o (state (suc (address_at deck j)) (v ∷ []) c m devices)) (exit_map (λ n. address_of deck (value_of n)) ns v ∙ ap (Option.map (λ n. address_of deck (value_of n))) e)) stay)) (omega arith)
        (jumped n (x n (exit_among ns v n e)) st.mark) (inl (omega arith))

    -- ---- DO

    pub begun_sim : (g : ℕ) (v : Name) (b : Bool) {m₁ m₂ m₃ : ℤ} {n p m' : ℕ} {d : Loss} → Among (record { position = j; last = g; variable = v }) (dos_of deck) → is_end f ≡ false
        → all_positive m₁ m₂ m₃ ≡ b → Runs house deck n (state (address_at deck j) [] c m devices) (go (state p (m₃ ∷ m₂ ∷ m₁ ∷ []) c m' devices)) → address_at deck j + n ≡ p
        → Marked (address_at deck j) p m m' d → get_elem? (code_of deck) p ≡ some (do_instr deck DOI (record { position = j; last = g; variable = v }))
        → At (code_of deck) (suc p) (map (do_instr deck DOE) (endings deck number)) → suc p + length (endings deck number) ≡ address_at deck (suc j)
        → Sim house deck j (state (address_at deck j) [] c m devices) (begun_steps deck (endings deck number) j env inside v b m₁ m₂ m₃ n) (begun deck (endings deck number) (standing j env inside lost) v b m₁ m₂ m₃ d)
    begun_sim g v false {m₁} {m₂} {m₃} {p = p} {m' = m'} i e s r y q a b l =
        halts {p = p} (and_then r (out sound.fitting a (ap (λ t. Machine.begun t (loop_entry deck (record { position = j; last = g; variable = v })) m₁ m₂ m₃ (state p (m₃ ∷ m₂ ∷ m₁ ∷ []) c m' devices)) s))) (omega arith) (omega arith)
        st.holds (same_mark j (omega arith) (omega arith) q st.mark)
    begun_sim g v true {m₁} {m₂} {m₃} {p = p} {m' = m'} i e s r y q a b l =
        let D : Do = record { position = j; last = g; variable = v } in
        let hv = variable_has deck D i in
        let hh = hidden_has deck D i in
        let h₁ = holds_put st.holds (plain v) m₁ hv in
        let i₁ = inside_put st.around (plain v) m₁ hv in
        let above = (and_both (positive m₂) (positive m₃) (and_both (positive m₁) (positive m₂ && positive m₃) s).1).1 in
        first (and_then r (on sound.fitting a (ap (λ t. Machine.begun t (loop_entry deck D) m₁ m₂ m₃ (state p (m₃ ∷ m₂ ∷ m₁ ∷ []) c m' devices)) s) stay)) (omega arith)
        (ends_sim house sound
        (record {
          holds = holds_step (holds_hidden h₁ j m₂ hh) j m₃ hh;
          mark = same_mark j (omega arith) (omega arith) q st.mark;
          now = inside_now i₁ hh m₂ m₃;
          next = inside_entered i₁ hh m₂ m₃ h₁.room above;
          more = not_last deck j (stated number f) sound.ends at e;
        })
        (endings deck number) ending b l)

    -- the parameters are worked out one after the other
    module _ (g : ℕ) (v : Name) {p₁ p₂ p₃ : ℕ} (i : Among (record { position = j; last = g; variable = v }) (dos_of deck)) (e : is_end f ≡ false) (l₁ : address_at deck j ≤ p₁) (l₂ : p₁ ≤ p₂) (l₃ : p₂ ≤ p₃)
        (a : get_elem? (code_of deck) p₃ ≡ some (do_instr deck DOI (record { position = j; last = g; variable = v })))
        (b : At (code_of deck) (suc p₃) (map (do_instr deck DOE) (endings deck number))) (l : suc p₃ + length (endings deck number) ≡ address_at deck (suc j)) where
      third_sim : (x w : ℤ) (d₁ d₂ : Loss) (n₁ n₂ : ℕ) {n₃ m' : ℕ} {r : Evaluated} → Runs house deck (n₁ + n₂) (state (address_at deck j) [] c m devices) (go (state p₂ (w ∷ x ∷ []) c m' devices)) → address_at deck j + (n₁ + n₂) ≡ p₂
          → Marked (address_at deck j) p₂ m m' (numbers.first d₁ d₂) → Gives house deck devices p₂ p₃ (w ∷ x ∷ []) c m' n₃ r
          → Sim house deck j (state (address_at deck j) [] c m devices) (read_steps deck (endings deck number) j env inside v (val x d₁) (val w d₂) r n₁ n₂ n₃) (read deck (endings deck number) (standing j env inside lost) v (val x d₁) (val w d₂) r)
      third_sim x w d₁ d₂ n₁ n₂ r y q (gives {v = z} r' y' q') =
          begun_sim g v (all_positive x w z) i e refl (and_then r r') (omega arith) (marked_then (widen (omega arith) l₃ q) (widen (omega arith) (omega arith) q')) a b l
      third_sim x w d₁ d₂ n₁ n₂ r y q (stops {p = o} r' y' x' q') =
          halts {p = o} (and_then r r') (omega arith) (omega arith) st.holds
          (same_mark j (omega arith) (omega arith) (marked_then (widen (omega arith) l₃ q) (widen {lo = address_at deck j} {hi = p₃} (omega arith) (omega arith) q')) st.mark)

      second_sim : (x : ℤ) (d₁ : Loss) {n₁ n₂ n₃ m' : ℕ} {r r₃ : Evaluated} → Runs house deck n₁ (state (address_at deck j) [] c m devices) (go (state p₁ (x ∷ []) c m' devices)) → address_at deck j + n₁ ≡ p₁
          → Marked (address_at deck j) p₁ m m' d₁ → Gives house deck devices p₁ p₂ (x ∷ []) c m' n₂ r → ((w : ℤ) (m' : ℕ) → Gives house deck devices p₂ p₃ (w ∷ x ∷ []) c m' n₃ r₃)
          → Sim house deck j (state (address_at deck j) [] c m devices) (read_steps deck (endings deck number) j env inside v (val x d₁) r r₃ n₁ n₂ n₃) (read deck (endings deck number) (standing j env inside lost) v (val x d₁) r r₃)
      second_sim x d₁ {n₁} {n₂} r y q (gives {v = w} {b = d₂} r' y' q') g₃ =
          third_sim x w d₁ d₂ n₁ n₂ (and_then r r') (omega arith) (marked_then (widen (omega arith) l₂ q) (widen (omega arith) (omega arith) q')) (g₃ w _)
      second_sim x d₁ r y q (stops {p = o} r' y' x' q') g₃ =
          halts {p = o} (and_then r r') (omega arith) (omega arith) st.holds
          (same_mark j (omega arith) (omega arith) (marked_then (widen (omega arith) l₂ q) (widen {lo = address_at deck j} {hi = p₂} (omega arith) (omega arith) q')) st.mark)

      pub read_sim : {n₁ n₂ n₃ : ℕ} {r₁ r₂ r₃ : Evaluated} → Gives house deck devices (address_at deck j) p₁ [] c m n₁ r₁ → ((x : ℤ) (m' : ℕ) → Gives house deck devices p₁ p₂ (x ∷ []) c m' n₂ r₂)
          → ((x w : ℤ) (m' : ℕ) → Gives house deck devices p₂ p₃ (w ∷ x ∷ []) c m' n₃ r₃)
          → Sim house deck j (state (address_at deck j) [] c m devices) (read_steps deck (endings deck number) j env inside v r₁ r₂ r₃ n₁ n₂ n₃) (read deck (endings deck number) (standing j env inside lost) v r₁ r₂ r₃)
      read_sim (gives {v = x} {b = d₁} r y q) g₂ g₃ = second_sim x d₁ r y q (g₂ x _) (g₃ x)
      read_sim (stops r y x q) g₂ g₃ = halts r (omega arith) x st.holds (same_mark j (omega arith) (omega arith) q st.mark)
