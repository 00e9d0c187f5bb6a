-- A list from its steps: one step and what follows it, and a group whose words stand once and are then copied.
-- Assumes nothing.
use mathlib.Core.Path.{◌≡◌, refl, sym, ap, ◌∙◌, subst}
use mathlib.Core.Bool.{Bool, true, false, ◌||◌}
use mathlib.Core.List.{List, [], ◌∷◌, ◌++◌, map}
use Prim.Native.Nat.{ℕ, zero, suc, ◌+◌, ◌≤◌, ◌<◌}
use native.Mathlib.Omega.{arith}
use lib.ListN.{length, drop, length-map}
use Rattle.rules_formats.specs.Format.{Format, close, group, Field, times, written_out, again_from, has_number}
use Rattle.rules_formats.specs.Words.{most_words, field_word}
use Rattle.rules_formats.specs.Punched.{most_number, Found, before, first, after_field, group_of, list}
use Rattle.std.specs.Prelude.{Option, Some, None}
use Rattle.read_formats.specs.Puts.{Puts, Repeats}
use Rattle.read_formats.specs.declared.Sofar.{Sofar}
use Rattle.read_formats.specs.declared.Step.TheVariants.{Closes, Next, Opens}
use Rattle.read_formats.specs.declared.Place.{Place as Placed}
use Rattle.read_formats.specs.declared.Place.TheVariants.{AfterField}
use Rattle.read_formats.specs.Reads.{place_of, Ready, Goes, Steps, Gets, Reads}
use Rattle.read_formats.proofs.PutLaws.{puts_none, puts_both, puts_same, once_above}

-- ---- small laws

map_append : (f : Field → ℕ) (xs ys : List Field) → map f (xs ++ ys) ≡ map f xs ++ map f ys
map_append f [] ys = refl
map_append f (x ∷ xs) ys = ap (λ (l : List ℕ). f x ∷ l) (map_append f xs ys)

map_times : (f : Field → ℕ) (n : ℕ) (xs : List Field) → times n (map f xs) ≡ map f (times n xs)
map_times f zero xs = refl
map_times f (suc n) xs = ap (λ (l : List ℕ). map f xs ++ l) (map_times f n xs) ∙ sym (map_append f xs (times n xs))

or_assoc : (a b c : Bool) → ((a || b) || c) ≡ (a || (b || c))
or_assoc true b c = refl
or_assoc false b c = refl

or_false : (a : Bool) → a ≡ (a || false)
or_false true = refl
or_false false = refl

-- what is told of an answer, where it is known which
module _ (cs a : List ℕ) (s : Sofar) where
  -- ---- what a step leaves is ready to go on

  pub ready_next : (b : List ℕ) (o : Found Format) (t : Sofar) (p : Placed) → Ready cs a s → Steps cs a b s o (Some (Next t p)) → Ready cs b t
  ready_next b o t p r k =
      let g = k.so in
      record { within = g.within; sized = g.puts.sized; top = g.puts.low; again = omega (arith, r.again, g.again) }

  pub ready_opens : (b : List ℕ) (o : Found Format) (t : Sofar) (n : ℕ) → Ready cs a s → Steps cs a b s o (Some (Opens t n)) → Ready cs b t
  ready_opens b o t n r k =
      let m = k.so.1 in
      record { within = m.within; sized = ap length m.words ∙ r.sized; top = omega (arith, r.top, m.top); again = omega (arith, r.again, m.again) }

  pub falls_next : (b : List ℕ) (o : Found Format) (t : Sofar) (p : Placed) → Steps cs a b s o (Some (Next t p)) → (s.at < t.at) × (t.at ≤ length cs)
  falls_next b o t p k = (k.so.onward, k.so.within)

  pub falls_opens : (b : List ℕ) (o : Found Format) (t : Sofar) (n : ℕ) → Steps cs a b s o (Some (Opens t n)) → (s.at < t.at) × (t.at ≤ length cs)
  falls_opens b o t n k = (k.so.1.onward, k.so.1.within)

  -- ---- the list's end, or no list

  pub list_wrong : (b : List ℕ) (o : Found Format) → Steps cs a b s o None → Reads cs a b s o None
  list_wrong b o k = record { so = k.so }

  pub list_closes : (b : List ℕ) (o : Found Format) (t : Sofar) → Ready cs a s → Steps cs a b s o (Some (Closes t)) → Reads cs a b s o (Some t)
  list_closes b o t r k =
      let m = k.so.1 in
      record {
        so =
            record {
              f = close;
              is = k.so.0;
              puts =
                  subst (λ (x : List ℕ). Puts [] a x s.top t.top) (sym m.words)
                  (subst (λ (x : ℕ). Puts [] a a s.top x) (sym m.top) (puts_none a s.top r.sized r.top));
              again = λ l. m.again;
              low = omega (arith, r.again, m.again);
              numbers = m.numbers ∙ or_false s.numbers;
              onward = omega (arith, m.onward);
              within = m.within;
            };
      }

  -- ---- a step and what follows

  pub list_next : (b c : List ℕ) (o : Found Format) (t : Sofar) (p : Placed) → Steps cs a b s o (Some (Next t p)) → (r : Option Sofar) → Reads cs b c t (list (place_of p) (drop t.at cs)) r → Reads cs a c s o r
  list_next b c o t p k None h = record { so = k.so.is ∙ ap (before k.so.make) h.so }
  list_next b c o t p k (Some u) h =
      let g = k.so in
      let w = h.so in
      let same : map field_word g.fields ++ map field_word (written_out w.f) ≡ map field_word (written_out (g.make w.f)) = sym (map_append field_word g.fields (written_out w.f)) ∙ ap (map field_word) (sym (g.written w.f)) in
      record {
        so =
            record {
              f = g.make w.f;
              is = g.is ∙ ap (before g.make) w.is;
              puts = puts_same _ _ a c s.top u.top same (puts_both _ _ a b c s.top t.top u.top g.puts w.puts);
              again = λ l. again g w l;
              low = w.low;
              numbers = w.numbers ∙ g.numbered w.f;
              onward = omega (arith, g.onward, w.onward);
              within = w.within;
            };
      }
    where
      again : (g : Goes cs a b s o t (place_of p)) (w : Gets cs b c t (list (place_of p) (drop t.at cs)) u) → u.top ≤ most_words → u.again ≡ again_from s.again s.top (g.make w.f)
      again g w l =
          let top : t.top ≡ s.top + length g.fields = g.puts.count (omega (arith, w.puts.count l)) ∙ ap (λ (x : ℕ). s.top + x) (length-map g.fields field_word) in
          w.again l ∙ ap (λ (x : ℕ). again_from x t.top w.f) g.again ∙ ap (λ (x : ℕ). again_from s.again x w.f) top ∙ sym (g.scan s.again s.top w.f)

  -- ---- a group and what follows

  module _ (b : List ℕ) (o : Found Format) (t : Sofar) (n : ℕ) (k : Steps cs a b s o (Some (Opens t n))) where
    pub group_wrong : (c : List ℕ) → Reads cs b c t (list first (drop t.at cs)) None → Reads cs a c s o None
    group_wrong c h = record { so = k.so.0 ∙ ap (group_of list n) h.so }

    module _ (r : Ready cs a s) (c : List ℕ) (u : Sofar) (h : Reads cs b c t (list first (drop t.at cs)) (Some u)) where
      pub group_room : (length c ≡ most_words) × (t.top ≤ u.top) × (u.top ≤ most_words + 1)
      group_room =
          (h.so.puts.sized, once_above _ b c t.top u.top (omega (arith, r.top, k.so.1.top)) h.so.puts, h.so.puts.low)

      pub group_count : (1 ≤ n) × (n ≤ most_number)
      group_count = (k.so.2, k.so.3)

      module _ (d : List ℕ) (top : ℕ) (q : Repeats n c d t.top u.top top) where
        -- where what follows begins
        abbrev pub then : Sofar
        then = record { at = u.at; top = top; again = t.top; numbers = u.numbers }

        once : Puts (times n (map field_word (written_out h.so.f))) b d t.top top
        once = q.is (map field_word (written_out h.so.f)) b (omega (arith, r.top, k.so.1.top)) h.so.puts

        pub ready_then : Ready cs d then
        ready_then = record { within = h.so.within; sized = once.sized; top = once.low; again = omega (arith, r.top, k.so.1.top) }

        pub falls_then : (s.at < u.at) × (u.at ≤ length cs)
        falls_then = (omega (arith, k.so.1.onward, h.so.onward), h.so.within)

        is_group : o ≡ before (group n h.so.f) (list after_field (drop u.at cs))
        is_group = k.so.0 ∙ ap (group_of list n) h.so.is

        pub group_then : (e : List ℕ) (x : Option Sofar) → Reads cs d e then (list after_field (drop u.at cs)) x → Reads cs a e s o x
        group_then e None g = record { so = is_group ∙ ap (before (group n h.so.f)) g.so }
        group_then e (Some v) g =
            let w = g.so in
            let m = k.so.1 in
            let xs = written_out h.so.f in
            let same : times n (map field_word (written_out h.so.f)) ++ map field_word (written_out w.f) ≡ map field_word (times n (written_out h.so.f) ++ written_out w.f) = ap (λ (l : List ℕ). l ++ map field_word (written_out w.f)) (map_times field_word n xs) ∙ sym (map_append field_word (times n xs) (written_out w.f)) in
            let all : Puts (map field_word (times n (written_out h.so.f) ++ written_out w.f)) b e t.top v.top = puts_same _ _ b e t.top v.top same (puts_both _ _ b d e t.top top v.top once w.puts) in
            record {
              so =
                  record {
                    f = group n h.so.f w.f;
                    is = is_group ∙ ap (before (group n h.so.f)) w.is;
                    puts =
                        subst (λ (l : List ℕ). Puts (map field_word (times n (written_out h.so.f) ++ written_out w.f)) l e s.top v.top) m.words
                        (subst (λ (x : ℕ). Puts (map field_word (times n (written_out h.so.f) ++ written_out w.f)) b e x v.top) m.top all);
                    again = λ l. again w l;
                    low = w.low;
                    numbers =
                        w.numbers
                        ∙ ap (λ (y : Bool). y || has_number w.f) (h.so.numbers ∙ ap (λ (y : Bool). y || has_number h.so.f) m.numbers)
                        ∙ or_assoc s.numbers (has_number h.so.f) (has_number w.f);
                    onward = omega (arith, falls_then.0, w.onward);
                    within = w.within;
                  };
            }
          where
            again : (w : Gets cs d e then (list after_field (drop u.at cs)) v) → v.top ≤ most_words → v.again ≡ again_from s.again s.top (group n h.so.f w.f)
            again w l =
                let xs = written_out h.so.f in
                let long : length (times n (map field_word (written_out h.so.f))) ≡ length (times n (written_out h.so.f)) = ap length (map_times field_word n xs) ∙ length-map (times n xs) field_word in
                let end : top ≡ s.top + length (times n (written_out h.so.f)) = omega (arith, once.count (omega (arith, w.puts.count l)), long, k.so.1.top) in
                w.again l ∙ ap (λ (x : ℕ). again_from x top w.f) k.so.1.top ∙ ap (λ (x : ℕ). again_from s.top x w.f) end

-- ---- step after step

-- what is read from where reading stands answers for the list from its beginning
pub record Reading (cs a : List ℕ) (s : Sofar) (q : Placed) (b : List ℕ) (t : Sofar) (p : Placed) : Type 0 where
  pub ready : Ready cs b t
  pub onward : s.at ≤ t.at
  pub goes : (c : List ℕ) (r : Option Sofar) → Reads cs b c t (list (place_of p) (drop t.at cs)) r → Reads cs a c s (list (place_of q) (drop s.at cs)) r

pub reading_start : (cs a : List ℕ) (s : Sofar) (q : Placed) → Ready cs a s → Reading cs a s q a s q
reading_start cs a s q r = record { ready = r; onward = omega arith; goes = λ c x h. h }

module _ (cs a : List ℕ) (s : Sofar) (q : Placed) (b : List ℕ) (t : Sofar) (p : Placed) (i : Reading cs a s q b t p) (c : List ℕ) (u : Sofar) where
  pub reading_next : (w : Placed) → Steps cs b c t (list (place_of p) (drop t.at cs)) (Some (Next u w)) → Reading cs a s q c u w
  reading_next w k =
      record {
        ready = ready_next cs b t c _ u w i.ready k;
        onward = omega (arith, i.onward, (falls_next cs b t c _ u w k).0);
        goes = λ d x h. i.goes d x (list_next cs b t c d _ u w k x h);
      }

  pub reading_group : (n : ℕ) (k : Steps cs b c t (list (place_of p) (drop t.at cs)) (Some (Opens u n))) (d : List ℕ) (v : Sofar) (h : Reads cs c d u (list first (drop u.at cs)) (Some v)) (e : List ℕ) (top : ℕ)
      → Repeats n d e u.top v.top top → Reading cs a s q e (record { at = v.at; top = top; again = u.top; numbers = v.numbers }) AfterField
  reading_group n k d v h e top m =
      record {
        ready = ready_then cs b t c _ u n k i.ready d v h e top m;
        onward = omega (arith, i.onward, (falls_then cs b t c _ u n k i.ready d v h e top m).0);
        goes = λ z x g. i.goes z x (group_then cs b t c _ u n k i.ready d v h e top m z x g);
      }
