-- What the tests of a name's entry come to is what the book says of it.
-- Assumes nothing.
use mathlib.Core.Path.{◌≡◌}
use Prim.Native.Nat.{ℕ, ◌+◌, ◌*◌, ◌<◌}
use mathlib.Core.Bool.{Bool, ◌&&◌, ◌||◌}
use mathlib.Core.List.{List}
use lib.Dec.{leb, eqb}
use lib.ListN.{get_or, take, drop}
use Rattle.rules_object.specs.Check.{right_name, right_named, span}
use Rattle.object_words.specs.Word.{word_at}
use Rattle.object_contents.specs.declared.Layout.{Layout}
use Rattle.object_contents.specs.Layout.{named_at, object_at}
use Rattle.object_contents.proofs.Entries.{name_at_lem}
use Rattle.check_names.specs.Names.{no_name}

module _ (e : Layout) (s : List ℕ) (i : ℕ) where
  pub named_says : i < e.name_count → (n rows columns last : ℕ) (name plain : Bool) → rows ≡ word_at s (e.names + 20 * i + 12) → columns ≡ word_at s (e.names + 20 * i + 16)
      → last ≡ word_at s (e.names + 20 * i + 8) + span rows columns → n ≡ 8 → name ≡ right_name (take n (drop (e.names + 20 * i) s)) → plain ≡ (leb 1 rows || eqb columns 0)
      → right_named (object_at e s) (get_or (object_at e s).names i no_name) ≡ (name && (plain && leb last e.cells))
  unfolding right_named named_at object_at
  named_says h n rows columns last name plain r c l z a p = rw (name_at_lem e s i no_name h, a, z, p, l, r, c)
