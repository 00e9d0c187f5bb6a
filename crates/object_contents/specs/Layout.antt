-- An object by where its bodies stand in its bytes. `object_at` is the book's object, made of the words at their places.
-- Assumes nothing.
use Rattle.std.specs.Prelude.{◌≡◌, ℕ, zero, suc, ◌+◌, ◌*◌, ◌<◌, List, [], ◌∷◌, length, take, drop}
use Rattle.rules_object.specs.Object.{Element, Loop, Line, Named, ListItem, Transfer, Object}
use Rattle.rules_object.specs.Kinds.{kinds_of, contents_length}
use Rattle.rules_object.specs.Bytes.{signed_of}
use Rattle.rules_object.specs.Writable.{Edition}
use Rattle.object_words.specs.Word.{word_at}
use Rattle.object_contents.specs.declared.Layout.{Layout}

-- n things, the ith of them f i, from i on
abbrev pub list_from : {A : Type 0} → ℕ → ℕ → (ℕ → A) → List A
list_from zero i f = []
list_from (suc n) i f = f i ∷ list_from n (suc i) f

unfoldable pub element_at : List ℕ → ℕ → Element
element_at s b =
    record {
      base = word_at s b;
      rows = word_at s (b + 4);
      columns = word_at s (b + 8);
      first = record { times = word_at s (b + 12); cell = word_at s (b + 16); plus = signed_of (word_at s (b + 20)) };
      second = record { times = word_at s (b + 24); cell = word_at s (b + 28); plus = signed_of (word_at s (b + 32)) };
    }

unfoldable pub loop_at : List ℕ → ℕ → Loop
loop_at s b = record { variable = word_at s b; limit = word_at s (b + 4); step = word_at s (b + 8); body = word_at s (b + 12) }

unfoldable pub line_at : List ℕ → ℕ → Line
line_at s b = record { sequence = word_at s b; number = word_at s (b + 4); address = word_at s (b + 8) }

unfoldable pub named_at : List ℕ → ℕ → Named
named_at s b = record { name = take 8 (drop b s); first = word_at s (b + 8); rows = word_at s (b + 12); columns = word_at s (b + 16) }

unfoldable pub item_at : List ℕ → ℕ → ListItem
item_at s b = record { first = word_at s b; count = word_at s (b + 4) }

unfoldable pub transfer_at : List ℕ → ℕ → Transfer
transfer_at s b = record { format = word_at s b; first = word_at s (b + 4); count = word_at s (b + 8) }

unfoldable pub object_at : Layout → List ℕ → Object
object_at e s =
    record {
      edition = e.edition;
      digits = e.digits;
      cells = e.cells;
      constants = list_from e.constant_count 0 (λ i. word_at s (e.constants + 4 * i));
      elements = list_from e.element_count 0 (λ i. element_at s (e.elements + 36 * i));
      exits = list_from e.exit_count 0 (λ i. word_at s (e.exits + 4 * i));
      dos = list_from e.do_count 0 (λ i. loop_at s (e.dos + 16 * i));
      code = list_from e.code_count 0 (λ i. word_at s (e.code + 4 * i));
      lines = list_from e.line_count 0 (λ i. line_at s (e.lines + 12 * i));
      names = list_from e.name_count 0 (λ i. named_at s (e.names + 20 * i));
      formats = list_from e.format_count 0 (λ i. word_at s (e.formats + 4 * i));
      items = list_from e.item_count 0 (λ i. item_at s (e.items + 8 * i));
      transfers = list_from e.transfer_count 0 (λ i. transfer_at s (e.transfers + 12 * i));
    }

-- The bodies stand one after the other, and there is code. A body that the edition does not have stands empty at the end.
pub record Placed (e : Layout) (s : List ℕ) : Type 0 where
  pub edition : Edition (object_at e s)
  pub constants : e.constants ≡ contents_length (length (kinds_of e.edition))
  pub elements : e.elements ≡ e.constants + 4 * e.constant_count
  pub exits : e.exits ≡ e.elements + 36 * e.element_count
  pub dos : e.dos ≡ e.exits + 4 * e.exit_count
  pub code : e.code ≡ e.dos + 16 * e.do_count
  pub lines : e.lines ≡ e.code + 4 * e.code_count
  pub names : e.names ≡ e.lines + 12 * e.line_count
  pub formats : e.formats ≡ e.names + 20 * e.name_count
  pub items : e.items ≡ e.formats + 4 * e.format_count
  pub transfers : e.transfers ≡ e.items + 8 * e.item_count
  pub whole : length s ≡ e.transfers + 12 * e.transfer_count
  pub some_code : 0 < e.code_count
