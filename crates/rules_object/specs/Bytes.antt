-- An object's bytes, and any bytes read as an object. 01 "Object" and 40, 2026-01.
-- Assumes nothing.
use Rattle.std.specs.Prelude.{ℕ, zero, suc, ◌+◌, ◌-◌, ◌*◌, ◌/◌, ◌%◌, ◌^◌, ◌&&◌, cond, List, [], ◌∷◌, ◌++◌, map, ltb, leb, eqb, length, get_or, take, drop, ℤ, pos, negsuc}
use Rattle.std.proofs.Math.Option.{Option, none, some}
use Rattle.rules_object.specs.Object.{Element, Loop, Line, Named, ListItem, Transfer, Object}
use Rattle.rules_object.specs.Kinds.{Kind, kinds_of, entry_sizes, contents_length}

-- ---- words are u32, little-endian

abbrev pub word_bytes : ℕ → List ℕ
word_bytes w = w % 256 ∷ w / 256 % 256 ∷ w / 65536 % 256 ∷ w / 16777216 % 256 ∷ []

abbrev pub bytes_of : List ℕ → List ℕ
bytes_of [] = []
bytes_of (w ∷ ws) = word_bytes w ++ bytes_of ws

-- the whole words of some bytes
abbrev pub words_of : List ℕ → List ℕ
words_of [] = []
words_of (a ∷ []) = []
words_of (a ∷ b ∷ []) = []
words_of (a ∷ b ∷ c ∷ []) = []
words_of (a ∷ b ∷ c ∷ d ∷ s) = (a + b * 256 + c * 65536 + d * 16777216) ∷ words_of s

-- two's complement
unfoldable pub signed_of : ℕ → ℤ
signed_of w = cond (ltb w (2 ^ 31)) (pos w) (negsuc (2 ^ 32 - 1 - w))

unfoldable pub signed_word : ℤ → ℕ
signed_word (pos n) = n
signed_word (negsuc n) = 2 ^ 32 - 1 - n

-- ---- each entry as words

abbrev pub concat : List (List ℕ) → List ℕ
concat [] = []
concat (b ∷ bs) = b ++ concat bs

abbrev pub one_word : ℕ → List ℕ
one_word w = w ∷ []

abbrev pub element_words : Element → List ℕ
element_words e =
    e.base ∷ e.rows ∷ e.columns ∷ e.first.times ∷ e.first.cell ∷ signed_word e.first.plus ∷ e.second.times ∷ e.second.cell ∷ signed_word e.second.plus ∷ []

abbrev pub loop_words : Loop → List ℕ
loop_words d = d.variable ∷ d.limit ∷ d.step ∷ d.body ∷ []

abbrev pub line_words : Line → List ℕ
line_words l = l.sequence ∷ l.number ∷ l.address ∷ []

abbrev pub name_words : Named → List ℕ
name_words n = words_of n.name ++ (n.first ∷ n.rows ∷ n.columns ∷ [])

abbrev pub item_words : ListItem → List ℕ
item_words i = i.first ∷ i.count ∷ []

abbrev pub transfer_words : Transfer → List ℕ
transfer_words t = t.format ∷ t.first ∷ t.count ∷ []

-- the bodies in the order of their kinds, each as its entries
abbrev pub bodies : Object → List (List (List ℕ))
bodies o =
    map one_word o.constants ∷ map element_words o.elements ∷ map one_word o.exits ∷ map loop_words o.dos ∷ map one_word o.code ∷ map line_words o.lines
    ∷ map name_words o.names ∷ map one_word o.formats ∷ map item_words o.items ∷ map transfer_words o.transfers ∷ []

-- and each as its words, as many bodies as its edition has
abbrev pub body_words : Object → List (List ℕ)
body_words o = map concat (take (length (kinds_of o.edition)) (bodies o))

-- and back: word i of an entry
abbrev pub word : List ℕ → ℕ → ℕ
word entry i = get_or entry i 0

abbrev pub element_of : List ℕ → Element
element_of e =
    record {
      base = word e 0;
      rows = word e 1;
      columns = word e 2;
      first = record { times = word e 3; cell = word e 4; plus = signed_of (word e 5) };
      second = record { times = word e 6; cell = word e 7; plus = signed_of (word e 8) };
    }

abbrev pub loop_of : List ℕ → Loop
loop_of e = record { variable = word e 0; limit = word e 1; step = word e 2; body = word e 3 }

abbrev pub line_of : List ℕ → Line
line_of e = record { sequence = word e 0; number = word e 1; address = word e 2 }

abbrev pub named_of : List ℕ → Named
named_of e = record { name = word_bytes (word e 0) ++ word_bytes (word e 1); first = word e 2; rows = word e 3; columns = word e 4 }

abbrev pub item_of : List ℕ → ListItem
item_of e = record { first = word e 0; count = word e 1 }

abbrev pub transfer_of : List ℕ → Transfer
transfer_of e = record { format = word e 0; first = word e 1; count = word e 2 }

-- the first n entries of z words each
abbrev pub entries : ℕ → ℕ → List ℕ → List (List ℕ)
entries zero z ws = []
entries (suc n) z ws = take z ws ∷ entries n z (drop z ws)

-- ---- the contents, then the bodies in kind order without gaps

-- per body its kind, first byte and byte length
abbrev pub body_table : ℕ → ℕ → List (List ℕ) → List ℕ
body_table kind at [] = []
body_table kind at (b ∷ bs) = kind ∷ at ∷ 4 * length b ∷ body_table (suc kind) (at + 4 * length b) bs

unfoldable pub object_words : Object → List ℕ
object_words o =
    o.edition ∷ o.digits ∷ o.cells ∷ length (body_words o) ∷ (body_table 1 (contents_length (length (body_words o))) (body_words o) ++ concat (body_words o))

unfoldable pub object_bytes : Object → List ℕ
object_bytes o = bytes_of (object_words o)

-- ---- reading

abbrev pub cons_body : List ℕ → Option (List (List ℕ)) → Option (List (List ℕ))
cons_body b none = none
cons_body b (some bs) = some (b ∷ bs)

-- Bodies of the given entry sizes: their kinds in order from `kind`, the first at byte `at`, each right after the one before, whole entries, and nothing left over.
abbrev pub read_bodies : List ℕ → ℕ → ℕ → List ℕ → List ℕ → Option (List (List ℕ))
read_bodies [] kind at contents [] = some []
read_bodies [] kind at contents (w ∷ ws) = none
read_bodies (z ∷ zs) kind at contents ws =
    cond (eqb (word contents 0) kind && (eqb (word contents 1) at && (eqb (word contents 2 % (4 * z)) 0 && leb (word contents 2) (4 * length ws))))
    (cons_body (take (word contents 2 / 4) ws) (read_bodies zs (suc kind) (at + word contents 2) (drop 3 contents) (drop (word contents 2 / 4) ws))) none

-- the entries of the body of a kind
abbrev pub body : List (List ℕ) → ℕ → List ℕ
body bs kind = get_or bs (kind - 1) []

abbrev pub entries_of : List Kind → List (List ℕ) → ℕ → List (List ℕ)
entries_of kinds bs kind = entries (length (body bs kind) / get_or (entry_sizes kinds) (kind - 1) 1) (get_or (entry_sizes kinds) (kind - 1) 1) (body bs kind)

-- the lists, empty where the edition has no such body; no code at all is wrong
abbrev pub object_of : List Kind → ℕ → ℕ → ℕ → Option (List (List ℕ)) → Option Object
object_of kinds e k cells none = none
object_of kinds e k cells (some bs) =
    cond (eqb (length (body bs 5)) 0) none
    (some
    (record {
      edition = e;
      digits = k;
      cells = cells;
      constants = body bs 1;
      elements = map element_of (entries_of kinds bs 2);
      exits = body bs 3;
      dos = map loop_of (entries_of kinds bs 4);
      code = body bs 5;
      lines = map line_of (entries_of kinds bs 6);
      names = map named_of (entries_of kinds bs 7);
      formats = body bs 8;
      items = map item_of (entries_of kinds bs 9);
      transfers = map transfer_of (entries_of kinds bs 10);
    }))

-- after the edition: k, cell count, body count; then the contents of the bodies, and the bodies
abbrev pub read_by : List Kind → List ℕ → Option Object
read_by kinds ws =
    cond (ltb 0 (length kinds) && eqb (word ws 3) (length kinds))
    (object_of kinds (word ws 0) (word ws 1) (word ws 2) (read_bodies (entry_sizes kinds) 1 (contents_length (length kinds)) (take (3 * length kinds) (drop 4 ws)) (drop (3 * length kinds) (drop 4 ws)))) none

-- by the kinds of its edition, if there is such an edition
abbrev pub read_words : List ℕ → Option Object
read_words ws = read_by (kinds_of (word ws 0)) ws

-- none: refused by 40
unfoldable pub read_object : List ℕ → Option Object
read_object s = cond (eqb (length s) (4 * length (words_of s))) (read_words (words_of s)) none
