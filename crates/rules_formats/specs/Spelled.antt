-- Which columns spell a FORMAT. This is no reader: nothing here looks for a FORMAT in columns. That reading and spelling agree is proved.
-- A tree fixes its columns but for blanks, leading zeros and the count 1, which may be left out before I and before a group.
-- Assumes nothing.
use Rattle.std.specs.Prelude.{◌≡◌, ℕ, ◌+◌, ◌*◌, ◌≤◌, List, [], ◌∷◌, ◌++◌, length}
use Rattle.rules_formats.specs.Format.{Format, close, number, skip, text, slash, group}
use Rattle.rules_formats.specs.Fields.{blank, digit, numeral}
use Rattle.rules_formats.specs.Punched.{left_paren, right_paren, comma, stroke, letter_i, letter_x, letter_h, opening, most_number, without_blanks}

-- ---- numbers

-- after digits that make n, the digits of these columns make v; blanks may stand anywhere
pub data Makes : ℕ → List ℕ → ℕ → Type 0 where
  no_more : {n : ℕ} → Makes n [] n
  over_blank : {n v : ℕ} {t : List ℕ} → Makes n t v → Makes n (blank ∷ t) v
  with_digit : {n v : ℕ} {t : List ℕ} (d : ℕ) → d ≤ 9 → Makes (n * 10 + d) t v → Makes n (digit d ∷ t) v

pub record IsNumber (n : ℕ) : Type 0 where
  pub least : 1 ≤ n
  pub most : n ≤ most_number

-- a run of digits with a value that a count or a width may have
pub record Number (t : List ℕ) (n : ℕ) : Type 0 where
  pub digits : Makes 0 t n
  pub right : IsNumber n

-- ---- lists

abbrev pub BeginsWithField : Format → Type 0
BeginsWithField close = ⊥
BeginsWithField (number r w f) = Unit {0}
BeginsWithField (skip n f) = Unit {0}
BeginsWithField (text cs f) = Unit {0}
BeginsWithField (slash f) = ⊥
BeginsWithField (group r inner f) = Unit {0}

-- at least one field or slash
abbrev pub NotEmpty : Format → Type 0
NotEmpty close = ⊥
NotEmpty (number r w f) = Unit {0}
NotEmpty (skip n f) = Unit {0}
NotEmpty (text cs f) = Unit {0}
NotEmpty (slash f) = Unit {0}
NotEmpty (group r inner f) = Unit {0}

-- what stands right before: a field; or the list's beginning, a comma or a slash
pub data Before : Type 0 where
  a_field no_field : Before

-- The columns from a place in a list to its closing parenthesis. Between two fields is one comma, or there are slashes, with no comma beside them.
pub data SpellsList : Before → List ℕ → Format → Type 0 where
  over_blank : {b : Before} {t : List ℕ} {f : Format} → SpellsList b t f → SpellsList b (blank ∷ t) f
  the_end : {b : Before} → SpellsList b (right_paren ∷ []) close
  a_slash : {b : Before} {t : List ℕ} {f : Format} → SpellsList no_field t f → SpellsList b (stroke ∷ t) (slash f)
  comma_between : {t : List ℕ} {f : Format} → BeginsWithField f → SpellsList no_field t f → SpellsList a_field (comma ∷ t) f
  -- Iw
  one_number : {w : ℕ} {t u : List ℕ} {f : Format} → Number t w → SpellsList a_field u f → SpellsList no_field (letter_i ∷ (t ++ u)) (number 1 w f)
  -- rIw
  numbers : {r w : ℕ} {s t u : List ℕ} {f : Format} → Number s r → Number t w → SpellsList a_field u f
      → SpellsList no_field (s ++ (letter_i ∷ (t ++ u))) (number r w f)
  -- nX
  a_skip : {n : ℕ} {s u : List ℕ} {f : Format} → Number s n → SpellsList a_field u f → SpellsList no_field (s ++ (letter_x ∷ u)) (skip n f)
  -- nH and n columns, whatever they hold
  a_text : {s u : List ℕ} {f : Format} (cs : List ℕ) → Number s (length cs) → SpellsList a_field u f
      → SpellsList no_field (s ++ (letter_h ∷ (cs ++ u))) (text cs f)
  -- (list)
  one_group : {t u : List ℕ} {inner f : Format} → NotEmpty inner → SpellsList no_field t inner → SpellsList a_field u f
      → SpellsList no_field (left_paren ∷ (t ++ u)) (group 1 inner f)
  -- r(list)
  groups : {r : ℕ} {s t u : List ℕ} {inner f : Format} → Number s r → NotEmpty inner → SpellsList no_field t inner → SpellsList a_field u f
      → SpellsList no_field (s ++ (left_paren ∷ (t ++ u))) (group r inner f)

-- ---- the statement

-- FORMAT and (, a list with its closing parenthesis, and then blanks only
pub record Spells (columns : List ℕ) (f : Format) : Type 0 where
  pub head : List ℕ
  pub list : List ℕ
  pub tail : List ℕ
  pub is : columns ≡ head ++ (list ++ tail)
  pub word : without_blanks head ≡ opening
  pub spelled : SpellsList no_field list f
  pub some : NotEmpty f
  pub blanks : without_blanks tail ≡ []

-- ---- the columns of a tree's own

-- a comma before a field that stands right after a field
abbrev pub parted : Format → List ℕ → List ℕ
parted close t = t
parted (number r w f) t = comma ∷ t
parted (skip n f) t = comma ∷ t
parted (text cs f) t = comma ∷ t
parted (slash f) t = t
parted (group r inner f) t = comma ∷ t

abbrev pub punch_list : Format → List ℕ
punch_list close = right_paren ∷ []
punch_list (number r w f) = numeral r ++ (letter_i ∷ (numeral w ++ parted f (punch_list f)))
punch_list (skip n f) = numeral n ++ (letter_x ∷ parted f (punch_list f))
punch_list (text cs f) = numeral (length cs) ++ (letter_h ∷ (cs ++ parted f (punch_list f)))
punch_list (slash f) = stroke ∷ punch_list f
punch_list (group r inner f) = numeral r ++ (left_paren ∷ (punch_list inner ++ parted f (punch_list f)))

unfoldable pub punch : Format → List ℕ
punch f = opening ++ punch_list f

-- the trees that can be punched: no list is empty, and counts, widths and the lengths of H fields are numbers of a FORMAT
abbrev pub PunchableList : Format → Type 0
PunchableList close = Unit {0}
PunchableList (number r w f) = IsNumber r × IsNumber w × PunchableList f
PunchableList (skip n f) = IsNumber n × PunchableList f
PunchableList (text cs f) = IsNumber (length cs) × PunchableList f
PunchableList (slash f) = PunchableList f
PunchableList (group r inner f) = IsNumber r × NotEmpty inner × PunchableList inner × PunchableList f

pub record Punchable (f : Format) : Type 0 where
  pub some : NotEmpty f
  pub list : PunchableList f

-- ---- H fields

-- t stands in the columns as one run
pub record Stands (columns t : List ℕ) : Type 0 where
  pub before : List ℕ
  pub after : List ℕ
  pub is : columns ≡ before ++ (t ++ after)

-- every H field stands in the columns
abbrev pub TextsStand : List ℕ → Format → Type 0
TextsStand columns close = Unit {0}
TextsStand columns (number r w f) = TextsStand columns f
TextsStand columns (skip n f) = TextsStand columns f
TextsStand columns (text cs f) = Stands columns cs × TextsStand columns f
TextsStand columns (slash f) = TextsStand columns f
TextsStand columns (group r inner f) = TextsStand columns inner × TextsStand columns f
