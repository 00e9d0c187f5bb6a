-- The object: its edition, the digits, the cell count and ten lists, the last three of edition 2. 01 "Object", 2026-01.
-- Assumes nothing.
use Rattle.std.specs.Prelude.{ℕ, List, ℤ}
use Rattle.number.specs.Number.{Rule, digits_rule}

-- multiplier, cell and signed addend
pub record SubscriptEntry : Type 0 where
  pub times : ℕ
  pub cell : ℕ
  pub plus : ℤ

pub record Element : Type 0 where
  pub base : ℕ
  pub rows : ℕ
  pub columns : ℕ
  pub first : SubscriptEntry
  pub second : SubscriptEntry

-- a DO: the cells of its variable, limit and step, and its body's address
pub record Loop : Type 0 where
  pub variable : ℕ
  pub limit : ℕ
  pub step : ℕ
  pub body : ℕ

-- an executable statement, or END
pub record Line : Type 0 where
  pub sequence : ℕ
  pub number : ℕ
  pub address : ℕ

-- eight bytes, blank-filled; rows and columns are 0 for a plain name, columns 0 for one dimension
pub record Named : Type 0 where
  pub name : List ℕ
  pub first : ℕ
  pub rows : ℕ
  pub columns : ℕ

-- an item of a READ's or PRINT's list: the first of so many cells; or, with the count 0, an element's entry
pub record ListItem : Type 0 where
  pub first : ℕ
  pub count : ℕ

-- a READ or PRINT: the index of its FORMAT's first word, its first item and how many it has
pub record Transfer : Type 0 where
  pub format : ℕ
  pub first : ℕ
  pub count : ℕ

pub record Object : Type 0 where
  pub edition : ℕ
  pub digits : ℕ
  pub cells : ℕ
  pub constants : List ℕ
  pub elements : List Element
  pub exits : List ℕ
  pub dos : List Loop
  pub code : List ℕ
  pub lines : List Line
  pub names : List Named
  pub formats : List ℕ
  pub items : List ListItem
  pub transfers : List Transfer

abbrev pub rule_of : Object → Rule
rule_of o = digits_rule o.digits
