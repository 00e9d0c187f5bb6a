-- What an object's lists must be for its bytes to hold them: words, signed words, names of eight bytes, and code; no list that its edition has no body for.
-- Assumes nothing.
use Rattle.std.specs.Prelude.{◌≡◌, ℕ, ◌^◌, ◌<◌, [], length, ℤ, pos, negsuc}
use Rattle.rules_object.specs.Object.{SubscriptEntry, Element, Loop, Line, Named, ListItem, Transfer, Object}
use Rattle.rules_object.specs.Bytes.{object_bytes}
use Rattle.rules_shared.specs.Lists.{Each}

abbrev pub IsByte : ℕ → Type 0
IsByte b = b < 256

abbrev pub IsWord : ℕ → Type 0
IsWord w = w < 2 ^ 32

abbrev pub IsSigned : ℤ → Type 0
IsSigned (pos n) = n < 2 ^ 31
IsSigned (negsuc n) = n < 2 ^ 31

pub record WritableSubscript (s : SubscriptEntry) : Type 0 where
  pub times : IsWord s.times
  pub cell : IsWord s.cell
  pub plus : IsSigned s.plus

pub record WritableElement (e : Element) : Type 0 where
  pub base : IsWord e.base
  pub rows : IsWord e.rows
  pub columns : IsWord e.columns
  pub first : WritableSubscript e.first
  pub second : WritableSubscript e.second

pub record WritableLoop (d : Loop) : Type 0 where
  pub variable : IsWord d.variable
  pub limit : IsWord d.limit
  pub step : IsWord d.step
  pub body : IsWord d.body

pub record WritableLine (l : Line) : Type 0 where
  pub sequence : IsWord l.sequence
  pub number : IsWord l.number
  pub address : IsWord l.address

pub record WritableNamed (n : Named) : Type 0 where
  pub eight : length n.name ≡ 8
  pub bytes : Each IsByte n.name
  pub first : IsWord n.first
  pub rows : IsWord n.rows
  pub columns : IsWord n.columns

pub record WritableItem (i : ListItem) : Type 0 where
  pub first : IsWord i.first
  pub count : IsWord i.count

pub record WritableTransfer (t : Transfer) : Type 0 where
  pub format : IsWord t.format
  pub first : IsWord t.first
  pub count : IsWord t.count

-- edition 1 has no bodies for READ and PRINT
pub record NoTransfers (o : Object) : Type 0 where
  pub formats : o.formats ≡ []
  pub items : o.items ≡ []
  pub transfers : o.transfers ≡ []

pub data Edition (o : Object) : Type 0 where
  one : o.edition ≡ 1 → NoTransfers o → Edition o
  two : o.edition ≡ 2 → Edition o

pub record Writable (o : Object) : Type 0 where
  pub edition : Edition o
  pub digits : IsWord o.digits
  pub cells : IsWord o.cells
  pub constants : Each IsWord o.constants
  pub elements : Each WritableElement o.elements
  pub exits : Each IsWord o.exits
  pub dos : Each WritableLoop o.dos
  pub code : Each IsWord o.code
  pub lines : Each WritableLine o.lines
  pub names : Each WritableNamed o.names
  pub formats : Each IsWord o.formats
  pub items : Each WritableItem o.items
  pub transfers : Each WritableTransfer o.transfers
  pub some_code : 0 < length o.code
  -- so that each body's first byte is a word
  pub small : length (object_bytes o) < 2 ^ 32
