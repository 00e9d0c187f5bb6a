-- What the code's functions answer of FORMATs and lists, in the book's words.
-- Assumes nothing.
use Rattle.rules_object.specs.Object.{ListItem}

-- the entry that stands in for those outside body 9
abbrev pub no_item : ListItem
no_item = record { first = 0; count = 0 }
