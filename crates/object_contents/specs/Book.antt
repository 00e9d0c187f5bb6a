-- The book's object: the words at their places. Assumes nothing.
use Rattle.rules_object.specs.Object as book
use Rattle.object_contents.specs.Layout.{object_at}
use Rattle.object_contents.specs.declared.placed.Object.{Object}

abbrev pub book_of : Object → book.Object
book_of o = object_at o.layout o.bytes.now
