-- The words of an object of the edition that is written, by its bodies.
-- Assumes nothing.
use mathlib.Core.Path.{◌≡◌}
use Rattle.rules_object.specs.Object.{Object}
use Rattle.rules_object.specs.Kinds.{edition}
use Rattle.rules_object.specs.Bytes.{bytes_of, body_words, object_words, object_bytes}
use Rattle.final_contents.specs.Contents.{words_of_bodies}

object_words_lem : (o : Object) → o.edition ≡ edition → object_words o ≡ words_of_bodies o.digits o.cells (body_words o)
unfolding object_words words_of_bodies
object_words_lem o e = rw e

pub object_bytes_lem : (o : Object) → o.edition ≡ edition → object_bytes o ≡ bytes_of (words_of_bodies o.digits o.cells (body_words o))
unfolding object_bytes
object_bytes_lem o e = rw (object_words_lem o e)
