-- `final_writer::write` meets its contract: the contents and the bodies are the object, and the answer is the book's. Assumes nothing.
use mathlib.Core.Path.{◌∙◌}
use native.Mathlib.Omega.{arith}
use lib.ListN.{length-map}
use Rattle.rules_object.specs.Bytes.{bytes_of}
use Rattle.final_body.specs.Bodies.{tables}
use Rattle.final_contents.specs.Contents.{words_of_bodies}
use Rattle.final_writer.proofs.Whole.{too_short, length_whole, both_parts}
use Rattle.final_writer.proofs.write.Goals as goal

pub returns-then-out-end : goal.returns-then-out-end
returns-then-out-end c =
    let g = c.args in
    let size = length_whole g.k g.cells (tables g.bodies.now) (length-map g.bodies.now (λ b. b.now) ∙ c.told-bodies) in
    (too_short (bytes_of (words_of_bodies g.k g.cells (tables g.bodies.now))) g.out.now (omega (arith, c.if-out-end.true, c.end_of-end.ensures, size)), tt)

pub returns : goal.returns
returns c =
    let g = c.args in
    (both_parts g.k g.cells (tables g.bodies.now) (length-map g.bodies.now (λ b. b.now) ∙ c.told-bodies) c.end_of-end.ensures c.if-out-end.false c.put_contents.ensures c.put_bodies.ensures, omega (arith, c.end_of-end.ensures, c.requires))
