-- `run_reads::read` meets its contract. Assumes nothing.
use mathlib.Core.Path.{◌∙◌, subst}
use mathlib.Core.List.{List}
use lib.ListN.{drop}
use lib.IntN.{ℤ}
use Rattle.std.specs.Prelude.{Ok, Err}
use Rattle.rules_formats.specs.Walk.{Outcome, Taken, cards_of}
use Rattle.object_contents.specs.Book.{book_of}
use Rattle.run_reads.specs.Takes.{Result}
use Rattle.run_reads.proofs.CopyLaws.{put_back}
use Rattle.run_reads.proofs.ReadingLaws.{as_read_by, reads_well, reads_ill}
use Rattle.run_reads.proofs.read.Goals as goal

pub returns-in-Ok : goal.returns-in-Ok
returns-in-Ok c =
    let o = c.args.o.now in
    let so = c.args.store.now in
    let bytes = c.args.cards.now in
    let first = c.args.taken in
    let st = c.start_of.result in
    let after = c.read_cards.new.store in
    let is = as_read_by (book_of o) c.args.x c.requires.x_value st c.start_of.ensures.is o.rule so (drop first (cards_of bytes)) in
    subst (λ (out : Outcome (Taken (List ℤ))). Result bytes first out so after (Ok c.in-Ok.n)) is (reads_well o bytes first st.word st.list so after c.in-Ok.n c.in-Ok.ensures)

pub returns-in-Err : goal.returns-in-Err
returns-in-Err c =
    let o = c.args.o.now in
    let so = c.args.store.now in
    let bytes = c.args.cards.now in
    let first = c.args.taken in
    let st = c.start_of.result in
    let after = c.read_cards.new.store in
    let is = as_read_by (book_of o) c.args.x c.requires.x_value st c.start_of.ensures.is o.rule so (drop first (cards_of bytes)) in
    let n = o.layout.cells in
    let kept = c.args.kept.now in
    let back = c.copy-in-Err.ensures ∙ put_back n so after kept _ c.requires.stored.long c.copy.ensures c.read_cards.ensures.kept.rest in
    subst (λ (out : Outcome (Taken (List ℤ))). Result bytes first out so c.copy-in-Err.new.to (Err c.in-Err.halt)) is (reads_ill o bytes first st.word st.list so after _ c.in-Err.halt c.in-Err.ensures back)
