-- `run_reads::read_cards` meets its contract. Assumes nothing.
use mathlib.Core.Path.{subst}
use Prim.Native.Nat.{◌<◌}
use native.Mathlib.Omega.{arith}
use lib.ListN.{length}
use Rattle.std.specs.Prelude.{Ok}
use Rattle.std.proofs.lemmas.Result.{err_from_is_err_and}
use Rattle.rules_formats.specs.Walk.{cards_of}
use Rattle.run_reads.specs.Takes.{Takes}
use Rattle.run_reads.proofs.ReadingLaws.{card_of_bytes, reading_begins, whole_cards, ran_out_lem, reads_stop, reads_last, reads_more}
use Rattle.run_reads.proofs.read_cards.Goals as goal

pub loop-n-init : goal.loop-n-init
loop-n-init c =
    reading_begins c.args.o.now c.args.cards.now c.args.taken c.args.start.word c.args.start.list c.args.store.now c.requires.stored c.requires.taken_in_bounds c.requires.scanning c.requires.reached

pub returns-in_err-next : goal.returns-in_err-next
returns-in_err-next c =
    let o = c.args.o.now in
    let so = c.args.store.now in
    let s = c.args.start in
    let bytes = c.args.cards.now in
    let first = c.args.taken in
    let lp = c.loop-n in
    let all = whole_cards o bytes first s.word s.list so in
    let below : lp.n < length (cards_of bytes) = omega (arith, all, c.loop-n-test.true) in
    let p = err_from_is_err_and c.from_residual.result c.from_residual.ensures.1 in
    rw (p.1, p.2) (reads_stop o bytes first s.word s.list so lp.store lp.n lp.at.word lp.at.list lp.invariant below c.read_card.new.store _ c.in_err-next.ensures)

pub returns-in_default : goal.returns-in_default
returns-in_default c =
    let o = c.args.o.now in
    let so = c.args.store.now in
    let s = c.args.start in
    let bytes = c.args.cards.now in
    let first = c.args.taken in
    let lp = c.loop-n in
    let all = whole_cards o bytes first s.word s.list so in
    let below : lp.n < length (cards_of bytes) = omega (arith, all, c.loop-n-test.true) in
    reads_last o bytes first s.word s.list so lp.store lp.n lp.at.word lp.at.list lp.invariant below c.read_card.new.store (subst (λ r. Takes o lp.at lp.store (card_of_bytes bytes lp.n) c.read_card.new.store (Ok r)) c.in_default.is c.in_ok-next.ensures)

pub loop-n-preserved : goal.loop-n-preserved
loop-n-preserved c =
    let o = c.args.o.now in
    let so = c.args.store.now in
    let s = c.args.start in
    let bytes = c.args.cards.now in
    let first = c.args.taken in
    let lp = c.loop-n in
    let all = whole_cards o bytes first s.word s.list so in
    let below : lp.n < length (cards_of bytes) = omega (arith, all, c.loop-n-test.true) in
    reads_more o bytes first s.word s.list so lp.store lp.n lp.at.word lp.at.list lp.invariant below c.read_card.new.store c.in-Some.next.word c.in-Some.next.list (subst (λ r. Takes o lp.at lp.store (card_of_bytes bytes lp.n) c.read_card.new.store (Ok r)) c.in-Some.is c.in_ok-next.ensures)

pub returns : goal.returns
returns c =
    let o = c.args.o.now in
    let so = c.args.store.now in
    let s = c.args.start in
    let bytes = c.args.cards.now in
    let first = c.args.taken in
    let lp = c.loop-n in
    let all = whole_cards o bytes first s.word s.list so in
    ran_out_lem o bytes first s.word s.list so lp.store lp.n lp.at.word lp.at.list lp.invariant (omega (arith, all, c.loop-n-test.false))
