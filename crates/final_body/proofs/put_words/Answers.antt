-- `final_body::put_words` meets its contract: each word after those that are written. Assumes nothing.
use native.Mathlib.Omega.{arith}
use lib.Seq.{length-take-le}
use Rattle.final_body.proofs.Words.{put_none, put_long, put_next, put_as, put_word, put_whole, words_more}
use Rattle.final_body.proofs.put_words.Goals as goal

pub loop-word-init : goal.loop-word-init
loop-word-init c = put_none c.args.part.now 0 (omega arith)

pub loop-word-preserved : goal.loop-word-preserved
loop-word-preserved c =
    let p = c.loop-word.invariant in
    let l = length-take-le c.loop-word.word-index c.args.words.now (omega arith) in
    put_as (words_more c.args.words.now c.loop-word.word-index c.loop-word-test.true)
    (put_next p (put_word c.loop-word.part c.loop-word.at _ (omega (arith, put_long p, p.ends, l, c.requires)) c.store.ensures))

pub returns : goal.returns
returns c = put_whole c.args.words.now c.loop-word.word-index (omega (arith, c.loop-word-test.false)) c.requires c.loop-word.invariant
