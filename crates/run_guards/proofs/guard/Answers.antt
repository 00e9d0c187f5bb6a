-- `run_guards::guard` meets its contract. Assumes nothing.
use mathlib.Core.Path.{sym, ◌∙◌}
use native.Mathlib.Omega.{arith}
use Rattle.object_contents.specs.Book.{book_of}
use Rattle.run_guards.proofs.Guards.{word_in_table, guard_past, guard_43, guard_42, guard_room}
use Rattle.run_guards.proofs.guard.Goals as goal

pub returns-then-o-r : goal.returns-then-o-r
returns-then-o-r c = let o = c.args.o.now in guard_past o.layout o.bytes.now c.args.r.index c.args.r.height c.if-o-r.true

pub returns-then-not-word_right : goal.returns-then-not-word_right
returns-then-not-word_right c =
    let o = c.args.o.now in
    guard_43 o.layout o.bytes.now c.args.r.index c.args.r.height c.if-o-r.false _ c.load-w.ensures (sym c.word_right.ensures ∙ c.if-not-word_right.true)

pub returns-then-not-entry_right : goal.returns-then-not-entry_right
returns-then-not-entry_right c =
    let o = c.args.o.now in
    guard_42 o.layout o.bytes.now c.args.r.index c.args.r.height c.if-o-r.false _ c.load-w.ensures (sym c.word_right.ensures ∙ c.if-not-word_right.false) (sym c.entry_right.ensures ∙ c.if-not-entry_right.true)

pub room-requires : goal.room-requires
room-requires c =
    let w = (word_in_table (book_of c.args.o.now) c.load-w.result (sym c.word_right.ensures ∙ c.if-not-word_right.false)).0 in
    (omega (arith, w, c.operation.ensures.0), c.requires)

pub returns : goal.returns
returns c =
    let o = c.args.o.now in
    c.room.ensures ∙ guard_room o.layout o.bytes.now c.args.r.index c.args.r.height c.if-o-r.false _ c.load-w.ensures (sym c.word_right.ensures ∙ c.if-not-word_right.false) (sym c.entry_right.ensures ∙ c.if-not-entry_right.false) _ c.operation.ensures.0
