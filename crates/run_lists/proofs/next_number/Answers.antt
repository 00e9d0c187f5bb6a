-- `run_lists::next_number` meets its contract. Assumes nothing.
use mathlib.Core.Path.{◌≡◌, sym, ap, ◌∙◌}
use native.Mathlib.Omega.{arith}
use Rattle.object_contents.specs.Layout.{object_at}
use Rattle.object_contents.specs.Book.{book_of}
use Rattle.object_contents.proofs.Entries.{item_inside, element_inside}
use Rattle.std.specs.Prelude.{Option, None, Err}
use Rattle.std.specs.Result.{result_ok}
use Rattle.std.specs.Option.{ok_or}
use Rattle.std.proofs.lemmas.Result.{err_from_is_err_and}
use Rattle.object_opcodes.specs.declared.Halt.TheVariants.{BadSubscript}
use Rattle.refusals.specs.Answers.{maybe}
use Prim.Native.Nat.{ℕ}
use Rattle.run_lists.proofs.Lists.{no_item, in_span, at_end_lem, new_span, item_is, items_inside, entry_below, entry_in, found_nowhere, found_at}
use Rattle.run_lists.proofs.next_number.Goals as goal

pub overflow_add-rest : goal.overflow_add-rest
unfolding object_at
overflow_add-rest c =
    omega (arith, c.requires.reached.cells, c.requires.stored.few, c.if-c-gt0.true)

pub returns-then-c-gt0 : goal.returns-then-c-gt0
returns-then-c-gt0 c =
    let o = c.args.o.now in
    let q = c.args.c in
    let r = c.requires.reached in
    in_span (book_of o) c.args.store.now q r c.if-c-gt0.true

pub returns-then-c-eq0 : goal.returns-then-c-eq0
returns-then-c-eq0 c =
    let o = c.args.o.now in
    let q = c.args.c in
    let r = c.requires.reached in
    at_end_lem (book_of o) c.args.store.now q r (omega (arith, c.if-c-gt0.false)) c.if-c-eq0.true

pub overflow_mul-b : goal.overflow_mul-b
overflow_mul-b c =
    let o = c.args.o.now in
    let q = c.args.c in
    let r = c.requires.reached in
    let below = items_inside o.layout o.bytes.now q r c.if-c-eq0.false in
    let inside = item_inside o.layout o.bytes.now o.placed q.item below in
    omega (arith, inside, c.well_formed)

pub overflow_add-b : goal.overflow_add-b
overflow_add-b c =
    let o = c.args.o.now in
    let q = c.args.c in
    let r = c.requires.reached in
    let below = items_inside o.layout o.bytes.now q r c.if-c-eq0.false in
    let inside = item_inside o.layout o.bytes.now o.placed q.item below in
    omega (arith, inside, c.well_formed)

pub overflow_add-b-2 : goal.overflow_add-b-2
overflow_add-b-2 c =
    let o = c.args.o.now in
    let q = c.args.c in
    let r = c.requires.reached in
    let below = items_inside o.layout o.bytes.now q r c.if-c-eq0.false in
    let inside = item_inside o.layout o.bytes.now o.placed q.item below in
    omega (arith, inside, c.well_formed)

pub overflow_add-rest-2 : goal.overflow_add-rest-2
overflow_add-rest-2 c =
    let o = c.args.o.now in
    let q = c.args.c in
    let r = c.requires.reached in
    let below = items_inside o.layout o.bytes.now q r c.if-c-eq0.false in
    let inside = item_inside o.layout o.bytes.now o.placed q.item below in
    omega (arith, inside, c.well_formed)

pub load-first-requires : goal.load-first-requires
load-first-requires c =
    let o = c.args.o.now in
    let q = c.args.c in
    let r = c.requires.reached in
    let below = items_inside o.layout o.bytes.now q r c.if-c-eq0.false in
    let inside = item_inside o.layout o.bytes.now o.placed q.item below in
    omega (arith, inside)

pub load-count-requires : goal.load-count-requires
load-count-requires c =
    let o = c.args.o.now in
    let q = c.args.c in
    let r = c.requires.reached in
    let below = items_inside o.layout o.bytes.now q r c.if-c-eq0.false in
    let inside = item_inside o.layout o.bytes.now o.placed q.item below in
    omega (arith, inside)

pub returns-then-count-gt0 : goal.returns-then-count-gt0
returns-then-count-gt0 c =
    let o = c.args.o.now in
    let q = c.args.c in
    let r = c.requires.reached in
    let below = items_inside o.layout o.bytes.now q r c.if-c-eq0.false in
    let so = c.args.store.now in
    let z : q.cells ≡ 0 = omega (arith, c.if-c-gt0.false) in
    let f = c.if-c-eq0.false in
    let a = c.load-first.result in
    let n = c.load-count.result in
    let is = item_is o.layout o.bytes.now q.item a n below c.load-first.ensures c.load-count.ensures in
    new_span (book_of o) so q r z f no_item a n is c.if-count-gt0.true

pub overflow_mul-entry : goal.overflow_mul-entry
overflow_mul-entry c =
    let o = c.args.o.now in
    let q = c.args.c in
    let r = c.requires.reached in
    let below = items_inside o.layout o.bytes.now q r c.if-c-eq0.false in
    let so = c.args.store.now in
    let z : q.cells ≡ 0 = omega (arith, c.if-c-gt0.false) in
    let f = c.if-c-eq0.false in
    let a = c.load-first.result in
    let n = c.load-count.result in
    let is = item_is o.layout o.bytes.now q.item a n below c.load-first.ensures c.load-count.ensures in
    let empty : n ≡ 0 = omega (arith, c.if-count-gt0.false) in
    let there = entry_below o so c.requires.stored q r z f a n is empty in
    let bytes = element_inside o.layout o.bytes.now o.placed a there in
    omega (arith, bytes, c.well_formed)

pub overflow_add-entry : goal.overflow_add-entry
overflow_add-entry c =
    let o = c.args.o.now in
    let q = c.args.c in
    let r = c.requires.reached in
    let below = items_inside o.layout o.bytes.now q r c.if-c-eq0.false in
    let so = c.args.store.now in
    let z : q.cells ≡ 0 = omega (arith, c.if-c-gt0.false) in
    let f = c.if-c-eq0.false in
    let a = c.load-first.result in
    let n = c.load-count.result in
    let is = item_is o.layout o.bytes.now q.item a n below c.load-first.ensures c.load-count.ensures in
    let empty : n ≡ 0 = omega (arith, c.if-count-gt0.false) in
    let there = entry_below o so c.requires.stored q r z f a n is empty in
    let bytes = element_inside o.layout o.bytes.now o.placed a there in
    omega (arith, bytes, c.well_formed)

pub element_place-requires : goal.element_place-requires
element_place-requires c =
    let o = c.args.o.now in
    let q = c.args.c in
    let r = c.requires.reached in
    let below = items_inside o.layout o.bytes.now q r c.if-c-eq0.false in
    let so = c.args.store.now in
    let z : q.cells ≡ 0 = omega (arith, c.if-c-gt0.false) in
    let f = c.if-c-eq0.false in
    let a = c.load-first.result in
    let n = c.load-count.result in
    let is = item_is o.layout o.bytes.now q.item a n below c.load-first.ensures c.load-count.ensures in
    let empty : n ≡ 0 = omega (arith, c.if-count-gt0.false) in
    entry_in o so c.requires.stored q r z f a n is empty

pub returns-in_err-n : goal.returns-in_err-n
returns-in_err-n c =
    let o = c.args.o.now in
    let q = c.args.c in
    let r = c.requires.reached in
    let below = items_inside o.layout o.bytes.now q r c.if-c-eq0.false in
    let so = c.args.store.now in
    let z : q.cells ≡ 0 = omega (arith, c.if-c-gt0.false) in
    let f = c.if-c-eq0.false in
    let a = c.load-first.result in
    let n = c.load-count.result in
    let is = item_is o.layout o.bytes.now q.item a n below c.load-first.ensures c.load-count.ensures in
    let empty : n ≡ 0 = omega (arith, c.if-count-gt0.false) in
    let none : c.element_place.result ≡ None = c.ok_or.ensures.ok_part ∙ ap result_ok c.in_err-n.was in
    let bad : c.ok_or.result ≡ Err BadSubscript = c.ok_or.ensures.value ∙ ap (λ (r : Option ℕ). ok_or r BadSubscript) none in
    let p = err_from_is_err_and c.from_residual.result c.from_residual.ensures.1 in
    rw (p.1, p.2) (found_nowhere o so c.requires.stored q r z f a n is empty (sym c.element_place.ensures ∙ ap (maybe (λ (k : ℕ). k)) none), cc (bad, c.in_err-n.was))

pub load-requires : goal.load-requires
load-requires c =
    let o = c.args.o.now in
    let q = c.args.c in
    let r = c.requires.reached in
    let below = items_inside o.layout o.bytes.now q r c.if-c-eq0.false in
    let so = c.args.store.now in
    let z : q.cells ≡ 0 = omega (arith, c.if-c-gt0.false) in
    let f = c.if-c-eq0.false in
    let a = c.load-first.result in
    let n = c.load-count.result in
    let is = item_is o.layout o.bytes.now q.item a n below c.load-first.ensures c.load-count.ensures in
    let empty : n ≡ 0 = omega (arith, c.if-count-gt0.false) in
    let there = entry_below o so c.requires.stored q r z f a n is empty in
    let bytes = element_inside o.layout o.bytes.now o.placed a there in
    omega (arith, bytes)

pub overflow_add-result : goal.overflow_add-result
unfolding object_at
overflow_add-result c =
    let o = c.args.o.now in
    let q = c.args.c in
    let r = c.requires.reached in
    let below = items_inside o.layout o.bytes.now q r c.if-c-eq0.false in
    let so = c.args.store.now in
    let z : q.cells ≡ 0 = omega (arith, c.if-c-gt0.false) in
    let f = c.if-c-eq0.false in
    let a = c.load-first.result in
    let n = c.load-count.result in
    let is = item_is o.layout o.bytes.now q.item a n below c.load-first.ensures c.load-count.ensures in
    let empty : n ≡ 0 = omega (arith, c.if-count-gt0.false) in
    let p = found_at o so c.requires.stored q r z f a n is empty c.in_ok-n.n c.load.result c.load.ensures (sym c.element_place.ensures ∙ ap (maybe (λ (k : ℕ). k)) (c.ok_or.ensures.ok_part ∙ ap result_ok c.in_ok-n.was)) in
    omega (arith, p.inside, c.requires.stored.few)

pub returns : goal.returns
returns c =
    let o = c.args.o.now in
    let q = c.args.c in
    let r = c.requires.reached in
    let below = items_inside o.layout o.bytes.now q r c.if-c-eq0.false in
    let so = c.args.store.now in
    let z : q.cells ≡ 0 = omega (arith, c.if-c-gt0.false) in
    let f = c.if-c-eq0.false in
    let a = c.load-first.result in
    let n = c.load-count.result in
    let is = item_is o.layout o.bytes.now q.item a n below c.load-first.ensures c.load-count.ensures in
    let empty : n ≡ 0 = omega (arith, c.if-count-gt0.false) in
    let p = found_at o so c.requires.stored q r z f a n is empty c.in_ok-n.n c.load.result c.load.ensures (sym c.element_place.ensures ∙ ap (maybe (λ (k : ℕ). k)) (c.ok_or.ensures.ok_part ∙ ap result_ok c.in_ok-n.was)) in
    p
