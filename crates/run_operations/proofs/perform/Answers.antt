-- `run_operations::perform` meets its contract. Assumes nothing.
use mathlib.Core.Path.{◌≡◌, sym, ap, ◌∙◌, subst}
use Prim.Native.Nat.{ℕ, zero, suc, ◌+◌, ◌-◌, ◌≤◌, ◌<◌}
use mathlib.Core.List.{List}
use native.Mathlib.Omega.{arith}
use lib.IntN.{pos, ℤ}
use mir.Syntax.{w64}
use mir.Val.{to_z, of_z}
use mir.Facts.{to_z-of_z}
use Rattle.rules_object.specs.Object.{Object, rule_of}
use Rattle.object_contents.specs.Book.{book_of}
use Rattle.rules_object.specs.Operations.{meant}
use Rattle.rules_object.specs.Machine.{cell, place_of}
use Rattle.rules_shared.specs.Choose.{positive, all_positive}
use Rattle.object_contents.specs.Layout.{element_at, loop_at}
use Rattle.run_operations.proofs.Known.{two, small, con_in, con_is, con_whole, con_small, lod_in, sto_in, element_is, lde_in, ste_in, loop_is, doi_in, doe_in, br3_in, br3_whole, br3_is, brc_in, brc_whole, brc_is}
use Rattle.run_arithmetic.specs.Performed.{after, performed, pushed, popped, loaded, put, branched, begun, ended}
use Rattle.run_operations.specs.Ready.{Ready}
use Rattle.run_registers.specs.declared.Regs.{Regs}
use Rattle.run_registers.specs.declared.Turn.TheVariants.{Transfer}
use Rattle.std.proofs.iter.Serving.{serving}
use Rattle.run_operations.proofs.perform.Goals as goal

-- the match found the operation k: what is known of it, and what it does
ready : (b : Object) (op k x h : ℕ) → op ≡ k → Ready b op x h → Ready b k x h
ready b op k x h q y = subst (λ n. Ready b n x h) q y

found : (b : Object) (op k x : ℕ) (r : Regs) (st so : List ℤ) → op ≡ k
    → performed (rule_of b) (meant b k x) r st so ≡ performed (rule_of b) (meant b op x) r st so
found b op k x r st so q = sym (ap (λ n. performed (rule_of b) (meant b n x) r st so) q)

-- READ and PRINT are left
left : (b : Object) (op x : ℕ) (r : Regs) (st so : List ℤ) → 16 ≤ op → op < 18 → after Transfer st so ≡ performed (rule_of b) (meant b op x) r st so
left b op x r st so l m = by (op - 16) (omega arith) (omega arith)
  where
    by : (k : ℕ) → k + 16 ≡ op → k < 2 → after Transfer st so ≡ performed (rule_of b) (meant b op x) r st so
    by zero q h = found b op 16 x r st so (sym q)
    by (suc zero) q h = found b op 17 x r st so (sym q)
    by (suc (suc k)) q h = absurd (omega arith)

pub load-v-requires : goal.load-v-requires
load-v-requires c =
    let a = c.args in
    let st = c.args.stack.now in
    let so = c.args.store.now in
    let r = c.args.r in
    let x = c.args.x in
    let H = c.requires.held in
    let y = ready (book_of c.args.o.now) c.args.op 1 c.args.x c.args.r.height c.in-1.is c.requires.ready in
    con_whole a.o.now r st so H x (con_in a.o.now r st so H x y)

pub slice_copy_out-v : goal.slice_copy_out-v
slice_copy_out-v c =
    let a = c.args in
    let st = c.args.stack.now in
    let so = c.args.store.now in
    let r = c.args.r in
    let x = c.args.x in
    let H = c.requires.held in
    let y = ready (book_of c.args.o.now) c.args.op 2 c.args.x c.args.r.height c.in-2.is c.requires.ready in
    lod_in a.o.now r st so H x y

pub push-requires-in-2 : goal.push-requires-in-2
push-requires-in-2 c =
    let y = ready (book_of c.args.o.now) c.args.op 2 c.args.x c.args.r.height c.in-2.is c.requires.ready in
    (omega (arith, y.pushed), c.requires.index_bound.0)

pub store_top-requires : goal.store_top-requires
store_top-requires c =
    let a = c.args in
    let st = c.args.stack.now in
    let so = c.args.store.now in
    let r = c.args.r in
    let x = c.args.x in
    let H = c.requires.held in
    let y = ready (book_of c.args.o.now) c.args.op 3 c.args.x c.args.r.height c.in-3.is c.requires.ready in
    (omega (arith, y.popped), c.requires.held.low, c.requires.index_bound.0, sto_in a.o.now r st so H x y)

pub do_lde-requires-clause-element_in : goal.do_lde-requires-clause-element_in
do_lde-requires-clause-element_in c =
    let a = c.args in
    let st = c.args.stack.now in
    let so = c.args.store.now in
    let r = c.args.r in
    let x = c.args.x in
    let H = c.requires.held in
    let y = ready (book_of c.args.o.now) c.args.op 4 c.args.x c.args.r.height c.in-4.is c.requires.ready in
    (lde_in a.o.now r st so H x y).1

pub do_ste-requires-clause-element_in : goal.do_ste-requires-clause-element_in
do_ste-requires-clause-element_in c =
    let a = c.args in
    let st = c.args.stack.now in
    let so = c.args.store.now in
    let r = c.args.r in
    let x = c.args.x in
    let H = c.requires.held in
    let y = ready (book_of c.args.o.now) c.args.op 5 c.args.x c.args.r.height c.in-5.is c.requires.ready in
    (ste_in a.o.now r st so H x y).1

pub do_neg-requires-clause-height_bound : goal.do_neg-requires-clause-height_bound
do_neg-requires-clause-height_bound c =
    let a = c.args in
    let st = c.args.stack.now in
    let so = c.args.store.now in
    let r = c.args.r in
    let H = c.requires.held in
    let y = ready (book_of c.args.o.now) c.args.op 10 c.args.x c.args.r.height c.in-10.is c.requires.ready in
    omega (arith, small a.o.now r st so H (r.height - 1))

pub do_br3-requires-clause-b_in_bounds : goal.do_br3-requires-clause-b_in_bounds
do_br3-requires-clause-b_in_bounds c =
    let a = c.args in
    let st = c.args.stack.now in
    let so = c.args.store.now in
    let r = c.args.r in
    let x = c.args.x in
    let H = c.requires.held in
    let y = ready (book_of c.args.o.now) c.args.op 12 c.args.x c.args.r.height c.in-12.is c.requires.ready in
    br3_whole a.o.now r st so H x (br3_in a.o.now r st so H x y)

pub do_brc-requires-clause-b_in_bounds : goal.do_brc-requires-clause-b_in_bounds
do_brc-requires-clause-b_in_bounds c =
    let a = c.args in
    let st = c.args.stack.now in
    let so = c.args.store.now in
    let r = c.args.r in
    let x = c.args.x in
    let H = c.requires.held in
    let y = ready (book_of c.args.o.now) c.args.op 13 c.args.x c.args.r.height c.in-13.is c.requires.ready in
    brc_whole a.o.now r st so H x (brc_in a.o.now r st so H x y)

pub do_doi-requires-clause-loop_in : goal.do_doi-requires-clause-loop_in
do_doi-requires-clause-loop_in c =
    let a = c.args in
    let st = c.args.stack.now in
    let so = c.args.store.now in
    let r = c.args.r in
    let x = c.args.x in
    let H = c.requires.held in
    let y = ready (book_of c.args.o.now) c.args.op 14 c.args.x c.args.r.height c.in-14.is c.requires.ready in
    (doi_in a.o.now r st so H x y).1

pub do_doe-requires-clause-loop_in : goal.do_doe-requires-clause-loop_in
do_doe-requires-clause-loop_in c =
    let a = c.args in
    let st = c.args.stack.now in
    let so = c.args.store.now in
    let r = c.args.r in
    let x = c.args.x in
    let H = c.requires.held in
    let y = ready (book_of c.args.o.now) c.args.op 15 c.args.x c.args.r.height c.in-15.is c.requires.ready in
    (doe_in a.o.now r st so H x y).1

pub returns-in-1 : goal.returns-in-1
returns-in-1 c =
    let a = c.args in
    let st = c.args.stack.now in
    let so = c.args.store.now in
    let r = c.args.r in
    let x = c.args.x in
    let H = c.requires.held in
    let y = ready (book_of c.args.o.now) c.args.op 1 c.args.x c.args.r.height c.in-1.is c.requires.ready in
    let v = c.load-v.ensures in
    let small = con_small a.o.now r st so H x y in
    c.push.ensures so ∙ ap (pushed r st so) (ap (λ z. to_z w64 (of_z w64 z)) c.from.ensures ∙ to_z-of_z {w = w64} (record { sfits = omega (arith, v, small) }) ∙ ap pos (v ∙ sym (con_is a.o.now r st so H x (con_in a.o.now r st so H x y)))) ∙ found (book_of c.args.o.now) c.args.op 1 c.args.x c.args.r c.args.stack.now c.args.store.now c.in-1.is

pub returns-in-2 : goal.returns-in-2
returns-in-2 c =
    let st = c.args.stack.now in
    let so = c.args.store.now in
    let r = c.args.r in
    let x = c.args.x in
    c.push-in-2.ensures so ∙ ap (pushed r st so) (to_z-of_z {w = w64} {z = cell so x} (record { sfits = c.v-1.given })) ∙ found (book_of c.args.o.now) c.args.op 2 c.args.x c.args.r c.args.stack.now c.args.store.now c.in-2.is

pub returns-in-4 : goal.returns-in-4
unfolding element_at
returns-in-4 c =
    let a = c.args in
    let st = c.args.stack.now in
    let so = c.args.store.now in
    let r = c.args.r in
    let x = c.args.x in
    let H = c.requires.held in
    let y = ready (book_of c.args.o.now) c.args.op 4 c.args.x c.args.r.height c.in-4.is c.requires.ready in
    c.do_lde.ensures ∙ ap (λ n. loaded (place_of so n) n.base r st so) (sym (element_is a.o.now r st so H x (lde_in a.o.now r st so H x y).0)) ∙ found (book_of c.args.o.now) c.args.op 4 c.args.x c.args.r c.args.stack.now c.args.store.now c.in-4.is

pub returns-in-5 : goal.returns-in-5
unfolding element_at
returns-in-5 c =
    let a = c.args in
    let st = c.args.stack.now in
    let so = c.args.store.now in
    let r = c.args.r in
    let x = c.args.x in
    let H = c.requires.held in
    let y = ready (book_of c.args.o.now) c.args.op 5 c.args.x c.args.r.height c.in-5.is c.requires.ready in
    c.do_ste.ensures ∙ ap (λ n. put (place_of so n) n.base r st so) (sym (element_is a.o.now r st so H x (ste_in a.o.now r st so H x y).0)) ∙ found (book_of c.args.o.now) c.args.op 5 c.args.x c.args.r c.args.stack.now c.args.store.now c.in-5.is

pub returns-in-10 : goal.returns-in-10
returns-in-10 c =
    let so = c.args.store.now in
    c.do_neg.ensures so ∙ found (book_of c.args.o.now) c.args.op 10 c.args.x c.args.r c.args.stack.now c.args.store.now c.in-10.is

pub returns-in-12 : goal.returns-in-12
returns-in-12 c =
    let a = c.args in
    let st = c.args.stack.now in
    let so = c.args.store.now in
    let r = c.args.r in
    let x = c.args.x in
    let H = c.requires.held in
    let y = ready (book_of c.args.o.now) c.args.op 12 c.args.x c.args.r.height c.in-12.is c.requires.ready in
    c.do_br3.ensures so ∙ ap (popped r st so) (br3_is a.o.now r st so H x (br3_in a.o.now r st so H x y) (cell st (r.height - 1))) ∙ found (book_of c.args.o.now) c.args.op 12 c.args.x c.args.r c.args.stack.now c.args.store.now c.in-12.is

pub returns-in-13 : goal.returns-in-13
returns-in-13 c =
    let a = c.args in
    let st = c.args.stack.now in
    let so = c.args.store.now in
    let r = c.args.r in
    let x = c.args.x in
    let H = c.requires.held in
    let y = ready (book_of c.args.o.now) c.args.op 13 c.args.x c.args.r.height c.in-13.is c.requires.ready in
    c.do_brc.ensures so ∙ ap (λ q. branched q r st so) (brc_is a.o.now r st so H x (brc_in a.o.now r st so H x y) (cell st (r.height - 1))) ∙ found (book_of c.args.o.now) c.args.op 13 c.args.x c.args.r c.args.stack.now c.args.store.now c.in-13.is

pub returns-in-14 : goal.returns-in-14
returns-in-14 c =
    let a = c.args in
    let st = c.args.stack.now in
    let so = c.args.store.now in
    let r = c.args.r in
    let x = c.args.x in
    let H = c.requires.held in
    let y = ready (book_of c.args.o.now) c.args.op 14 c.args.x c.args.r.height c.in-14.is c.requires.ready in
    c.do_doi.ensures ∙ ap (λ d. begun (all_positive (cell st (r.height - 3)) (cell st (r.height - 2)) (cell st (r.height - 1))) d r st so) (sym (loop_is a.o.now r st so H x (doi_in a.o.now r st so H x y).0)) ∙ found (book_of c.args.o.now) c.args.op 14 c.args.x c.args.r c.args.stack.now c.args.store.now c.in-14.is

pub returns-in-15 : goal.returns-in-15
unfolding loop_at
returns-in-15 c =
    let a = c.args in
    let st = c.args.stack.now in
    let so = c.args.store.now in
    let r = c.args.r in
    let x = c.args.x in
    let H = c.requires.held in
    let y = ready (book_of c.args.o.now) c.args.op 15 c.args.x c.args.r.height c.in-15.is c.requires.ready in
    c.do_doe.ensures st ∙ ap (λ d. ended (positive (cell so d.step)) d r st so) (sym (loop_is a.o.now r st so H x (doe_in a.o.now r st so H x y).0)) ∙ found (book_of c.args.o.now) c.args.op 15 c.args.x c.args.r c.args.stack.now c.args.store.now c.in-15.is

pub join-requires-clause-works : goal.join-requires-clause-works
join-requires-clause-works c = let a = c.args in grind (serving, two a.o.now a.r a.stack.now a.store.now c.requires.held)

pub join-requires-in-7-clause-works : goal.join-requires-in-7-clause-works
join-requires-in-7-clause-works c = let a = c.args in grind (serving, two a.o.now a.r a.stack.now a.store.now c.requires.held)

pub join-requires-in-8-clause-works : goal.join-requires-in-8-clause-works
join-requires-in-8-clause-works c = let a = c.args in grind (serving, two a.o.now a.r a.stack.now a.store.now c.requires.held)

pub join-requires-in-9-clause-works : goal.join-requires-in-9-clause-works
join-requires-in-9-clause-works c = let a = c.args in grind (serving, two a.o.now a.r a.stack.now a.store.now c.requires.held)

pub returns-in-16 : goal.returns-in-16
returns-in-16 c = let a = c.args in left (book_of a.o.now) a.op a.x a.r a.stack.now a.store.now (omega arith) (omega arith)
