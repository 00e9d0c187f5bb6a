-- `read_lists::read_numbers` meets its contract. Assumes nothing.
use mathlib.Core.Path.{refl, sym, ◌∙◌}
use mathlib.Core.List.{[], ◌∷◌}
use native.Mathlib.Omega.{arith}
use lib.ListN.{length-set}
use Rattle.rules_text.specs.Tokens.{number}
use Rattle.read_tokens.proofs.Tokens.{inside}
use Rattle.read_tokens.proofs.Chains.{took, refused}
use Rattle.read_items.proofs.Tables.{put_one}
use Rattle.read_tokens.proofs.Measured.{sizes_none}
use Rattle.read_lists.specs.Lists.{numbers_words, numbers_sizes}
use Rattle.read_lists.proofs.Listing.{starts_list, list_bad, list_read, list_more, list_refused}
use Rattle.read_lists.proofs.Lists.{number_takes, numbers_more, numbers_none, numbers_sizes_lem}
use Rattle.read_lists.proofs.read_numbers.Goals as goal

pub loop-number-init : goal.loop-number-init
loop-number-init c =
    starts_list number numbers_words numbers_sizes c.args.text.now c.args.from _ c.requires.0 numbers_none (numbers_sizes_lem [] refl)

pub read_number-requires : goal.read_number-requires
read_number-requires c =
    let lp = c.loop-number in
    let g = lp.invariant in
    g.within

pub shape_of-items-in_err-number : goal.shape_of-items-in_err-number
shape_of-items-in_err-number c =
    let lp = c.loop-number in
    let g = lp.invariant in
    g.kept

pub returns-in_err-number : goal.returns-in_err-number
returns-in_err-number c =
    let lp = c.loop-number in
    let g = lp.invariant in
    rw c.from_residual.ensures (list_refused number numbers_words numbers_sizes c.requires.0 (list_bad number numbers_words numbers_sizes g (refused c.read_number.ensures c.in_err-number.was)))

pub offset_bounds-items-n : goal.offset_bounds-items-n
offset_bounds-items-n c =
    let lp = c.loop-number in
    let g = lp.invariant in
    let t = took c.read_number.ensures c.in_ok-number.was in
    let tk = number_takes t in
    omega (arith, g.few, tk, t.upto.within, g.kept, c.requires.1)

pub bounds-items-n : goal.bounds-items-n
bounds-items-n c =
    let lp = c.loop-number in
    let g = lp.invariant in
    let t = took c.read_number.ensures c.in_ok-number.was in
    let tk = number_takes t in
    omega (arith, g.few, tk, t.upto.within, g.kept, c.requires.1)

pub overflow_add-n : goal.overflow_add-n
overflow_add-n c =
    let lp = c.loop-number in
    let g = lp.invariant in
    let t = took c.read_number.ensures c.in_ok-number.was in
    let tk = number_takes t in
    omega (arith, g.few, tk, t.upto.within, g.kept, c.requires.1)

pub shape_of-items-then-byte-ne44 : goal.shape_of-items-then-byte-ne44
shape_of-items-then-byte-ne44 c =
    let lp = c.loop-number in
    let g = lp.invariant in
    let wd = c.in_ok-number.number.value in
    length-set lp.items lp.n wd ∙ g.kept

pub returns-then-byte-ne44 : goal.returns-then-byte-ne44
returns-then-byte-ne44 c =
    let lp = c.loop-number in
    let g = lp.invariant in
    let wd = c.in_ok-number.number.value in
    let t = took c.read_number.ensures c.in_ok-number.was in
    let tk = number_takes t in
    list_read number numbers_words numbers_sizes g t.upto (wd ∷ []) (put_one lp.items lp.n wd (omega (arith, g.few, tk, t.upto.within, g.kept, c.requires.1))) (numbers_more g.acc t.tree wd t.value_is) (numbers_sizes_lem _ (sizes_none c.default.ensures)) refl (λ z. c.if-byte-ne44.true (c.byte.ensures ∙ z))

pub overflow_add-at : goal.overflow_add-at
overflow_add-at c =
    let s = c.args.text.now in
    let cm = sym c.byte.ensures ∙ c.if-byte-ne44.false in
    let i = inside 44 (omega arith) s _ cm in
    omega (arith, i)

pub loop-number-smaller : goal.loop-number-smaller
loop-number-smaller c =
    let s = c.args.text.now in
    let t = took c.read_number.ensures c.in_ok-number.was in
    let tk = number_takes t in
    let cm = sym c.byte.ensures ∙ c.if-byte-ne44.false in
    let i = inside 44 (omega arith) s _ cm in
    omega (arith, tk, i)

pub loop-number-preserved : goal.loop-number-preserved
loop-number-preserved c =
    let lp = c.loop-number in
    let g = lp.invariant in
    let wd = c.in_ok-number.number.value in
    let t = took c.read_number.ensures c.in_ok-number.was in
    let tk = number_takes t in
    let cm = sym c.byte.ensures ∙ c.if-byte-ne44.false in
    list_more number numbers_words numbers_sizes g t.upto (wd ∷ []) (put_one lp.items lp.n wd (omega (arith, g.few, tk, t.upto.within, g.kept, c.requires.1))) (numbers_more g.acc t.tree wd t.value_is) (numbers_sizes_lem _ refl) refl cm (omega (arith, tk)) (length-set lp.items lp.n wd)
