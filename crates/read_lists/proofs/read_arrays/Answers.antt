-- `read_lists::read_arrays` meets its contract. Assumes nothing.
use mathlib.Core.Path.{refl, sym, ◌∙◌}
use native.Mathlib.Omega.{arith}
use Rattle.rules_text.specs.Grammar.{array_shape}
use Rattle.read_tokens.proofs.Tokens.{inside}
use Rattle.read_tokens.proofs.Chains.{took, refused}
use Rattle.read_forms.specs.Statements.{all_words}
use Rattle.read_tokens.proofs.Measured.{sizes_none}
use Rattle.read_lists.specs.Lists.{arrays_sizes}
use Rattle.read_lists.proofs.Listing.{starts_list, list_bad, list_read, list_more, list_refused}
use Rattle.read_lists.proofs.Lists.{array_takes, arrays_more, arrays_none, arrays_sizes_none, arrays_sizes_more}
use Rattle.read_lists.proofs.read_arrays.Goals as goal

pub loop-array-init : goal.loop-array-init
loop-array-init c =
    starts_list array_shape all_words arrays_sizes c.args.text.now c.args.from _ c.requires.0 arrays_none (arrays_sizes_none (sizes_none c.default-sizes.ensures))

pub read_array-requires : goal.read_array-requires
read_array-requires c =
    let lp = c.loop-array in
    let g = lp.invariant in
    g.within

pub shape_of-items-in_err-array : goal.shape_of-items-in_err-array
shape_of-items-in_err-array c =
    let lp = c.loop-array in
    let g = lp.invariant in
    g.kept

pub returns-in_err-array : goal.returns-in_err-array
returns-in_err-array c =
    let lp = c.loop-array in
    let g = lp.invariant in
    rw c.from_residual.ensures (list_refused array_shape all_words arrays_sizes c.requires.0 (list_bad array_shape all_words arrays_sizes g (refused c.read_array.ensures c.in_err-array.was)))

pub put_array-n-requires : goal.put_array-n-requires
put_array-n-requires c =
    let lp = c.loop-array in
    let g = lp.invariant in
    let t = took c.read_array.ensures c.in_ok-array.was in
    let tk = array_takes t in
    omega (arith, g.few, tk, t.upto.within, g.kept, c.requires.1)

pub overflow_add-count : goal.overflow_add-count
overflow_add-count c =
    let lp = c.loop-array in
    let g = lp.invariant in
    let t = took c.read_array.ensures c.in_ok-array.was in
    let tk = array_takes t in
    omega (arith, g.low, tk, t.upto.within)

pub shape_of-items-then-byte-ne44 : goal.shape_of-items-then-byte-ne44
shape_of-items-then-byte-ne44 c =
    let lp = c.loop-array in
    let g = lp.invariant in
    c.put_array-n.auto.items ∙ g.kept

pub returns-then-byte-ne44 : goal.returns-then-byte-ne44
returns-then-byte-ne44 c =
    let lp = c.loop-array in
    let g = lp.invariant in
    let t = took c.read_array.ensures c.in_ok-array.was in
    list_read array_shape all_words arrays_sizes g t.upto _ c.put_array-n.ensures (arrays_more g.acc t.tree t.value_is) (arrays_sizes_more g.acc t.tree g.sizes_is t.sizes_is c.join-sizes.ensures) refl (λ z. c.if-byte-ne44.true (c.byte.ensures ∙ z))

pub overflow_add-at : goal.overflow_add-at
overflow_add-at c =
    let s = c.args.text.now in
    let cm = sym c.byte.ensures ∙ c.if-byte-ne44.false in
    let i = inside 44 (omega arith) s _ cm in
    omega (arith, i)

pub loop-array-smaller : goal.loop-array-smaller
loop-array-smaller c =
    let s = c.args.text.now in
    let t = took c.read_array.ensures c.in_ok-array.was in
    let tk = array_takes t in
    let cm = sym c.byte.ensures ∙ c.if-byte-ne44.false in
    let i = inside 44 (omega arith) s _ cm in
    omega (arith, tk, i)

pub loop-array-preserved : goal.loop-array-preserved
loop-array-preserved c =
    let lp = c.loop-array in
    let g = lp.invariant in
    let t = took c.read_array.ensures c.in_ok-array.was in
    let tk = array_takes t in
    let cm = sym c.byte.ensures ∙ c.if-byte-ne44.false in
    list_more array_shape all_words arrays_sizes g t.upto _ c.put_array-n.ensures (arrays_more g.acc t.tree t.value_is) (arrays_sizes_more g.acc t.tree g.sizes_is t.sizes_is c.join-sizes.ensures) refl cm (omega (arith, tk)) c.put_array-n.auto.items
