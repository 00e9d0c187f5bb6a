-- `read_lists::read_choice` meets its contract. Assumes nothing.
use mathlib.Core.Path.{sym, ◌∙◌}
use native.Mathlib.Omega.{arith}
use Rattle.read_tokens.proofs.Chains.{took, refused}
use Rattle.read_lists.proofs.Lists.{choice_open, choice_no_comma, choice_no_name, choice_more, choice_few, choice_many, choice_read}
use Rattle.read_lists.proofs.read_choice.Goals as goal

pub returns-then-byte-ne41 : goal.returns-then-byte-ne41
returns-then-byte-ne41 c =
    let s = c.args.text.now in
    choice_open s c.args.from c.args.exits (λ z. c.if-byte-ne41.true (c.byte.ensures ∙ z))

pub returns-then-byte-ne44 : goal.returns-then-byte-ne44
returns-then-byte-ne44 c =
    let s = c.args.text.now in
    let c1 = sym c.byte.ensures ∙ c.if-byte-ne41.false in
    choice_no_comma s c.args.from c.args.exits c1 (λ z. c.if-byte-ne44.true (c.byte-2.ensures ∙ z))

pub returns-in_err-name : goal.returns-in_err-name
returns-in_err-name c =
    let s = c.args.text.now in
    let c1 = sym c.byte.ensures ∙ c.if-byte-ne41.false in
    let m = sym c.byte-2.ensures ∙ c.if-byte-ne44.false in
    rw c.from_residual.ensures (choice_no_name s c.args.from c.args.exits c1 m (refused c.read_name.ensures c.in_err-name.was))

pub returns-then-name-text : goal.returns-then-name-text
returns-then-name-text c =
    let s = c.args.text.now in
    let c1 = sym c.byte.ensures ∙ c.if-byte-ne41.false in
    let m = sym c.byte-2.ensures ∙ c.if-byte-ne44.false in
    let t = took c.read_name.ensures c.in_ok-name.was in
    choice_more s c.args.from c.args.exits c1 m t c.if-name-text.true

pub returns-then-exits-lt-FEWEST_EXITS : goal.returns-then-exits-lt-FEWEST_EXITS
returns-then-exits-lt-FEWEST_EXITS c =
    let s = c.args.text.now in
    let c1 = sym c.byte.ensures ∙ c.if-byte-ne41.false in
    let m = sym c.byte-2.ensures ∙ c.if-byte-ne44.false in
    let t = took c.read_name.ensures c.in_ok-name.was in
    choice_few s c.args.from c.args.exits c1 m t c.if-exits-lt-FEWEST_EXITS.true

pub returns-then-exits-gt-MOST_EXITS : goal.returns-then-exits-gt-MOST_EXITS
returns-then-exits-gt-MOST_EXITS c =
    let s = c.args.text.now in
    let c1 = sym c.byte.ensures ∙ c.if-byte-ne41.false in
    let m = sym c.byte-2.ensures ∙ c.if-byte-ne44.false in
    let t = took c.read_name.ensures c.in_ok-name.was in
    choice_many s c.args.from c.args.exits c1 m t c.if-exits-lt-FEWEST_EXITS.false (omega (arith, c.if-exits-gt-MOST_EXITS.true))

pub returns : goal.returns
returns c =
    let s = c.args.text.now in
    let c1 = sym c.byte.ensures ∙ c.if-byte-ne41.false in
    let m = sym c.byte-2.ensures ∙ c.if-byte-ne44.false in
    let t = took c.read_name.ensures c.in_ok-name.was in
    choice_read s c.args.from c.args.exits c1 m t c.if-name-text.false c.if-exits-lt-FEWEST_EXITS.false (omega (arith, c.if-exits-gt-MOST_EXITS.false))
