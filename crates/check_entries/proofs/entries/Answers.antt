-- `check_entries::entries` meets its contract. Assumes nothing.
use mathlib.Core.Path.{◌≡◌, ap, ◌∙◌}
use Rattle.std.specs.Prelude.{Option, Some, None}
use Rattle.std.specs.Option.{option_or}
use Rattle.std.proofs.Math.Option as book
use Rattle.std.proofs.Common.{rules, get_or}
use Rattle.refusals.specs.Answers.{maybe}
use Rattle.rules_shared.specs.Refusals.{Refusal, or_else, at_entry}
use Rattle.rules_object.specs.Check.{right_constant, right_element, right_loop, right_line, right_named, right_item, right_transfer}
use Rattle.rules_object.specs.Operations.{no_element, no_loop, no_transfer}
use Rattle.check_names.specs.Names.{no_name}
use Rattle.check_formats.specs.Formats.{no_item}
use Rattle.object_contents.specs.Book.{book_of}
use Rattle.check_entries.specs.Judge.{no_line, refusal_at}
use Rattle.check_entries.specs.declared.Entry.{Entry}
use Rattle.check_entries.proofs.Firsts.{kinds}
use Rattle.check_entries.proofs.entries.Goals as goal

-- the first of two, code's and the book's
either : (a b r : Option Entry) {p q : book.Option Refusal} → r ≡ option_or a b → maybe (refusal_at 42) a ≡ p → maybe (refusal_at 42) b ≡ q → maybe (refusal_at 42) r ≡ or_else p q
either (Some e) b r e1 e2 e3 = rw (e1, ← e2)
either None b r e1 e2 e3 = rw (e1, ← e2, e3)

pub returns : goal.returns
returns c =
    let o = book_of c.args.o.now in
    let constants = c.first_bad-constants.ensures 42 (λ i. right_constant o (get_or o.constants i 0)) (λ i b h p. search rules) in
    let elements = c.first_bad-elements.ensures 42 (λ i. right_element o (get_or o.elements i no_element)) (λ i b h p. search rules) in
    let dos = c.first_bad-dos.ensures 42 (λ i. right_loop o (get_or o.dos i no_loop)) (λ i b h p. search rules) in
    let lines = c.first_bad-lines.ensures 42 (λ i. right_line o (get_or o.lines i no_line)) (λ i b h p. search rules) in
    let names = c.first_bad-names.ensures 42 (λ i. right_named o (get_or o.names i no_name)) (λ i b h p. search rules) in
    let items = c.first_bad-items.ensures 42 (λ i. right_item o (get_or o.items i no_item)) (λ i b h p. search rules) in
    let transfers = c.first_bad-transfers.ensures 42 (λ i. right_transfer o (get_or o.transfers i no_transfer)) (λ i b h p. search rules) in
    let formats : maybe (refusal_at 42) c.map-formats.result ≡ at_entry 42 8 (maybe (λ i. i) c.first_bad.result) = search rules in
    either _ _ _ c.or-7.ensures (either _ _ _ c.or-6.ensures (either _ _ _ c.or-5.ensures (either _ _ _ c.or-4.ensures (either _ _ _ c.or-3.ensures (either _ _ _ c.or-2.ensures (either _ _ _ c.or.ensures constants elements) dos) lines) names) (formats ∙ ap (at_entry 42 8) c.first_bad.ensures)) items) transfers ∙ kinds c.args.o.now.layout c.args.o.now.bytes.now
