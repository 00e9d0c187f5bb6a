-- `check_object::judge` meets its contract. Assumes nothing.
use mathlib.Core.Path.{ap, ◌∙◌}
use native.Mathlib.Omega.{arith}
use Rattle.refusals.specs.Answers.{refusal_of}
use Rattle.rules_object.specs.Calls.{refused}
use Rattle.object_contents.specs.Book.{book_of}
use Rattle.object_contents.proofs.Entries.{code_length}
use Rattle.check_object.proofs.Laws.{place_42, place_43, all_43, by_42, by_43, with_table, no_table}
use Rattle.check_object.proofs.judge.Goals as goal

pub at-requires : goal.at-requires
at-requires c =
    place_42 (book_of c.args.o.now) c.args.o.now.placed.edition c.requires.right _ _ c.in-Some.ensures

pub returns-in-Some : goal.returns-in-Some
returns-in-Some c =
    record { is = ap refused c.at.ensures ∙ by_42 (book_of c.args.o.now) c.requires.right c.in-Some.ensures }

pub at-requires-in-Some-words : goal.at-requires-in-Some-words
at-requires-in-Some-words c =
    place_43 (book_of c.args.o.now) c.args.o.now.placed.edition c.requires.right _ _ c.in-Some-words.ensures

pub returns-in-Some-words : goal.returns-in-Some-words
returns-in-Some-words c =
    record { is = ap refused c.at-in-Some-words.ensures ∙ by_43 (book_of c.args.o.now) c.requires.right c.in_default.ensures c.in-Some-words.ensures }

pub heights_of-requires-clause-judged : goal.heights_of-requires-clause-judged
heights_of-requires-clause-judged c =
    record { placed = c.args.o.now.placed; right = c.requires.right; words = λ a l. all_43 (book_of c.args.o.now) c.in_default-words.ensures a (omega (arith, code_length c.args.o.now.layout c.args.o.now.bytes.now)) }

pub returns-then-not-heights_of : goal.returns-then-not-heights_of
returns-then-not-heights_of c =
    record { is = ap refused (ap refusal_of c.of.ensures) ∙ no_table (book_of c.args.o.now) c.requires.right c.in_default.ensures c.in_default-words.ensures _ _ c.if-not-heights_of.ensures }

pub returns : goal.returns
returns c =
    record { is = with_table (book_of c.args.o.now) c.requires.right c.in_default.ensures c.in_default-words.ensures _ _ c.if-not-heights_of.ensures }
