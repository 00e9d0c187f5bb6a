-- `take_next::take_next` meets its contract. Assumes nothing.
use mathlib.Core.Path.{◌≡◌, refl, sym, ap, subst}
use native.Mathlib.Omega.{arith}
use lib.ListN.{length, length-take}
use Rattle.std.proofs.Common.{rules}
use Rattle.std.specs.Prelude.{Err}
use Rattle.rules_text.specs.Cards.{Punched}
use Rattle.read_texts.proofs.Onward.{onward, ended as none_left}
use Rattle.take_next.specs.Steps.{ended, Steps}
use Rattle.take_next.proofs.Next.{reading, next_empty, next_unread, comes_refused, comes_kept, small_number, text_long, part_short}
use Rattle.take_next.proofs.take_next.Goals as goal

pub returns-in_default : goal.returns-in_default
returns-in_default c =
    λ D t κ m fresh. ended (none_left c.statement.ensures c.in_default.is).0 κ

pub returns-then-taken-eq0 : goal.returns-then-taken-eq0
returns-then-taken-eq0 c =
    let k = c.args.k in
    let p = c.requires in
    let o = onward p.accepted c.statement.ensures c.in-Some.is in
    λ D t κ m fresh. next_empty k o c.if-taken-eq0.true

pub slice_bounds-text-end : goal.slice_bounds-text-end
slice_bounds-text-end c =
    let k = c.args.k in
    let p = c.requires in
    let o = onward p.accepted c.statement.ensures c.in-Some.is in
    omega (arith, o.short, text_long k o refl)

pub slice_bounds-read-end : goal.slice_bounds-read-end
slice_bounds-read-end c =
    let k = c.args.k in
    let p = c.requires in
    let o = onward p.accepted c.statement.ensures c.in-Some.is in
    omega (arith, o.short, text_long k o refl, length-take c.in-Some.taken.length c.statement.new.text)

pub read-requires : goal.read-requires
read-requires c =
    let k = c.args.k in
    let p = c.requires in
    let o = onward p.accepted c.statement.ensures c.in-Some.is in
    omega (arith, part_short k o, p.items_long)

pub returns-in_default-read : goal.returns-in_default-read
returns-in_default-read c =
    let k = c.args.k in
    let p = c.requires in
    let o = onward p.accepted c.statement.ensures c.in-Some.is in
    λ D t κ m fresh. next_unread k o refl (omega (arith, c.if-taken-eq0.false)) c.read.ensures c.in_default-read.is

pub take-requires : goal.take-requires
take-requires c =
    let k = c.args.k in
    let p = c.requires in
    let o = onward p.accepted c.statement.ensures c.in-Some.is in
    let R = reading _ c.read.ensures c.in-Some-read.is (part_short k o) in
    record {
      reading = R;
      number_low = small_number k o p.accepted;
      digits_some = p.digits_some;
      digits_few = p.digits_few;
      items_long = omega (arith, p.items_long, c.read.auto.items);
      room = p.room;
      fit = p.fit;
      statements_few = omega (arith, p.few, ap (length {A = Punched}) o.others);
      draft = p.draft;
      kept = p.kept;
      fresh = p.fresh;
    }

pub returns-in_err-counts : goal.returns-in_err-counts
returns-in_err-counts c =
    let k = c.args.k in
    let p = c.requires in
    let o = onward p.accepted c.statement.ensures c.in-Some.is in
    let e : c.from_residual.result ≡ Err c.in_err-counts.field-0.0 = search rules in
    λ D t κ m fresh. subst (Steps k c.args.deck.now c.args.card t D c.args.n _) (sym e)
    (comes_refused k o _ _ refl (omega (arith, c.if-taken-eq0.false)) c.read.ensures c.in-Some-read.is (c.take.ensures D κ) c.in_err-counts.was t m fresh)

pub returns : goal.returns
returns c =
    let k = c.args.k in
    let p = c.requires in
    let o = onward p.accepted c.statement.ensures c.in-Some.is in
    λ D t κ m fresh. comes_kept k o _ _ refl (omega (arith, c.if-taken-eq0.false)) c.read.ensures c.in-Some-read.is (c.take.ensures D κ) c.in_ok-counts.was t m fresh
