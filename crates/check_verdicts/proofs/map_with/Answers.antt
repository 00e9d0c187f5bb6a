-- `check_verdicts::map_with` meets its contract. Assumes nothing.
use mathlib.Core.Path.{◌≡◌, sym, ap, subst, ◌∙◌}
use Prim.Native.Nat.{ℕ, ◌+◌, ◌-◌, ◌*◌, ◌<◌}
use native.Mathlib.Omega.{arith}
use lib.ListN.{get_or, take, drop, length-take}
use Rattle.rules_object.specs.Calls.{map_of}
use Rattle.object_contents.specs.Layout.{object_at, Placed}
use Rattle.object_contents.specs.Book.{book_of}
use Rattle.check_verdicts.specs.Outcomes.{told_written, Writes}
use Rattle.check_verdicts.proofs.Names.{map_bytes}
use Rattle.rules_object.specs.Calls.{refused}
use Rattle.refusals.specs.Answers.{refusal_of}
use Rattle.check_object.proofs.Tells.{if_refused, if_accepted}
use Rattle.check_verdicts.proofs.Maps.{map_refused, map_accepted, few_names, passed_on}
use Rattle.check_verdicts.proofs.map_with.Goals as goal

pub returns-in_err-o : goal.returns-in_err-o
returns-in_err-o c =
    passed_on _ _ c.from_residual.ensures.1 (λ e q. map_refused c.args.object.now _ e (if_refused _ _ _ c.in_err-o.ensures ∙ ap (λ r. refused (refusal_of r)) (sym q)))

pub write-requires : goal.write-requires
write-requires c =
    let few = few_names c.args.object.now _ c.in_ok-o.o (if_accepted _ _ c.in_ok-o.o c.in_ok-o.ensures) in
    simp length-take (omega (arith, few))

pub returns : goal.returns
returns c =
    let s = c.args.object.now in
    let o = c.in_ok-o.o in
    let at = o.layout.names in
    let n = 20 * o.layout.name_count in
    let bytes : (i : ℕ) → get_or s i 0 < 256 = λ i. omega (arith, c.type_inv.object i) in
    let same : o.bytes.now ≡ s = c.in_ok-o.ensures.of_bytes in
    let all : at + n - at ≡ n = omega arith in
    let names : take (at + n - at) (drop at s) ≡ map_of (book_of o) = ap (λ m. take m (drop at s)) all ∙ sym (map_bytes o.layout s bytes (subst (Placed o.layout) same o.placed)) ∙ ap (λ x. map_of (object_at o.layout x)) (sym same) in
    map_accepted s _ _ _ o _ (if_accepted _ _ o c.in_ok-o.ensures) (subst (λ b. Writes b c.args.output.now c.write.new.output (told_written c.write.result)) names c.write.ensures)
