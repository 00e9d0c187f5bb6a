-- That an object's bodies stand where the contents say is so in one way.
-- Assumes nothing.
use Rattle.std.specs.Prelude.{◌≡◌, ℕ, List}
use Rattle.std.proofs.Props.{props}
use Rattle.number.specs.declared.Rule.{Rule}
use Rattle.number.specs.Code.{ruled}
use Rattle.rules_object.specs.Object.{Object, rule_of}
use Rattle.rules_object.specs.Writable.{NoTransfers, Edition, one, two}
use Rattle.object_contents.specs.declared.Layout.{Layout}
use Rattle.object_contents.specs.Layout.{object_at, Placed}

none_prop : (o : Object) → IsProp (NoTransfers o)
none_prop o = Prim.hlevel props

edition_is_prop : (n m : ℕ) → IsProp (n ≡ m)
edition_is_prop n m = Prim.hlevel props

edition_prop : (o : Object) → IsProp (Edition o)
edition_prop o (one e n) (one f m) = λ i. one (edition_is_prop o.edition 1 e f i) (none_prop o n m i)
edition_prop o (one e n) (two f) = Prim.cc (e, f)
edition_prop o (two e) (one f m) = Prim.cc (e, f)
edition_prop o (two e) (two f) = λ i. two (edition_is_prop o.edition 2 e f i)

pub placed_prop : (e : Layout) (s : List ℕ) → IsProp (Placed e s)
placed_prop e s = Prim.hlevel (props, edition_prop (object_at e s))

pub ruled_prop : (r : Rule) (e : Layout) (s : List ℕ) → IsProp (ruled r ≡ rule_of (object_at e s))
ruled_prop r e s = Prim.hlevel props
