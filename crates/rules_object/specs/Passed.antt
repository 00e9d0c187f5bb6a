-- What an object that passes the check has, and its least table of heights.
-- Assumes nothing.
use Rattle.std.specs.Prelude.{◌≡◌, true, List, ℕ, ◌<◌, length, get_or}
use Rattle.std.proofs.Math.Option.{some}
use Rattle.rules_shared.specs.Lists.{Each}
use Rattle.rules_object.specs.Object.{Object}
use Rattle.rules_object.specs.Check.{right41, right_constant, right_element, right_loop, right_format, right_item, right_transfer}
use Rattle.rules_object.specs.Operations.{no_element, no_loop, no_transfer, right43, flow_of}
use Rattle.rules_object.specs.Bytes.{read_object}
use Rattle.rules_object.specs.Flow.{Least}

pub record Passed (bytes : List ℕ) (o : Object) (table : List ℕ) : Type 0 where
  pub reads : read_object bytes ≡ some o
  pub right : right41 o ≡ true
  pub constants : (i : ℕ) → i < length o.constants → right_constant o (get_or o.constants i 0) ≡ true
  pub elements : (i : ℕ) → i < length o.elements → right_element o (get_or o.elements i no_element) ≡ true
  pub dos : (i : ℕ) → i < length o.dos → right_loop o (get_or o.dos i no_loop) ≡ true
  pub formats : (i : ℕ) → i < length o.formats → right_format o i ≡ true
  pub items : Each (λ i. right_item o i ≡ true) o.items
  pub transfers : (i : ℕ) → i < length o.transfers → right_transfer o (get_or o.transfers i no_transfer) ≡ true
  pub words : (a : ℕ) → a < length o.code → right43 o (get_or o.code a 0) ≡ true
  pub least : Least (flow_of o) table
  pub sized : length table ≡ length o.code
