-- What is refused at a statement, as a refusal of any place.
-- Assumes nothing.
use Rattle.refusals.specs.declared.Refusal.{Refusal}
use Rattle.refused_statements.specs.declared.AtStatement.{AtStatement}

abbrev pub as_refusal : AtStatement → Refusal
as_refusal at = record { reason = at.reason; place = at.place.0; kind = 0 }
