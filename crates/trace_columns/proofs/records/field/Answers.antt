-- The field that is there, or none.
use Rattle.std.proofs.Common.{sym}
use Rattle.csv.proofs.RecordFacts.{field-get}
use Rattle.trace_columns.proofs.RecordSteps.{field-none}
use Rattle.trace_columns.proofs.records.field.Goals as goal

pub returns-in-Some : goal.returns-in-Some
returns-in-Some c = sym (field-get _ _ _ (sym (rw c.in-Some.is at c.get.ensures.value)))

pub returns-in-None : goal.returns-in-None
returns-in-None c = sym (field-none _ _ (sym (rw c.in-None.is at c.get.ensures.value)))
