-- The row is added, and then the cycle may be whole.
use Rattle.std.specs.Prelude.{refl}
use Rattle.std.proofs.Common.{subst}
use Rattle.line_text.specs.Reading.{Takes}
use Rattle.line_text.specs.Texts.{texts}
use Rattle.trace_text.specs.reading.Reading.{grows_meaning}
use Rattle.trace_text.specs.reading.SoFar.{SoFar}
use Rattle.trace_text.proofs.read.RowLaws.{grows-lead}
use Rattle.trace_text.proofs.reading.reader.TraceReader.read_group_row.Goals as goal

pub returns : goal.returns
returns c =
    let P : SoFar → Type 0 = λ s. Takes (grows_meaning s (texts c.args.fields.now)) c.end_cycle.new.self c.end_cycle.result in
    subst P c.self.view_is
    (grows-lead _ (texts c.args.fields.now) _ _ c.end_cycle.new.self c.end_cycle.result (rw c.groups.ensures at c.in_ok-row.ensures) c.in-Ok.ensures (c.end_cycle.ensures _ refl))
