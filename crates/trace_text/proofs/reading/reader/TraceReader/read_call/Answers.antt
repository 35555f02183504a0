-- The line is read, and then its event is added.
use Rattle.std.proofs.Common.{subst}
use Rattle.line_text.specs.Reading.{Takes}
use Rattle.line_text.specs.Texts.{texts}
use Rattle.trace_text.specs.reading.Events.{call_meaning}
use Rattle.trace_text.specs.reading.Reading.{with_entry}
use Rattle.trace_text.specs.reading.SoFar.{SoFar}
use Rattle.trace_text.proofs.reading.reader.TraceReader.read_call.Goals as goal

pub returns : goal.returns
returns c =
    let P : SoFar → Type 0 = λ s. Takes (with_entry s (call_meaning s.version s.setup (texts c.args.fields.now))) c.push.new.self c.push.result in
    subst P c.self.view_is (c.push.ensures _ c.call_of-entry.ensures)
