-- The items so far are read.
use Rattle.line_text.specs.Texts.{texts}
use Rattle.trace_text.specs.reading.Items.{number}
use Rattle.line_text.proofs.Each.{IsReadSoFar}
use Rattle.trace_text.proofs.reading.positions.numbers.Given as goal

abbrev pub invariant-loop-field : goal.invariant-loop-field
invariant-loop-field l = IsReadSoFar number (texts l.fields) l.field-index l.numbers.items
