-- The items so far are read.
use Rattle.line_text.specs.Texts.{texts}
use Rattle.trace_text.specs.reading.Items.{point}
use Rattle.line_text.proofs.Each.{IsReadSoFar}
use Rattle.trace_text.proofs.reading.list_item.points.Given as goal

abbrev pub invariant-loop-field : goal.invariant-loop-field
invariant-loop-field l = IsReadSoFar point (texts l.fields) l.field-index l.points.items
