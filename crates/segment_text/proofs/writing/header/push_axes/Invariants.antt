-- The axes so far are put.
use Rattle.std.proofs.Common.{◌≡◌, ◌++◌, take}
use Rattle.command_pool.specs.Waiting.{queue_of}
use Rattle.segment_text.specs.TraceSegment.{lines_text, object_records}
use Rattle.segment_text.specs.Records.{axis_fields}
use Rattle.segment_text.proofs.writing.header.push_axes.Given as goal

abbrev pub invariant-loop-axis : goal.invariant-loop-axis
invariant-loop-axis l = l.out.items ≡ l.fn.out.items ++ lines_text (object_records axis_fields (queue_of l.start.queues) 0 (take l.axis l.start.axes))
