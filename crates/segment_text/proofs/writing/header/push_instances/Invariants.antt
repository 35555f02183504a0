-- The instances so far are put.
use Rattle.std.proofs.Common.{◌≡◌, ◌++◌, take}
use Rattle.segment_text.specs.TraceSegment.{lines_text}
use Rattle.segment_text.specs.Records.{instance_fields}
use Rattle.trace_text.specs.Trace.{numbered}
use Rattle.segment_text.proofs.writing.header.push_instances.Given as goal

abbrev pub invariant-loop-block : goal.invariant-loop-block
invariant-loop-block l = l.out.items ≡ l.fn.out.items ++ lines_text (numbered instance_fields 0 (take l.block l.start.instances))
