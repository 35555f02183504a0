-- The groups so far are put.
use Rattle.std.proofs.Common.{◌≡◌, ◌++◌, take}
use Rattle.segment_text.specs.TraceSegment.{group_queue, lines_text, object_records}
use Rattle.segment_text.specs.Records.{group_fields}
use Rattle.segment_text.proofs.writing.header.push_groups.Given as goal

abbrev pub invariant-loop-group : goal.invariant-loop-group
invariant-loop-group l = l.out.items ≡ l.fn.out.items ++ lines_text (object_records group_fields (group_queue l.start) 0 (take l.group l.start.groups))
