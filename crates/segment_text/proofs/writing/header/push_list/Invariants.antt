-- The commands so far are put.
use Rattle.std.proofs.Common.{◌≡◌, ◌++◌, map, take}
use Rattle.command_pool.specs.Waiting.{queue_of}
use Rattle.segment_text.specs.TraceSegment.{lines_text}
use Rattle.segment_text.specs.WantedFields.{waiting_fields}
use Rattle.segment_text.proofs.writing.header.push_list.Given as goal

abbrev pub invariant-loop-place : goal.invariant-loop-place
invariant-loop-place l = l.out.items ≡ l.fn.out.items ++ lines_text (map waiting_fields (take l.place (queue_of l.start.queues l.list)))
