use Rattle.std.proofs.Common.{◌≡◌, map, take}
use Rattle.std.specs.List.{join_with_byte}
use Rattle.trace_text.specs.Records.{point_text}
use Rattle.trace_text.proofs.writing.parts.points_text.Given as goal

abbrev pub invariant-loop-i : goal.invariant-loop-i
invariant-loop-i l = record {
  text : l.text.items ≡ join_with_byte 59 (map point_text (take l.i l.points));
}
