use Rattle.std.proofs.Common.{◌≡◌, map, take}
use Rattle.std.specs.List.{join_with_byte}
use Rattle.motion_history.specs.Members.{members_of}
use Rattle.trace_text.specs.Records.{axis_name}
use Rattle.trace_text.proofs.writing.parts.members_text.Given as goal

abbrev pub invariant-loop-i : goal.invariant-loop-i
invariant-loop-i l = record {
  text : l.text.items ≡ join_with_byte 59 (map (axis_name l.config) (take l.i (members_of l.group)));
  items : l.axis-items ≡ members_of l.group;
}
