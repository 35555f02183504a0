-- A trace segment: where it begins, and a trace of its own after it. This project's profile.
use Rattle.std.specs.Prelude.{ℕ, suc, List, [], ◌∷◌, ◌++◌, map}
use Rattle.std.specs.List.{flat_map}
use Rattle.command_pool.specs.Waiting.{queue_of}
use Rattle.command_pool.specs.declared.wanted.Wanted.{Wanted}
use Rattle.motion_kernel.specs.Machine.{Machine, list_of}
use Rattle.motion_kernel.specs.declared.segment.Before.{Before}
use Rattle.segment_text.specs.Records.{axis_fields, group_fields, instance_fields, trace_segment_fields}
use Rattle.segment_text.specs.Texts.{line_of}
use Rattle.segment_text.specs.WantedFields.{waiting_fields}
use Rattle.trace_text.specs.Trace.{numbered}

-- each axis or group by its number, and after it the commands that wait for it
abbrev pub object_records : {X : Type 0} → (ℕ → X → List (List ℕ)) → (ℕ → List Wanted) → ℕ →
    List X → List (List (List ℕ))
object_records fields queue n [] = []
object_records fields queue n (x ∷ xs) =
    fields n x ∷ (map waiting_fields (queue n) ++ object_records fields queue (suc n) xs)

-- the axes, each with the commands that wait for it
unfoldable pub axis_records : Machine → List (List (List ℕ))
axis_records m = object_records axis_fields (queue_of m.queues) 0 m.axes

-- the commands that wait for a group
abbrev pub group_queue : Machine → ℕ → List Wanted
group_queue m j = queue_of m.queues (list_of m j)

-- the groups, each with the commands that wait for it
unfoldable pub group_records : Machine → List (List (List ℕ))
group_records m = object_records group_fields (group_queue m) 0 m.groups

-- the instances of the blocks
unfoldable pub instance_records : Machine → List (List (List ℕ))
instance_records m = numbered instance_fields 0 m.instances

-- the text of records, each in a line
unfoldable pub lines_text : List (List (List ℕ)) → List ℕ
lines_text records = flat_map line_of records

-- the text of a trace segment's header: what was before it, and the machine with which it begins
unfoldable pub header_text : Before → Machine → List ℕ
header_text b m =
    line_of (trace_segment_fields b) ++ (lines_text (axis_records m) ++
    (lines_text (group_records m) ++ lines_text (instance_records m)))

-- the text of a trace segment: its header, a blank line, and a trace
unfoldable pub segment_text : Before → Machine → List ℕ → List ℕ
segment_text b m trace = header_text b m ++ 10 ∷ trace
