-- What the lines of a header mean where its machine is read so far. This project's profile.
use Rattle.std.specs.Prelude.{ℕ, ◌+◌, ◌-◌, ◌==◌, ◌&&◌, Bool, nat_le, not, if◌then◌else◌, Option, Some, None, Result, Ok, Err, List, [], ◌∷◌, ◌++◌, codes, length, replicate, slice_get, slice_set}
use Rattle.std.specs.List.{count_by, slice_split}
use Rattle.std.specs.Option.{ok_or}
use Rattle.command_pool.specs.Waiting.{queue_of}
use Rattle.line_text.specs.Reading.{◌>>=◌, at_line}
use Rattle.line_text.specs.Rules.{broken_unless}
use Rattle.line_text.specs.Texts.{says}
use Rattle.line_text.specs.declared.reader.LineRefused.{LineRefused}
use Rattle.motion_history.specs.Setup.{Setup}
use Rattle.motion_kernel.specs.Machine.{Machine}
use Rattle.segment_text.specs.reading.Columns.{behind_number}
use Rattle.segment_text.specs.reading.Commands.{wanted_of}
use Rattle.segment_text.specs.reading.Axes.{axis_of}
use Rattle.segment_text.specs.reading.Groups.{group_of}
use Rattle.segment_text.specs.reading.Instances.{instance_of}
use Rattle.segment_text.specs.reading.RuleNumbers.{no_value, out_of_place, too_many}

-- nothing is read yet of the machine of a configuration, which has a list of commands for each axis
-- and each group
unfoldable pub unread : Setup → Machine
unread s = record {
  axes = [];
  groups = [];
  queues = replicate (length s.axes + length s.groups) [];
  instances = [];
}

-- how many axes and groups are read
abbrev pub objects_in : Machine → ℕ
objects_in m = length m.axes + length m.groups

-- an axis stands before all groups and instances
abbrev pub may_read_axis : Machine → Bool
may_read_axis m = (length m.groups == 0) && (length m.instances == 0)

-- a group stands before all instances
abbrev pub may_read_group : Machine → Bool
may_read_group m = length m.instances == 0

-- a command that waits stands after an axis or a group, before all instances: the last of this many
-- axes and groups has a list
abbrev pub has_list : Machine → ℕ → Bool
has_list m objects =
    nat_le 1 objects && nat_le objects (length m.queues) && (length m.instances == 0)

-- the list of the last axis or group
abbrev pub last_list : Machine → Option ℕ
last_list m = if has_list m (objects_in m) then Some (objects_in m - 1) else None

-- the next axis
unfoldable pub axis_meaning : Setup → Machine → List (List ℕ) → Result Machine ℕ
axis_meaning s m fields = do
  _ ← broken_unless (may_read_axis m) out_of_place
  d ← ok_or (slice_get s.axes (length m.axes)) too_many
  behind ← ok_or (behind_number (length m.axes) fields) no_value
  a ← ok_or (axis_of d behind) no_value
  Ok (record m { axes = m.axes ++ a ∷ [] })

-- the next group
unfoldable pub group_meaning : Setup → Machine → List (List ℕ) → Result Machine ℕ
group_meaning s m fields = do
  _ ← broken_unless (may_read_group m) out_of_place
  d ← ok_or (slice_get s.groups (length m.groups)) too_many
  behind ← ok_or (behind_number (length m.groups) fields) no_value
  g ← ok_or (group_of d behind) no_value
  Ok (record m { groups = m.groups ++ g ∷ [] })

-- a command that waits for the last axis or group
unfoldable pub waiting_meaning : Machine → List (List ℕ) → Result Machine ℕ
waiting_meaning m fields = do
  list ← ok_or (last_list m) out_of_place
  w ← ok_or (wanted_of fields) no_value
  _ ← broken_unless (not (length (queue_of m.queues list) == 8)) too_many
  Ok (record m { queues = slice_set m.queues list (queue_of m.queues list ++ w ∷ []) })

-- the instance of the next block
unfoldable pub instance_meaning : Setup → Machine → List (List ℕ) → Result Machine ℕ
instance_meaning s m fields = do
  d ← ok_or (slice_get s.blocks (length m.instances)) too_many
  behind ← ok_or (behind_number (length m.instances) fields) no_value
  i ← ok_or (instance_of d.kind behind) no_value
  Ok (record m { instances = m.instances ++ i ∷ [] })

-- a record by its kind
unfoldable pub record_meaning : Setup → Machine → List (List ℕ) → Result Machine ℕ
record_meaning s m [] = Err out_of_place
record_meaning s m (kind ∷ fields) =
    if says kind (codes "axis") then axis_meaning s m fields
    else if says kind (codes "group") then group_meaning s m fields
    else if says kind (codes "waiting") then waiting_meaning m fields
    else if says kind (codes "instance") then instance_meaning s m fields else Err out_of_place

-- a comma stands between fields
abbrev pub is_comma : ℕ → Bool
is_comma b = b == 44

-- the fields of a line; one with more than 64 has none. The longest record, that of a group on a
-- path with a command that follows a gear, has 44
unfoldable pub fields_in : List ℕ → List (List ℕ)
fields_in line =
    if nat_le (count_by is_comma line) 63 then slice_split is_comma line else []

-- what lines mean one after another, this many lines in: the first that breaks a rule is refused
abbrev pub lines_meaning : Setup → ℕ → Machine → List (List ℕ) → Result Machine LineRefused
lines_meaning s before m [] = Ok m
lines_meaning s before m (line ∷ more) =
    at_line (before + 1) (record_meaning s m (fields_in line)) >>= λ n.
    lines_meaning s (before + 1) n more

-- whether each axis, each group and each instance is read
unfoldable pub is_whole : Setup → Machine → Bool
is_whole s m =
    (length m.axes == length s.axes) && (length m.groups == length s.groups) &&
    (length m.instances == length s.blocks)
