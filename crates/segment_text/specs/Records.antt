-- The records of a trace segment's header: its lines, field by field. This project's profile.
use Rattle.std.specs.Prelude.{ℕ, Option, Some, None, List, [], ◌∷◌, ◌++◌, codes, decimal}
use Rattle.axis_core.specs.declared.axis.Axis.{Axis}
use Rattle.buffer_modes.specs.declared.reset.PendingReset.{PendingReset}
use Rattle.fb_outputs.specs.InstanceState.{InstanceState}
use Rattle.group_core.specs.Tracks.{OnPath}
use Rattle.group_core.specs.declared.group.Group.{Group}
use Rattle.group_core.specs.declared.group.Motion.{Motion}
use Rattle.plc_types.specs.declared.limits.Limits.{Limits}
use Rattle.motion_kernel.specs.Machine.{PlacedGroup}
use Rattle.motion_kernel.specs.declared.segment.Before.{Before}
use Rattle.segment_text.specs.Fields.{owner_text, progress_fields, reset_text}
use Rattle.segment_text.specs.WantedFields.{active_fields, numbers_fields}
use Rattle.trace_columns.specs.Fields.{axis_state_text, flag_text, group_state_text, hex_text}

-- the format and its version, and how many segments, entries and cycles were before
abbrev pub trace_segment_fields : Before → List (List ℕ)
trace_segment_fields b =
    codes "segment" ∷ codes "1" ∷ decimal b.segments ∷ decimal b.entries ∷ decimal b.cycles ∷ []

-- what an axis shows and what its drive is given: its state, its error, whether its active command
-- has reached, its power, whether that was off, whether it was driven, and its controlword
abbrev pub state_fields : ℕ → Axis → List (List ℕ)
state_fields n a =
    decimal n ∷ axis_state_text a.state ∷ decimal a.error ∷ flag_text a.reached ∷
    flag_text a.power ∷ flag_text a.was_off ∷ flag_text a.driven ∷ hex_text a.controlword ∷ []

-- the pending reset of an axis or a group, and the instance that holds it
abbrev pub held_fields : Option PendingReset → Option ℕ → List (List ℕ)
held_fields reset hold = reset_text reset ∷ owner_text hold ∷ []

-- the setpoints of an axis and its offset
abbrev pub place_fields : Axis → List (List ℕ)
place_fields a = numbers_fields (a.previous ∷ a.setpoint ∷ a.offset ∷ [])

-- an axis by its number: all but its limits and its increment, which its configuration has
unfoldable pub axis_fields : ℕ → Axis → List (List ℕ)
axis_fields n a =
    codes "axis" ∷ (state_fields n a ++ (place_fields a ++
    (held_fields a.reset a.hold ++ active_fields a.active)))

-- limits, in internal units and per cycle
abbrev pub limits_fields : Limits → List (List ℕ)
limits_fields l = numbers_fields (l.lo ∷ l.hi ∷ l.vmax ∷ l.amax ∷ l.dmax ∷ [])

-- the place on a path before the current one, and that
abbrev pub way_fields : Motion → List (List ℕ)
way_fields m = numbers_fields (m.previous ∷ m.place ∷ [])

-- how a group moves along its path: the path's limits, and the places
unfoldable pub motion_fields : Motion → List (List ℕ)
motion_fields m = limits_fields m.limits ++ way_fields m

-- a path, and how many axes go along it
abbrev pub count_fields : ℕ → List (List ℕ)
count_fields count = codes "path" ∷ decimal count ∷ []

-- the path of a group, if it is on one: how many axes go along it, where each starts and ends, and
-- how the group moves
unfoldable pub path_fields : Option OnPath → List (List ℕ)
path_fields None = []
path_fields (Some p) =
    count_fields p.way.count ++
    (numbers_fields p.way.starts ++ (numbers_fields p.way.targets ++ motion_fields p.motion))

-- the number of a group, its state and its error
abbrev pub group_state_fields : ℕ → Group → List (List ℕ)
group_state_fields n g = decimal n ∷ group_state_text g.state ∷ decimal g.error ∷ []

-- a group by its number: all but how many axes it has, which its configuration gives
unfoldable pub group_fields : ℕ → PlacedGroup → List (List ℕ)
group_fields n g =
    codes "group" ∷ (group_state_fields n g.group ++ (held_fields g.group.reset g.group.hold ++
    (path_fields g.path ++ active_fields g.group.active)))

-- the number of a block, the Execute of its last call, and what the last cycle found
abbrev pub taken_fields : ℕ → InstanceState → List (List ℕ)
taken_fields n i = decimal n ∷ flag_text i.execute ∷ flag_text i.reached ∷ []

-- the instance of a block by its number: all but its kind, which its configuration has
unfoldable pub instance_fields : ℕ → InstanceState → List (List ℕ)
instance_fields n i = codes "instance" ∷ (taken_fields n i ++ progress_fields i.progress)
