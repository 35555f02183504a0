-- What an axis looks at in a cycle.
use Rattle.std.specs.Prelude.{ℕ, Bool, false, ℤ, pos, Option, Some, None, List, replicate, slice_index_or}
use Rattle.axis_core.specs.declared.axis.Axis.{Axis}
use Rattle.axis_core.specs.declared.look.AxisLook.{AxisLook}
use Rattle.plc_types.specs.declared.drive.DriveIn.{DriveIn}
use Rattle.group_core.specs.declared.look.GroupStep.{GroupStep}
use Rattle.motion_history.specs.Setup.{Setup}
use Rattle.motion_kernel.specs.Machine.{Machine, axis_at}
use Rattle.motion_kernel.specs.members.Members.{membership_of}
use Rattle.motion_kernel.specs.calls.Telling.{is_held}
use Rattle.motion_kernel.specs.declared.memberships.Membership.{Membership}
use Rattle.motion_kernel.specs.looks.DriveAnswers.{answer_at}
use Rattle.motion_kernel.specs.looks.Masters.{master_of, follow_of}

-- what the axes look at in a cycle: the drives' answers, the setpoints of all axes at the end of
-- the previous cycle, the one before and the current one, and what the groups ask
pub record Surroundings : Type 0 where
  pub answers : List DriveIn
  pub pairs : List (ℤ × ℤ)
  pub steps : List GroupStep

abbrev pub pair_of : Axis → ℤ × ℤ
pair_of a = (a.previous, a.setpoint)

-- what a group asks of one of its axes: its place, and whether the path ends
abbrev pub step_at : List GroupStep → ℕ → GroupStep
step_at steps j = slice_index_or steps j (record { places = replicate 6 (pos 0); ends = false })

abbrev pub place_asked : Option Membership → List GroupStep → Option ℤ
place_asked None steps = None
place_asked (Some at) steps = Some (slice_index_or (step_at steps at.group).places at.place (pos 0))

abbrev pub end_asked : Option Membership → List GroupStep → Bool
end_asked None steps = false
end_asked (Some at) steps = (step_at steps at.group).ends

-- what an axis looks at in a cycle
unfoldable pub axis_look : Setup → Surroundings → Machine → ℕ → AxisLook
axis_look s around m n =
    let a = axis_at m n in
    let master = master_of (follow_of a.active) s.tables around.pairs in
    let at = membership_of s n in
    record {
      input = answer_at around.answers n;
      master = master.pair;
      cam = master.cam;
      cam_ended = master.ended;
      path = place_asked at around.steps;
      path_ends = end_asked at around.steps;
      stop_held = is_held m.instances a.hold;
    }
