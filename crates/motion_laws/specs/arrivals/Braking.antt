-- How the rows of the axes of a group move under a GroupHalt or a GroupStop (PLCopen Motion Control
-- Part 4, MC_GroupHalt and MC_GroupStop).
use Rattle.std.specs.Prelude.{◌≡◌, ◌≢◌, ℕ, ◌<◌, ℤ, ◌+ℤ◌, Some, List, ◌∷◌, ◌++◌, length, slice_get}
use Rattle.std.specs.Int.{int_min}
use Rattle.axis_core.specs.declared.axis.Axis.{Axis}
use Rattle.plc_types.specs.declared.axis.AxisRow.{AxisRow}
use Rattle.command_pool.specs.declared.ending.Finish.TheVariants as finish
use Rattle.command_pool.specs.declared.wanted.Wanted.{Wanted}
use Rattle.group_core.specs.Courses.{course_of, slowing}
use Rattle.group_core.specs.Tracks.{OnPath, braking_step_of, moved_by, place_on}
use Rattle.plc_types.specs.declared.group.GroupRow.{GroupRow}
use Rattle.motion_history.specs.Entries.{Entry, cycle}
use Rattle.motion_history.specs.Setup.{Setup}
use Rattle.motion_kernel.specs.Histories.{machine_after}
use Rattle.motion_kernel.specs.Machine.{Machine, axis_at, group_at}
use Rattle.motion_kernel.specs.members.Members.{member_at, members_at}
use Rattle.motion_laws.specs.arrivals.GroupFates.{group_fate, path_in}
use Rattle.motion_laws.specs.arrivals.Slowing.{Slows}

-- an axis of a path goes from its place there to the one that is next along the path
pub record GoesOnTo (p : OnPath) (axis : ℕ) (next : ℤ) (a : Axis) (setpoint : ℤ) : Type 0 where
  pub was : a.previous ≡ place_on p.way axis p.motion.previous
  pub is : a.setpoint ≡ place_on p.way axis p.motion.place
  pub goes : setpoint ≡ place_on p.way axis next

-- in a cycle a group takes the step along its path that brakes by a deceleration, slows down by it,
-- cut to the path's dmax, and its axes go with it
pub record SlowsAlong (s : Setup) (m : Machine) (c j : ℕ) (rows : List AxisRow)
    (grows : List GroupRow) (p : OnPath) (d : ℤ) : Type 0 where
  pub takes : path_in s m (cycle c rows grows) j
      ≡ Some (record p { motion = moved_by (braking_step_of d p.motion) p.motion })
  pub slows : Slows (int_min d p.motion.limits.dmax) p.motion.previous p.motion.place
      (p.motion.place +ℤ braking_step_of d p.motion)
  pub axes : (place : ℕ) (r : AxisRow) → place < length (members_at s j) →
      let n = member_at (members_at s j) place in slice_get rows n ≡ Some r →
      GoesOnTo p place (p.motion.place +ℤ braking_step_of d p.motion) (axis_at m n) r.setpoint

-- so under an active GroupHalt or GroupStop, or what brakes a path before an aborting line, in each
-- cycle that does not end it by an error
abbrev pub GroupHaltsSlow : Setup → List Entry → Type 0
GroupHaltsSlow s es = (made more : List Entry) (c j : ℕ) (rows : List AxisRow)
    (grows : List GroupRow) (w : Wanted) (d : ℤ) (p : OnPath) → es ≡ made ++ cycle c rows grows ∷ more →
    j < length s.groups →
    let m = machine_after s made in
    (group_at m j).group.active ≡ Some w → course_of w ≡ Some (slowing d) →
    (group_at m j).path ≡ Some p →
    ((error : ℕ) → (group_fate s m (cycle c rows grows) j).ends ≢ Some (finish.Error error)) →
    SlowsAlong s m c j rows grows p d
