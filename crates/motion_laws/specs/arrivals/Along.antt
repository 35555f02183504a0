-- How the rows of axes move under a line of their group (PLCopen Motion Control Part 4,
-- MC_MoveLinearAbsolute).
use Rattle.std.specs.Prelude.{◌≡◌, ℕ, ◌<◌, ℤ, ◌≤ℤ◌, pos, true, Some, List, ◌∷◌, ◌++◌, length, slice_get}
use Rattle.axis_core.specs.blocks.Path.{is_on_path}
use Rattle.plc_types.specs.declared.axis.AxisRow.{AxisRow}
use Rattle.plc_types.specs.declared.kind.BlockKind.TheVariants as kind
use Rattle.command_pool.specs.declared.wanted.Wanted.{Wanted}
use Rattle.group_core.specs.Tracks.{OnPath, length_of, place_on}
use Rattle.plc_types.specs.declared.group.GroupRow.{GroupRow}
use Rattle.motion_history.specs.Entries.{Entry, cycle}
use Rattle.motion_history.specs.Setup.{Setup}
use Rattle.motion_kernel.specs.Histories.{after, machine_after}
use Rattle.motion_kernel.specs.Machine.{PlacedGroup, axis_at, group_at}
use Rattle.motion_kernel.specs.members.Members.{member_at, members_at}

-- two setpoints of an axis, the one before and the current one, are its places on the path of its
-- group, by the place on it before and the one now, which are those of all its axes, and the latter
-- within its length; and under an active line the path leads to the line's targets
pub record FollowsPath (g : PlacedGroup) (place : ℕ) (before now : ℤ) : Type 0 where
  pub path : OnPath
  pub on : g.path ≡ Some path
  pub was : before ≡ place_on path.way place path.motion.previous
  pub is : now ≡ place_on path.way place path.motion.place
  pub from : pos 0 ≤ℤ path.motion.place
  pub to : path.motion.place ≤ℤ pos (length_of path.way)
  pub leads : (w : Wanted) → g.group.active ≡ Some w → w.kind ≡ kind.MoveLinearAbsolute →
      path.way.targets ≡ w.targets

-- so does the row of each axis that is on its group's path after a cycle
abbrev pub RowsFollow : Setup → List Entry → Type 0
RowsFollow s es = (made more : List Entry) (c j place : ℕ) (rows : List AxisRow)
    (grows : List GroupRow) (r : AxisRow) → es ≡ made ++ cycle c rows grows ∷ more →
    j < length s.groups → place < length (members_at s j) →
    let n = member_at (members_at s j) place in
    let m = after s (machine_after s made) (cycle c rows grows) in
    slice_get rows n ≡ Some r → is_on_path (axis_at m n) ≡ true →
    FollowsPath (group_at m j) place (axis_at m n).previous r.setpoint
