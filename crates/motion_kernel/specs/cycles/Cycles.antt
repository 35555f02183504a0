-- What a cycle makes of the machine (PLCopen Motion Control Part 1 and Part 4; the order within a
-- cycle is this project's profile).
use Rattle.std.specs.Prelude.{ℕ, List, length, map}
use Rattle.axis_core.specs.declared.look.AxisLook.{AxisLook}
use Rattle.plc_types.specs.declared.axis.AxisRow.{AxisRow}
use Rattle.plc_types.specs.declared.drive.DriveIn.{DriveIn}
use Rattle.group_core.specs.declared.look.GroupLook.{GroupLook}
use Rattle.plc_types.specs.declared.group.GroupRow.{GroupRow}
use Rattle.motion_history.specs.Setup.{Setup}
use Rattle.motion_kernel.specs.Machine.{Machine}
use Rattle.motion_kernel.specs.cycles.AxisCycles.{axes_cycled}
use Rattle.motion_kernel.specs.cycles.GroupResets.{groups_reset}
use Rattle.motion_kernel.specs.cycles.GroupSteps.{GroupsStepped, groups_stepped, look_in_cycle}
use Rattle.motion_kernel.specs.cycles.Showing.{with_found}
use Rattle.motion_kernel.specs.looks.AxisLooks.{Surroundings, pair_of, axis_look}

-- the machine after a cycle, and the rows of its axes and groups
pub record Cycled : Type 0 where
  pub machine : Machine
  pub axes : List AxisRow
  pub groups : List GroupRow

-- the machine after all groups took their steps, and what the axes then look at
abbrev pub stepped_in : Setup → List DriveIn → Machine → GroupsStepped
stepped_in s ins m = groups_stepped s (length m.groups) ins m

abbrev pub around_in : Setup → List DriveIn → Machine → Surroundings
around_in s ins m =
    record { answers = ins; pairs = map pair_of m.axes; steps = (stepped_in s ins m).steps }

-- the groups take their steps, then the axes go through the cycle, then the groups' Resets are done
unfoldable pub cycled : Setup → Machine → List DriveIn → Cycled
cycled s m ins =
    let stepped = (stepped_in s ins m).machine in
    let moved = axes_cycled s (length stepped.axes) (around_in s ins m) stepped in
    let reset = groups_reset s (length moved.machine.groups) moved.machine in
    record { machine = reset.machine; axes = moved.rows; groups = reset.rows }

-- the machine after a cycle in which the drives gave these answers
abbrev pub after_cycle : Setup → Machine → List DriveIn → Machine
after_cycle s m ins = with_found s (cycled s m ins).machine

-- what an axis looks at in a cycle, after the steps of the groups and the axes before it
abbrev pub look_of_axis : Setup → Machine → List DriveIn → ℕ → AxisLook
look_of_axis s m ins n =
    let around = around_in s ins m in
    axis_look s around (axes_cycled s n around (stepped_in s ins m).machine).machine n

-- what a group looks at in a cycle, after the steps of the groups before it
abbrev pub look_of_group : Setup → Machine → List DriveIn → ℕ → GroupLook
look_of_group s m ins j = look_in_cycle s ins j (groups_stepped s j ins m).machine
