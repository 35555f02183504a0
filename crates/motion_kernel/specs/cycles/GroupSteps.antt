-- What the steps of the groups make of the machine in a cycle (PLCopen Motion Control Part 4; this
-- project's profile).
use Rattle.std.specs.Prelude.{ℕ, zero, suc, List, [], ◌∷◌, ◌++◌}
use Rattle.plc_types.specs.declared.drive.DriveIn.{DriveIn}
use Rattle.group_core.specs.Cycles as group
use Rattle.group_core.specs.declared.look.GroupLook.{GroupLook}
use Rattle.group_core.specs.declared.look.GroupStep.{GroupStep}
use Rattle.motion_history.specs.Setup.{Setup}
use Rattle.motion_kernel.specs.calls.Calls.{with_group_core}
use Rattle.motion_kernel.specs.looks.GroupLooks.{group_look}
use Rattle.motion_kernel.specs.Machine.{Machine, group_core_at}
use Rattle.motion_kernel.specs.members.Members.{members_at}
use Rattle.motion_kernel.specs.looks.DriveAnswers.{first_error}

-- the error that a group gets from its axes
abbrev pub error_of_group : Setup → Machine → List DriveIn → ℕ → ℕ
error_of_group s m ins j = first_error m.axes ins (members_at s j)

-- what a group looks at in a cycle
abbrev pub look_in_cycle : Setup → List DriveIn → ℕ → Machine → GroupLook
look_in_cycle s ins j m = group_look s m j (error_of_group s m ins j)

-- the machine after a group's step: it reads its axes' errors, and moves along its path
abbrev pub after_group_step : Setup → List DriveIn → ℕ → Machine → Machine
after_group_step s ins j m =
    with_group_core m j (group.cycled (look_in_cycle s ins j m) (group_core_at m j))

-- the machine after some groups took their steps, and what these ask of their axes
pub record GroupsStepped : Type 0 where
  pub machine : Machine
  pub steps : List GroupStep

-- one group more takes its step
abbrev pub group_stepped : Setup → List DriveIn → ℕ → GroupsStepped → GroupsStepped
group_stepped s ins j g = record {
  machine = after_group_step s ins j g.machine;
  steps = g.steps ++
      group.step_of (look_in_cycle s ins j g.machine) (group_core_at g.machine j) ∷ [];
}

-- the first n groups take their steps
unfoldable pub groups_stepped : Setup → ℕ → List DriveIn → Machine → GroupsStepped
groups_stepped s zero ins m = record { machine = m; steps = [] }
groups_stepped s (suc n) ins m = group_stepped s ins n (groups_stepped s n ins m)
