-- A machine whose axes and groups are as their states say.
-- for: kernel_of
use Rattle.std.specs.Prelude.{◌≡◌, ℕ, ◌<◌, length}
use Rattle.std.proofs.Common.{arith}
use Rattle.group_core.specs.Targets.{IsToward}
use Rattle.kernel_invariants.specs.States.{AxisIsInState, GroupIsInState}
use Rattle.motion_history.specs.Setup.{Setup}
use Rattle.motion_kernel.specs.Machine.{Machine, axis_at, group_at}
use Rattle.motion_kernel.specs.kept.Machine.{IsSized}
use Rattle.segment_check.specs.Flaws.{HaveStates}

abbrev AxesAre : Machine → Type 0
AxesAre m = (n : ℕ) → n < length m.axes → AxisIsInState (axis_at m n)

abbrev GroupsAre : Machine → Type 0
GroupsAre m = (j : ℕ) → j < length m.groups → (GroupIsInState (group_at m j).group
    × IsToward (group_at m j).group.active (group_at m j).path)

pub in_state : (s : Setup) (m : Machine) → IsSized s m → AxesAre m → GroupsAre m → HaveStates s m
in_state s m sized axes groups =
    let a = sized.axes in
    let g = sized.groups in
    record {
      shown = record {
        axes = λ n l. (axes n (omega arith)).shown;
        groups = λ j l. let is = (groups j (omega arith)).0 in
            record { shown = is.shown; number = is.number };
      };
      moves = λ n l. (axes n l).command;
      lines = λ j l. (groups j l).1;
    }

pub axes_in : (s : Setup) (m : Machine) → IsSized s m → HaveStates s m → AxesAre m
axes_in s m sized h n l =
    let a = sized.axes in
    record { shown = h.shown.axes n (omega arith); command = h.moves n l }

pub groups_in : (s : Setup) (m : Machine) → IsSized s m → HaveStates s m → GroupsAre m
groups_in s m sized h j l =
    let g = sized.groups in
    let is = h.shown.groups j (omega arith) in
    (record { shown = is.shown; number = is.number }, h.lines j l)
