-- What each part of the machine asks before it is called or cycled.
use Rattle.std.specs.Prelude.{◌≡◌, ℕ, ◌<◌, ◌≤◌, Bool, true, false, if◌then◌else◌, unsigned_abs, Result, List, length}
use Rattle.axis_core.specs.AxisKept as axis
use Rattle.axis_core.specs.Calls as axis_calls
use Rattle.axis_core.specs.Demands as demands
use Rattle.axis_core.specs.blocks.Path.{is_on_path}
use Rattle.plc_types.specs.declared.drive.DriveIn.{DriveIn}
use Rattle.command_pool.specs.Waiting.{queue_of}
use Rattle.command_pool.specs.declared.ending.Refusal.{Refusal}
use Rattle.plc_types.specs.declared.kind.BlockKind.{BlockKind}
use Rattle.fb_outputs.specs.Steps.{is_power}
use Rattle.plc_types.specs.declared.inputs.Inputs.{Inputs}
use Rattle.group_core.specs.Calls as calls
use Rattle.group_core.specs.GroupKept as group
use Rattle.group_core.specs.Refusals.{limits_in}
use Rattle.motion_history.specs.Setup.{Setup}
use Rattle.motion_numbers.specs.declared.TheConstants.{MOST_NUMBER}
use Rattle.motion_history.specs.declared.config.BlockDef.{BlockDef}
use Rattle.plc_types.specs.Kinds.{acts_on_group}
use Rattle.motion_kernel.specs.calls.Asking.{wanted_of}
use Rattle.motion_kernel.specs.calls.Calls.{asked_of_axis, leaves_path, with_axis_core, with_group_core, without_owner}
use Rattle.motion_kernel.specs.looks.AxisLooks.{Surroundings, axis_look}
use Rattle.motion_kernel.specs.cycles.AxisCycles.{axes_cycled}
use Rattle.motion_kernel.specs.cycles.GroupSteps.{error_of_group, groups_stepped}
use Rattle.motion_kernel.specs.looks.GroupLooks.{group_look}
use Rattle.motion_kernel.specs.Machine.{Machine, axis_at, axis_core_at, group_at, group_core_at}
use Rattle.motion_kernel.specs.members.Members.{member_at, members_at}

-- a group may be asked a command, or take its step, with this error of its axes
pub record MayLook (s : Setup) (m : Machine) (j error : ℕ) : Type 0 where
  pub look : group.IsLook (group_at m j).group (group_look s m j error)
  pub kept : group.IsCoreKept (limits_in (group_look s m j error)) (group_core_at m j)

-- each of the groups may take its step after those before it
abbrev pub MayStep : Setup → List DriveIn → Machine → Type 0
MayStep s ins m = (j : ℕ) → j < length m.groups →
    let before = (groups_stepped s j ins m).machine in
    MayLook s before j (error_of_group s before ins j)

-- an axis may go through a cycle
pub record MayCycle (s : Setup) (around : Surroundings) (m : Machine) (n : ℕ) : Type 0 where
  pub queue : axis.IsQueueKept (axis_at m n) (queue_of m.queues n)
  pub look : axis.IsLook (axis_at m n) (axis_look s around m n)

-- each of the axes may after those before it
abbrev pub MayGoOn : Setup → Surroundings → Machine → Type 0
MayGoOn s around m =
    (n : ℕ) → n < length m.axes → MayCycle s around (axes_cycled s n around m).machine n

-- those of some axes that are on a path rest
abbrev pub RestOnPaths : Machine → List ℕ → Type 0
RestOnPaths m members = (place : ℕ) → place < length members →
    let a = axis_at m (member_at members place) in
    is_on_path a ≡ true → a.previous ≡ a.setpoint

-- an axis may be asked a command by a call
pub record MayAskAxis (k n : ℕ) (kind : BlockKind) (i : Inputs) (m : Machine) : Type 0 where
  pub queue : axis.IsQueueKept (axis_at m n) (queue_of m.queues n)
  pub made : demands.IsMade (wanted_of k kind i)
  pub jerk : unsigned_abs i.jerk ≤ MOST_NUMBER

-- what an axis answers a call
abbrev pub axis_answer : Setup → ℕ → ℕ → BlockKind → Inputs → Machine → Result Bool Refusal
axis_answer s k n kind i m = axis_calls.answer_of (asked_of_axis s k n kind i m) (axis_core_at m n)

-- the machine with the axis that was asked, before its instance is answered
abbrev pub with_asked_axis : Setup → ℕ → ℕ → BlockKind → Inputs → Machine → Machine
with_asked_axis s k n kind i m =
    with_axis_core m n
    (axis_calls.core_after_command (asked_of_axis s k n kind i m) (axis_core_at m n))

-- what a group answers a call
abbrev pub group_answer : Setup → ℕ → ℕ → BlockKind → Inputs → Machine → Result Bool Refusal
group_answer s k j kind i m =
    calls.answer_of (wanted_of k kind i) i.jerk (group_look s m j 0) (group_core_at m j)

-- the machine with the group that was asked, before its axes are led
abbrev pub with_asked_group : Setup → ℕ → ℕ → BlockKind → Inputs → Machine → Machine
with_asked_group s k j kind i m =
    with_group_core m j
    (calls.commanded (wanted_of k kind i) i.jerk (group_look s m j 0) (group_core_at m j))

-- a group may be asked a command by a call; where GroupDisable is admitted, its axes rest
pub record MayAskGroup (s : Setup) (k j : ℕ) (kind : BlockKind) (i : Inputs) (m : Machine)
    : Type 0 where
  pub may : MayLook s m j 0
  pub made : group.IsMade (group_at m j).group.axes (wanted_of k kind i)
  pub jerk : unsigned_abs i.jerk ≤ MOST_NUMBER
  pub rest : leaves_path kind (group_answer s k j kind i m) ≡ true →
      RestOnPaths (with_asked_group s k j kind i m) (members_at s j)

-- what a rising edge asks: of the axis or the group on which the block acts
pub record MayRise (s : Setup) (k : ℕ) (b : BlockDef) (i : Inputs) (m : Machine) : Type 0 where
  pub axis : acts_on_group b.kind ≡ false → MayAskAxis k b.object b.kind i (without_owner k m)
  pub group : acts_on_group b.kind ≡ true → MayAskGroup s k b.object b.kind i (without_owner k m)

-- what a call asks: a Power of its axis, at every call; another block at a rising edge
pub record MayCall (s : Setup) (k : ℕ) (b : BlockDef) (i : Inputs) (m : Machine) : Type 0 where
  pub object : b.object < (if acts_on_group b.kind then length s.groups else length s.axes)
  pub power : is_power b.kind ≡ true →
      axis.IsQueueKept (axis_at m b.object) (queue_of m.queues b.object)
  pub rise : is_power b.kind ≡ false → MayRise s k b i m
