-- What a look at a machine decides, besides its kernel's invariants, and what holds of it after
-- every past (PLCopen Motion Control Part 1 and Part 4).
use Rattle.std.specs.Prelude.{◌≡◌, ℕ, ◌<◌, Bool, true, ◌||◌, nat_eq, List, length}
use Rattle.axis_core.specs.Led.{HasCommand}
use Rattle.axis_core.specs.Ranges.{IsBetween}
use Rattle.axis_core.specs.Shown as axis_shown
use Rattle.axis_core.specs.declared.axis.Axis.{Axis}
use Rattle.command_pool.specs.Waiting.{queue_of}
use Rattle.command_pool.specs.declared.wanted.Wanted.{Wanted}
use Rattle.group_core.specs.Shown as group_shown
use Rattle.group_core.specs.Targets.{IsToward}
use Rattle.group_core.specs.declared.group.Group.{Group}
use Rattle.motion_history.specs.Setup.{Setup}
use Rattle.motion_kernel.specs.Machine.{Machine, PlacedGroup, axis_at, group_at, list_of}
use Rattle.motion_kernel.specs.kept.Machine.{IsMachineKept}
use Rattle.motion_kernel.specs.owners.Blocks.{command_state_at}
use Rattle.motion_kernel.specs.owners.Kinds.{AreOfTheirBlocks}
use Rattle.motion_kernel.specs.owners.Objects.{IsThere, Object}
use Rattle.motion_laws.specs.Orders.{AreOrders}
use Rattle.motion_laws.specs.owners.Shown.{AreWhereShown}

-- each command of an axis or a group is of the kind of its instance's block, and a pending reset is
-- that of a block that resets
abbrev pub KindsMatch : Setup → Machine → Type 0
KindsMatch s m = (o : Object) → IsThere m o → AreOfTheirBlocks s (command_state_at m o)

-- a group shows its error and its GroupStop truly, and an error is 101 to 106
pub record ShowsTruly (g : Group) : Type 0 where
  pub shown : group_shown.IsShown g
  pub number : group_shown.IsErrorOrNone g.error

-- each axis and each group of a machine has an error exactly in its state of errors, and is held
-- only in stopping
pub record AreAllShown (s : Setup) (m : Machine) : Type 0 where
  pub axes : (n : ℕ) → n < length s.axes → axis_shown.IsShown (axis_at m n)
  pub groups : (j : ℕ) → j < length s.groups → ShowsTruly (group_at m j).group

-- whether a controlword is one that the kernel gives. IEC 61800-7-201, object 6040h
abbrev pub is_given : ℕ → Bool
is_given w =
    nat_eq w 0x0000 || nat_eq w 0x0006 || nat_eq w 0x0007 || nat_eq w 0x000f || nat_eq w 0x0080

-- how the drive of an axis is led: while it is driven, the setpoint before the last one lies within
-- the limits too; and its controlword is one that the kernel gives. This project's profile
pub record IsSteered (a : Axis) : Type 0 where
  pub before : a.driven ≡ true → IsBetween a.limits.lo a.previous a.limits.hi
  pub word : is_given a.controlword ≡ true

-- the axis of this number with what waits for it: in a state of a command that moves it one is
-- active, commands are as they were asked for, and so is the drive led
pub record AxisStands (s : Setup) (n : ℕ) (a : Axis) (ws : List Wanted) : Type 0 where
  pub command : HasCommand a
  pub orders : AreOrders s n a ws
  pub steered : IsSteered a

-- a group with its path: that of an active line leads to its targets. PLCopen Part 4,
-- MC_MoveLinearAbsolute
pub record GroupStands (g : PlacedGroup) (waiting : List Wanted) : Type 0 where
  pub line : IsToward g.group.active g.path

-- so do each axis and each group
pub record AllStand (s : Setup) (m : Machine) : Type 0 where
  pub axes : (n : ℕ) → n < length m.axes → AxisStands s n (axis_at m n) (queue_of m.queues n)
  pub groups : (j : ℕ) → j < length m.groups →
      GroupStands (group_at m j) (queue_of m.queues (list_of m j))

-- a machine can stand so, besides what its kernel keeps
pub record CanStand (s : Setup) (m : Machine) : Type 0 where
  pub commands : AreWhereShown s m
  pub kinds : KindsMatch s m
  pub shown : AreAllShown s m
  pub objects : AllStand s m

-- a machine is kept, and can stand so
pub record IsStanding (s : Setup) (m : Machine) : Type 0 where
  pub kept : IsMachineKept s m
  pub stands : CanStand s m
