-- The invariant of a group on its path and of the commands that wait for it.
use Rattle.std.specs.Prelude.{◌≡◌, ◌⊎◌, ℕ, ◌<◌, ◌≤◌, Bool, true, false, ℤ, pos, ◌≤ℤ◌, Option, Some, None, is_some, List, [], ◌∷◌, length}
use Rattle.plc_types.specs.Kinds.{acts_on_group}
use Rattle.command_pool.specs.Rates.{AreRates}
use Rattle.plc_types.specs.declared.kind.BlockKind.{BlockKind}
use Rattle.plc_types.specs.declared.kind.BlockKind.TheVariants as kind
use Rattle.plc_types.specs.declared.kind.BufferMode.TheVariants.{Aborting}
use Rattle.command_pool.specs.declared.wanted.Wanted.{Wanted}
use Rattle.plc_types.specs.declared.group.GroupState.{GroupState}
use Rattle.plc_types.specs.declared.group.GroupState.TheVariants.{GroupDisabled, GroupStandby, GroupMoving, GroupHoming, GroupStopping, GroupErrorStop}
use Rattle.kin_core.specs.Admissible.{IsKept}
use Rattle.plc_types.specs.declared.limits.Limits.{Limits}
use Rattle.linear_path.specs.Line.{AreInRange, coordinate_of}
use Rattle.linear_path.specs.Path.{AreAxesLimits, AreWithin, limits_at}
use Rattle.motion_numbers.specs.declared.TheConstants.{MOST_PLACE, MOST_STEP}
use Rattle.group_core.specs.Cores.{Core}
use Rattle.group_core.specs.Kinds.{may_wait}
use Rattle.group_core.specs.Refusals.{is_blending, limits_in}
use Rattle.group_core.specs.Tracks.{OnPath, is_moving, limits_on}
use Rattle.group_core.specs.declared.group.Group.{Group}
use Rattle.group_core.specs.declared.look.GroupLook.{GroupLook}

-- how many axes a group has: 2 to 6. This project's profile
pub record IsCount (axes : ℕ) : Type 0 where
  pub least : 2 ≤ axes
  pub most : axes ≤ 6

-- a setpoint or a target lies within the limits of an axis
pub record IsWithin (limits : Limits) (place : ℤ) : Type 0 where
  pub above : limits.lo ≤ℤ place
  pub below : place ≤ℤ limits.hi

-- each of this many axes is within its limits, and those after are at 0
pub record AreTargets (axes : ℕ) (limits : List Limits) (targets : List ℤ) : Type 0 where
  pub within : (axis : ℕ) → axis < axes →
      IsWithin (limits_at limits axis) (coordinate_of targets axis)
  pub others : (axis : ℕ) → axes ≤ axis → coordinate_of targets axis ≡ pos 0

-- the limits of the axes of a group are in their ranges. This project's profile
pub record AreGroupLimits (axes : ℕ) (limits : List Limits) : Type 0 where
  pub each : AreAxesLimits axes limits
  pub top : (axis : ℕ) → axis < axes → (limits_at limits axis).hi ≤ℤ pos MOST_PLACE

-- a deceleration of a halt is in its range. This project's profile
pub record IsDeceleration (d : ℤ) : Type 0 where
  pub least : pos 1 ≤ℤ d
  pub most : d ≤ℤ pos MOST_STEP

-- whether a command may be active in a state
abbrev pub fits : GroupState → BlockKind → Bool
fits GroupMoving kind.MoveLinearAbsolute = true
fits GroupMoving kind.GroupHalt = true
fits GroupStopping kind.GroupStop = true
fits s k = false

-- the rates of an active command are in their ranges. This project's profile
abbrev pub AreNumbers : BlockKind → Wanted → Type 0
AreNumbers kind.MoveLinearAbsolute w = AreRates w.rates
AreNumbers k w = IsDeceleration w.rates.d

-- an active command fits the state, and its rates are in their ranges
pub record IsActive (s : GroupState) (w : Wanted) : Type 0 where
  pub fitting : fits s w.kind ≡ true
  pub numbers : AreNumbers w.kind w

-- a group is on no path, and has no command
pub record IsIdle (p : Option OnPath) (active : Option Wanted) : Type 0 where
  pub off : p ≡ None
  pub idle : active ≡ None

-- a group is on a path by a command
pub record IsLed (p : Option OnPath) (active : Option Wanted) : Type 0 where
  pub on : is_some p ≡ true
  pub led : is_some active ≡ true

-- a group is on a path, which rests once the GroupStop is done
pub record IsStopped (p : Option OnPath) (active : Option Wanted) : Type 0 where
  pub on : is_some p ≡ true
  pub rests : active ≡ None → is_moving p ≡ false

-- what each state says of the path and the active command; no step leads to GroupHoming
abbrev pub IsInState : GroupState → Option OnPath → Option Wanted → Type 0
IsInState GroupDisabled p active = IsIdle p active
IsInState GroupStandby p active = IsIdle p active
IsInState GroupMoving p active = IsLed p active
IsInState GroupHoming p active = ⊥
IsInState GroupStopping p active = IsStopped p active
IsInState GroupErrorStop p active = active ≡ None

-- a path is one of these axes, within their limits, and can be stopped. This project's profile
pub record IsPathOf (axes : ℕ) (limits : List Limits) (p : OnPath) : Type 0 where
  pub count : p.way.count ≡ axes
  pub starts : AreInRange p.way.starts
  pub targets : AreInRange p.way.targets
  pub within : (axis : ℕ) → axis < axes →
      AreWithin (limits_at limits axis) (coordinate_of p.way.starts axis)
      (coordinate_of p.way.targets axis)
  pub limits_are : p.motion.limits ≡ limits_on p.way limits
  pub from : pos 0 ≤ℤ p.motion.previous
  pub to : p.motion.previous ≤ℤ p.motion.limits.hi
  pub kept : IsKept p.motion.limits p.motion.previous p.motion.place

-- a command that waits: a line, with rates in their ranges, to targets within the limits
pub record IsWaiting (axes : ℕ) (limits : List Limits) (w : Wanted) : Type 0 where
  pub line : w.kind ≡ kind.MoveLinearAbsolute
  pub rates : AreRates w.rates
  pub targets : AreTargets axes limits w.targets
  pub mode : is_blending w.mode ≡ false

-- all commands that wait are so. BufferMode
abbrev pub AreWaiting : ℕ → List Limits → List Wanted → Type 0
AreWaiting axes limits [] = Unit {0}
AreWaiting axes limits (w ∷ ws) = IsWaiting axes limits w × AreWaiting axes limits ws

-- the invariant of a group whose axes have these limits, of its path and of its queue
pub record IsGroupKept
    (limits : List Limits) (g : Group) (p : Option OnPath) (ws : List Wanted) : Type 0 where
  pub axes : IsCount g.axes
  pub limits_are : AreGroupLimits g.axes limits
  pub state : IsInState g.state p g.active
  pub active : (w : Wanted) → g.active ≡ Some w → IsActive g.state w
  pub path : (on : OnPath) → p ≡ Some on → IsPathOf g.axes limits on
  pub waiting : AreWaiting g.axes limits ws
  pub queue : (ws ≡ []) ⊎ (g.state ≡ GroupMoving)

-- the invariant of a group, its path and the commands that wait
abbrev pub IsCoreKept : List Limits → Core → Type 0
IsCoreKept limits c = IsGroupKept limits c.group c.path c.waiting

-- whether the axes of a group in this state stand within their limits. This project's profile
abbrev pub is_within : GroupState → Bool
is_within GroupDisabled = false
is_within GroupErrorStop = false
is_within s = true

-- what is reported of the axes: as many as the group has, standing within their limits where they
-- must
pub record IsLook (g : Group) (members : GroupLook) : Type 0 where
  pub count : members.count ≡ g.axes
  pub six : length members.setpoints ≡ 6
  pub setpoints : is_within g.state ≡ true → AreTargets g.axes (limits_in members) members.setpoints

-- a command is made of a call's inputs: its kind is a group's, what its kind doesn't take is unset
pub record IsMade (axes : ℕ) (w : Wanted) : Type 0 where
  pub kind : acts_on_group w.kind ≡ true
  pub mode : may_wait w.kind ≡ false → w.mode ≡ Aborting
  pub others : (axis : ℕ) → axes ≤ axis → coordinate_of w.targets axis ≡ pos 0
