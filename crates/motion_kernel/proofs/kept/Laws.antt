-- The laws of axes and groups on which it rests that a machine stays kept: each repeats the clauses
-- of a law's function.
-- for: rows_are_counted, owners_have_blocks, machines_stay_kept and others
use Rattle.std.specs.Prelude.{◌≡◌, ◌⊎◌, ◌<◌, ◌≤ℤ◌, All, IsTrue, ℕ, ℤ, Bool, true, false, nat_eq, Some, None, is_some, List, [], Ok}
use Rattle.std.specs.List.{list_any}
use Rattle.axis_core.specs.Along.{GoesAlong, HasFollowed, IsLeftAlone, KeepsDefinition}
use Rattle.axis_core.specs.AxisKept as axis
use Rattle.axis_core.specs.AxisKept.{IsAxisDef}
use Rattle.axis_core.specs.Calls as calls
use Rattle.axis_core.specs.Cores as cores
use Rattle.axis_core.specs.Cycles.{axis_at_opening, core_after_cycle}
use Rattle.axis_core.specs.Demands as demands
use Rattle.axis_core.specs.Drives.{answer_error_of}
use Rattle.axis_core.specs.Led.{StaysLed}
use Rattle.axis_core.specs.Owners.{core_without_owner}
use Rattle.axis_core.specs.Refusals.{Asked}
use Rattle.axis_core.specs.blocks.Path.{axis_on_path, is_on_path}
use Rattle.axis_core.specs.declared.axis.Axis.{Axis}
use Rattle.axis_core.specs.declared.look.AxisLook.{AxisLook}
use Rattle.plc_types.specs.Counts.{IsCount}
use Rattle.plc_types.specs.declared.axis.AxisDef.{AxisDef}
use Rattle.plc_types.specs.declared.axis_state.AxisState.TheVariants as state
use Rattle.cam_table.specs.CamTable.{IsCamTable}
use Rattle.plc_types.specs.declared.kind.BlockKind.TheVariants as kind
use Rattle.command_pool.specs.declared.wanted.Wanted.{Wanted}
use Rattle.follow_plan.specs.Cam.{cam_position_of}
use Rattle.group_core.specs.Calls.{answer_of, commanded, disowned, group_without, powered_off}
use Rattle.group_core.specs.Cores as group_cores
use Rattle.group_core.specs.Cycles.{cycled, opening, reset_cycled, reset_where, step_of}
use Rattle.group_core.specs.GroupKept as group
use Rattle.group_core.specs.GroupKept.{AreGroupLimits, is_within}
use Rattle.group_core.specs.Members.{StandsOn, TakesSafely}
use Rattle.group_core.specs.Refusals.{limits_in, states_in}
use Rattle.group_core.specs.States.{is_moved}
use Rattle.group_core.specs.Tracks.{OnPath, is_moving}
use Rattle.group_core.specs.declared.group.Group.{Group}
use Rattle.group_core.specs.declared.look.GroupLook.{GroupLook}
use Rattle.plc_types.specs.declared.limits.Limits.{Limits}
use Rattle.linear_path.specs.Line.{coordinate_of}
use Rattle.motion_history.specs.Configurations.{IsSound}
use Rattle.motion_history.specs.Setup.{Setup, IsSetup}

-- axis_core's axes_stay_kept
pub record AxesStayKept : Type 0 where
  pub opened : (d : AxisDef) → IsAxisDef d → axis.IsCoreKept (record { axis = axis_at_opening d; waiting = []; notes = [] })
  pub command : (c : cores.Core) (number : ℕ) (w : Wanted) (jerk : ℤ) (held : Bool) (tables : ℕ) → axis.IsCoreKept c → demands.IsMade w →
      axis.IsCoreKept (calls.core_after_command (demands.asked_in c number w jerk held tables) c)
  pub power : (enable : Bool) (c : cores.Core) → axis.IsCoreKept c → axis.IsCoreKept (calls.core_after_power enable c)
  pub detach : (owner : ℕ) (c : cores.Core) → axis.IsCoreKept c → axis.IsCoreKept (core_without_owner owner c)
  pub path : (on : Bool) (c : cores.Core) → axis.IsCoreKept c → c.axis.active ≡ None → IsTrue on ⊎ (c.axis.previous ≡ c.axis.setpoint) →
      axis.IsCoreKept (record c { axis = axis_on_path on c.axis })
  pub cycle : (look : AxisLook) (c : cores.Core) → axis.IsCoreKept c → axis.IsLook c.axis look → IsCount look.input.actual →
      axis.IsCoreKept (core_after_cycle look c)

-- axis_core's axes_keep_their_definitions
pub record AxesKeepDefinitions : Type 0 where
  pub command : (q : Asked) (c : cores.Core) → KeepsDefinition c.axis (calls.core_after_command q c).axis
  pub power : (enable : Bool) (c : cores.Core) → KeepsDefinition c.axis (calls.core_after_power enable c).axis
  pub detach : (owner : ℕ) (a : Axis) → KeepsDefinition a (calls.axis_without_owner owner a)
  pub path : (on : Bool) (a : Axis) → KeepsDefinition a (axis_on_path on a)
  pub cycle : (look : AxisLook) (c : cores.Core) → KeepsDefinition c.axis (core_after_cycle look c).axis

-- axis_core's held_axes_take_no_command
abbrev pub HeldTakeNoCommand : Type 0
HeldTakeNoCommand = (q : Asked) (c : cores.Core) → demands.IsMade q.wanted → q.held ≡ true → IsLeftAlone c (calls.core_after_command q c)

-- axis_core's moving_axes_have_commands
pub record AxesStayLed : Type 0 where
  pub command : (q : Asked) (c : cores.Core) → StaysLed c.axis (calls.core_after_command q c).axis
  pub power : (enable : Bool) (c : cores.Core) → StaysLed c.axis (calls.core_after_power enable c).axis
  pub detach : (owner : ℕ) (a : Axis) → StaysLed a (calls.axis_without_owner owner a)
  pub cycle : (look : AxisLook) (c : cores.Core) → axis.IsCoreKept c → StaysLed c.axis (core_after_cycle look c).axis

-- axis_core's paths_are_followed
pub record PathsAreFollowed : Type 0 where
  pub follows : (look : AxisLook) (c : cores.Core) → axis.IsCoreKept c → axis.IsLook c.axis look →
      is_on_path c.axis ≡ true → is_on_path (core_after_cycle look c).axis ≡ true → HasFollowed c.axis look (core_after_cycle look c).axis
  pub goes_on : (look : AxisLook) (c : cores.Core) → axis.IsCoreKept c → axis.IsLook c.axis look →
      is_on_path c.axis ≡ true → nat_eq (answer_error_of c.axis look.input) 0 ≡ true → GoesAlong c.axis look (core_after_cycle look c)

-- axis_core's standing_axes_stay
abbrev pub StandingStay : Type 0
StandingStay = (look : AxisLook) (c : cores.Core) → axis.IsCoreKept c → c.axis.state ≡ state.Standstill →
    nat_eq (answer_error_of c.axis look.input) 0 ≡ true → (core_after_cycle look c).axis.state ≡ state.Standstill

-- group_core's groups_stay_kept
pub record GroupsStayKept : Type 0 where
  pub opened : (axes : ℕ) (limits : List Limits) → group.IsCount axes → AreGroupLimits axes limits → group.IsCoreKept limits (opening axes)
  pub command : (members : GroupLook) (w : Wanted) (jerk : ℤ) (c : group_cores.Core) →
      group.IsLook c.group members → group.IsMade c.group.axes w → group.IsCoreKept (limits_in members) c →
      group.IsCoreKept (limits_in members) (commanded w jerk members c)
  pub power_off : (limits : List Limits) (c : group_cores.Core) → group.IsCoreKept limits c → group.IsCoreKept limits (powered_off c)
  pub detach : (owner : ℕ) (limits : List Limits) (c : group_cores.Core) → group.IsCoreKept limits c → group.IsCoreKept limits (disowned owner c)
  pub cycle : (members : GroupLook) (c : group_cores.Core) → group.IsLook c.group members →
      group.IsCoreKept (limits_in members) c → group.IsCoreKept (limits_in members) (cycled members c)
  pub reset : (members : GroupLook) (limits : List Limits) (c : group_cores.Core) → group.IsCoreKept limits c → group.IsCoreKept limits (reset_cycled members c)

-- group_core's members_keep_their_limits
pub record MembersKeepLimits : Type 0 where
  pub safe : (members : GroupLook) (c : group_cores.Core) (p : OnPath) (axis : ℕ) (before now : ℤ) →
      group.IsLook c.group members → group.IsCoreKept (limits_in members) c → c.path ≡ Some p → axis < c.group.axes → StandsOn p axis before now →
      TakesSafely (limits_in members) axis before now (coordinate_of (step_of members c).places axis)
  pub ends : (members : GroupLook) (c : group_cores.Core) (p : OnPath) (axis : ℕ) (before now : ℤ) →
      group.IsLook c.group members → group.IsCoreKept (limits_in members) c → c.path ≡ Some p → axis < c.group.axes → StandsOn p axis before now →
      (step_of members c).ends ≡ true → coordinate_of (step_of members c).places axis ≡ now
  pub stands : (members : GroupLook) (c : group_cores.Core) (p q : OnPath) (axis : ℕ) (before now : ℤ) →
      group.IsLook c.group members → group.IsCoreKept (limits_in members) c → c.path ≡ Some p → axis < c.group.axes → StandsOn p axis before now →
      (cycled members c).path ≡ Some q → StandsOn q axis now (coordinate_of (step_of members c).places axis)
  pub begins : (members : GroupLook) (axis : ℕ) (w : Wanted) (jerk : ℤ) (c : group_cores.Core) →
      group.IsLook c.group members → group.IsMade c.group.axes w → group.IsCoreKept (limits_in members) c → axis < c.group.axes → (q : OnPath) →
      (commanded w jerk members c).path ≡ Some q →
      (c.path ≡ Some q) ⊎ ((is_moving c.path ≡ false) × StandsOn q axis (coordinate_of members.setpoints axis) (coordinate_of members.setpoints axis))
  pub leaves : (members : GroupLook) (axis : ℕ) (w : Wanted) (jerk : ℤ) (c : group_cores.Core) (p : OnPath) (before now : ℤ) →
      group.IsLook c.group members → group.IsMade c.group.axes w → group.IsCoreKept (limits_in members) c → c.path ≡ Some p → StandsOn p axis before now →
      (commanded w jerk members c).path ≡ None → before ≡ now
  pub power_off : (c : group_cores.Core) → (powered_off c).path ≡ c.path
  pub stays_off : (members : GroupLook) (c : group_cores.Core) → c.path ≡ None → (cycled members c).path ≡ None

-- group_core's groups_keep_their_axes
pub record GroupsKeepAxes : Type 0 where
  pub command : (w : Wanted) (jerk : ℤ) (members : GroupLook) (c : group_cores.Core) → (commanded w jerk members c).group.axes ≡ c.group.axes
  pub power_off : (c : group_cores.Core) → (powered_off c).group.axes ≡ c.group.axes
  pub detach : (owner : ℕ) (g : Group) → (group_without owner g).axes ≡ g.axes
  pub cycle : (members : GroupLook) (c : group_cores.Core) → (cycled members c).group.axes ≡ c.group.axes
  pub reset : (members : GroupLook) (on_path : Bool) (g : Group) → (reset_where members on_path g).axes ≡ g.axes

-- group_core's groups_come_alive_by_enable_and_reset
pub record GroupsComeAlive : Type 0 where
  pub command : (w : Wanted) (jerk : ℤ) (members : GroupLook) (c : group_cores.Core) →
      is_within (commanded w jerk members c).group.state ≡ true → (is_within c.group.state ≡ true) ⊎ (list_any is_moved (states_in members) ≡ false)
  pub only_enable : (w : Wanted) (jerk : ℤ) (members : GroupLook) (c : group_cores.Core) →
      is_within (commanded w jerk members c).group.state ≡ true → (is_within c.group.state ≡ true) ⊎ (w.kind ≡ kind.GroupEnable)
  pub power_off : (limits : List Limits) (c : group_cores.Core) → group.IsCoreKept limits c → is_within (powered_off c).group.state ≡ false
  pub cycle : (members : GroupLook) (c : group_cores.Core) → group.IsCoreKept (limits_in members) c →
      is_within (cycled members c).group.state ≡ true → (is_within c.group.state ≡ true) × (members.error ≡ 0)
  pub reset : (members : GroupLook) (on_path : Bool) (g : Group) →
      is_within (reset_where members on_path g).state ≡ true → (is_within g.state ≡ true) ⊎ (list_any is_moved (states_in members) ≡ false)

-- group_core's paths_change_by_commands
pub record PathsChange : Type 0 where
  pub begins : (w : Wanted) (jerk : ℤ) (members : GroupLook) (c : group_cores.Core) →
      answer_of w jerk members c ≡ Ok true → is_some (commanded w jerk members c).path ≡ true
  pub only_begins : (w : Wanted) (jerk : ℤ) (members : GroupLook) (c : group_cores.Core) (q : OnPath) →
      (commanded w jerk members c).path ≡ Some q → (c.path ≡ Some q) ⊎ (answer_of w jerk members c ≡ Ok true)
  pub only_leaves : (w : Wanted) (jerk : ℤ) (members : GroupLook) (c : group_cores.Core) (p : OnPath) →
      c.path ≡ Some p → (commanded w jerk members c).path ≡ None → (w.kind ≡ kind.GroupDisable) × (answer_of w jerk members c ≡ Ok false)
  pub ends : (members : GroupLook) (c : group_cores.Core) (p : OnPath) → c.path ≡ Some p → (cycled members c).path ≡ None → (step_of members c).ends ≡ true
  pub goes_on : (members : GroupLook) (c : group_cores.Core) (q : OnPath) → (cycled members c).path ≡ Some q → (step_of members c).ends ≡ false

-- motion_history's configurations_are_sound
abbrev pub ConfigurationsAreSound : Type 0
ConfigurationsAreSound = (s : Setup) → IsSetup s → IsSound s

-- follow_plan's cam_positions_lie_between_points
abbrev pub CamsInRange : Type 0
CamsInRange = (points : List (ℤ × ℤ)) (low high master : ℤ) → IsCamTable points →
    All (λ p. (low ≤ℤ p.1) × (p.1 ≤ℤ high)) points → (low ≤ℤ cam_position_of points master) × (cam_position_of points master ≤ℤ high)
