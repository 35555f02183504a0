-- What a header can hold: a machine of a configuration, each of whose numbers has the bits of its
-- type. This project's profile.
use Rattle.std.specs.Prelude.{◌≡◌, ◌<◌, ◌≤◌, ℕ, ℤ, List, IfSome, IsTrue, length}
use Rattle.std.specs.List.{AllByRecursion, AllZip}
use Rattle.std.proofs.Common.{FitsSigned, w64}
use Rattle.axis_core.specs.declared.axis.Axis.{Axis}
use Rattle.plc_types.specs.declared.axis.AxisDef.{AxisDef}
use Rattle.buffer_modes.specs.declared.reset.PendingReset.{PendingReset}
use Rattle.command_pool.specs.declared.ending.Finish.TheVariants as finish
use Rattle.command_pool.specs.declared.rates.Rates.{Rates}
use Rattle.command_pool.specs.declared.wanted.Follow.{Follow}
use Rattle.command_pool.specs.declared.wanted.Follow.TheVariants as follow
use Rattle.command_pool.specs.declared.wanted.Wanted.{Wanted}
use Rattle.fb_outputs.specs.InstanceState.{InstanceState}
use Rattle.fb_outputs.specs.declared.instance.Progress.{Progress}
use Rattle.fb_outputs.specs.declared.instance.Progress.TheVariants as progress
use Rattle.group_core.specs.Tracks.{OnPath, Way}
use Rattle.plc_types.specs.declared.limits.Limits.{Limits}
use Rattle.motion_history.specs.Setup.{Setup}
use Rattle.motion_history.specs.declared.config.BlockDef.{BlockDef}
use Rattle.motion_history.specs.declared.config.GroupDef.{GroupDef}
use Rattle.motion_kernel.specs.Segments.{IsEarly}
use Rattle.motion_kernel.specs.Machine.{Machine, PlacedGroup}
use Rattle.motion_kernel.specs.declared.segment.Before.{Before}
use Rattle.motion_kernel.specs.kept.Machine.{IsSized}
use Rattle.segment_text.specs.reading.Groups.{are_places}

-- a number of 64 bits
abbrev pub IsWide : ℤ → Type 0
IsWide z = FitsSigned w64 z

-- a number of 16 bits
abbrev pub IsWord : ℕ → Type 0
IsWord n = n ≤ 65535

-- six numbers of 64 bits
pub record AreSix (numbers : List ℤ) : Type 0 where
  pub six : length numbers ≡ 6
  pub wide : AllByRecursion IsWide numbers

-- rates of 64 bits
pub record AreRates (r : Rates) : Type 0 where
  pub velocity : IsWide r.v
  pub acceleration : IsWide r.a
  pub deceleration : IsWide r.d

-- the number of a master has 8 bits, the number of a table 16, and a gear's ratio 64
abbrev pub IsFollow : Follow → Type 0
IsFollow follow.None = Unit {0}
IsFollow (follow.Gear master n d) = (master ≤ 255) × IsWide n × IsWide d
IsFollow (follow.Cam master table) = (master ≤ 255) × IsWord table

-- a command
pub record IsWanted (w : Wanted) : Type 0 where
  pub owner : IfSome w.owner IsWord
  pub target : IfSome w.target IsWide
  pub targets : AreSix w.targets
  pub rates : AreRates w.rates
  pub followed : IsFollow w.follow

-- commands that wait: at most eight
pub record AreWaiting (queue : List Wanted) : Type 0 where
  pub few : length queue ≤ 8
  pub each : AllByRecursion IsWanted queue

-- the numbers of an axis have the bits of their types
pub record HasAxisBits (a : Axis) : Type 0 where
  pub error : IsWord a.error
  pub previous : IsWide a.previous
  pub setpoint : IsWide a.setpoint
  pub offset : IsWide a.offset
  pub active : IfSome a.active IsWanted
  pub reset : IfSome a.reset (λ (r : PendingReset). IfSome r.owner IsWord)
  pub hold : IfSome a.hold IsWord
  pub controlword : a.controlword < 65536

-- the axis of this definition
pub record IsAxisOf (d : AxisDef) (a : Axis) : Type 0 where
  pub limits : a.limits ≡ d.limits
  pub inc : a.inc ≡ d.inc
  pub bits : HasAxisBits a

-- limits of 64 bits
pub record AreWideLimits (l : Limits) : Type 0 where
  pub lo : IsWide l.lo
  pub hi : IsWide l.hi
  pub vmax : IsWide l.vmax
  pub amax : IsWide l.amax
  pub dmax : IsWide l.dmax

-- the way of a path: 2 to 6 axes, from and to places within 10^15
pub record IsWay (w : Way) : Type 0 where
  pub two_or_more : 2 ≤ w.count
  pub six_or_fewer : w.count ≤ 6
  pub starts : AreSix w.starts
  pub targets : AreSix w.targets
  pub from : IsTrue (are_places w.starts)
  pub to : IsTrue (are_places w.targets)

-- a path with the place on it
pub record IsOnPath (p : OnPath) : Type 0 where
  pub way : IsWay p.way
  pub limits : AreWideLimits p.motion.limits
  pub previous : IsWide p.motion.previous
  pub place : IsWide p.motion.place

-- the numbers of a group have the bits of their types
pub record HasGroupBits (g : PlacedGroup) : Type 0 where
  pub error : IsWord g.group.error
  pub active : IfSome g.group.active IsWanted
  pub reset : IfSome g.group.reset (λ (r : PendingReset). IfSome r.owner IsWord)
  pub hold : IfSome g.group.hold IsWord
  pub path : IfSome g.path IsOnPath

-- the group of this definition
pub record IsGroupOf (d : GroupDef) (g : PlacedGroup) : Type 0 where
  pub axes : g.group.axes ≡ d.count
  pub bits : HasGroupBits g

-- the number of an error has 16 bits
abbrev pub IsProgress : Progress → Type 0
IsProgress (progress.Ended (finish.Error number) shown) = IsWord number
IsProgress _ = Unit {0}

-- the instance of this block
pub record IsInstanceOf (d : BlockDef) (i : InstanceState) : Type 0 where
  pub kind : i.kind ≡ d.kind
  pub progress : IsProgress i.progress

-- the numbers of a machine have the bits of their types, and at most eight commands wait in a list
pub record HasMachineBits (m : Machine) : Type 0 where
  pub axes : AllByRecursion HasAxisBits m.axes
  pub groups : AllByRecursion HasGroupBits m.groups
  pub queues : AllByRecursion AreWaiting m.queues
  pub instances : AllByRecursion (λ (i : InstanceState). IsProgress i.progress) m.instances

-- a machine of a configuration, with a list of commands for each axis and group
pub record IsMachineOf (s : Setup) (m : Machine) : Type 0 where
  pub sized : IsSized s m
  pub axes : AllZip IsAxisOf s.axes m.axes
  pub groups : AllZip IsGroupOf s.groups m.groups
  pub queues : AllByRecursion AreWaiting m.queues
  pub instances : AllZip IsInstanceOf s.blocks m.instances

-- a header can hold it
pub record IsHeld (s : Setup) (b : Before) (m : Machine) : Type 0 where
  pub before : IsEarly b
  pub machine : IsMachineOf s m
