-- What happens to the commands of the machine, one event after another, and what all events keep.
-- for: owners_have_blocks
use Rattle.std.specs.Prelude.{◌≡◌, ℕ, ◌<◌, true, false, nat_eq, Some, List, [], length, slice_get, slice_set}
use Rattle.command_changes.specs.Laws.{AreAxisChanges, AreGroupChanges}
use Rattle.command_core.specs.Brought.{BringNone, brought}
use Rattle.command_core.specs.Calls as calls
use Rattle.command_core.specs.Changes.{AllFit, Change, all_changed}
use Rattle.command_core.specs.CommandState.{active_of}
use Rattle.fb_outputs.specs.InstanceState.{InstanceState}
use Rattle.fb_outputs.specs.Steps.{edge_of, is_power}
use Rattle.plc_types.specs.declared.inputs.Inputs.{Inputs}
use Rattle.fb_outputs.specs.declared.instance.Edge.TheVariants.{Rising}
use Rattle.motion_history.specs.Calls.{IsCall}
use Rattle.motion_history.specs.Setup.{Setup}
use Rattle.motion_history.specs.declared.config.BlockDef.{BlockDef}
use Rattle.motion_kernel.specs.Machine.{Machine, instance_at}
use Rattle.motion_kernel.specs.calls.Calls.{after_reply, with_execute, with_instance, without_owner}
use Rattle.motion_kernel.specs.calls.Telling.{told_notes}
use Rattle.motion_kernel.specs.cycles.Showing.{with_found}
use Rattle.motion_kernel.specs.kept.Machine.{AreWhole, IsMachineKept, IsSized}
use Rattle.motion_kernel.specs.kept.Ready.{MayCall}
use Rattle.motion_kernel.proofs.kept.Laws.{AxesKeepDefinitions, AxesStayKept, GroupsKeepAxes, GroupsStayKept}
use Rattle.motion_kernel.proofs.kept.Machine.{MachinesStayKept}
use Rattle.motion_kernel.specs.owners.Commands.{active_shown, commands_shown}
use Rattle.motion_kernel.proofs.owners.kinds.Changes.{BringOwn}
pub use Rattle.motion_kernel.specs.owners.Blocks.{command_state_at}
use Rattle.motion_kernel.specs.owners.Objects.{IsThere, Object, has_commands_on, is_same}

-- the commands are the same
pub record Alike (m x : Machine) : Type 0 where
  pub as_many : (p : Object) → IsThere x p → IsThere m p
  pub there : (p : Object) → IsThere m p → IsThere x p
  pub same : (p : Object) → command_state_at x p ≡ command_state_at m p

-- an event at one object: its commands change so, those of others don't, and the instances are
-- notified
pub record Event (m x : Machine) (o : Object) (xs : List Change) : Type 0 where
  pub there : IsThere m o
  pub as_many : (p : Object) → IsThere x p → IsThere m p
  pub here : command_state_at x o ≡ record (all_changed xs (command_state_at m o)) { notes = [] }
  pub beside : (p : Object) → IsThere m p → is_same o p ≡ false → command_state_at x p ≡ command_state_at m p
  pub told : x.instances ≡ told_notes (all_changed xs (command_state_at m o)).notes m.instances

-- the machine in which an instance asks: it shows this, and has its earlier command no longer
abbrev pub freed : ℕ → InstanceState → Machine → Machine
freed k i m = without_owner k (with_instance m k i)

-- the laws by which axes and groups are kept where an instance loses its commands
pub record CoresKept : Type 0 where
  pub kept_axes : AxesStayKept
  pub definitions : AxesKeepDefinitions
  pub kept_groups : GroupsStayKept
  pub counts : GroupsKeepAxes

-- an instance asks a command by a rising edge: its earlier one is taken from it, its block's object
-- changes, some axes are led, and it is answered
pub record Asks (s : Setup) (k : ℕ) (m z : Machine) : Type 0 where
  pub block : BlockDef
  pub at : slice_get s.blocks k ≡ Some block
  pub other : is_power block.kind ≡ false
  pub object : Object
  pub on : has_commands_on (slice_get s.blocks k) object ≡ true
  pub place : k < length m.instances
  pub called : InstanceState
  pub asked : Machine
  pub changes : List Change
  pub event : Event (freed k called m) asked object changes
  pub alike : Alike asked z
  pub shown : InstanceState
  pub answered : z.instances ≡ slice_set asked.instances k shown
  -- the changes are a call's, and bring no command but the one that the instance shows then
  pub call : calls.IsCall changes
  pub others : (j : ℕ) → nat_eq k j ≡ false → brought j changes ≡ 0
  pub kinds : BringOwn s changes
  pub brings : commands_shown shown.progress ≡ brought k changes
  pub active : active_of k (command_state_at (freed k called m) object) ≡ 0 →
      active_shown shown.progress ≡ active_of k (command_state_at asked object)
  -- and it finds its place
  pub fits : CoresKept → AllFit changes (command_state_at (freed k called m) object)

-- any instance may call
abbrev pub Anyone : ℕ → Type 0
Anyone k = Unit {0}

-- what every event keeps, where these instances may call: P in calls and between entries, Q within
-- a cycle
pub record Keeps (s : Setup) (May : ℕ → Type 0) (P Q : Machine → Type 0) : Type 0 where
  -- a call that asks no command takes Execute
  pub executed : (k : ℕ) (b : BlockDef) (i : Inputs) (m : Machine) → May k → slice_get s.blocks k ≡ Some b →
      (is_power b.kind ≡ false → edge_of (instance_at m.instances k).execute i.execute ≡ Rising → ⊥) →
      P m → P (with_execute k i m)
  -- a Power ends commands
  pub powered : (m x : Machine) (o : Object) (xs : List Change) → Event m x o xs → BringNone xs →
      calls.IsCall xs → P m → P x
  -- a rising edge asks one
  pub asked : (k : ℕ) (m z : Machine) → May k → Asks s k m z → P m → P z
  -- a reply is shown
  pub replied : (k : ℕ) (m : Machine) → May k → P m → P (after_reply k m)
  -- a cycle begins, its events end commands and let others take over, and the instances are
  -- notified
  pub begins : (m : Machine) → IsSized s m → P m → Q m
  pub cycled : (m x : Machine) (o : Object) (xs : List Change) → Event m x o xs → BringNone xs →
      Q m → Q x
  pub found : (m : Machine) → IsSized s m → Q m → P (with_found s m)

-- the laws on which the walk rests
pub record WalkLaws : Type 0 where
  pub machines : MachinesStayKept
  pub may_call : (s : Setup) (k : ℕ) (b : BlockDef) (i : Inputs) (m : Machine) → AreWhole s →
      slice_get s.blocks k ≡ Some b → IsCall s k i →
      IsMachineKept s m → MayCall s k b i (with_execute k i m)
  pub axis : AreAxisChanges
  pub group : AreGroupChanges
