-- The laws on which it rests that states change by their events.
-- for: machines_can_stand, states_change_by_their_events, rows_show_the_machine and others
use Rattle.std.specs.Prelude.{◌≡◌, ℕ, Some, slice_get}
use Rattle.plc_types.specs.declared.inputs.Inputs.{Inputs}
use Rattle.motion_history.specs.Calls.{IsCall}
use Rattle.motion_history.specs.Setup.{Setup}
use Rattle.motion_history.specs.declared.config.BlockDef.{BlockDef}
use Rattle.motion_kernel.specs.Machine.{Machine}
use Rattle.motion_kernel.specs.calls.Calls.{with_execute}
use Rattle.motion_kernel.specs.kept.Machine.{AreWhole, IsMachineKept}
use Rattle.motion_kernel.specs.kept.Ready.{MayCall}
use Rattle.motion_kernel.proofs.kept.Laws.{AxesKeepDefinitions, AxesStayKept, GroupsKeepAxes, GroupsStayKept}
use Rattle.motion_kernel.proofs.kept.Machine.{MachinesStayKept}
use Rattle.state_events.specs.Laws.{AreAxisEvents, AreGroupEvents}

pub record EventLaws : Type 0 where
  pub machines : MachinesStayKept
  pub may_call : (s : Setup) (k : ℕ) (b : BlockDef) (i : Inputs) (m : Machine) → AreWhole s →
      slice_get s.blocks k ≡ Some b → IsCall s k i →
      IsMachineKept s m → MayCall s k b i (with_execute k i m)
  pub kept_axes : AxesStayKept
  pub definitions : AxesKeepDefinitions
  pub kept_groups : GroupsStayKept
  pub counts : GroupsKeepAxes
  pub axes : AreAxisEvents
  pub groups : AreGroupEvents
