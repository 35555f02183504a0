-- Each group changes its state by its events in a call.
-- for: machines_can_stand, states_change_by_their_events, rows_show_the_machine and others
use Rattle.std.specs.Prelude.{◌≡◌, refl, ℕ, ◌<◌, length, slice_get}
use Rattle.std.proofs.Common.{arith, ap, subst, ◌∙◌}
use Rattle.plc_types.specs.declared.inputs.Inputs.{Inputs}
use Rattle.group_core.specs.Calls.{commanded}
use Rattle.group_core.specs.Cores.{Core}
use Rattle.motion_history.specs.Calls.{IsCall}
use Rattle.motion_history.specs.Setup.{Setup}
use Rattle.motion_kernel.specs.Machine.{Machine, group_at, group_core_at}
use Rattle.motion_kernel.specs.calls.Calls.{after_call}
use Rattle.motion_kernel.specs.kept.Machine.{AreWhole, IsMachineKept}
use Rattle.motion_laws.specs.calls.Group.{by_call}
use Rattle.motion_laws.specs.entries.GroupEvents.{call_events}
use Rattle.motion_laws.proofs.entries.events.Laws.{EventLaws}
use Rattle.motion_laws.proofs.walk.GroupCalls.{IsSaid, said_by_call}
use Rattle.state_events.specs.Group.{Lead, command_events}
use Rattle.state_events.specs.Laws.{AreGroupEvents}

-- every event of the group is reported
events_said : AreGroupEvents → (c : Core) → IsSaid call_events c (λ es x. Lead c.group.state es x.group.state)
events_said laws c = record {
  rests = refl;
  untold = λ es x h. h;
  detach = λ owner. laws.detach owner c.group;
  power_off = laws.power_off c;
  command = λ owner w jerk members x e looks made kept.
      let same : x.group.state ≡ c.group.state = ap (λ (y : Core). y.group.state) e ∙ laws.detach owner c.group in
      subst (λ t. Lead t (command_events w jerk members x) (commanded w jerk members x).group.state) same (laws.command w jerk members x made);
}

-- what a call makes of the state of a group
pub group_goes : EventLaws → (s : Setup) (m : Machine) (k : ℕ) (i : Inputs) (j : ℕ) → IsMachineKept s m → AreWhole s → IsCall s k i →
    j < length s.groups →
    Lead (group_at m j).group.state (by_call call_events s (slice_get s.blocks k) k i m j) (group_at (after_call s m k i) j).group.state
group_goes laws s m k i j h whole made l =
    let sizes = h.sized in
    let a = sizes.axes in
    let g = sizes.groups in
    let q = sizes.queues in
    said_by_call call_events (λ es x. Lead (group_at m j).group.state es x.group.state) s m k i j
    (events_said laws.groups (group_core_at m j)) (record { group = omega arith; list = omega arith })
    (λ b at. laws.may_call s k b i m whole at made h) h
